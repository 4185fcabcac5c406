-- Metres and z from whole multiples of 2 ^ -30 m: metres are exact, and z is off by at most 3 parts in 2 ^ 53. Assumes nothing.
use Rattle.std.specs.Prelude.{◌≡◌, refl, [], ◌∷◌, ℕ, ◌+◌, ◌*◌, ◌^◌, ◌≤◌, ◌<◌, T, ℤ, pos, nat_abs, ◌+ℤ◌, ◌-ℤ◌, ◌*ℤ◌}
use Rattle.std.proofs.Common.{sym, ap, ap₂, ◌∙◌, subst, le_trans, le_of_eq, le_refl, lt_of_lt_of_le, lt_of_le_of_lt, mul_assoc, mul_right_comm, mul-le-mul_left, mul-le-mul_right, mul-lt-mul_of_pos_right, le_of_mul-le-mul_right, eq-zero-or-pos, one-mul, arith, ⊎_elim, lit≤, lit<, pow_pos}
use Rattle.std.specs.Float.{binary64}
use Rattle.std.specs.Float.Ieee.{mul, of_int, fits, round}
use Rattle.arith.specs.Laws.Diff.{Z·ℕ, lin}
use Rattle.arith.specs.Laws.Order.{abs_mul, abs_add, abs_zero_iff}
use Rattle.arith.specs.Laws.Ring.{ring, Z·ring, by_ring}
use Rattle.rules.specs.Scaled as scaled
use Rattle.rules.specs.Scaled.{unit}
use Rattle.rules.specs.Polynomial.{double_unit}
use Rattle.double.specs.Value.{limit, finite, magnitude, value, Number}
use Rattle.double.specs.Complex.{values}
use Rattle.double.specs.Pairs.{◌⊝◌, ◌⊙◌}
use Rattle.double.specs.Exact.{nearest_double}
use Rattle.double.specs.Bound.{Inside, Apart, reach}
use Rattle.double.specs.Steps.{AllFinite}
use Rattle.double.proofs.Laws.Operations.{double_unit_pos, mul_near, RoundedProduct}
use Rattle.double.proofs.Laws.Nearness.{near_size}
use Rattle.double.proofs.Laws.Modulus.{modulus_parts}
use Rattle.double.proofs.Laws.Promise.{small_inside}
use Rattle.double.proofs.Laws.Whole.{halved}
use Rattle.double.proofs.Laws.Steps.{product_finite}
use Rattle.metres.specs.Metres.{thirtieth, two_millionths, metres_of, argument_of, argument_doubles, arguments_of}

-- ---- the two constants
thirtieth_number : Number thirtieth
unfolding fits
thirtieth_number = record { is_finite = tt; is_held = tt }

thirtieth_size : magnitude thirtieth ≡ 2 ^ 1044
unfolding magnitude double_unit
thirtieth_size = refl

unit_split : 2 ^ 1044 * 2 ^ 30 ≡ double_unit
unfolding double_unit
unit_split = refl

millionths_number : Number two_millionths
unfolding two_millionths nearest_double round fits
millionths_number = record { is_finite = tt; is_held = tt }

-- 0.000002 · 500000 is 1 but for one part in 2 ^ 53
millionths_near : 2 ^ 53 * nat_abs (value two_millionths *ℤ pos 500000 -ℤ pos double_unit) ≤ double_unit
unfolding two_millionths nearest_double round value double_unit
millionths_near = lit≤ tt

millionths_size : nat_abs (value two_millionths) * 500000 ≤ 2 * double_unit
unfolding two_millionths nearest_double round value double_unit
millionths_size = lit≤ tt

millionths_pos : 0 < nat_abs (value two_millionths)
unfolding two_millionths nearest_double round value double_unit
millionths_pos = lit< tt

-- ---- metres, exactly
pub metres_value : (n : ℤ) → nat_abs n < 2 ^ 53 → Number (metres_of n) × (value (metres_of n) *ℤ pos (2 ^ 30) ≡ n *ℤ pos double_unit)
metres_value n h = halved n thirtieth 1044 30 h thirtieth_number thirtieth_size refl (lit≤ tt) unit_split

-- ---- z: its error is 3 parts in 2 ^ 53 of it. `per-one` is 500000 · 2 ^ 30: so many multiples of 2 ^ -30 m make z = 1
abbrev pub per_one : ℕ
per_one = 500000 * 2 ^ 30

lower : 2 ^ 52 * double_unit * 2 ^ 30 ≤ double_unit * nat_abs (value two_millionths)
unfolding two_millionths nearest_double round value double_unit
lower = lit≤ tt

upper : 2 ^ 53 * double_unit * nat_abs (value two_millionths) ≤ limit * double_unit
unfolding two_millionths nearest_double round value double_unit limit
upper = lit≤ tt

-- the product's rounding, at numbers: v is metres, z its product with c
parts : (z v c u : ℤ) (U : ℕ) → u ≡ pos U → 0 < U → 2 ^ 53 * nat_abs (z *ℤ u -ℤ v *ℤ c) ≤ nat_abs v * nat_abs c → 2 ^ 53 * nat_abs (c *ℤ pos 500000 -ℤ u) ≤ U → nat_abs c * 500000 ≤ 2 * U → 2 ^ 53 * nat_abs (z *ℤ pos 500000 -ℤ v) ≤ 3 * nat_abs v
parts z v c u U e P h k l =
    le_of_mul-le-mul_right
    (go (nat_abs (z *ℤ pos 500000 -ℤ v)) (nat_abs (z *ℤ u -ℤ v *ℤ c)) (nat_abs v) (nat_abs c) (nat_abs (c *ℤ pos 500000 -ℤ u)) U whole h k l) P
  where
    law : (z v c u f : ℤ) → (z *ℤ f -ℤ v) *ℤ u ≡ (z *ℤ u -ℤ v *ℤ c) *ℤ f +ℤ v *ℤ (c *ℤ f -ℤ u)
    law z v c u f = ring (z ∷ v ∷ c ∷ u ∷ f ∷ []) λ ρ ez ev ec eu ef. simp (Z·ring, ez, ev, ec, eu, ef) (by_ring _ _ _ refl)

    whole : nat_abs (z *ℤ pos 500000 -ℤ v) * U ≤ nat_abs (z *ℤ u -ℤ v *ℤ c) * 500000 + nat_abs v * nat_abs (c *ℤ pos 500000 -ℤ u)
    whole =
        le_trans (le_of_eq (sym (abs_mul (z *ℤ pos 500000 -ℤ v) (pos U)) ∙ ap (λ (i : ℤ). nat_abs ((z *ℤ pos 500000 -ℤ v) *ℤ i)) (sym e) ∙ ap nat_abs (law z v c u (pos 500000))))
        (le_trans (abs_add ((z *ℤ u -ℤ v *ℤ c) *ℤ pos 500000) (v *ℤ (c *ℤ pos 500000 -ℤ u))) (le_of_eq (ap₂ ◌+◌ (abs_mul (z *ℤ u -ℤ v *ℤ c) (pos 500000)) (abs_mul v (c *ℤ pos 500000 -ℤ u)))))

    go : (d x v c y U : ℕ) → d * U ≤ x * 500000 + v * y → 2 ^ 53 * x ≤ v * c → 2 ^ 53 * y ≤ U → c * 500000 ≤ 2 * U → 2 ^ 53 * d * U ≤ 3 * v * U
    go d x v c y U a b f g = let i = mul-le-mul_left v f in let j = mul-le-mul_left v g in omega arith

-- the metres' size
metres_size : (n : ℤ) → nat_abs n < 2 ^ 53 → nat_abs (value (metres_of n)) * 2 ^ 30 ≡ nat_abs n * double_unit
metres_size n h = sym (abs_mul (value (metres_of n)) (pos (2 ^ 30))) ∙ ap nat_abs (metres_value n h).1 ∙ abs_mul n (pos double_unit)

rounded : (n : ℤ) → nat_abs n < 2 ^ 53 → 0 < nat_abs n → RoundedProduct (argument_of n) (value (metres_of n) *ℤ value two_millionths) (nat_abs (value (metres_of n)) * nat_abs (value two_millionths))
rounded n h p =
    let v = nat_abs (value (metres_of n)) in
    let c = nat_abs (value two_millionths) in
    let e = metres_size n h in
    let some : double_unit ≤ v * 2 ^ 30 = le_trans (le_trans (le_of_eq (sym (one-mul double_unit))) (mul-le-mul_right double_unit p)) (le_of_eq (sym e)) in
    let lo : 2 ^ 52 * double_unit ≤ v * c = le_of_mul-le-mul_right (le_trans lower (le_trans (mul-le-mul_right c some) (le_of_eq (mul_right_comm v (2 ^ 30) c)))) (pow_pos 30) in
    let v_small : v < 2 ^ 53 * double_unit = lt_of_le_of_lt (le_trans (at_least v) (le_of_eq e)) (mul-lt-mul_of_pos_right h double_unit_pos) in
    let hi : v * c < limit * double_unit = lt_of_lt_of_le (mul-lt-mul_of_pos_right v_small millionths_pos) upper in
    mul_near (metres_of n) two_millionths (metres_value n h).0 millionths_number (v * c) (le_refl (v * c)) lo hi
  where
    at_least : (v : ℕ) → v ≤ v * 2 ^ 30
    at_least v = omega arith

-- z · 500000 is metres, but for 3 parts in 2 ^ 53; at 0 it is 0
zero_metres : Number (argument_of (pos 0)) × (2 ^ 53 * nat_abs (value (argument_of (pos 0)) *ℤ pos 500000 -ℤ value (metres_of (pos 0))) ≤ 3 * nat_abs (value (metres_of (pos 0))))
unfolding two_millionths nearest_double mul of_int round value double_unit fits
zero_metres = (record { is_finite = tt; is_held = tt }, lit≤ tt)

near_metres : (n : ℤ) → nat_abs n < 2 ^ 53 → Number (argument_of n) × (2 ^ 53 * nat_abs (value (argument_of n) *ℤ pos 500000 -ℤ value (metres_of n)) ≤ 3 * nat_abs (value (metres_of n)))
near_metres n h = ⊎_elim at_zero elsewhere (eq-zero-or-pos (nat_abs n))
  where
    elsewhere : 0 < nat_abs n → Number (argument_of n) × (2 ^ 53 * nat_abs (value (argument_of n) *ℤ pos 500000 -ℤ value (metres_of n)) ≤ 3 * nat_abs (value (metres_of n)))
    elsewhere p =
        let r = rounded n h p in
        (r.number, parts (value (argument_of n)) (value (metres_of n)) (value two_millionths) (pos double_unit) double_unit refl double_unit_pos (near_size r.near) millionths_near millionths_size)

    at_zero : nat_abs n ≡ 0 → Number (argument_of n) × (2 ^ 53 * nat_abs (value (argument_of n) *ℤ pos 500000 -ℤ value (metres_of n)) ≤ 3 * nat_abs (value (metres_of n)))
    at_zero e = subst (λ (i : ℤ). Number (argument_of i) × (2 ^ 53 * nat_abs (value (argument_of i) *ℤ pos 500000 -ℤ value (metres_of i)) ≤ 3 * nat_abs (value (metres_of i)))) (sym ((abs_zero_iff n).0 e)) zero_metres

pub argument_finite : (n : ℤ) → T (finite (argument_of n)) → AllFinite (argument_doubles n)
argument_finite n h =
    let metres = (product_finite (metres_of n) two_millionths h).0 in
    ((product_finite (of_int binary64 n) thirtieth metres).0, (metres, (h, tt)))

-- ---- z times 500000 · 2 ^ 30 is n, but for 3 parts in 2 ^ 53
pub argument_number : (n : ℤ) → nat_abs n < 2 ^ 53 → Number (argument_of n)
argument_number n h = (near_metres n h).0

pub argument_near : (n : ℤ) → nat_abs n < 2 ^ 53 → 2 ^ 53 * nat_abs (value (argument_of n) *ℤ pos per_one -ℤ n *ℤ pos double_unit) ≤ 3 * (nat_abs n * double_unit)
argument_near n h =
    let z = value (argument_of n) in
    let v = value (metres_of n) in
    le_trans (le_of_eq (ap (λ (i : ℕ). 2 ^ 53 * i) (ap nat_abs (ap (λ (i : ℤ). z *ℤ pos per_one -ℤ i) (sym (metres_value n h).1) ∙ law z v (pos 500000) (pos (2 ^ 30))) ∙ abs_mul (z *ℤ pos 500000 -ℤ v) (pos (2 ^ 30))) ∙ sym (mul_assoc (2 ^ 53) (nat_abs (z *ℤ pos 500000 -ℤ v)) (2 ^ 30))))
    (le_trans (mul-le-mul_right (2 ^ 30) (near_metres n h).1) (le_of_eq (mul_assoc 3 (nat_abs v) (2 ^ 30) ∙ ap (λ (i : ℕ). 3 * i) (metres_size n h))))
  where
    law : (z v f t : ℤ) → z *ℤ (f *ℤ t) -ℤ v *ℤ t ≡ (z *ℤ f -ℤ v) *ℤ t
    law z v f t = ring (z ∷ v ∷ f ∷ t ∷ []) λ ρ ez ev ef et. simp (Z·ring, ez, ev, ef, et) (by_ring _ _ _ refl)

-- ---- 595,000 m are less than 1.2 of z
pub argument_small : (n : ℤ) → nat_abs n ≤ 595000 * 2 ^ 30 → 10 * nat_abs (value (argument_of n)) ≤ 12 * double_unit
argument_small n h =
    let z = value (argument_of n) in
    let near = argument_near n (le_trans' n h) in
    let t : nat_abs z * per_one ≤ nat_abs (z *ℤ pos per_one -ℤ n *ℤ pos double_unit) + nat_abs n * double_unit = bound z n in
    le_of_mul-le-mul_right (go (nat_abs z) (nat_abs (z *ℤ pos per_one -ℤ n *ℤ pos double_unit)) (nat_abs n * double_unit) double_unit t (thousandth (nat_abs (z *ℤ pos per_one -ℤ n *ℤ pos double_unit)) (nat_abs n * double_unit) near) (mul-le-mul_right double_unit h)) (lit< tt)
  where
    le_trans' : (n : ℤ) → nat_abs n ≤ 595000 * 2 ^ 30 → nat_abs n < 2 ^ 53
    le_trans' n h = omega arith

    bound : (z n : ℤ) → nat_abs z * per_one ≤ nat_abs (z *ℤ pos per_one -ℤ n *ℤ pos double_unit) + nat_abs n * double_unit
    bound z n = le_trans (le_of_eq (sym (abs_mul z (pos per_one)))) (le_trans (abs_back (z *ℤ pos per_one) (n *ℤ pos double_unit)) (le_of_eq (ap (λ (i : ℕ). nat_abs (z *ℤ pos per_one -ℤ n *ℤ pos double_unit) + i) (abs_mul n (pos double_unit)))))
      where
        abs_back : (a b : ℤ) → nat_abs a ≤ nat_abs (a -ℤ b) + nat_abs b
        abs_back a b = lin (a ∷ b ∷ []) λ u v ea eb. simp (Z·ℕ, ea, eb) (omega arith)

    thousandth : (d m : ℕ) → 2 ^ 53 * d ≤ 3 * m → 1000 * d ≤ m
    thousandth d m h = omega arith

    go : (z d m u : ℕ) → z * per_one ≤ d + m → 1000 * d ≤ m → m ≤ 595000 * 2 ^ 30 * u → 10 * z * per_one ≤ 12 * u * per_one
    go z d m u a b c = omega arith

-- ---- z of both parts is inside, for at most 595,000 m either way
pub below_53 : (n : ℤ) → nat_abs n ≤ 595000 * 2 ^ 30 → nat_abs n < 2 ^ 53
below_53 n h = omega arith

pub arguments_inside : (n m : ℤ) → nat_abs n ≤ 595000 * 2 ^ 30 → nat_abs m ≤ 595000 * 2 ^ 30 → Inside (arguments_of n m) reach
arguments_inside n m h k =
    small_inside (arguments_of n m) (record { re = argument_number n (below_53 n h); im = argument_number m (below_53 m k) }) (record { first = argument_small n h; second = argument_small m k })

-- ---- how far it is from the definition's z, over 10 ^ 24: e is how far n is from that, over 10 ^ 24 and `per-one`
pub argument_apart : (n w : ℤ) (e : ℕ) → nat_abs n < 2 ^ 53 → nat_abs (n *ℤ pos unit -ℤ w *ℤ pos per_one) ≤ e
    → 2 ^ 53 * (nat_abs (value (argument_of n) *ℤ pos unit -ℤ w *ℤ pos double_unit) * per_one) ≤ (3 * (nat_abs n * unit) + 2 ^ 53 * e) * double_unit
argument_apart n w e h k =
    let z = value (argument_of n) in
    let a = nat_abs (z *ℤ pos per_one -ℤ n *ℤ pos double_unit) in
    let b = nat_abs (n *ℤ pos unit -ℤ w *ℤ pos per_one) in
    let t : nat_abs (z *ℤ pos unit -ℤ w *ℤ pos double_unit) * per_one ≤ a * unit + b * double_unit =
    le_trans (le_of_eq (sym (abs_mul (z *ℤ pos unit -ℤ w *ℤ pos double_unit) (pos per_one)) ∙ ap nat_abs (law z n w (pos unit) (pos double_unit) (pos per_one))))
    (le_trans (abs_add ((z *ℤ pos per_one -ℤ n *ℤ pos double_unit) *ℤ pos unit) ((n *ℤ pos unit -ℤ w *ℤ pos per_one) *ℤ pos double_unit)) (le_of_eq (ap₂ ◌+◌ (abs_mul (z *ℤ pos per_one -ℤ n *ℤ pos double_unit) (pos unit)) (abs_mul (n *ℤ pos unit -ℤ w *ℤ pos per_one) (pos double_unit))))) in
    go (nat_abs (z *ℤ pos unit -ℤ w *ℤ pos double_unit) * per_one) a b (nat_abs n) unit double_unit e t (argument_near n h) k
  where
    law : (z n w t u p : ℤ) → (z *ℤ t -ℤ w *ℤ u) *ℤ p ≡ (z *ℤ p -ℤ n *ℤ u) *ℤ t +ℤ (n *ℤ t -ℤ w *ℤ p) *ℤ u
    law z n w t u p = ring (z ∷ n ∷ w ∷ t ∷ u ∷ p ∷ []) λ ρ ez en ew et eu ep. simp (Z·ring, ez, en, ew, et, eu, ep) (by_ring _ _ _ refl)

    go : (d a b n t u e : ℕ) → d ≤ a * t + b * u → 2 ^ 53 * a ≤ 3 * (n * u) → b ≤ e → 2 ^ 53 * d ≤ (3 * (n * t) + 2 ^ 53 * e) * u
    go d a b n t u e x y z = let i = mul-le-mul_right t y in let j = mul-le-mul_right u z in omega arith

-- the two parts together
pub arguments_apart : (n m : ℤ) (w : scaled.Pair) → Apart (arguments_of n m) w (nat_abs (value (argument_of n) *ℤ pos unit -ℤ w.first *ℤ pos double_unit) + nat_abs (value (argument_of m) *ℤ pos unit -ℤ w.second *ℤ pos double_unit))
arguments_apart n m w = record {
  apart = modulus_parts (values (arguments_of n m) ⊙ unit ⊝ w ⊙ double_unit) (nat_abs (value (argument_of n) *ℤ pos unit -ℤ w.first *ℤ pos double_unit)) (nat_abs (value (argument_of m) *ℤ pos unit -ℤ w.second *ℤ pos double_unit)) (le_refl _) (le_refl _);
}
