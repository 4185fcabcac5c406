-- X and Y before their offsets: the polynomial in doubles at the worked z, against the definition's polynomial at its own z, east and west. Assumes nothing.
use Rattle.std.specs.Prelude.{Bool, true, false, ◌≡◌, refl, List, [], ◌∷◌, ℕ, ◌+◌, ◌*◌, ◌^◌, ◌≤◌, ◌<◌, T, leb, ℤ, pos, neg_ℤ, nat_abs, ◌+ℤ◌, ◌-ℤ◌, ◌*ℤ◌}
use Rattle.std.proofs.Common.{sym, ◌∙◌, ap, subst, le_trans, le_of_eq, mul-le-mul_right, mul-le-mul_left, le_of_mul-le-mul_right, arith, lit<, lit≤, leb→le}
use Rattle.std.proofs.Math.Nat.{le_of_mul-le-mul_left}
use Rattle.arith.specs.Laws.Diff.{◌⊖◌, Z·ℕ, lin}
use Rattle.arith.specs.Laws.Order.{abs_mul, abs_sub_comm}
use Rattle.arith.specs.Floor.{floor}
use Rattle.arith.specs.Laws.Floor.{floor_rest_abs}
use Rattle.arith.specs.Laws.Close.{Close}
use Rattle.rules.specs.Units.{◌°◌'◌''}
use Rattle.rules.specs.Systems.{◌/10^◌, Ellipsoid, constants, a_coefficients}
use Rattle.rules.specs.Scaled.{unit, product, polynomial, derivative}
use Rattle.rules.specs.Scaled as scaled
use Rattle.rules.specs.Projection.{two_millionths, centred}
use Rattle.rules.specs.Polynomial.{double_unit, Small}
use Rattle.double.specs.declared.Pair.{Pair}
use Rattle.double.specs.Value.{value}
use Rattle.double.specs.Complex.{Numbers, values, horner}
use Rattle.double.specs.Pairs.{Modulus}
use Rattle.double.specs.Exact.{doubles}
use Rattle.double.specs.Bound.{Inside, Apart, Defined, reach, reach_24}
use Rattle.double.proofs.Laws.Systems.{small_reach, forward_defined, derivative_defined}
use Rattle.metres.specs.Metres.{argument_of, arguments_of}
use Rattle.metres.specs.Laws.Into.{arguments_inside}
use Rattle.fixed.specs.Nearness.{NearAt}
use Rattle.projection_worked.specs.Bounds.{limit30}
use Rattle.projection_worked.proofs.Laws.Argument.{z_close, apart}

-- ---- the definition's parts of z are at most 1.2 too
length_small : {n w : ℤ} (k : ℕ) → NearAt (2 ^ 30) n w (k * unit) → nat_abs n ≤ limit30 → k ≤ 1000 → nat_abs w ≤ 595001 * unit
length_small {n} {w} k h g l = go (nat_abs w) (nat_abs n) k unit (le_trans (le_of_eq (sym (abs_mul w (pos (2 ^ 30))))) (le_trans (near_abs (n *ℤ pos unit) (w *ℤ pos (2 ^ 30))) (le_of_eq (ap (λ x. nat_abs (n *ℤ pos unit -ℤ w *ℤ pos (2 ^ 30)) + x) (abs_mul n (pos unit)))))) h.gap.within g l
  where
    near_abs : (a b : ℤ) → nat_abs b ≤ nat_abs (a -ℤ b) + nat_abs a
    near_abs a b = lin (a ∷ b ∷ []) λ u v ea eb. simp (Z·ℕ, ea, eb) (omega arith)

    go : (W n k t : ℕ) {a : ℕ} → W * 2 ^ 30 ≤ a + n * t → a ≤ k * t → n ≤ limit30 → k ≤ 1000 → W ≤ 595001 * t
    go W n k t h i g l = let f = mul-le-mul_right t g in let e = mul-le-mul_right t l in omega arith

part_small : (w : ℤ) → nat_abs w ≤ 595001 * unit → 10 * nat_abs (product w two_millionths) ≤ 12 * unit
unfolding product
part_small w h =
    go (nat_abs (floor (w *ℤ two_millionths) unit)) (nat_abs w)
    (le_trans (le_of_eq (sym (abs_mul (floor (w *ℤ two_millionths) unit) (pos unit)))) (le_trans (near_abs (w *ℤ two_millionths) (floor (w *ℤ two_millionths) unit *ℤ pos unit)) (le_of_eq (ap (λ x. nat_abs (w *ℤ two_millionths -ℤ floor (w *ℤ two_millionths) unit *ℤ pos unit) + x) (abs_mul w two_millionths)))))
    (floor_rest_abs (w *ℤ two_millionths) unit (lit< tt)) h
  where
    near_abs : (a b : ℤ) → nat_abs b ≤ nat_abs (a -ℤ b) + nat_abs a
    near_abs a b = lin (a ∷ b ∷ []) λ u v ea eb. simp (Z·ℕ, ea, eb) (omega arith)

    sum : (P W t k : ℕ) {a : ℕ} → P * t ≤ a + W * k → a < t → W ≤ 595001 * t → P * t ≤ (595001 * k + 1) * t
    sum P W t k h i g = let f = mul-le-mul_right k g in omega arith

    ten : (P : ℕ) → P ≤ 595001 * (2 * 10 ^ 18) + 1 → 10 * P ≤ 12 * 10 ^ 24
    ten P h = omega arith

    go : (P W : ℕ) {a : ℕ} → P * unit ≤ a + W * (2 * 10 ^ 18) → a < unit → W ≤ 595001 * unit → 10 * P ≤ 12 * unit
    go P W h i g = ten P (le_of_mul-le-mul_right {k = unit} (sum P W unit (2 * 10 ^ 18) h i g) (lit< tt))

-- ---- a polynomial's answer near the definition's value: half a micrometre
close_of : (v g : ℤ) (e s l : ℕ) → 10 ^ 7 * nat_abs (v *ℤ pos unit -ℤ g *ℤ pos double_unit) ≤ unit * double_unit + 10 ^ 7 * (s * (e * double_unit) + l * double_unit)
    → T (leb (unit + 10 ^ 7 * (s * e + l)) (5 * unit)) → Close v double_unit g unit 5 (10 ^ 7)
close_of v g e s l h t = record { gap = le_trans h (le_trans (le_of_eq (go unit double_unit s e l)) (le_trans (mul-le-mul_right double_unit (leb→le (unit + 10 ^ 7 * (s * e + l)) (5 * unit) t)) (le_of_eq (turn unit double_unit)))) }
  where
    go : (t u s e l : ℕ) → t * u + 10 ^ 7 * (s * (e * u) + l * u) ≡ (t + 10 ^ 7 * (s * e + l)) * u
    go t u s e l = omega arith

    turn : (t u : ℕ) → 5 * t * u ≡ 5 * (u * t)
    turn t u = omega arith

-- and of the derivative, 0.11 micrometres
close_of_derivative : (v g : ℤ) (e s l : ℕ) → 10 ^ 7 * nat_abs (v *ℤ pos unit -ℤ g *ℤ pos double_unit) ≤ unit * double_unit + 10 ^ 7 * (s * (e * double_unit) + l * double_unit)
    → T (leb (10 * (unit + 10 ^ 7 * (s * e + l))) (11 * unit)) → Close v double_unit g unit 11 (10 ^ 8)
close_of_derivative v g e s l h t = record { gap = le_trans (le_trans (times _ _ h) (le_of_eq (go unit double_unit s e l))) (le_trans (mul-le-mul_right double_unit (leb→le (10 * (unit + 10 ^ 7 * (s * e + l))) (11 * unit) t)) (le_of_eq (turn unit double_unit))) }
  where
    times : (a b : ℕ) → 10 ^ 7 * a ≤ b → 10 ^ 8 * a ≤ 10 * b
    times a b h = omega arith

    go : (t u s e l : ℕ) → 10 * (t * u + 10 ^ 7 * (s * (e * u) + l * u)) ≡ 10 * (t + 10 ^ 7 * (s * e + l)) * u
    go t u s e l = omega arith

    turn : (t u : ℕ) → 11 * t * u ≡ 11 * (u * t)
    turn t u = omega arith

-- z of the pair of lengths n and m
module _ (n m x y : ℤ) (a : NearAt (2 ^ 30) n x (50 * unit)) (b : NearAt (2 ^ 30) m y (300 * unit)) (c : nat_abs n ≤ limit30) (d : nat_abs m ≤ limit30) where
  abbrev z_of : Pair
  z_of = arguments_of n m

  abbrev w_of : scaled.Pair
  w_of = record { first = product x two_millionths; second = product y two_millionths }

  z_inside : Inside z_of reach
  z_inside = arguments_inside n m c d

  w_inside : Modulus w_of reach_24
  w_inside = small_reach w_of (part_small x (length_small 50 a c (lit≤ tt))) (part_small y (length_small 300 b d (lit≤ tt)))

  z_apart : Apart z_of w_of (6543 * 10 ^ 8 * double_unit)
  z_apart = subst (Apart z_of w_of) (go double_unit) (apart z_of w_of 943 5600 (z_close 50 932 a c tt) (z_close 300 5589 b d tt))
    where
      go : (u : ℕ) → 943 * 10 ^ 8 * u + 5600 * 10 ^ 8 * u ≡ 6543 * 10 ^ 8 * u
      go u = omega arith

  pub forward_first : (E : Ellipsoid) → Close (value (horner (doubles unit (a_coefficients (constants E))) z_of).re) double_unit (polynomial (a_coefficients (constants E)) w_of).first unit 5 (10 ^ 7)
  forward_first E = close_of _ _ (6543 * 10 ^ 8) 500500 2100000 (forward_defined E z_of w_of _ z_inside w_inside z_apart).first tt

  pub forward_second : (E : Ellipsoid) → Close (value (horner (doubles unit (a_coefficients (constants E))) z_of).im) double_unit (polynomial (a_coefficients (constants E)) w_of).second unit 5 (10 ^ 7)
  forward_second E = close_of _ _ (6543 * 10 ^ 8) 500500 2100000 (forward_defined E z_of w_of _ z_inside w_inside z_apart).second tt

  pub derivative_first : (E : Ellipsoid) → Close (value (horner (doubles unit (derivative (a_coefficients (constants E)))) z_of).re) double_unit (polynomial (derivative (a_coefficients (constants E))) w_of).first unit 11 (10 ^ 8)
  derivative_first E = close_of_derivative _ _ (6543 * 10 ^ 8) 150 1000 (derivative_defined E z_of w_of _ z_inside w_inside z_apart).first tt

  pub derivative_second : (E : Ellipsoid) → Close (value (horner (doubles unit (derivative (a_coefficients (constants E)))) z_of).im) double_unit (polynomial (derivative (a_coefficients (constants E))) w_of).second unit 11 (10 ^ 8)
  derivative_second E = close_of_derivative _ _ (6543 * 10 ^ 8) 150 1000 (derivative_defined E z_of w_of _ z_inside w_inside z_apart).second tt
