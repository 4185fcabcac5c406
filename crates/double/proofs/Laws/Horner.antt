-- Horner's rule in doubles is exact but for 8 parts in 2 ^ 53 of the table's weight for each coefficient after the first. Assumes nothing.
use Rattle.std.specs.Prelude.{◌≡◌, refl, List, [], ◌∷◌, ℕ, suc, ◌+◌, ◌*◌, ◌/◌, ◌^◌, ◌≤◌, ◌<◌, length, ℤ, pos, nat_abs, ◌+ℤ◌, ◌-ℤ◌, ◌*ℤ◌, Float}
use Rattle.std.proofs.Common.{sym, ap, ap₂, ◌∙◌, subst, zero-le, le_of_eq, mul_comm, mul_assoc, mul_right_comm, mul-add, add-mul, mul-le-mul, mul-le-mul_left, mul-le-mul_right, mul-pos, lt_of_mul-lt-mul_right, le_of_mul-le-mul_right, le-add_left, le-add_right, pow-suc, suc-mul, le-div_iff_mul-le, div-mul-le_self, pow_pos}
use Rattle.std.proofs.Math.Nat.{le_trans, mul_left_comm, mul-mul-mul_comm, pow-succ', pow-le-pow_left, one-le-pow, le_of_suc-le, lt-div-mul-add}
use native.Mathlib.Omega.{arith}
use Rattle.std.specs.Float.Ieee.{fits}
use Rattle.arith.specs.Laws.Ring.{ring, Z·ring, by_ring, ev_num}
use Rattle.arith.specs.Laws.Order.{abs_mul}
use Rattle.rules.specs.Scaled as scaled
use Rattle.rules.specs.Polynomial.{double_unit}
use Rattle.double.specs.declared.Pair.{Pair}
use Rattle.double.specs.Value.{limit, value, Number, Near}
use Rattle.double.specs.Complex.{nought, step, horner, Numbers, values}
use Rattle.double.specs.Pairs.{◌⊗◌, ◌⊙◌, ◌⊞◌, Modulus, Close}
use Rattle.double.specs.Exact.{at, weight, table_values}
use Rattle.double.proofs.Laws.Operations.{double_unit_pos, limit_pos}
use Rattle.double.proofs.Laws.Nearness.{near_mul}
use Rattle.double.proofs.Laws.Products.{step_re, step_im}
use Rattle.double.proofs.Laws.Modulus.{same_pair, square_add, modulus_more, modulus_add, modulus_add_real, modulus_mul, modulus_times, modulus_over, cauchy, cauchy_cross, close_parts, close_more, close_trans, close_mul, close_add}

-- ---- the modulus of the exact value is at most the table's weight
pub at_size : (u : ℕ) (cs : List ℤ) (z : scaled.Pair) (m : ℕ) → Modulus z m → Modulus (at u cs z) (weight u cs m)
unfolding at weight
at_size u [] z m h = record { squares = omega arith }
at_size u (c ∷ cs) z m h =
    modulus_more (nat_abs c * u ^ length cs + weight u cs m * m) (le_of_eq (ap₂ ◌+◌ (abs_mul c (pos (u ^ length cs))) (mul_comm m (weight u cs m))))
    (modulus_add_real (c *ℤ pos (u ^ length cs)) (modulus_mul h (at_size u cs z m h)))

-- ---- the weight, with 2 ^ -1022 added to the last coefficient's size, so that no product falls below the normal range
abbrev pub heft : ℤ → List ℤ → ℕ → ℕ
heft c cs m = weight double_unit (c ∷ cs) m + 2 ^ 52 * m ^ length cs

heft_more : (c d : ℤ) (cs : List ℤ) (m : ℕ) → heft c (d ∷ cs) m ≡ nat_abs c * double_unit ^ suc (length cs) + heft d cs m * m
unfolding weight
heft_more c d cs m =
    let w = weight double_unit (d ∷ cs) m in
    let n = length cs in
    let e : 2 ^ 52 * m ^ suc n ≡ 2 ^ 52 * m ^ n * m = ap (λ (k : ℕ). 2 ^ 52 * k) (pow-suc m n) ∙ sym (mul_assoc (2 ^ 52) (m ^ n) m) in
    let f : (w + 2 ^ 52 * m ^ n) * m ≡ w * m + 2 ^ 52 * m ^ n * m = add-mul w (2 ^ 52 * m ^ n) m in
    go (nat_abs c * double_unit ^ suc n) (w * m) (2 ^ 52 * m ^ suc n) (2 ^ 52 * m ^ n * m) ((w + 2 ^ 52 * m ^ n) * m) e f
  where
    go : (a b c d e : ℕ) → c ≡ d → e ≡ b + d → a + b + c ≡ a + e
    go a b c d e h k = omega arith

heavy : (c : ℤ) (cs : List ℤ) (m : ℕ) → double_unit ≤ m → 2 ^ 52 * double_unit ^ length cs ≤ heft c cs m
heavy c cs m wide = le_trans (mul-le-mul_left (2 ^ 52) (pow-le-pow_left wide (length cs))) (le-add_left (2 ^ 52 * m ^ length cs) (weight double_unit (c ∷ cs) m))

-- ---- how the bound grows
bound : (u v w m κ c s : ℕ) → 16 * (s * v) ≤ 17 * w → (7 * (s * m) + c * u) * v + κ * w * m ≤ (κ + 8) * (c * (u * v) + w * m)
bound u v w m κ c s h =
    let e : (7 * (s * m) + c * u) * v ≡ 7 * (s * v * m) + c * (u * v) = add-mul (7 * (s * m)) (c * u) v ∙ ap (λ (k : ℕ). k + c * u * v) (mul_assoc 7 (s * m) v ∙ ap (λ (k : ℕ). 7 * k) (mul_right_comm s m v)) ∙ ap (λ (k : ℕ). 7 * (s * v * m) + k) (mul_assoc c u v) in
    let f : κ * w * m ≡ κ * (w * m) = mul_assoc κ w m in
    let g : 16 * (s * v * m) ≤ 17 * (w * m) = le_trans (le_of_eq (sym (mul_assoc 16 (s * v) m))) (le_trans (mul-le-mul_right m h) (le_of_eq (mul_assoc 17 w m))) in
    let i : (κ + 8) * (c * (u * v) + w * m) ≡ κ * (c * (u * v)) + κ * (w * m) + 8 * (c * (u * v) + w * m) = add-mul κ 8 (c * (u * v) + w * m) ∙ ap (λ (k : ℕ). k + 8 * (c * (u * v) + w * m)) (mul-add κ (c * (u * v)) (w * m)) in
    go ((7 * (s * m) + c * u) * v) (κ * w * m) (s * v * m) (c * (u * v)) (w * m) (κ * (c * (u * v))) (κ * (w * m)) ((κ + 8) * (c * (u * v) + w * m)) e f g i
  where
    go : (a b p q r kq kr t : ℕ) → a ≡ 7 * p + q → b ≡ kr → 16 * p ≤ 17 * r → t ≡ kq + kr + 8 * (q + r) → a + b ≤ t
    go a b p q r kq kr t e f g i = omega arith

-- the two parts' roundings together
legs : (x k : ℕ) → (5 * x + k) * (5 * x + k) + 4 * x * (4 * x) ≤ (7 * x + k) * (7 * x + k)
legs x k =
    let a = square_add (5 * x) k in let b = square_add (7 * x) k in
    let c = mul-mul-mul_comm 5 x 5 x in let d = mul-mul-mul_comm 7 x 7 x in let e = mul-mul-mul_comm 4 x 4 x in
    let f = mul_assoc 5 x k in let g = mul_assoc 7 x k in
    go ((5 * x + k) * (5 * x + k)) ((7 * x + k) * (7 * x + k)) (5 * x * (5 * x)) (7 * x * (7 * x)) (4 * x * (4 * x)) (5 * x * k) (7 * x * k) (x * x) (x * k) (k * k) a b c d e f g
  where
    go : (l r a b c d e xx xk kk : ℕ) → l ≡ a + 2 * d + kk → r ≡ b + 2 * e + kk → a ≡ 25 * xx → b ≡ 49 * xx → c ≡ 16 * xx → d ≡ 5 * xk → e ≡ 7 * xk → l + c ≤ r
    go l r a b c d e xx xk kk p q r1 r2 r3 r4 r5 = omega arith

legs_times : (x y t v : ℕ) → x * x + y * y ≤ t * t → x * v * (x * v) + y * v * (y * v) ≤ t * v * (t * v)
legs_times x y t v h =
    le_trans (le_of_eq (ap (λ (n : ℕ). n + y * v * (y * v)) (mul-mul-mul_comm x v x v) ∙ ap (λ (n : ℕ). x * x * (v * v) + n) (mul-mul-mul_comm y v y v) ∙ sym (add-mul (x * x) (y * y) (v * v))))
    (le_trans (mul-le-mul_right (v * v) h) (le_of_eq (mul-mul-mul_comm t t v v)))

-- ---- one step, at whole numbers: r is A per v, but for κ parts of w; its product with z plus k is rounded to t
module _ (u v w m κ c s : ℕ) (r z A t : scaled.Pair) (k : ℤ) (near : Close (r ⊙ v) A (κ * w)) (modulus : Modulus z m) (fine : 16 * (s * v) ≤ 17 * w) where
  advance : Near (t.first *ℤ pos u) (r.first *ℤ z.first -ℤ r.second *ℤ z.second +ℤ k *ℤ pos u) (5 * (s * m) + c * u)
      → Near (t.second *ℤ pos u) (r.first *ℤ z.second +ℤ r.second *ℤ z.first) (4 * (s * m))
      → Close (t ⊙ (u * v)) ((k *ℤ pos (u * v)) ⊞ (z ⊗ A)) ((κ + 8) * (c * (u * v) + w * m))
  advance h₁ h₂ =
      let W = pos v in
      let one : Near (t.first *ℤ pos (u * v)) ((k *ℤ pos (u * v)) ⊞ (z ⊗ (r ⊙ v))).first ((5 * (s * m) + c * u) * v) =
      subst (λ (x : ℤ). Near x ((k *ℤ pos (u * v)) ⊞ (z ⊗ (r ⊙ v))).first ((5 * (s * m) + c * u) * v)) (scale t.first (pos u) W)
      (subst (λ (x : ℤ). Near (t.first *ℤ pos u *ℤ W) x ((5 * (s * m) + c * u) * v)) (first r.first r.second z.first z.second k (pos u) W) (near_mul W h₁)) in
      let two : Near (t.second *ℤ pos (u * v)) ((k *ℤ pos (u * v)) ⊞ (z ⊗ (r ⊙ v))).second (4 * (s * m) * v) =
      subst (λ (x : ℤ). Near x ((k *ℤ pos (u * v)) ⊞ (z ⊗ (r ⊙ v))).second (4 * (s * m) * v)) (scale t.second (pos u) W)
      (subst (λ (x : ℤ). Near (t.second *ℤ pos u *ℤ W) x (4 * (s * m) * v)) (second r.first r.second z.first z.second W) (near_mul W h₂)) in
      let parts = close_parts ((7 * (s * m) + c * u) * v) one two (legs_times (5 * (s * m) + c * u) (4 * (s * m)) (7 * (s * m) + c * u) v (legs (s * m) (c * u))) in
      close_more ((κ + 8) * (c * (u * v) + w * m)) (bound u v w m κ c s fine) (close_trans parts (close_add (k *ℤ pos (u * v)) (close_mul z near modulus)))
    where
      scale : (a U W : ℤ) → a *ℤ U *ℤ W ≡ a *ℤ (U *ℤ W)
      scale a U W = ring (a ∷ U ∷ W ∷ []) λ ρ ea e_u e_w. simp (Z·ring, ea, e_u, e_w) (by_ring _ _ _ refl)

      first : (a b p q k U W : ℤ) → (a *ℤ p -ℤ b *ℤ q +ℤ k *ℤ U) *ℤ W ≡ k *ℤ (U *ℤ W) +ℤ (p *ℤ (a *ℤ W) -ℤ q *ℤ (b *ℤ W))
      first a b p q k U W = ring (a ∷ b ∷ p ∷ q ∷ k ∷ U ∷ W ∷ []) λ ρ ea eb ep eq ek e_u e_w. simp (Z·ring, ea, eb, ep, eq, ek, e_u, e_w) (by_ring _ _ _ refl)

      second : (a b p q W : ℤ) → (a *ℤ q +ℤ b *ℤ p) *ℤ W ≡ p *ℤ (b *ℤ W) +ℤ q *ℤ (a *ℤ W)
      second a b p q W = ring (a ∷ b ∷ p ∷ q ∷ W ∷ []) λ ρ ea eb ep eq e_w. simp (Z·ring, ea, eb, ep, eq, e_w) (by_ring _ _ _ refl)

-- ---- what is summed up is at most `bar` in modulus: 17/16 of the weight, per v
module _ (v w κ : ℕ) (O : 0 < v) (few : κ ≤ 2 ^ 40) (large : 2 ^ 52 * v ≤ w) where
  bar : ℕ
  bar = 17 * w / (16 * v)

  bar_fine : 16 * (bar * v) ≤ 17 * w
  unfolding bar
  bar_fine = le_trans (le_of_eq (mul_left_comm 16 bar v)) (div-mul-le_self (17 * w) (16 * v))

  bar_large : 2 ^ 52 ≤ bar
  unfolding bar
  bar_large = (le-div_iff_mul-le (mul-pos (pow_pos 4) O)).1 (le_trans (le_of_eq (mul_left_comm (2 ^ 52) 16 v)) (go (2 ^ 52 * v) large))
    where
      go : (x : ℕ) → x ≤ w → 16 * x ≤ 17 * w
      go x h = omega arith

  -- w is 64 times v at least, and κ is 2 ^ -13 of 2 ^ 53 at most
  bar_over : κ * w + w * 2 ^ 53 ≤ bar * (v * 2 ^ 53)
  unfolding bar
  bar_over =
      let a : 17 * w < bar * (16 * v) + 16 * v = lt-div-mul-add (mul-pos (pow_pos 4) O) in
      let b : bar * (16 * v) ≡ 16 * (bar * v) = mul_left_comm bar 16 v in
      le_trans (finish (κ * w) (bar * v) (mul-le-mul_right w few) (quarter (bar * v) (room (bar * v) (bar * (16 * v)) a b) (le_trans (some v) large))) (le_of_eq (mul_assoc bar v (2 ^ 53)))
    where
      some : (v : ℕ) → 64 * v ≤ 2 ^ 52 * v
      some v = omega arith

      room : (bv x : ℕ) → 17 * w < x + 16 * v → x ≡ 16 * bv → 17 * w < 16 * bv + 16 * v
      room bv x a b = omega arith

      quarter : (bv : ℕ) → 17 * w < 16 * bv + 16 * v → 64 * v ≤ w → 65 * w ≤ 64 * bv
      quarter bv a b = omega arith

      finish : (kw bv : ℕ) → kw ≤ 2 ^ 40 * w → 65 * w ≤ 64 * bv → kw + w * 2 ^ 53 ≤ bv * 2 ^ 53
      finish kw bv a b = omega arith

  under_bar : (r A : scaled.Pair) → Close (r ⊙ v) A (κ * w) → Modulus A w → Modulus r bar
  under_bar r A h n =
      modulus_over bar (v * 2 ^ 53) (mul-pos O (pow_pos 53))
      (modulus_more (bar * (v * 2 ^ 53)) bar_over
      (subst (λ (x : scaled.Pair). Modulus x (κ * w + w * 2 ^ 53)) (same_pair (law r.first A.first (pos v) (pos (2 ^ 53))) (law r.second A.second (pos v) (pos (2 ^ 53)))) (modulus_add h.far (modulus_times (2 ^ 53) n))))
    where
      law : (a A W K : ℤ) → (a *ℤ W -ℤ A) *ℤ K +ℤ A *ℤ K ≡ a *ℤ (W *ℤ K)
      law a A W K = ring (a ∷ A ∷ W ∷ K ∷ []) λ ρ ea e_a e_w e_k. simp (Z·ring, ea, e_a, e_w, e_k) (by_ring _ _ _ refl)

-- nothing overflows
no_overflow : (s v w m c u B l : ℕ) → 16 * (s * v) ≤ 17 * w → c * (u * v) + w * m ≤ B * (u * v) → 4 * B ≤ l → 0 < l → 0 < u → 0 < v → 2 * (s * m + c * u) < l * u
no_overflow s v w m c u B l fine total room L U O = lt_of_mul-lt-mul_right v (go (s * v * m) (w * m) (c * (u * v)) (B * (u * v)) (l * u * v) (2 * (s * m + c * u) * v)
    (le_trans (le_of_eq (sym (mul_assoc 16 (s * v) m))) (le_trans (mul-le-mul_right m fine) (le_of_eq (mul_assoc 17 w m))))
    total
    (le_trans (le_of_eq (sym (mul_assoc 4 B (u * v)))) (le_trans (mul-le-mul_right (u * v) room) (le_of_eq (sym (mul_assoc l u v)))))
    (mul-pos (mul-pos L U) O)
    (mul_assoc 2 (s * m + c * u) v ∙ ap (λ (k : ℕ). 2 * k) (add-mul (s * m) (c * u) v ∙ ap (λ (k : ℕ). k + c * u * v) (mul_right_comm s m v) ∙ ap (λ (k : ℕ). s * v * m + k) (mul_assoc c u v))))
  where
    go : (p q r t x y : ℕ) → 16 * p ≤ 17 * q → r + q ≤ t → 4 * t ≤ x → 0 < x → y ≡ 2 * (p + r) → y < x
    go p q r t x y a b c d e = omega arith

pub double_unit_pow_pos : (n : ℕ) → 0 < double_unit ^ n
double_unit_pow_pos n = one-le-pow n double_unit double_unit_pos

-- the part without the first coefficient weighs no more, at its own scale
lighter : (w m c u v B : ℕ) → 0 < u → u ≤ m → c * (u * v) + w * m ≤ B * (u * v) → w ≤ B * v
lighter w m c u v B U wide h =
    le_of_mul-le-mul_right (le_trans (mul-le-mul_left w wide) (le_trans (le-add_left (w * m) (c * (u * v))) (le_trans h (le_of_eq (ap (λ (k : ℕ). B * k) (mul_comm u v) ∙ sym (mul_assoc B v u)))))) U

-- ---- the invariant
pub record Good (c : Float) (cs : List Float) (z : Pair) (m κ : ℕ) : Type 0 where
  pub numbers : Numbers (horner (c ∷ cs) z)
  pub near : Close (values (horner (c ∷ cs) z) ⊙ double_unit ^ length (table_values cs)) (at double_unit (table_values (c ∷ cs)) (values z)) (κ * heft (value c) (table_values cs) m)

-- every coefficient is a finite number
abbrev pub Fine : List Float → Type 0
Fine [] = Unit
Fine (c ∷ cs) = Number c × Fine cs

zero_number : Number nought
unfolding fits
zero_number = record { is_finite = tt; is_held = tt }

zero_value : value nought ≡ pos 0
unfolding value double_unit
zero_value = refl

begin : (c : Float) (z : Pair) (m : ℕ) → Number c → Good c [] z m 0
unfolding horner at table_values double_unit
begin c z m C = record {
  numbers = record { re = C; im = zero_number };
  near = record {
    far = subst (λ (x : scaled.Pair). Modulus x (0 * heft (value c) [] m))
        (same_pair (first (value c) (value z.re) (value z.im) (pos (2 ^ 53))) (second (value z.re) (value z.im) (pos (2 ^ 53)) ∙ ap (λ (a : ℤ). (a *ℤ pos 1 -ℤ (value z.re *ℤ pos 0 +ℤ value z.im *ℤ pos 0)) *ℤ pos (2 ^ 53)) (sym zero_value)))
        (record { squares = none (0 * heft (value c) [] m) });
  };
}
  where
    first : (a x y K : ℤ) → pos 0 ≡ (a *ℤ pos 1 -ℤ (a *ℤ pos 1 +ℤ (x *ℤ pos 0 -ℤ y *ℤ pos 0))) *ℤ K
    first a x y K = ring (a ∷ x ∷ y ∷ K ∷ []) λ ρ ea ex ey e_k. simp (Z·ring, ev_num ρ, ea, ex, ey, e_k) (by_ring _ _ _ refl)

    second : (x y K : ℤ) → pos 0 ≡ (pos 0 *ℤ pos 1 -ℤ (x *ℤ pos 0 +ℤ y *ℤ pos 0)) *ℤ K
    second x y K = ring (x ∷ y ∷ K ∷ []) λ ρ ex ey e_k. simp (Z·ring, ev_num ρ, ex, ey, e_k) (by_ring _ _ _ refl)

    none : (q : ℕ) → 0 ≤ q * q
    none q = zero-le

-- one more coefficient in front
next : (c d : Float) (cs : List Float) (z : Pair) (m κ B : ℕ) → Number c → Numbers z → Modulus (values z) m → double_unit ≤ m → κ ≤ 2 ^ 40 → 4 * B ≤ limit
    → heft (value c) (table_values (d ∷ cs)) m ≤ B * double_unit ^ suc (length (table_values cs)) → Good d cs z m κ → Good c (d ∷ cs) z m (κ + 8)
unfolding horner at table_values
next c d cs z m κ B C Z modulus wide few room total g =
    let vs = table_values cs in
    let n = length vs in
    let v = double_unit ^ n in
    let O = double_unit_pow_pos n in
    let r = horner (d ∷ cs) z in
    let w = heft (value d) vs m in
    let large = heavy (value d) vs m wide in
    let s = bar v w κ O few large in
    let fine = bar_fine v w κ O few large in
    let A = at double_unit (value d ∷ vs) (values z) in
    let small : Modulus A w = modulus_more w (le-add_right (weight double_unit (value d ∷ vs) m) (2 ^ 52 * m ^ n)) (at_size double_unit (value d ∷ vs) (values z) m modulus) in
    let held : Modulus (values r) s = under_bar v w κ O few large (values r) A g.near small in
    let lo : 2 ^ 52 * double_unit ≤ s * m = mul-le-mul (bar_large v w κ O few large) wide in
    let k = nat_abs (value c) in
    let same : double_unit ^ suc n ≡ double_unit * v = pow-succ' double_unit n in
    let H : heft (value c) (value d ∷ vs) m ≡ k * (double_unit * v) + w * m = heft_more (value c) (value d) vs m ∙ ap (λ (x : ℕ). k * x + w * m) same in
    let total' : k * (double_unit * v) + w * m ≤ B * (double_unit * v) = le_trans (le_of_eq (sym H)) (le_trans total (le_of_eq (ap (λ (x : ℕ). B * x) same))) in
    let hi : 2 * (s * m + k * double_unit) < limit * double_unit = no_overflow s v w m k double_unit B limit fine total' room limit_pos double_unit_pos O in
    let re = step_re r z g.numbers Z (s * m) lo c C (cauchy held modulus) hi in
    let im = step_im r z g.numbers Z (s * m) lo (cauchy_cross held modulus) (less (s * m) (k * double_unit) (limit * double_unit) hi) in
    record {
      numbers = record { re = re.number; im = im.number };
      near = subst (λ (x : ℕ). Close (values (step r z c) ⊙ x) ((value c *ℤ pos x) ⊞ (values z ⊗ A)) ((κ + 8) * heft (value c) (value d ∷ vs) m)) (sym same)
          (subst (λ (x : ℕ). Close (values (step r z c) ⊙ (double_unit * v)) ((value c *ℤ pos (double_unit * v)) ⊞ (values z ⊗ A)) ((κ + 8) * x)) (sym H)
          (advance double_unit v w m κ k s (values r) (values z) A (values (step r z c)) (value c) g.near modulus fine re.near im.near));
    }
  where
    less : (s k l : ℕ) → 2 * (s + k) < l → 2 * s < l
    less s k l h = omega arith

-- ---- the whole polynomial
pub horner_near : (c : Float) (cs : List Float) (z : Pair) (m B : ℕ) → Fine (c ∷ cs) → Numbers z → Modulus (values z) m → double_unit ≤ m → length (table_values cs) ≤ 2 ^ 30 → 4 * B ≤ limit
    → heft (value c) (table_values cs) m ≤ B * double_unit ^ length (table_values cs) → Good c cs z m (length (table_values cs) * 8)
unfolding table_values
horner_near c [] z m B f Z modulus wide few room total = begin c z m f.0
horner_near c (d ∷ cs) z m B f Z modulus wide few room total =
    let vs = table_values cs in
    let n = length vs in
    let tail = le_trans (le_of_eq (sym (heft_more (value c) (value d) vs m))) total in
    let g = horner_near d cs z m B f.1 Z modulus wide (le_of_suc-le few) room
    (lighter (heft (value d) vs m) m (nat_abs (value c)) double_unit (double_unit ^ n) B double_unit_pos wide (subst (λ (x : ℕ). nat_abs (value c) * x + heft (value d) vs m * m ≤ B * x) (pow-succ' double_unit n) tail)) in
    subst (λ (k : ℕ). Good c (d ∷ cs) z m k) (sym (suc-mul n 8)) (next c d cs z m (n * 8) B f.0 Z modulus wide (enough n few) room total g)
  where
    enough : (n : ℕ) → suc n ≤ 2 ^ 30 → n * 8 ≤ 2 ^ 40
    enough n h = omega arith
