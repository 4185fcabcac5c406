-- A polynomial is its first two terms but for what the others weigh: one law over any table. And what nearness to such a line says of a number's size. Assumes nothing.
use Rattle.std.specs.Prelude.{◌≡◌, refl, List, [], ◌∷◌, ℕ, suc, ◌+◌, ◌-◌, ◌*◌, ◌/◌, ◌^◌, ◌≤◌, ◌<◌, length, negsuc, nat_abs, ◌+ℤ◌, ◌-ℤ◌, ◌*ℤ◌, ◌≤ℤ◌, ◌<ℤ◌}
use Rattle.std.proofs.Common.{sym, ◌∙◌, ap₂, subst, le_trans, le_of_eq, mul-pos, mul-le-mul_right, mul-le-mul_left, le_of_mul-le-mul_right, pow-suc, le-div_iff_mul-le, div-mul-le_self, arith, leb→le, lt→ltb}
use Rattle.std.proofs.Math.Path.{ap}
use Rattle.std.proofs.Math.IntN.{ℤ, pos}
use Rattle.arith.specs.Laws.Diff.{Z·ℕ, lin}
use Rattle.arith.specs.Laws.Order.{abs_mul, abs_add, ≤ℤ_trans, ≤ℤ_of_eq, *ℤ_cancel-≤, *ℤ_mono_left, nn_num}
use Rattle.arith.specs.Laws.Ring.{ring, Z·ring, by_ring, ev_num}
use Rattle.arith.specs.Laws.Close.{Close}
use Rattle.rules.specs.Scaled.{unit}
use Rattle.rules.specs.Scaled as scaled
use Rattle.rules.specs.Polynomial.{double_unit, exact}
use Rattle.double.specs.declared.Pair.{Pair}
use Rattle.double.specs.Value.{value}
use Rattle.double.specs.Complex.{values, horner}
use Rattle.double.specs.Pairs.{◌⊗◌, Modulus}
use Rattle.double.specs.Exact.{weight, at, doubles}
use Rattle.double.specs.Bound.{Light, Inside, Tenth}
use Rattle.double.proofs.Laws.Bound.{at_exact}
use Rattle.double.proofs.Laws.Horner.{at_size, double_unit_pow_pos}
use Rattle.double.proofs.Laws.Modulus.{modulus_first, modulus_second, modulus_mul}
use Rattle.double.proofs.Laws.Operations.{double_unit_pos}
use Rattle.double.proofs.Laws.Promise.{tenth}
use Rattle.metres.specs.Millimetres.{truncated}
use Rattle.metres.specs.Laws.Into.{per_one}
use Rattle.projection_worked.proofs.Laws.InversePlane.{close_size}

-- a part `a` whose exact value e, over T·H·U, is l·H but for r: it is l over T, but for what r is
part_line : (a e l r : ℤ) (T U H k : ℕ) → 0 < H * U → e ≡ l *ℤ pos H +ℤ r
    → 10 ^ 7 * nat_abs (a *ℤ pos (T * (H * U)) -ℤ e *ℤ pos U) ≤ T * (H * U * U) → nat_abs r ≤ k * (T * (H * U)) → nat_abs (a *ℤ pos T -ℤ l) ≤ (k + 1) * (T * U)
part_line a e l r T U H k h is d s = le_of_mul-le-mul_right {k = H * U} (go (nat_abs (a *ℤ pos T -ℤ l)) _ (nat_abs r) T U H k sum d s) h
  where
    law : (a l r T U H : ℤ) → (a *ℤ T -ℤ l) *ℤ (H *ℤ U) ≡ (a *ℤ (T *ℤ (H *ℤ U)) -ℤ (l *ℤ H +ℤ r) *ℤ U) +ℤ r *ℤ U
    law a l r T U H = ring (a ∷ l ∷ r ∷ T ∷ U ∷ H ∷ []) λ ρ e1 e2 e3 e4 e5 e6. simp (Z·ring, e1, e2, e3, e4, e5, e6) (by_ring _ _ _ refl)

    sum : nat_abs (a *ℤ pos T -ℤ l) * (H * U) ≤ nat_abs (a *ℤ pos (T * (H * U)) -ℤ e *ℤ pos U) + nat_abs r * U
    sum =
        le_trans (le_of_eq (sym (abs_mul (a *ℤ pos T -ℤ l) (pos (H * U))) ∙ ap nat_abs (law a l r (pos T) (pos U) (pos H) ∙ ap (λ z. (a *ℤ pos (T * (H * U)) -ℤ z *ℤ pos U) +ℤ r *ℤ pos U) (sym is))))
        (le_trans (abs_add (a *ℤ pos (T * (H * U)) -ℤ e *ℤ pos U) (r *ℤ pos U)) (le_of_eq (ap (λ x. nat_abs (a *ℤ pos (T * (H * U)) -ℤ e *ℤ pos U) + x) (abs_mul r (pos U)))))

    go : (N D R T U H k : ℕ) → N * (H * U) ≤ D + R * U → 10 ^ 7 * D ≤ T * (H * U * U) → R ≤ k * (T * (H * U)) → N * (H * U) ≤ (k + 1) * (T * U) * (H * U)
    go N D R T U H k h d s = let f = mul-le-mul_right U s in omega arith

-- with z's part from a length of n units of 2^-30 m: `a` is c0 + c1·n / per_one
pub part_length : (a z c0 c1 n : ℤ) (T U k : ℕ) → nat_abs (a *ℤ pos T -ℤ (c0 *ℤ pos U +ℤ z *ℤ c1)) ≤ (k + 1) * (T * U) → Close z U n per_one 1 (10 ^ 15) → nat_abs c1 ≤ 10 ^ 15 * T
    → Close a U (c0 *ℤ pos per_one +ℤ c1 *ℤ n) (T * per_one) (k + 2) 1
part_length a z c0 c1 n T U k h g l = record { gap = go _ (nat_abs (a *ℤ pos T -ℤ (c0 *ℤ pos U +ℤ z *ℤ c1))) (nat_abs c1) (nat_abs (z *ℤ pos per_one -ℤ n *ℤ pos U)) T U per_one k sum h g.gap l }
  where
    law : (a z c0 c1 n T U P : ℤ) → a *ℤ (T *ℤ P) -ℤ (c0 *ℤ P +ℤ c1 *ℤ n) *ℤ U ≡ (a *ℤ T -ℤ (c0 *ℤ U +ℤ z *ℤ c1)) *ℤ P +ℤ c1 *ℤ (z *ℤ P -ℤ n *ℤ U)
    law a z c0 c1 n T U P = ring (a ∷ z ∷ c0 ∷ c1 ∷ n ∷ T ∷ U ∷ P ∷ []) λ ρ e1 e2 e3 e4 e5 e6 e7 e8. simp (Z·ring, e1, e2, e3, e4, e5, e6, e7, e8) (by_ring _ _ _ refl)

    sum : nat_abs (a *ℤ pos (T * per_one) -ℤ (c0 *ℤ pos per_one +ℤ c1 *ℤ n) *ℤ pos U) ≤ nat_abs (a *ℤ pos T -ℤ (c0 *ℤ pos U +ℤ z *ℤ c1)) * per_one + nat_abs c1 * nat_abs (z *ℤ pos per_one -ℤ n *ℤ pos U)
    sum =
        le_trans (le_of_eq (ap nat_abs (law a z c0 c1 n (pos T) (pos U) (pos per_one))))
        (le_trans (abs_add ((a *ℤ pos T -ℤ (c0 *ℤ pos U +ℤ z *ℤ c1)) *ℤ pos per_one) (c1 *ℤ (z *ℤ pos per_one -ℤ n *ℤ pos U)))
        (le_of_eq (ap₂ ◌+◌ (abs_mul (a *ℤ pos T -ℤ (c0 *ℤ pos U +ℤ z *ℤ c1)) (pos per_one)) (abs_mul c1 (z *ℤ pos per_one -ℤ n *ℤ pos U)))))

    go : (S N C X T U P k : ℕ) → S ≤ N * P + C * X → N ≤ (k + 1) * (T * U) → 10 ^ 15 * X ≤ 1 * (U * P) → C ≤ 10 ^ 15 * T → 1 * S ≤ (k + 2) * (U * (T * P))
    go S N C X T U P k s h g l = let e = mul-le-mul_right P h in let f = mul-le-mul_left C g in let i = mul-le-mul_right (U * P) l in omega arith

-- ---- both parts of the answer of a light table c0 ∷ c1 ∷ cs, of which cs weighs at most k
module _ (c0 c1 : ℤ) (cs : List ℤ) (z : Pair) (m k : ℕ) (l : Light unit c0 (c1 ∷ cs) m 8000000) (i : Inside z m) (w : m * (m * weight double_unit cs m) ≤ k * (unit * double_unit ^ suc (length cs))) where
  abbrev answer : Pair
  answer = horner (doubles unit (c0 ∷ c1 ∷ cs)) z

  abbrev tail : scaled.Pair
  tail = values z ⊗ (values z ⊗ at double_unit cs (values z))

  tail_size : Modulus tail (m * (m * weight double_unit cs m))
  tail_size = modulus_mul i.modulus (modulus_mul i.modulus (at_size double_unit cs (values z) m i.modulus))

  abbrev H : ℕ
  H = double_unit ^ length cs

  power : double_unit ^ suc (length cs) ≡ H * double_unit
  power = pow-suc double_unit (length cs)

  powers : double_unit ^ suc (suc (length cs)) ≡ H * double_unit * double_unit
  powers = pow-suc double_unit (suc (length cs)) ∙ ap (λ n. n * double_unit) power

  part : (a e l r : ℤ) → e ≡ l *ℤ pos H +ℤ r → Tenth unit (suc (length cs)) a e → nat_abs r ≤ m * (m * weight double_unit cs m) → nat_abs (a *ℤ pos unit -ℤ l) ≤ (k + 1) * (unit * double_unit)
  part a e l r is t s =
      part_line a e l r unit double_unit H k (mul-pos (double_unit_pow_pos (length cs)) double_unit_pos) is
      (subst (λ n. 10 ^ 7 * nat_abs (a *ℤ pos (unit * n) -ℤ e *ℤ pos double_unit) ≤ unit * (H * double_unit * double_unit)) power (le_trans t.bound (le_of_eq (ap (λ n. unit * n) powers))))
      (le_trans s (le_trans w (le_of_eq (ap (λ n. k * (unit * n)) power))))

  first_is : (at double_unit (c0 ∷ c1 ∷ cs) (values z)).first ≡ (c0 *ℤ pos double_unit +ℤ value z.re *ℤ c1) *ℤ pos H +ℤ tail.first
  unfolding at
  first_is = ap (λ n. c0 *ℤ pos n +ℤ (value z.re *ℤ (c1 *ℤ pos H +ℤ q1) -ℤ value z.im *ℤ q2)) power ∙ law c0 c1 (value z.re) (value z.im) q1 q2 (pos H) (pos double_unit)
    where
      q1 : ℤ
      q1 = (values z ⊗ at double_unit cs (values z)).first

      q2 : ℤ
      q2 = (values z ⊗ at double_unit cs (values z)).second

      law : (c0 c1 x y p q H U : ℤ) → c0 *ℤ (H *ℤ U) +ℤ (x *ℤ (c1 *ℤ H +ℤ p) -ℤ y *ℤ q) ≡ (c0 *ℤ U +ℤ x *ℤ c1) *ℤ H +ℤ (x *ℤ p -ℤ y *ℤ q)
      law c0 c1 x y p q H U = ring (c0 ∷ c1 ∷ x ∷ y ∷ p ∷ q ∷ H ∷ U ∷ []) λ ρ e1 e2 e3 e4 e5 e6 e7 e8. simp (Z·ring, e1, e2, e3, e4, e5, e6, e7, e8) (by_ring _ _ _ refl)

  second_is : (at double_unit (c0 ∷ c1 ∷ cs) (values z)).second ≡ (pos 0 *ℤ pos double_unit +ℤ value z.im *ℤ c1) *ℤ pos H +ℤ tail.second
  unfolding at
  second_is = law c1 (value z.re) (value z.im) (values z ⊗ at double_unit cs (values z)).first (values z ⊗ at double_unit cs (values z)).second (pos H) (pos double_unit)
    where
      law : (c1 x y p q H U : ℤ) → x *ℤ q +ℤ y *ℤ (c1 *ℤ H +ℤ p) ≡ (pos 0 *ℤ U +ℤ y *ℤ c1) *ℤ H +ℤ (x *ℤ q +ℤ y *ℤ p)
      law c1 x y p q H U = ring (c1 ∷ x ∷ y ∷ p ∷ q ∷ H ∷ U ∷ []) λ ρ e1 e2 e3 e4 e5 e6 e7. simp (Z·ring, ev_num ρ, e1, e2, e3, e4, e5, e6, e7) (by_ring _ _ _ refl)

  pub first_line : nat_abs (value answer.re *ℤ pos unit -ℤ (c0 *ℤ pos double_unit +ℤ value z.re *ℤ c1)) ≤ (k + 1) * (unit * double_unit)
  first_line = part (value answer.re) _ (c0 *ℤ pos double_unit +ℤ value z.re *ℤ c1) tail.first (sym (ap (λ p. p.first) (at_exact (c0 ∷ c1 ∷ cs) (values z))) ∙ first_is) (tenth unit c0 (c1 ∷ cs) z m l i).first (modulus_first tail_size)

  pub second_line : nat_abs (value answer.im *ℤ pos unit -ℤ (pos 0 *ℤ pos double_unit +ℤ value z.im *ℤ c1)) ≤ (k + 1) * (unit * double_unit)
  second_line = part (value answer.im) _ (pos 0 *ℤ pos double_unit +ℤ value z.im *ℤ c1) tail.second (sym (ap (λ p. p.second) (at_exact (c0 ∷ c1 ∷ cs) (values z))) ∙ second_is) (tenth unit c0 (c1 ∷ cs) z m l i).second (modulus_second tail_size)

-- ---- bounds from nearness
pub close_above : (v w : ℤ) (s t k K : ℕ) → 0 < t → Close v s w t k 1 → pos ((K + k) * t) ≤ℤ w → pos (K * s) ≤ℤ v
close_above v w s t k K h c l =
    *ℤ_cancel-≤ (pos t) (pos (K * s)) v (positive h)
    (subst (λ z. pos (t * (K * s)) ≤ℤ z) (turn v (pos t)) (down (v *ℤ pos t) (w *ℤ pos s) (k * (s * t)) (t * (K * s)) ((K + k) * t * s) (one c) (≤ℤ_trans (≤ℤ_of_eq (turn (pos ((K + k) * t)) (pos s))) (≤ℤ_trans (*ℤ_mono_left (pos s) (nn_num s) l) (≤ℤ_of_eq (turn (pos s) w)))) (sum K k s t)))
  where
    positive : {t : ℕ} → 0 < t → pos 0 <ℤ pos t
    positive h = record { lt = lt→ltb _ _ h }

    turn : (a b : ℤ) → a *ℤ b ≡ b *ℤ a
    turn a b = ring (a ∷ b ∷ []) λ ρ ea eb. simp (Z·ring, ea, eb) (by_ring _ _ _ refl)

    one : Close v s w t k 1 → nat_abs (v *ℤ pos t -ℤ w *ℤ pos s) ≤ k * (s * t)
    one c = let g = c.gap in omega arith

    sum : (K k s t : ℕ) → t * (K * s) + k * (s * t) ≤ (K + k) * t * s
    sum K k s t = omega arith

    down : (A B : ℤ) (p q r : ℕ) → nat_abs (A -ℤ B) ≤ p → pos r ≤ℤ B → q + p ≤ r → pos q ≤ℤ A
    down A B p q r = lin (A ∷ B ∷ []) λ u v e_a e_b. simp (Z·ℕ, e_a, e_b) (omega arith)

pub close_under : (v w : ℤ) (s t k K : ℕ) → 0 < t → Close v s w t k 1 → nat_abs w ≤ K * t → nat_abs v ≤ (K + k) * s
close_under v w s t k K h c l = le_of_mul-le-mul_right {k = t} (go (nat_abs v) (nat_abs w) s t k K (close_size c) l) h
  where
    go : (v w s t k K : ℕ) → 1 * (v * t) ≤ k * (s * t) + 1 * (w * s) → w ≤ K * t → v * t ≤ (K + k) * s * t
    go v w s t k K h l = let a = mul-le-mul_right s l in omega arith

-- a value of v units of 2^-1074 m, cut to whole multiples of 2^-30 m
pub truncated_low : (v : ℤ) (K : ℕ) → pos (K * double_unit) ≤ℤ v → K * 2 ^ 30 ≤ truncated 30 v
unfolding truncated
truncated_low (negsuc n) K l = absurd l.le
truncated_low (pos n) K l = (le-div_iff_mul-le double_unit_pos).1 (go n K double_unit (leb→le _ _ l.le))
  where
    go : (n K u : ℕ) → K * u ≤ n → K * 2 ^ 30 * u ≤ n * 2 ^ 30
    go n K u h = omega arith

pub truncated_high : (v : ℤ) (K : ℕ) → nat_abs v ≤ K * double_unit → truncated 30 v ≤ K * 2 ^ 30
unfolding truncated
truncated_high v K l = le_of_mul-le-mul_right {k = double_unit} (le_trans (div-mul-le_self (nat_abs v * 2 ^ 30) double_unit) (go (nat_abs v) K double_unit l)) double_unit_pos
  where
    go : (n K u : ℕ) → n ≤ K * u → n * 2 ^ 30 ≤ K * 2 ^ 30 * u
    go n K u h = omega arith

-- ---- C0 + C1·(g - c) over T, for g between two ends
module _ (C0 C1 c g P : ℕ) where
  line : pos C0 *ℤ pos P +ℤ pos C1 *ℤ (pos g -ℤ pos c) ≡ pos (C0 * P + C1 * g) -ℤ pos (C1 * c)
  line = law (pos C0) (pos C1) (pos c) (pos g) (pos P)
    where
      law : (C0 C1 c g P : ℤ) → C0 *ℤ P +ℤ C1 *ℤ (g -ℤ c) ≡ (C0 *ℤ P +ℤ C1 *ℤ g) -ℤ C1 *ℤ c
      law C0 C1 c g P = ring (C0 ∷ C1 ∷ c ∷ g ∷ P ∷ []) λ ρ e1 e2 e3 e4 e5. simp (Z·ring, e1, e2, e3, e4, e5) (by_ring _ _ _ refl)

  pub line_low : (low K : ℕ) → low ≤ g → K + C1 * c ≤ C0 * P + C1 * low → pos K ≤ℤ (pos C0 *ℤ pos P +ℤ pos C1 *ℤ (pos g -ℤ pos c))
  line_low low K h l = subst (λ z. pos K ≤ℤ z) (sym line) (go (C0 * P + C1 * g) (C1 * c) K (le_trans l (more (C0 * P) (mul-le-mul_left C1 h))))
    where
      more : (a : ℕ) {b c : ℕ} → b ≤ c → a + b ≤ a + c
      more a h = omega arith

      go : (a b K : ℕ) → K + b ≤ a → pos K ≤ℤ (pos a -ℤ pos b)
      go a b K h = simp Z·ℕ (omega arith)

  pub line_high : (low high K : ℕ) → low ≤ g → g ≤ high → C1 * c ≤ C0 * P + C1 * low → C0 * P + C1 * high ≤ K + C1 * c → nat_abs (pos C0 *ℤ pos P +ℤ pos C1 *ℤ (pos g -ℤ pos c)) ≤ K
  line_high low high K h i l k = subst (λ z. nat_abs z ≤ K) (sym line) (go (C0 * P + C1 * g) (C1 * c) K (le_trans l (more (C0 * P) (mul-le-mul_left C1 h))) (le_trans (more (C0 * P) (mul-le-mul_left C1 i)) k))
    where
      more : (a : ℕ) {b c : ℕ} → b ≤ c → a + b ≤ a + c
      more a h = omega arith

      go : (a b K : ℕ) → b ≤ a → a ≤ K + b → nat_abs (pos a -ℤ pos b) ≤ K
      go a b K h k = simp Z·ℕ (omega arith)
