-- The definition's cos f, the root of 1 - sin² f with sin f = sin p / cosh q, times cosh q: its square is cosh² q - sin² p, nearly. So one root of what the code has
-- stands for it, and neither sin f nor cos f is formed. Assumes nothing.
use Rattle.std.specs.Prelude.{◌≡◌, refl, [], ◌∷◌, ℕ, suc, ◌+◌, ◌*◌, ◌-◌, ◌/◌, ◌<◌, ◌≤◌, ℤ, pos, negsuc, ◌+ℤ◌, ◌-ℤ◌, ◌*ℤ◌}
use Rattle.std.proofs.Common.{sym, ◌∙◌, ap, le_trans, div-mul-le_self, mul-le-mul, mul-le-mul_left, mul-le-mul_right, arith, lit<, lit≤}
use Rattle.std.proofs.Math.Decide.{dec_le}
use Rattle.arith.specs.Laws.Diff.{◌⊖◌, Z·ℕ}
use Rattle.arith.specs.Laws.Ring.{ring, Z·ring, by_ring, ev_num}
use Rattle.arith.specs.Within.{Within}
use Rattle.arith.specs.Laws.Within.{w_num, w_add, w_sub, w_mul}
use Rattle.rules.specs.Scaled.{unit, one, product, quotient, sqrt, root}
use Rattle.rules.proofs.Laws.Root.{root_is}
use Rattle.fixed.specs.Nearness.{Ratio}
use Rattle.fixed.proofs.Laws.Bounds.{w_div, w_same, w_up, w_pos, w_rest, w_floor, w_from}
use Rattle.fixed.proofs.Laws.Products.{product_rest}
use Rattle.fixed.proofs.Laws.Quotients.{ratio_div, ratio_high, ratio_low}

-- ---- the definition's root of a number that is not negative
pub record RootOf (z : ℤ) (r : ℕ) : Type 0 where
  pub value : sqrt z ≡ pos r
  pub gap : Within (z *ℤ pos unit -ℤ pos r *ℤ pos r) (2 * r)

square_low : (n r h : ℕ) → r * r ≤ n → n ≤ h * h → r ≤ h
square_low n r h a b = go (dec_le r h)
  where
    go : Dec (r ≤ h) → r ≤ h
    go (yes k) = k
    go (no k) = absurd (clash (r * r) (h * h) ((h + 1) * (h + 1)) a b (mul-le-mul (omega arith) (omega arith)) (omega arith))
      where
        clash : (x y z : ℕ) → x ≤ n → n ≤ y → z ≤ x → y < z → ⊥
        clash x y z p q u v = omega arith

root_of : (n h : ℕ) → n * unit ≤ h * h → (r : ℕ) × RootOf (pos n) r × (r ≤ h)
unfolding sqrt
root_of n h k = let i = root_is (n * unit) in (root (n * unit), record { value = refl; gap = w_rest (n * unit) (root (n * unit) * root (n * unit)) (2 * root (n * unit)) i.not_above (go (n * unit) (root (n * unit)) i.next_above) }, square_low (n * unit) (root (n * unit)) h i.not_above k)
  where
    go : (m r : ℕ) → m < (r + 1) * (r + 1) → m ≤ r * r + 2 * r
    go m r a = omega arith

-- 1 − z is not negative where z is at most 1
one_less : (z : ℤ) → Within z unit → (n : ℕ) × (one -ℤ z ≡ pos n) × (n ≤ 2 * unit)
one_less (pos m) w = (unit - m, go m w.within, omega (arith, w.within))
  where
    go : (m : ℕ) → m ≤ unit → pos unit -ℤ pos m ≡ pos (unit - m)
    go m h = take (unit - m) (omega arith)
      where
        take : (k : ℕ) → k + m ≡ unit → pos unit -ℤ pos m ≡ pos k
        take k e = simp Z·ℕ (omega arith)
one_less (negsuc m) w = (unit + suc m, refl, omega (arith, w.within))

-- ---- the definition's values. SP stands for sin p and CH, which is positive, for cosh q
module _ (SP : ℤ) (CH : ℕ) (wp : Within SP (9 * unit / 10)) (hh : CH ≤ 11 * unit / 10) (lh : 99 * unit / 100 ≤ CH) where
  abbrev sin_f : ℤ
  sin_f = quotient SP (pos CH)

  pub sin_ratio : Ratio sin_f SP (pos CH) 1
  sin_ratio = ratio_div SP (pos CH) (le_trans (lit≤ tt) lh)

  pub sin_high : Within sin_f (92 * unit / 100)
  sin_high = w_up _ (lit≤ tt) (ratio_high (99 * unit / 100) sin_ratio wp lh (lit< tt))

  square : Within (product sin_f sin_f) unit
  unfolding product
  square = w_up _ (lit≤ tt) (w_floor unit (lit< tt) (w_mul sin_high sin_high))

  -- the root c, and R = c·cosh q gone down
  pub record CosF (c R : ℕ) : Type 0 where
    pub value : sqrt (one -ℤ product sin_f sin_f) ≡ pos c
    pub high : c ≤ 2 * unit
    pub times : Within (pos c *ℤ pos CH -ℤ pos R *ℤ pos unit) unit
    pub gap : Within (product (pos CH -ℤ SP) (pos CH +ℤ SP) *ℤ pos unit -ℤ pos R *ℤ pos R) (14 * unit)

  identity : (U H P s Z c R W : ℤ) → (s *ℤ H -ℤ P *ℤ U) *ℤ (s *ℤ H +ℤ P *ℤ U) -ℤ (U *ℤ U) *ℤ ((H -ℤ P) *ℤ (H +ℤ P) -ℤ W *ℤ U) -ℤ (s *ℤ s -ℤ Z *ℤ U) *ℤ (H *ℤ H) +ℤ ((U -ℤ Z) *ℤ U -ℤ c *ℤ c) *ℤ (H *ℤ H) +ℤ (c *ℤ H -ℤ R *ℤ U) *ℤ (c *ℤ H +ℤ R *ℤ U) ≡ (W *ℤ U -ℤ R *ℤ R) *ℤ (U *ℤ U)
  identity U H P s Z c R W = ring (U ∷ H ∷ P ∷ s ∷ Z ∷ c ∷ R ∷ W ∷ []) λ ρ e1 e2 e3 e4 e5 e6 e7 e8. simp (Z·ring, e1, e2, e3, e4, e5, e6, e7, e8) (by_ring _ _ _ refl)

  whole : (c : ℕ) → Within (pos c *ℤ pos CH -ℤ pos (c * CH / unit) *ℤ pos unit) unit
  whole c = w_rest (c * CH) (c * CH / unit * unit) unit (div-mul-le_self (c * CH) unit) (up (c * CH))
    where
      up : (x : ℕ) → x ≤ x / unit * unit + unit
      up x = omega arith

  pub cos_f : (c : ℕ) × (R : ℕ) × CosF c R
  cos_f =
      let (n, e, k) = one_less (product sin_f sin_f) square in
      let (c, r, h) = root_of n (2 * unit) (le_trans (mul-le-mul_right unit k) (lit≤ tt)) in
      (c, c * CH / unit, record { value = ap sqrt e ∙ r.value; high = h; times = whole c; gap = rest c (c * CH / unit) h (w_same _ (ap (λ z. z *ℤ pos unit -ℤ pos c *ℤ pos c) (sym e)) r.gap) (whole c) })
    where
      rest : (c R : ℕ) → c ≤ 2 * unit → Within ((one -ℤ product sin_f sin_f) *ℤ pos unit -ℤ pos c *ℤ pos c) (2 * c) → Within (pos c *ℤ pos CH -ℤ pos R *ℤ pos unit) unit → Within (product (pos CH -ℤ SP) (pos CH +ℤ SP) *ℤ pos unit -ℤ pos R *ℤ pos R) (14 * unit)
      rest c R h squared times =
          let wh : Within (pos CH) (11 * unit / 10) = w_pos hh in
          let ws : Within (sin_f *ℤ pos CH) (92 * unit / 100 * (11 * unit / 10)) = w_mul sin_high wh in
          let wr : Within (pos R *ℤ pos unit) (2 * unit * (11 * unit / 10) + unit) = w_from (w_mul (w_pos h) (w_pos hh)) times in
          let wc : Within (pos c *ℤ pos CH) (2 * unit * (11 * unit / 10)) = w_mul (w_pos h) wh in
          w_up _ (lit≤ tt) (w_div (product (pos CH -ℤ SP) (pos CH +ℤ SP) *ℤ pos unit -ℤ pos R *ℤ pos R) (unit * unit) _ (lit< tt)
          (w_same _ (identity (pos unit) (pos CH) SP sin_f (product sin_f sin_f) (pos c) (pos R) (product (pos CH -ℤ SP) (pos CH +ℤ SP)))
          (w_add (w_add (w_sub (w_sub (w_mul (w_up (11 * unit / 10) (once CH hh) sin_ratio.gap) (w_add ws (w_mul wp (w_num unit)))) (w_mul (w_num (unit * unit)) (product_rest (pos CH -ℤ SP) (pos CH +ℤ SP)))) (w_mul (product_rest sin_f sin_f) (w_mul wh wh))) (w_mul (w_up (2 * (2 * unit)) (mul-le-mul_left 2 h) squared) (w_mul wh wh))) (w_mul times (w_add wc wr)))))
        where
          once : (x : ℕ) → x ≤ 11 * unit / 10 → 1 * x ≤ 11 * unit / 10
          once x k = omega arith

  -- ---- its tangent, sin f / cos f, is sin p / R, nearly; both doubled, as the tangent difference rule takes them
  module _ {c R : ℕ} (i : CosF c R) (lr : unit / 2 ≤ R) where
    c_ratio : Ratio (pos c) (pos R) (pos CH) 2
    c_ratio = record { gap = w_up _ (twice CH lh) i.times }
      where
        twice : (x : ℕ) → 99 * unit / 100 ≤ x → unit ≤ 2 * x
        twice x h = omega arith

    c_low : 45 * unit / 100 ≤ c
    c_low = go c (le_trans (lit≤ tt) (ratio_low (unit / 2) (11 * unit / 10) c_ratio lr hh (lit< tt)))
      where
        go : (x : ℕ) → 45 * unit / 100 + 2 ≤ x + 2 → 45 * unit / 100 ≤ x
        go x h = omega arith

    abbrev tan_f : ℤ
    tan_f = quotient sin_f (pos c)

    tan_ratio : Ratio tan_f sin_f (pos c) 1
    tan_ratio = ratio_div sin_f (pos c) (le_trans (lit≤ tt) c_low)

    pub tan_high : Within tan_f (4 * unit)
    tan_high = w_up _ (lit≤ tt) (ratio_high (45 * unit / 100) tan_ratio sin_high c_low (lit< tt))

    pub tan_gap : Within (tan_f *ℤ (pos 2 *ℤ pos R) -ℤ (pos 2 *ℤ SP) *ℤ pos unit) (16 * unit)
    tan_gap =
        w_up _ (lit≤ tt) (w_div (tan_f *ℤ (pos 2 *ℤ pos R) -ℤ (pos 2 *ℤ SP) *ℤ pos unit) unit _ (lit< tt)
        (w_same _ (law tan_f (pos c) sin_f SP (pos CH) (pos R) (pos unit))
        (w_mul (w_num 2) (w_sub (w_add (w_mul (w_num unit) (w_up (11 * unit / 10) (once CH (11 * unit / 10) hh) sin_ratio.gap)) (w_mul (w_pos hh) (w_up (2 * unit) (once c (2 * unit) i.high) tan_ratio.gap))) (w_mul tan_high i.times)))))
      where
        once : (x y : ℕ) → x ≤ y → 1 * x ≤ y
        once x y k = omega arith

        law : (t c s P H R U : ℤ) → pos 2 *ℤ (U *ℤ (s *ℤ H -ℤ P *ℤ U) +ℤ H *ℤ (t *ℤ c -ℤ s *ℤ U) -ℤ t *ℤ (c *ℤ H -ℤ R *ℤ U)) ≡ (t *ℤ (pos 2 *ℤ R) -ℤ (pos 2 *ℤ P) *ℤ U) *ℤ U
        law t c s P H R U = ring (t ∷ c ∷ s ∷ P ∷ H ∷ R ∷ U ∷ []) λ ρ e1 e2 e3 e4 e5 e6 e7. simp (Z·ring, ev_num ρ, e1, e2, e3, e4, e5, e6, e7) (by_ring _ _ _ refl)
