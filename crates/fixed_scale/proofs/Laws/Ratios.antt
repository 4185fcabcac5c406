-- The definition's scale without the derivative, R0·cos f / (N·cos B) over √(1 - cos²f·sin²d), as one quotient of what the code has: the definition's floors
-- move it by less than 10^-21. Assumes nothing.
use Rattle.std.specs.Prelude.{◌≡◌, refl, [], ◌∷◌, ℕ, ◌+◌, ◌*◌, ◌-◌, ◌/◌, ◌<◌, ◌≤◌, ℤ, pos, ◌+ℤ◌, ◌-ℤ◌, ◌*ℤ◌, nat_abs}
use Rattle.std.proofs.Common.{sym, ◌∙◌, ap, le_trans, le_of_eq, le_refl, le-div_iff_mul-le, le_of_mul-le-mul_right, mul-le-mul, mul-le-mul_left, div-mul-le_self, arith, lit<, lit≤}
use Rattle.arith.specs.Laws.Order.{abs_mul}
use Rattle.arith.specs.Laws.Ring.{ring, Z·ring, by_ring}
use Rattle.arith.specs.Within.{Within}
use Rattle.arith.specs.Laws.Within.{w_num, w_add, w_sub, w_mul}
use Rattle.rules.specs.Scaled.{unit, one, product, quotient}
use Rattle.fixed.specs.Nearness.{Ratio}
use Rattle.fixed.proofs.Laws.Bounds.{w_div, w_same, w_up, w_floor, triangle}
use Rattle.fixed.proofs.Laws.Products.{product_rest}
use Rattle.fixed.proofs.Laws.Quotients.{ratio_div, ratio_high, ratio_low}

-- a factor that is at least l in size comes off
pub w_div_by : {n : ℕ} (z k : ℤ) (l : ℕ) → Within (z *ℤ k) n → l ≤ nat_abs k → 0 < l → Within z (n / l)
w_div_by z k l h g p = record { within = (le-div_iff_mul-le p).1 (le_trans (mul-le-mul_left (nat_abs z) g) (le_trans (le_of_eq (sym (abs_mul z k))) h.within)) }

-- w·d − x·U, multiplied by cos B, by U and by a, from what each of the definition's steps loses
scale_id : (U a R c ρ N P f Q W M D K A Y X : ℤ)
    → R *ℤ U *ℤ ρ *ℤ ((f *ℤ D -ℤ M *ℤ U) -ℤ (K *ℤ c -ℤ M *ℤ U)) +ℤ ρ *ℤ D *ℤ U *ℤ ((W *ℤ P -ℤ Q *ℤ U) -ℤ (R *ℤ f -ℤ Q *ℤ U)) +ℤ ρ *ℤ D *ℤ W *ℤ (N *ℤ c -ℤ P *ℤ U) -ℤ W *ℤ c *ℤ D *ℤ (N *ℤ ρ -ℤ a *ℤ U) -ℤ c *ℤ K *ℤ ρ *ℤ (A *ℤ a -ℤ R *ℤ U) +ℤ c *ℤ ρ *ℤ a *ℤ (K *ℤ A -ℤ Y *ℤ U) +ℤ c *ℤ U *ℤ a *ℤ (Y *ℤ ρ -ℤ X *ℤ U)
    ≡ (W *ℤ D -ℤ X *ℤ U) *ℤ (c *ℤ U *ℤ a)
scale_id U a R c ρ N P f Q W M D K A Y X =
    ring (U ∷ a ∷ R ∷ c ∷ ρ ∷ N ∷ P ∷ f ∷ Q ∷ W ∷ M ∷ D ∷ K ∷ A ∷ Y ∷ X ∷ [])
    λ r e1 e2 e3 e4 e5 e6 e7 e8 e9 e10 e11 e12 e13 e14 e15 e16. simp (Z·ring, e1, e2, e3, e4, e5, e6, e7, e8, e9, e10, e11, e12, e13, e14, e15, e16) (by_ring _ _ _ refl)

-- a product of two quotients
both_id : (U W G D ρ X T Z : ℤ)
    → X *ℤ U *ℤ (G *ℤ ρ -ℤ U *ℤ U) +ℤ (W *ℤ D -ℤ X *ℤ U) *ℤ (G *ℤ ρ) -ℤ (W *ℤ G -ℤ T *ℤ U) *ℤ (Z *ℤ U) -ℤ (D *ℤ ρ -ℤ Z *ℤ U) *ℤ (W *ℤ G) ≡ (T *ℤ Z -ℤ X *ℤ U) *ℤ (U *ℤ U)
both_id U W G D ρ X T Z =
    ring (U ∷ W ∷ G ∷ D ∷ ρ ∷ X ∷ T ∷ Z ∷ []) λ r e1 e2 e3 e4 e5 e6 e7 e8. simp (Z·ring, e1, e2, e3, e4, e5, e6, e7, e8) (by_ring _ _ _ refl)

-- ---- sizes of products
pub product_high : {x y : ℤ} {m n : ℕ} → Within x m → Within y n → Within (product x y) ((m * n + unit) / unit)
unfolding product
product_high h k = w_floor unit (lit< tt) (w_mul h k)

low_core : (U x y z m n : ℕ) → 0 < U → m ≤ x → n ≤ y → x * y ≤ z * U + 1 * U → m * n / U ≤ z + 1
low_core U x y z m n h_u h k g = le_of_mul-le-mul_right (le_trans (div-mul-le_self (m * n) U) (le_trans (mul-le-mul h k) (le_trans g (le_of_eq (go z U))))) h_u
  where
    go : (z U : ℕ) → z * U + 1 * U ≡ (z + 1) * U
    go z U = omega arith

product_low : {m n : ℕ} (x y : ℤ) → m ≤ nat_abs x → n ≤ nat_abs y → m * n / unit ≤ nat_abs (product x y) + 1
product_low {m} {n} x y h k =
    low_core unit (nat_abs x) (nat_abs y) (nat_abs (product x y)) m n (lit< tt) h k
    (le_trans (le_of_eq (sym (abs_mul x y)))
    (le_trans (triangle (x *ℤ y) (product x y *ℤ pos unit) (1 * unit) (product_rest x y).within).0 (more (le_of_eq (abs_mul (product x y) (pos unit))))))
  where
    more : {a b : ℕ} → a ≤ b → a + 1 * unit ≤ b + 1 * unit
    more l = omega arith

-- ---- R0·cos f / (N·cos B) is K·(R0/a)·ρ over half the denominator of sin f. Here c is cos B, k is 2K, d the denominator, ρ = √(1 - e²t²)
module _ (a R c ρ k d : ℤ)
    (a_high : Within a (7000000 * unit)) (a_low : 6000000 * unit ≤ nat_abs a)
    (R_high : Within R (7000000 * unit))
    (c_high : Within c (1 * unit)) (c_low : unit / 2 ≤ nat_abs c)
    (ρ_high : Within ρ (2 * unit)) (ρ_low : 9 * unit / 10 ≤ nat_abs ρ)
    (k_high : Within k (3 * unit))
    (d_high : Within d (3 * unit)) (d_low : 17 * unit / 10 ≤ nat_abs d) where
  abbrev N : ℤ
  N = quotient a ρ

  abbrev m : ℤ
  m = product k c

  abbrev f : ℤ
  f = quotient m d

  abbrev pub scale_of : ℤ
  scale_of = quotient (product R f) (product N c)

  -- what the code has over d
  abbrev pub over : ℤ
  over = product (product k (quotient R a)) ρ

  r_n : Ratio N a ρ 1
  r_n = ratio_div a ρ (le_trans (lit≤ tt) ρ_low)

  N_high : Within N (8000000 * unit)
  N_high = w_up _ (lit≤ tt) (ratio_high (9 * unit / 10) r_n a_high ρ_low (lit< tt))

  N_low : 2900000 * unit ≤ nat_abs N
  N_low = go (nat_abs N) (le_trans (lit≤ {m = 2900000 * unit + 1} tt) (ratio_low (6000000 * unit) (2 * unit) r_n a_low ρ_high.within (lit< tt)))
    where
      go : (x : ℕ) → 2900000 * unit + 1 ≤ x + 1 → 2900000 * unit ≤ x
      go x h = omega arith

  P_high : Within (product N c) (9000000 * unit)
  P_high = w_up _ (lit≤ tt) (product_high N_high c_high)

  P_low : 1400000 * unit ≤ nat_abs (product N c)
  P_low = go (nat_abs (product N c)) (le_trans (lit≤ {m = 1400000 * unit + 1} tt) (product_low N c N_low c_low))
    where
      go : (x : ℕ) → 1400000 * unit + 1 ≤ x + 1 → 1400000 * unit ≤ x
      go x h = omega arith

  f_high : Within f (2 * unit)
  f_high = w_up _ (lit≤ tt) (ratio_high (17 * unit / 10) (ratio_div m d (le_trans (lit≤ tt) d_low)) (product_high k_high c_high) d_low (lit< tt))

  r_w : Ratio scale_of (product R f) (product N c) 1
  r_w = ratio_div (product R f) (product N c) (le_trans (lit≤ tt) P_low)

  pub scale_high : Within scale_of (11 * unit)
  scale_high = w_up _ (lit≤ tt) (ratio_high (1400000 * unit) r_w (product_high R_high f_high) P_low (lit< tt))

  times : {x y : ℕ} → x ≤ y → 1 * x ≤ y
  times h = omega arith

  scale_gap : Within (scale_of *ℤ d -ℤ over *ℤ pos unit) (80 * unit)
  scale_gap =
      w_up _ (lit≤ tt)
      (w_div_by (scale_of *ℤ d -ℤ over *ℤ pos unit) (c *ℤ pos unit *ℤ a) (unit / 2 * unit * (6000000 * unit))
      (w_same _ (scale_id (pos unit) a R c ρ N (product N c) f (product R f) scale_of m d k (quotient R a) (product k (quotient R a)) over)
      (w_add (w_add (w_sub (w_sub (w_add (w_add
      (w_mul (w_mul (w_mul R_high (w_num unit)) ρ_high) (w_sub (w_up (3 * unit) (times d_high.within) (ratio_div m d (le_trans (lit≤ tt) d_low)).gap) (product_rest k c)))
      (w_mul (w_mul (w_mul ρ_high d_high) (w_num unit)) (w_sub (w_up (9000000 * unit) (times P_high.within) r_w.gap) (product_rest R f))))
      (w_mul (w_mul (w_mul ρ_high d_high) scale_high) (product_rest N c)))
      (w_mul (w_mul (w_mul scale_high c_high) d_high) (w_up (2 * unit) (times ρ_high.within) r_n.gap)))
      (w_mul (w_mul (w_mul c_high k_high) ρ_high) (w_up (7000000 * unit) (times a_high.within) (ratio_div R a (le_trans (lit≤ tt) a_low)).gap)))
      (w_mul (w_mul (w_mul c_high ρ_high) a_high) (product_rest k (quotient R a))))
      (w_mul (w_mul (w_mul c_high (w_num unit)) a_high) (product_rest (product k (quotient R a)) ρ))))
      divisor (lit< tt))
    where
      divisor : unit / 2 * unit * (6000000 * unit) ≤ nat_abs (c *ℤ pos unit *ℤ a)
      divisor = le_trans (mul-le-mul (mul-le-mul c_low (le_refl unit)) a_low) (le_of_eq (sym (abs_mul (c *ℤ pos unit) a ∙ ap (λ z. z * nat_abs a) (abs_mul c (pos unit)))))

  pub scale_ratio : Ratio scale_of over d 80
  scale_ratio = record { gap = w_up _ (mul-le-mul_left {m = unit} 80 (le_trans (lit≤ tt) d_low)) scale_gap }

-- ---- times 1/ρ₂, where ρ₂ = √(1 - cos²f·sin²d): a quotient w = x/d times that is x over d·ρ₂
module _ (w x d ρ : ℤ)
    (r : Ratio w x d 80)
    (w_high : Within w (11 * unit)) (x_high : Within x (4 * unit))
    (d_high : Within d (3 * unit)) (d_low : 17 * unit / 10 ≤ nat_abs d)
    (ρ_high : Within ρ (2 * unit)) (ρ_low : 9 * unit / 10 ≤ nat_abs ρ) where
  abbrev inverse : ℤ
  inverse = quotient one ρ

  r2 : Ratio inverse one ρ 1
  r2 = ratio_div one ρ (le_trans (lit≤ tt) ρ_low)

  inverse_high : Within inverse (2 * unit)
  inverse_high = w_up _ (lit≤ tt) (ratio_high (9 * unit / 10) r2 (w_num unit) ρ_low (lit< tt))

  Z_high : Within (product d ρ) (7 * unit)
  Z_high = w_up _ (lit≤ tt) (product_high d_high ρ_high)

  pub Z_low : unit ≤ nat_abs (product d ρ)
  Z_low = go (nat_abs (product d ρ)) (le_trans (lit≤ {m = unit + 1} tt) (product_low d ρ d_low ρ_low))
    where
      go : (z : ℕ) → unit + 1 ≤ z + 1 → unit ≤ z
      go z h = omega arith

  times' : {p q : ℕ} → p ≤ q → 1 * p ≤ q
  times' h = omega arith

  both_gap : Within (product w inverse *ℤ product d ρ -ℤ x *ℤ pos unit) (1100 * unit)
  both_gap =
      w_up _ (lit≤ tt)
      (w_div (product w inverse *ℤ product d ρ -ℤ x *ℤ pos unit) (unit * unit) _ (lit< tt)
      (w_same _ (both_id (pos unit) w inverse d ρ x (product w inverse) (product d ρ))
      (w_sub (w_sub (w_add
      (w_mul (w_mul x_high (w_num unit)) (w_up (2 * unit) (times' ρ_high.within) r2.gap))
      (w_mul (w_up (80 * (3 * unit)) (mul-le-mul_left 80 d_high.within) r.gap) (w_mul inverse_high ρ_high)))
      (w_mul (product_rest w inverse) (w_mul Z_high (w_num unit))))
      (w_mul (product_rest d ρ) (w_mul w_high inverse_high)))))

  pub both_ratio : Ratio (product w inverse) x (product d ρ) 1100
  both_ratio = record { gap = w_up _ (mul-le-mul_left {m = unit} 1100 Z_low) both_gap }
