-- The length of the polynomial's derivative, times 0.000002: from its first part f and the slope s/f, as F·(1 + slope²/2). What is left is F·slope⁴/8 and the
-- definition's floors. Assumes nothing: the two numbers come from f64, and how near they are is for the caller to show.
use Rattle.std.specs.Prelude.{Bool, ◌≡◌, refl, [], ◌∷◌, ℕ, zero, suc, ◌+◌, ◌*◌, ◌-◌, ◌/◌, ◌^◌, ◌<◌, ◌≤◌, ℤ, ◌+ℤ◌, ◌-ℤ◌, ◌*ℤ◌, nat_abs, ◌≤ℤ◌}
use Rattle.std.proofs.Common.{sym, le_of_eq, le_refl, mul-le-mul, le_of_mul-le-mul_right, lit<, lit≤}
use Rattle.std.proofs.Math.Path.{ap, subst}
use Rattle.std.proofs.Math.Nat.{le_trans}
use native.Mathlib.Omega.{arith}
use Rattle.std.proofs.Math.IntN.{pos, neg_ℤ}
use Rattle.arith.specs.Laws.Diff.{◌⊖◌, Z·ℕ, lin}
use Rattle.arith.specs.Laws.Order.{abs_mul, abs_nonneg, nn_add, sq_nonneg, mul_nonneg, nn_num}
use Rattle.arith.specs.Laws.Ring.{ring, Z·ring, by_ring, ev_num}
use Rattle.arith.specs.Within.{Within}
use Rattle.arith.specs.Laws.Within.{w_num, w_add, w_sub, w_neg, w_mul, w_le}
use Rattle.rules.specs.Scaled.{unit, product, quotient, sqrt, root, Pair, pair_length}
use Rattle.rules.specs.Projection.{two_millionths, polynomial_scale}
use Rattle.fixed.specs.Worked.{S60, mul60}
use Rattle.fixed.specs.Nearness.{Fixed, Ratio, turned}
use Rattle.fixed.proofs.Laws.Bounds.{w_div, w_same, w_up, w_from, triangle}
use Rattle.fixed.proofs.Laws.Products.{near_most, fix_add, fix_mul, fix_le, fix_shift, near_positive, product_rest, product_nonneg}
use Rattle.fixed.proofs.Laws.Quotients.{near_least, ratio_div, fix_twice, fix_halved, fix_half}
use Rattle.fixed.proofs.Laws.Roots.{sqrt_rest, sqrt_high}
use Rattle.fixed.proofs.Laws.Turned.{fix_square_turned, within_turned}
use Rattle.fixed.specs.Laws.Numbers.{numbers}
use Rattle.fixed_scale.proofs.Laws.Ratios.{product_high, w_div_by}
use Rattle.fixed_scale.specs.Length.{M, length60}

few : (y : ℕ) → 98 * unit / 100 ≤ y → y ≤ 1 → ⊥
few y h k = omega arith

above : (x : ℕ) → 0 < suc x
above x = omega arith

not_none : (x y : ℕ) → 98 * unit / 100 ≤ y → y * unit ≤ x * (2 * 10 ^ 18) + 1 * unit → 0 < x
not_none zero y h k = absurd (few y h (le_of_mul-le-mul_right k (lit< tt)))
not_none (suc x) y h k = above x

sqrt_nonneg : (W : ℕ) → pos 0 ≤ℤ sqrt (pos W)
unfolding sqrt
sqrt_nonneg W = nn_num (root (W * unit))

-- (2F + F·σ²)² − (2L)², with all denominators multiplied out: what each step of the definition loses
length_id : (U M f s l L F σ g p : ℤ)
    → F *ℤ F *ℤ (σ *ℤ σ *ℤ (σ *ℤ σ))
    -ℤ (F *ℤ (σ *ℤ σ -ℤ g *ℤ U) +ℤ (F *ℤ g -ℤ p *ℤ U) *ℤ U) *ℤ (F *ℤ (pos 2 *ℤ (U *ℤ U) +ℤ σ *ℤ σ) +ℤ (pos 2 *ℤ F +ℤ p) *ℤ (U *ℤ U))
    -ℤ pos 4 *ℤ (U *ℤ U) *ℤ (f *ℤ M -ℤ F *ℤ U) *ℤ (F *ℤ U +ℤ f *ℤ M)
    -ℤ pos 4 *ℤ (σ *ℤ (f *ℤ M -ℤ F *ℤ U) -ℤ (σ *ℤ f -ℤ s *ℤ U) *ℤ M) *ℤ (s *ℤ U *ℤ M +ℤ σ *ℤ F *ℤ U)
    -ℤ pos 4 *ℤ (U *ℤ U) *ℤ (M *ℤ M) *ℤ (l *ℤ l -ℤ (f *ℤ f +ℤ s *ℤ s))
    +ℤ pos 4 *ℤ (U *ℤ U) *ℤ (l *ℤ M -ℤ L *ℤ U) *ℤ (l *ℤ M +ℤ L *ℤ U)
    ≡ ((pos 2 *ℤ F +ℤ p) -ℤ pos 2 *ℤ L) *ℤ ((pos 2 *ℤ F +ℤ p) +ℤ pos 2 *ℤ L) *ℤ (U *ℤ U *ℤ (U *ℤ U))
length_id U M f s l L F σ g p =
    ring (U ∷ M ∷ f ∷ s ∷ l ∷ L ∷ F ∷ σ ∷ g ∷ p ∷ []) λ ρ e1 e2 e3 e4 e5 e6 e7 e8 e9 e10. simp (Z·ring, ev_num ρ, e1, e2, e3, e4, e5, e6, e7, e8, e9, e10) (by_ring _ _ _ refl)

module _ (f s : ℤ) (F_high : Within (product f two_millionths) (102 * unit / 100)) (F_low : 98 * unit / 100 ≤ nat_abs (product f two_millionths))
    (σ_high : Within (quotient s f) (31 * unit / 100000)) where
  abbrev F : ℤ
  F = product f two_millionths

  abbrev σ : ℤ
  σ = quotient s f

  F_rest : Within (f *ℤ pos M -ℤ F *ℤ pos unit) (1 * unit)
  F_rest = product_rest f two_millionths

  f_high : Within f (520000 * unit)
  f_high = w_up _ (lit≤ tt) (w_div f M _ (lit< tt) (w_same _ (law (f *ℤ pos M) (F *ℤ pos unit)) (w_add F_rest (w_mul F_high (w_num unit)))))
    where
      law : (x y : ℤ) → (x -ℤ y) +ℤ y ≡ x
      law x y = ring (x ∷ y ∷ []) λ ρ ex ey. simp (Z·ring, ex, ey) (by_ring _ _ _ refl)

  f_low : 0 < nat_abs f
  f_low = not_none (nat_abs f) (nat_abs F) F_low
      (le_trans (le_of_eq (sym (abs_mul F (pos unit))))
      (le_trans (triangle (f *ℤ pos M) (F *ℤ pos unit) (1 * unit) F_rest.within).1 (more (le_of_eq (abs_mul f (pos M))))))
    where
      more : {a b : ℕ} → a ≤ b → a + 1 * unit ≤ b + 1 * unit
      more h = omega arith

  σ_ratio : Ratio σ s f 1
  σ_ratio = ratio_div s f f_low

  σ_rest : Within (σ *ℤ f -ℤ s *ℤ pos unit) (520000 * unit)
  σ_rest = w_up _ (go f_high.within) σ_ratio.gap
    where
      go : {x y : ℕ} → x ≤ y → 1 * x ≤ y
      go h = omega arith

  s_high : Within s (170 * unit)
  s_high = w_up _ (lit≤ tt) (w_div s unit _ (lit< tt) (w_from (w_mul σ_high f_high) σ_rest))

  -- the length
  sum : ℤ
  sum = product f f +ℤ product s s

  sum_nonneg : pos 0 ≤ℤ sum
  unfolding sum
  sum_nonneg = nn_add (product_nonneg f f (sq_nonneg f)) (product_nonneg s s (sq_nonneg s))

  sum_is : pos (nat_abs sum) ≡ sum
  sum_is = abs_nonneg sum sum_nonneg

  sum_high : nat_abs sum * unit ≤ 600000 * unit * (600000 * unit)
  unfolding sum
  sum_high = le_trans (mul-le-mul (w_add (product_high f_high f_high) (product_high s_high s_high)).within (le_refl unit)) (lit≤ tt)

  abbrev l : ℤ
  l = sqrt (pos (nat_abs sum))

  l_high : Within l (600000 * unit)
  l_high = sqrt_high (nat_abs sum) (600000 * unit) sum_high

  l_rest : Within (l *ℤ l -ℤ (f *ℤ f +ℤ s *ℤ s)) (2 * (600000 * unit) + 1 * unit + 1 * unit)
  unfolding sum
  l_rest = w_same _ (law (l *ℤ l) (f *ℤ f) (s *ℤ s) (product f f) (product s s) (pos unit))
      (w_sub (w_sub (w_neg (subst (λ z. Within (z *ℤ pos unit -ℤ l *ℤ l) (2 * (600000 * unit))) sum_is (sqrt_rest (nat_abs sum) (600000 * unit) sum_high))) (product_rest f f)) (product_rest s s))
    where
      law : (ll ff ss p q U : ℤ) → neg_ℤ ((p +ℤ q) *ℤ U -ℤ ll) -ℤ (ff -ℤ p *ℤ U) -ℤ (ss -ℤ q *ℤ U) ≡ ll -ℤ (ff +ℤ ss)
      law ll ff ss p q U = ring (ll ∷ ff ∷ ss ∷ p ∷ q ∷ U ∷ []) λ ρ e1 e2 e3 e4 e5 e6. simp (Z·ring, e1, e2, e3, e4, e5, e6) (by_ring _ _ _ refl)

  abbrev L : ℤ
  L = product l two_millionths

  L_high : Within L (2 * unit)
  L_high = w_up _ (lit≤ tt) (product_high l_high (w_num M))

  abbrev g : ℤ
  g = product σ σ

  abbrev p : ℤ
  p = product F g

  g_high : Within g (unit / 1000000)
  g_high = w_up _ (lit≤ tt) (product_high σ_high σ_high)

  p_high : Within p (unit / 100000)
  p_high = w_up _ (lit≤ tt) (product_high F_high g_high)

  -- 2F + F·σ²
  abbrev Y : ℤ
  Y = pos 2 *ℤ F +ℤ p

  Y_high : Within Y (3 * unit)
  Y_high = w_up _ (lit≤ tt) (w_add (w_mul (w_num 2) F_high) p_high)

  gap : Within ((Y -ℤ pos 2 *ℤ L) *ℤ (Y +ℤ pos 2 *ℤ L) *ℤ (pos unit *ℤ pos unit *ℤ (pos unit *ℤ pos unit))) (10 ^ 130)
  gap =
      let U = w_num unit in
      let UU = w_num (unit * unit) in
      let f_m = w_mul f_high (w_num M) in
      let FU = w_mul F_high U in
      w_up _ (lit≤ tt)
      (w_same _ (length_id (pos unit) (pos M) f s l L F σ g p)
      (w_add (w_sub (w_sub (w_sub (w_sub
      (w_mul (w_mul F_high F_high) (w_mul (w_mul σ_high σ_high) (w_mul σ_high σ_high)))
      (w_mul (w_add (w_mul F_high (product_rest σ σ)) (w_mul (product_rest F g) U)) (w_add (w_mul F_high (w_add (w_mul (w_num 2) UU) (w_mul σ_high σ_high))) (w_mul Y_high UU))))
      (w_mul (w_mul (w_mul (w_num 4) UU) F_rest) (w_add FU f_m)))
      (w_mul (w_mul (w_num 4) (w_sub (w_mul σ_high F_rest) (w_mul σ_rest (w_num M)))) (w_add (w_mul (w_mul s_high U) (w_num M)) (w_mul (w_mul σ_high F_high) U))))
      (w_mul (w_mul (w_mul (w_num 4) UU) (w_num (M * M))) l_rest))
      (w_mul (w_mul (w_mul (w_num 4) UU) (product_rest l two_millionths)) (w_add (w_mul l_high (w_num M)) (w_mul L_high U)))))

  -- where 2F + F·σ² is positive, so is what it is divided by
  module _ (Y_nonneg : pos 0 ≤ℤ Y) (Y_low : unit ≤ nat_abs Y) where
    L_nonneg : pos 0 ≤ℤ L
    L_nonneg = product_nonneg l two_millionths (mul_nonneg l_nonneg (nn_num M))
      where
        l_nonneg : pos 0 ≤ℤ l
        l_nonneg = sqrt_nonneg (nat_abs sum)

    divisor : unit ≤ nat_abs (Y +ℤ pos 2 *ℤ L)
    divisor = le_trans Y_low (go Y L Y_nonneg L_nonneg)
      where
        go : (y z : ℤ) → pos 0 ≤ℤ y → pos 0 ≤ℤ z → nat_abs y ≤ nat_abs (y +ℤ pos 2 *ℤ z)
        go y z = lin (y ∷ z ∷ []) λ u v ey ez. simp (Z·ℕ, ey, ez) (omega arith)

    length_gap : Within (Y -ℤ pos 2 *ℤ L) (10 ^ 10)
    length_gap =
        w_up _ (lit≤ tt)
        (w_div_by (Y -ℤ pos 2 *ℤ L) (Y +ℤ pos 2 *ℤ L) unit
        (w_div ((Y -ℤ pos 2 *ℤ L) *ℤ (Y +ℤ pos 2 *ℤ L)) (unit * unit * (unit * unit)) (10 ^ 130) (lit< tt) gap) divisor (lit< tt))

    length_is : product (sqrt (pos (nat_abs (product f f +ℤ product s s)))) two_millionths ≡ product (sqrt (product f f +ℤ product s s)) two_millionths
    unfolding sum
    length_is = ap (λ z. product (sqrt z) two_millionths) sum_is

    pub scale_gap : Within (Y -ℤ pos 2 *ℤ product (sqrt (product f f +ℤ product s s)) two_millionths) (10 ^ 10)
    unfolding sum
    scale_gap = subst (λ z. Within (Y -ℤ pos 2 *ℤ z) (10 ^ 10)) length_is length_gap

-- ---- the worked length
module _ {F60 slope : ℕ} (q : Bool) (h : Pair)
    (f_f : Fixed F60 (product h.first two_millionths) (300000 * unit) (99 * S60 / 100) (101 * S60 / 100))
    (fσ : Fixed slope (turned q (quotient h.second h.first)) (2000000 * unit) 0 (30 * S60 / 100000)) where
  f_f_high : Within (product h.first two_millionths) (102 * unit / 100)
  unfolding numbers
  f_f_high = w_le (102 * unit / 100) (near_most f_f.near f_f.high) tt

  f_f_low : 98 * unit / 100 ≤ nat_abs (product h.first two_millionths)
  unfolding numbers
  f_f_low = le_trans (lit≤ tt) (near_least f_f.near f_f.low)

  fσ_high : Within (quotient h.second h.first) (31 * unit / 100000)
  unfolding numbers
  fσ_high = within_turned q (quotient h.second h.first) (w_le (31 * unit / 100000) (near_most fσ.near fσ.high) tt)

  double_near : Fixed (2 * length60 F60 slope) (Y h.first h.second f_f_high f_f_low fσ_high) (610000 * unit) (198 * S60 / 100) (203 * S60 / 100)
  unfolding length60 numbers
  double_near =
      subst (λ z. Fixed z (Y h.first h.second f_f_high f_f_low fσ_high) (610000 * unit) (198 * S60 / 100) (203 * S60 / 100)) (both F60 (mul60 F60 (mul60 slope slope) / 2))
      (fix_le (610000 * unit) (198 * S60 / 100) (203 * S60 / 100)
      (fix_add (fix_twice f_f) (fix_halved (fix_mul f_f (fix_square_turned q (quotient h.second h.first) fσ tt) tt tt))) tt tt tt)
    where
      both : (a b : ℕ) → 2 * a + 2 * b ≡ 2 * (a + b)
      both a b = omega arith

  pub length_near : Fixed (length60 F60 slope) (polynomial_scale h) (311000 * unit) (98 * S60 / 100) (102 * S60 / 100)
  unfolding polynomial_scale pair_length numbers
  length_near =
      let y = Y h.first h.second f_f_high f_f_low fσ_high in
      let l = product (sqrt (product h.first h.first +ℤ product h.second h.second)) two_millionths in
      let g = scale_gap h.first h.second f_f_high f_f_low fσ_high (near_positive y double_near.near double_near.low tt) (le_trans (lit≤ tt) (near_least double_near.near double_near.low)) in
      fix_le (311000 * unit) (98 * S60 / 100) (102 * S60 / 100) (fix_half (length60 F60 slope) l (fix_shift (pos 2 *ℤ l) double_near g)) tt tt tt
