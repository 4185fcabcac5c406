-- √(1 - x) of a small number x by its series to x⁴. That r² is near 1 - x is a polynomial identity, of which x⁵·7/128 and less is left; then the law of roots
-- gives how near r is to the definition's whole-number root. Assumes nothing.
use Rattle.std.specs.Prelude.{◌≡◌, refl, [], ◌∷◌, ℕ, ◌+◌, ◌*◌, ◌-◌, ◌/◌, ◌^◌, ◌<◌, ◌≤◌, T, leb, ltb, ℤ, ◌+ℤ◌, ◌-ℤ◌, ◌*ℤ◌, nat_abs, ◌≤ℤ◌}
use Rattle.std.proofs.Common.{sym, ap, subst, le_trans, mul-le-mul, arith, leb→le, lit<, lit≤}
use Rattle.std.proofs.Math.IntN.{pos}
use Rattle.arith.specs.Laws.Diff.{◌⊖◌, Z·ℕ, lin}
use Rattle.arith.specs.Laws.Order.{abs_nonneg}
use Rattle.arith.specs.Laws.Ring.{ring, Z·ring, by_ring, ev_num}
use Rattle.arith.specs.Within.{Within}
use Rattle.arith.specs.Laws.Within.{w_num, w_add, w_mul}
use Rattle.rules.specs.Scaled.{unit, one, sqrt, root}
use Rattle.fixed.specs.Worked.{S60, mul60, ser60}
use Rattle.fixed.specs.Nearness.{Near60, Fixed}
use Rattle.fixed.specs.Relations.{Mul60}
use Rattle.fixed.proofs.Laws.Words.{mul60_is}
use Rattle.fixed.proofs.Laws.Loops.{mul_half, mul_small}
use Rattle.fixed.proofs.Laws.Bounds.{w_div, w_same, w_pos, w_rest, w_from}
use Rattle.fixed.specs.Laws.Products.{off_at, most}
use Rattle.fixed.proofs.Laws.Products.{fix_const, fix_sub, near_most, mul_rest}
use Rattle.fixed.specs.Laws.Roots.{root_e}
use Rattle.fixed.proofs.Laws.Roots.{near_root, sqrt_rest}
use Rattle.fixed_scale.specs.Root.{RootIs, S4, S_of, Step, left, poly, root60, root_e60, root_table, series_d, square_d, σ}

square_id : (σ x : ℤ) → poly σ x *ℤ poly σ x -ℤ S4 (S_of σ) *ℤ S4 (S_of σ) *ℤ (S_of σ *ℤ (S_of σ -ℤ x)) ≡ left σ x
square_id σ x = ring (σ ∷ x ∷ []) λ ρ e1 e2. simp (Z·ring, ev_num ρ, e1, e2) (by_ring _ _ _ refl)

-- the four products, each with what it loses
series_id : (S x c1 c2 c3 c4 m0 m1 m2 m3 : ℤ)
    → S *ℤ S *ℤ S *ℤ (x *ℤ (c1 +ℤ m1) -ℤ m0 *ℤ S) +ℤ S *ℤ S *ℤ x *ℤ (x *ℤ (c2 +ℤ m2) -ℤ m1 *ℤ S) +ℤ S *ℤ x *ℤ x *ℤ (x *ℤ (c3 +ℤ m3) -ℤ m2 *ℤ S) +ℤ x *ℤ x *ℤ x *ℤ (x *ℤ c4 -ℤ m3 *ℤ S)
    ≡ S *ℤ S *ℤ S *ℤ S *ℤ (S -ℤ m0) -ℤ (S *ℤ S *ℤ S *ℤ S *ℤ S -ℤ x *ℤ c1 *ℤ S *ℤ S *ℤ S -ℤ x *ℤ x *ℤ c2 *ℤ S *ℤ S -ℤ x *ℤ x *ℤ x *ℤ c3 *ℤ S -ℤ x *ℤ x *ℤ x *ℤ x *ℤ c4)
series_id S x c1 c2 c3 c4 m0 m1 m2 m3 =
    ring (S ∷ x ∷ c1 ∷ c2 ∷ c3 ∷ c4 ∷ m0 ∷ m1 ∷ m2 ∷ m3 ∷ []) λ ρ e1 e2 e3 e4 e5 e6 e7 e8 e9 e10. simp (Z·ring, e1, e2, e3, e4, e5, e6, e7, e8, e9, e10) (by_ring _ _ _ refl)

-- r², from how far S⁴·r is from the polynomial p
parts_id : (Q r w p : ℤ) → (p *ℤ p -ℤ Q *ℤ Q *ℤ w) +ℤ (Q *ℤ r -ℤ p) *ℤ (p +ℤ Q *ℤ r) ≡ (r *ℤ r -ℤ w) *ℤ (Q *ℤ Q)
parts_id Q r w p = ring (Q ∷ r ∷ w ∷ p ∷ []) λ ρ e1 e2 e3 e4. simp (Z·ring, e1, e2, e3, e4) (by_ring _ _ _ refl)

lost : {x b m : ℕ} → Mul60 x b m → Within (pos x *ℤ pos b -ℤ pos m *ℤ pos S60) (2 * S60)
lost {x} {b} {m} p = w_rest (x * b) (m * S60) (2 * S60) p.lo (mul_rest p)

minus_is : (a b : ℕ) → b ≤ a → pos (a - b) ≡ pos a -ℤ pos b
minus_is a b h = simp Z·ℕ (omega arith)

module _ {x h m0 m1 m2 m3 : ℕ} (hx : x ≤ h)
    (p0 : Mul60 x (576460752303423488 + m1) m0)
    (p1 : Mul60 x (144115188075855872 + m2) m1)
    (p2 : Mul60 x (72057594037927936 + m3) m2)
    (p3 : Mul60 x 45035996273704960 m3)
    (hm : m0 ≤ S60) (hs : x ≤ S60) where
  abbrev S : ℤ
  S = pos S60

  wx : Within (pos x) h
  wx = w_pos hx

  series_gap : Within (S4 S *ℤ (S -ℤ pos m0) -ℤ poly (pos σ) (pos x)) (series_d h)
  unfolding series_d
  series_gap = w_same _ (series_id S (pos x) (pos 576460752303423488) (pos 144115188075855872) (pos 72057594037927936) (pos 45035996273704960) (pos m0) (pos m1) (pos m2) (pos m3))
      (w_add (w_add (w_add
      (w_mul (w_num (S60 * S60 * S60)) (lost p0))
      (w_mul (w_mul (w_num (S60 * S60)) wx) (lost p1)))
      (w_mul (w_mul (w_mul (w_num S60) wx) wx) (lost p2)))
      (w_mul (w_mul (w_mul wx wx) wx) (lost p3)))

  r_high : Within (S -ℤ pos m0) S60
  r_high = record { within = simp Z·ℕ (omega arith) }

  r_small : Within (S4 S *ℤ (S -ℤ pos m0)) (S60 * S60 * S60 * S60 * S60)
  r_small = w_mul (w_num (S60 * S60 * S60 * S60)) r_high

  poly_small : Within (poly (pos σ) (pos x)) (S60 * S60 * S60 * S60 * S60 + series_d h)
  poly_small = w_from r_small series_gap

  left_small : Within (left (pos σ) (pos x)) (σ * σ * (1879048192 * (h * h * h * h * h) * (σ * σ * σ) + 3670016 * (h * h * h * h * h * h) * (σ * σ) + 10240 * (h * h * h * h * h * h * h) * σ + 25 * (h * h * h * h * h * h * h * h)))
  left_small =
      let w2 = w_mul wx wx in
      let w3 = w_mul w2 wx in
      let w4 = w_mul w3 wx in
      let w5 = w_mul w4 wx in
      let w6 = w_mul w5 wx in
      let w7 = w_mul w6 wx in
      let w8 = w_mul w7 wx in
      w_mul (w_num (σ * σ))
      (w_add (w_add (w_add
      (w_mul (w_mul (w_num 1879048192) w5) (w_num (σ * σ * σ)))
      (w_mul (w_mul (w_num 3670016) w6) (w_num (σ * σ))))
      (w_mul (w_mul (w_num 10240) w7) (w_num σ)))
      (w_mul (w_num 25) w8))

  square_gap : Within ((S -ℤ pos m0) *ℤ (S -ℤ pos m0) -ℤ S *ℤ (S -ℤ pos x)) (square_d h)
  unfolding square_d
  square_gap =
      w_div ((S -ℤ pos m0) *ℤ (S -ℤ pos m0) -ℤ S *ℤ (S -ℤ pos x)) (S60 * S60 * S60 * S60 * (S60 * S60 * S60 * S60)) _ (lit< tt)
      (w_same _ (parts_id (S4 S) (S -ℤ pos m0) (S *ℤ (S -ℤ pos x)) (poly (pos σ) (pos x)))
      (w_add (w_same _ (sym (square_id (pos σ) (pos x))) left_small) (w_mul series_gap (w_add poly_small r_small))))

  pub root_square : Within (pos (S60 - m0) *ℤ pos (S60 - m0) -ℤ pos (S60 - x) *ℤ pos S60) (square_d h)
  root_square = subst (λ r. Within (r *ℤ r -ℤ pos (S60 - x) *ℤ pos S60) (square_d h)) (sym (minus_is S60 m0 hm))
      (subst (λ w. Within ((S -ℤ pos m0) *ℤ (S -ℤ pos m0) -ℤ w *ℤ pos S60) (square_d h)) (sym (minus_is S60 x hs)) (w_same _ (swap (S -ℤ pos m0) S (S -ℤ pos x)) square_gap))
    where
      swap : (r s w : ℤ) → r *ℤ r -ℤ s *ℤ w ≡ r *ℤ r -ℤ w *ℤ s
      swap r s w = ring (r ∷ s ∷ w ∷ []) λ ρ e1 e2 e3. simp (Z·ring, e1, e2, e3) (by_ring _ _ _ refl)

step : (x b : ℕ) → 2 * x ≤ S60 → b ≤ S60 → Step x b (mul60 x b)
step x b h k = let m = mul60_is x b (omega arith) (omega arith) in record { is = m; half = mul_half m h }

no_more : (x : ℕ) → 2 * x ≤ S60 → mul60 x 0 ≡ 0
no_more x h = let s = (step x 0 h (omega arith)).half in omega arith

series_is : (x : ℕ) → 2 * x ≤ S60 → ser60 x root_table ≡ 576460752303423488 + mul60 x (144115188075855872 + mul60 x (72057594037927936 + mul60 x 45035996273704960))
unfolding ser60
series_is x h =
    ap (λ t. 576460752303423488 + mul60 x (144115188075855872 + mul60 x (72057594037927936 + mul60 x t))) (ap (λ t. 45035996273704960 + t) (no_more x h))

build : {x h m0 m1 m2 m3 : ℕ}
    → x ≤ h
    → 2 * h ≤ S60
    → Step x 45035996273704960 m3
    → Step x (72057594037927936 + m3) m2
    → Step x (144115188075855872 + m2) m1
    → Step x (576460752303423488 + m1) m0
    → m0 ≤ x
    → RootIs x h (S60 - m0)
build hx hh s3 s2 s1 s0 l = record {
  square = root_square hx s0.is s1.is s2.is s3.is (omega arith) (omega arith);
  low = omega arith;
  high = omega arith;
}

pub root60_is : (x h : ℕ) → x ≤ h → 2 * h ≤ S60 → RootIs x h (root60 x)
unfolding root60
root60_is x h hx hh =
    let hs : 2 * x ≤ S60 = omega arith in
    let m3 = mul60 x 45035996273704960 in
    let s3 = step x 45035996273704960 hs (lit≤ tt) in
    let b3 = s3.half in
    let m2 = mul60 x (72057594037927936 + m3) in
    let s2 = step x (72057594037927936 + m3) hs (omega arith) in
    let b2 = s2.half in
    let m1 = mul60 x (144115188075855872 + m2) in
    let s1 = step x (144115188075855872 + m2) hs (omega arith) in
    let b1 = s1.half in
    let s0 = step x (576460752303423488 + m1) hs (omega arith) in
    subst (λ t. RootIs x h (S60 - mul60 x t)) (sym (series_is x hs)) (build hx hh s3 s2 s1 s0 (mul_small s0.is (omega arith)))

not_negative : (X : ℤ) → nat_abs X ≤ unit → pos 0 ≤ℤ (one -ℤ X)
not_negative X = lin (X ∷ []) λ u v e. simp (Z·ℕ, e) (omega arith)

at_most_two : (X : ℤ) → nat_abs X ≤ unit → nat_abs (one -ℤ X) ≤ 2 * unit
at_most_two X = lin (X ∷ []) λ u v e. simp (Z·ℕ, e) (omega arith)

-- the root of a natural number
by_size : {r w e d lo : ℕ} (W : ℕ)
    → Within (pos r *ℤ pos r -ℤ pos w *ℤ pos S60) d
    → Near60 w (pos W) e
    → W ≤ 2 * unit
    → lo ≤ r
    → T (ltb 0 (lo * unit))
    → Near60 r (sqrt (pos W)) (root_e d e (2 * unit) lo)
unfolding sqrt
by_size {d = d} {lo = lo} W hr n h l t = near_root (root (W * unit)) d (2 * unit) lo hr n (sqrt_rest W (2 * unit) (mul-le-mul h (lit≤ {m = unit} {n = 2 * unit} tt))) l t

pub fix_root : {x : ℕ} {X : ℤ} {e lo hi : ℕ}
    → Fixed x X e lo hi
    → T (leb (2 * hi) S60)
    → T (leb (most hi e) unit)
    → T (ltb 0 ((S60 - hi) * unit))
    → Fixed (root60 x) (sqrt (one -ℤ X)) (root_e60 e hi) (S60 - hi) S60
fix_root {x} {X} {e} {lo} {hi} f t1 t2 t3 =
    let r = root60_is x hi f.high (leb→le (2 * hi) S60 t1) in
    let w = fix_sub (fix_const S60 one) f (small x hi f.high (leb→le (2 * hi) S60 t1)) in
    let m = near_most f.near f.high in
    let h = le_trans m.within (leb→le (most hi e) unit t2) in
    let q = abs_nonneg (one -ℤ X) (not_negative X h) in
    record {
      near = subst (λ z. Near60 (root60 x) (sqrt z) (root_e60 e hi)) q
          (by_size (nat_abs (one -ℤ X)) r.square (subst (λ z. Near60 (S60 - x) z (off_at S60 (pos S60) one + e)) (sym q) w.near) (at_most_two X h) r.low t3);
      low = r.low;
      high = r.high;
    }
  where
    small : (x hi : ℕ) → x ≤ hi → 2 * hi ≤ S60 → x ≤ S60
    small x hi a b = omega arith
