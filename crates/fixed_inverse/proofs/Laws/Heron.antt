-- A root by steps of Heron: how far the square of each step is from the number, between which numbers the root lies, and how near it is to the root of a value
-- that the number is near. Only squares are compared, so it does not matter how a root is found. Assumes nothing.
use Rattle.std.specs.Prelude.{◌≡◌, refl, [], ◌∷◌, ℕ, ◌+◌, ◌*◌, ◌-◌, ◌/◌, ◌<◌, ◌≤◌, T, ltb, ℤ, pos, ◌+ℤ◌, ◌-ℤ◌, ◌*ℤ◌, nat_abs}
use Rattle.std.proofs.Common.{sym, le_trans, le_of_eq, le-div_iff_mul-le, mul-le-mul, mul-le-mul_left, mul-le-mul_right, arith, ltb→lt, lit<}
use Rattle.std.proofs.Math.Decide.{dec_le}
use Rattle.arith.specs.Laws.Diff.{◌⊖◌, Z·ℕ}
use Rattle.arith.specs.Laws.Order.{abs_mul}
use Rattle.arith.specs.Laws.Ring.{ring, Z·ring, by_ring, ev_num}
use Rattle.arith.specs.Within.{Within}
use Rattle.arith.specs.Laws.Within.{w_num, w_add, w_sub, w_mul}
use Rattle.rules.specs.Scaled.{unit}
use Rattle.fixed.specs.Worked.{S60}
use Rattle.fixed.specs.Nearness.{Near60}
use Rattle.fixed.specs.Relations.{Quot60}
use Rattle.fixed.proofs.Laws.Bounds.{w_div, w_same, w_up, w_pos, w_rest}
use Rattle.fixed_inverse.specs.Laws.Heron.{Squares, gap_h, heron_e, root_e, root_x}

gap_core : (g s d lo : ℕ) → 0 < lo → lo ≤ s → g * s ≤ d + 9 * s → g ≤ d / lo + 9
gap_core g s d lo h l k = go (dec_le 9 g)
  where
    go : Dec (9 ≤ g) → g ≤ d / lo + 9
    go (no n) = omega arith
    go (yes y) =
        let e : g ≡ (g - 9) + 9 = omega arith in
        let f : g - 9 ≤ d / lo = (le-div_iff_mul-le h).1 (le_trans (mul-le-mul_left (g - 9) l) (fin (g - 9) (rw e at k))) in
        omega arith
      where
        fin : (x : ℕ) → (x + 9) * s ≤ d + 9 * s → x * s ≤ d
        fin x a = omega arith

gap_law : {w s q d lo : ℕ} → Squares s w d → Quot60 w s q → 0 < lo → lo ≤ s → Within (pos s -ℤ pos q) (gap_h d lo)
unfolding gap_h
gap_law {w} {s} {q} {d} {lo} n f h l = record { within = gap_core (nat_abs (pos s -ℤ pos q)) s d lo h l (le_trans (le_of_eq (sym (abs_mul (pos s -ℤ pos q) (pos s)))) (w_same _ (law (pos s) (pos q) (pos w) (pos S60)) (w_add n.gap (w_rest (w * S60) (q * s) (9 * s) f.lo (go (w * S60) f.hi)))).within) }
  where
    go : (x : ℕ) → x < (q + 9) * s → x ≤ q * s + 9 * s
    go x k = omega arith

    law : (s q w S : ℤ) → (s *ℤ s -ℤ w *ℤ S) +ℤ (w *ℤ S -ℤ q *ℤ s) ≡ (s -ℤ q) *ℤ s
    law s q w S = ring (s ∷ q ∷ w ∷ S ∷ []) λ ρ e1 e2 e3 e4. simp (Z·ring, e1, e2, e3, e4) (by_ring _ _ _ refl)

pub heron : {w s q r d : ℕ} (lo hi : ℕ) → Squares s w d → Quot60 w s q → r ≡ (s + q) / 2 → 0 < lo → lo ≤ s → s ≤ hi → Squares r w (heron_e d lo hi)
unfolding heron_e
heron {w} {s} {q} {r} {d} lo hi n f e h l k = record {
  gap = w_div (pos r *ℤ pos r -ℤ pos w *ℤ pos S60) 4 _ (lit< tt)
      (w_same _ (law (pos s) (pos q) (pos r) (pos w) (pos S60))
      (w_sub (w_sub (w_mul g g) (w_mul (w_num 4) (w_up (9 * hi) (mul-le-mul_left 9 k) (w_rest (w * S60) (q * s) (9 * s) f.lo (go (w * S60) f.hi))))) (w_mul (w_rest (s + q) (2 * r) 1 (half_low e) (half_high e)) (w_pos (sum g.within)))));
}
  where
    g : Within (pos s -ℤ pos q) (gap_h d lo)
    g = gap_law n f h l

    go : (x : ℕ) → x < (q + 9) * s → x ≤ q * s + 9 * s
    go x a = omega arith

    half_low : r ≡ (s + q) / 2 → 2 * r ≤ s + q
    half_low a = omega arith

    half_high : r ≡ (s + q) / 2 → s + q ≤ 2 * r + 1
    half_high a = omega arith

    above : (s q x : ℕ) → nat_abs (pos s -ℤ pos q) ≤ x → q ≤ s + x
    above s q x = simp Z·ℕ (λ a. omega arith)

    sum : nat_abs (pos s -ℤ pos q) ≤ gap_h d lo → s + q + 2 * r ≤ 2 * (2 * hi + gap_h d lo)
    sum a = let b : q ≤ s + gap_h d lo = above s q (gap_h d lo) a in let c : 2 * r ≤ s + q = half_low e in omega arith

    law : (s q r w S : ℤ) → (s -ℤ q) *ℤ (s -ℤ q) -ℤ pos 4 *ℤ (w *ℤ S -ℤ q *ℤ s) -ℤ ((s +ℤ q) -ℤ pos 2 *ℤ r) *ℤ (s +ℤ q +ℤ pos 2 *ℤ r) ≡ (r *ℤ r -ℤ w *ℤ S) *ℤ pos 4
    law s q r w S = ring (s ∷ q ∷ r ∷ w ∷ S ∷ []) λ ρ e1 e2 e3 e4 e5. simp (Z·ring, ev_num ρ, e1, e2, e3, e4, e5) (by_ring _ _ _ refl)

-- ---- the bounds of a root, from those of its square
apart_low : (x y d : ℕ) → nat_abs (pos x -ℤ pos y) ≤ d → (y ≤ x + d) × (x ≤ y + d)
apart_low x y d = simp Z·ℕ (λ a. omega arith)

pub root_low : {r w d : ℕ} (lo wl : ℕ) → Squares r w d → wl ≤ w → T (ltb (lo * lo + d) (wl * S60)) → lo ≤ r
root_low {r} {w} {d} lo wl n h t = go (dec_le lo r)
  where
    go : Dec (lo ≤ r) → lo ≤ r
    go (yes k) = k
    go (no k) = absurd (clash (r * r) (lo * lo) (w * S60) (wl * S60) (mul-le-mul (omega arith) (omega arith)) (mul-le-mul_right S60 h) (apart_low (r * r) (w * S60) d n.gap.within).0 (ltb→lt (lo * lo + d) (wl * S60) t))
      where
        clash : (a b x y : ℕ) → a ≤ b → y ≤ x → x ≤ a + d → b + d < y → ⊥
        clash a b x y p q u v = omega arith

pub root_high : {r w d : ℕ} (hi wh : ℕ) → Squares r w d → w ≤ wh → T (ltb (wh * S60 + d) (hi * hi)) → r ≤ hi
root_high {r} {w} {d} hi wh n h t = go (dec_le r hi)
  where
    go : Dec (r ≤ hi) → r ≤ hi
    go (yes k) = k
    go (no k) = absurd (clash (r * r) (hi * hi) (w * S60) (wh * S60) (mul-le-mul (omega arith) (omega arith)) (mul-le-mul_right S60 h) (apart_low (r * r) (w * S60) d n.gap.within).1 (ltb→lt (wh * S60 + d) (hi * hi) t))
      where
        clash : (a b x y : ℕ) → b ≤ a → x ≤ y → a ≤ x + d → y + d < b → ⊥
        clash a b x y p q u v = omega arith

-- ---- a root against the root of a value that is near
root_id : (S U r w R W : ℤ) → (U *ℤ U) *ℤ (r *ℤ r -ℤ w *ℤ S) +ℤ (U *ℤ S) *ℤ (w *ℤ U -ℤ W *ℤ S) +ℤ (S *ℤ S) *ℤ (W *ℤ U -ℤ R *ℤ R) ≡ (r *ℤ U -ℤ R *ℤ S) *ℤ (r *ℤ U +ℤ R *ℤ S)
root_id S U r w R W = ring (S ∷ U ∷ r ∷ w ∷ R ∷ W ∷ []) λ ρ e1 e2 e3 e4 e5 e6. simp (Z·ring, e1, e2, e3, e4, e5, e6) (by_ring _ _ _ refl)

-- |x − y|·(x + y) ≤ X with x ≥ L: first |x − y| ≤ X / L, so that y ≥ L − X / L, and x + y is nearly 2·L
twice_core : (x y L X : ℕ) → 0 < L → L ≤ x → 0 < 2 * L - X / L → nat_abs (pos x -ℤ pos y) * (x + y) ≤ X → nat_abs (pos x -ℤ pos y) ≤ X / (2 * L - X / L)
twice_core x y L X h_l hx h2 k = go (nat_abs (pos x -ℤ pos y)) (X / L) h2 (far x y) ((le-div_iff_mul-le h_l).1 (le_trans (mul-le-mul_left (nat_abs (pos x -ℤ pos y)) (omega arith)) k)) k
  where
    far : (x y : ℕ) → x ≤ y + nat_abs (pos x -ℤ pos y)
    far x y = simp Z·ℕ (omega arith)

    go : (g b : ℕ) → 0 < 2 * L - b → x ≤ y + g → g ≤ b → g * (x + y) ≤ X → g ≤ X / (2 * L - b)
    go g b p a c d = (le-div_iff_mul-le p).1 (le_trans (mul-le-mul_left g (omega arith)) d)

pub near_root : {r w d e : ℕ} {W : ℤ} (R h lo : ℕ) → Squares r w d → Near60 w W e → Within (W *ℤ pos unit -ℤ pos R *ℤ pos R) h → lo ≤ r → T (ltb 0 (lo * unit)) → T (ltb 0 (2 * (lo * unit) - root_x d e h / (lo * unit))) → Near60 r (pos R) (root_e d e h lo)
unfolding root_e root_x
near_root {r} {w} {d} {e} {W} R h lo hr hw h_r hl t t2 = record {
  gap = record {
    within = twice_core (r * unit) (R * S60) (lo * unit) (root_x d e h) (ltb→lt 0 (lo * unit) t) (mul-le-mul_right unit hl) (ltb→lt 0 (2 * (lo * unit) - root_x d e h / (lo * unit)) t2)
        (le_trans (le_of_eq (sym (abs_mul (pos r *ℤ pos unit -ℤ pos R *ℤ pos S60) (pos r *ℤ pos unit +ℤ pos R *ℤ pos S60))))
        (w_same _ (root_id (pos S60) (pos unit) (pos r) (pos w) (pos R) W) (w_add (w_add (w_mul (w_num (unit * unit)) hr.gap) (w_mul (w_num (unit * S60)) hw.gap)) (w_mul (w_num (S60 * S60)) h_r))).within);
  };
}
