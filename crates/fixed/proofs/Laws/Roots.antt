-- A square root, against the whole-number root of the definition: whatever way r is found, only r² counts. Assumes nothing.
use Rattle.std.specs.Prelude.{◌≡◌, refl, [], ◌∷◌, ℕ, ◌+◌, ◌*◌, ◌-◌, ◌/◌, ◌<◌, ◌≤◌, T, ltb, ℤ, pos, ◌+ℤ◌, ◌-ℤ◌, ◌*ℤ◌, nat_abs}
use Rattle.std.proofs.Common.{sym, le_trans, le_of_eq, le-div_iff_mul-le, mul-le-mul, mul-le-mul_left, mul-le-mul_right, arith, ltb→lt}
use Rattle.std.proofs.Math.Decide.{dec_le}
use Rattle.arith.specs.Laws.Order.{abs_mul}
use Rattle.arith.specs.Laws.Ring.{ring, Z·ring, by_ring}
use Rattle.arith.specs.Within.{Within}
use Rattle.arith.specs.Laws.Within.{w_num, w_add, w_mul}
use Rattle.rules.specs.Scaled.{unit, root, sqrt}
use Rattle.rules.proofs.Laws.Root.{root_is}
use Rattle.fixed.specs.Worked.{S60}
use Rattle.fixed.specs.Nearness.{Near60}
use Rattle.fixed.proofs.Laws.Bounds.{w_same, w_rest}
use Rattle.fixed.specs.Laws.Roots.{root_e}

root_id : (S U r w R W : ℤ)
    → (U *ℤ U) *ℤ (r *ℤ r -ℤ w *ℤ S) +ℤ (U *ℤ S) *ℤ (w *ℤ U -ℤ W *ℤ S) +ℤ (S *ℤ S) *ℤ (W *ℤ U -ℤ R *ℤ R) ≡ (r *ℤ U -ℤ R *ℤ S) *ℤ (r *ℤ U +ℤ R *ℤ S)
root_id S U r w R W = ring (S ∷ U ∷ r ∷ w ∷ R ∷ W ∷ []) λ ρ e1 e2 e3 e4 e5 e6. simp (Z·ring, e1, e2, e3, e4, e5, e6) (by_ring _ _ _ refl)

pub near_root : {r w : ℕ} {W : ℤ} {e : ℕ} (R d h lo : ℕ)
    → Within (pos r *ℤ pos r -ℤ pos w *ℤ pos S60) d
    → Near60 w W e
    → Within (W *ℤ pos unit -ℤ pos R *ℤ pos R) (2 * h)
    → lo ≤ r
    → T (ltb 0 (lo * unit))
    → Near60 r (pos R) (root_e d e h lo)
unfolding root_e
near_root {r} {w} {W} {e} R d h lo hr hw h_r hl t = record {
  gap = record {
    within = (le-div_iff_mul-le (ltb→lt 0 (lo * unit) t)).1
        (le_trans (mul-le-mul_left (nat_abs (pos r *ℤ pos unit -ℤ pos R *ℤ pos S60)) (go (R * S60) (mul-le-mul_right unit hl)))
        (le_trans (le_of_eq (sym (abs_mul (pos r *ℤ pos unit -ℤ pos R *ℤ pos S60) (pos r *ℤ pos unit +ℤ pos R *ℤ pos S60))))
        (w_same _ (root_id (pos S60) (pos unit) (pos r) (pos w) (pos R) W)
        (w_add (w_add (w_mul (w_num (unit * unit)) hr) (w_mul (w_num (unit * S60)) hw.gap)) (w_mul (w_num (S60 * S60)) h_r))).within));
  };
}
  where
    go : (x : ℕ) → lo * unit ≤ r * unit → lo * unit ≤ r * unit + x
    go x k = omega arith

square_le : (r h : ℕ) → r * r ≤ h * h → r ≤ h
square_le r h x = go (dec_le r h)
  where
    go : Dec (r ≤ h) → r ≤ h
    go (yes k) = k
    go (no k) = absurd (clash (mul-le-mul (above k) (above k)))
      where
        above : ¬ (r ≤ h) → h + 1 ≤ r
        above l = omega arith

        clash : (h + 1) * (h + 1) ≤ r * r → ⊥
        clash l = omega arith

-- the definition's root of a number from 0 to h² (h·h in units of 10^-24): W·10^24 less its square
pub sqrt_rest : (W h : ℕ) → W * unit ≤ h * h → Within (pos W *ℤ pos unit -ℤ sqrt (pos W) *ℤ sqrt (pos W)) (2 * h)
unfolding sqrt
sqrt_rest W h k = go (root (W * unit)) (root_is (W * unit)).not_above (root_is (W * unit)).next_above
  where
    small : (r : ℕ) → r * r ≤ h * h → r ≤ h
    small r x = square_le r h x

    go : (r : ℕ) → r * r ≤ W * unit → W * unit < (r + 1) * (r + 1) → Within (pos W *ℤ pos unit -ℤ pos r *ℤ pos r) (2 * h)
    go r x y = w_rest (W * unit) (r * r) (2 * h) x (fin (W * unit) (r * r) y (small r (le_trans x k)))
      where
        fin : (z q : ℕ) → z < (r + 1) * (r + 1) → r ≤ h → z ≤ r * r + 2 * h
        fin z q a b = omega arith

pub sqrt_high : (W h : ℕ) → W * unit ≤ h * h → Within (sqrt (pos W)) h
unfolding sqrt
sqrt_high W h k = record { within = square_le (root (W * unit)) h (le_trans (root_is (W * unit)).not_above k) }
