-- From a number at some scale that is near the definition's value, to the nearest whole number: how near that is. Laws over any scale. Assumes nothing.
use Rattle.std.specs.Prelude.{Bool, true, false, ◌≡◌, refl, [], ◌∷◌, ℕ, ◌+◌, ◌*◌, ◌-◌, ◌/◌, ◌<◌, ◌≤◌, T, leb, ℤ, pos, neg_ℤ, ◌+ℤ◌, ◌-ℤ◌, ◌*ℤ◌, nat_abs}
use Rattle.std.proofs.Common.{sym, ◌∙◌, ap, subst, le_refl, le_trans, le_of_eq, mul-pos, mul_assoc, mul-le-mul_left, le_of_mul-le-mul_right, leb→le, lit<}
use Rattle.arith.specs.Laws.Order.{abs_mul, abs_neg}
use Rattle.arith.specs.Laws.Ring.{ring, Z·ring, by_ring, ev_num}
use Rattle.arith.specs.Laws.Within.{by_abs, w_num, w_add, w_sub, w_mul}
use Rattle.arith.specs.Within as A
use Rattle.rules.specs.Scaled.{unit, Pi, turned_to}
use Rattle.rules.specs.Rounding.{Within}
use Rattle.fixed.specs.Worked.{S60}
use Rattle.fixed.specs.Nearness.{NearAt, Near60, Ratio, turned}
use Rattle.fixed.specs.Relations.{Mul60}
use Rattle.fixed.proofs.Laws.Bounds.{w_div, w_same, w_pos, w_rest}
use Rattle.fixed.proofs.Laws.Products.{mul_rest}
use Rattle.fixed.proofs.Laws.Quotients.{ratio_div}
use Rattle.fixed.proofs.Laws.Turned.{ratio_turned}
use Rattle.fixed_inverse.proofs.Laws.Ticks.{Nearest}
use Rattle.fixed_units.specs.Rounded.{angle_e}

-- ---- t is n / d to the nearest, and n at scale d is near W
pub rounded_within : {n t e : ℕ} {W : ℤ} (k d : ℕ) → 0 < d → NearAt d (pos n) W e → Nearest n d t → T (leb (100 * (d * unit + 2 * e)) (k * unit * (2 * d))) → Within k (pos t) W
rounded_within {n} {t} {e} {W} k d p a r q = record {
  bound = le_of_mul-le-mul_right {k = 2 * d}
      (fin (nat_abs (pos t *ℤ pos unit -ℤ W)) (d * unit + 2 * e) (le_trans (le_of_eq (sym (abs_mul (pos t *ℤ pos unit -ℤ W) (pos (2 * d))))) gap.within) (leb→le _ (k * unit * (2 * d)) q))
      (mul-pos (lit< tt) p);
}
  where
    half : A.Within (pos 2 *ℤ (pos t *ℤ pos d -ℤ pos n)) d
    half = by_abs _ (le_trans (le_of_eq (abs_mul (pos 2) (pos t *ℤ pos d -ℤ pos n))) r.half)

    law : (t n U W d : ℤ) → pos 2 *ℤ (t *ℤ d -ℤ n) *ℤ U +ℤ pos 2 *ℤ (n *ℤ U -ℤ W *ℤ d) ≡ (t *ℤ U -ℤ W) *ℤ (pos 2 *ℤ d)
    law t n U W d = ring (t ∷ n ∷ U ∷ W ∷ d ∷ []) λ ρ e1 e2 e3 e4 e5. simp (Z·ring, ev_num ρ, e1, e2, e3, e4, e5) (by_ring _ _ _ refl)

    gap : A.Within ((pos t *ℤ pos unit -ℤ W) *ℤ pos (2 * d)) (d * unit + 2 * e)
    gap = w_same _ (law (pos t) (pos n) (pos unit) W (pos d)) (w_add (w_mul half (w_num unit)) (w_mul (w_num 2) a.gap))

    fin : (x y : ℕ) → x * (2 * d) ≤ y → 100 * y ≤ k * unit * (2 * d) → 100 * x * (2 * d) ≤ k * unit * (2 * d)
    fin x y h l = le_trans (le_trans (le_of_eq (mul_assoc 100 x (2 * d))) (mul-le-mul_left 100 h)) l

pub within_turn : {k : ℕ} {t W : ℤ} (s : Bool) → Within k t (turned s W) → Within k (turned s t) W
unfolding turned
within_turn false h = h
within_turn {k} {t} {W} true h = record { bound = le_trans (le_of_eq (ap (λ x. 100 * x) (ap nat_abs (law t W (pos unit)) ∙ abs_neg (t *ℤ pos unit -ℤ neg_ℤ W)))) h.bound }
  where
    law : (t W U : ℤ) → neg_ℤ t *ℤ U -ℤ W ≡ neg_ℤ (t *ℤ U -ℤ neg_ℤ W)
    law t W U = ring (t ∷ W ∷ U ∷ []) λ ρ e1 e2 e3. simp (Z·ring, e1, e2, e3) (by_ring _ _ _ refl)

pub near_angle : {b n e : ℕ} {B W : ℤ} (h C d high : ℕ) → Mul60 b C n → b ≤ high → Near60 b B e → Ratio W (B *ℤ pos h) (pos Pi) 1 → NearAt d (pos n) W (angle_e h C d high e)
unfolding angle_e
near_angle {b} {n} {e} {B} {W} h C d high m k a r = record {
  gap = w_div (pos n *ℤ pos unit -ℤ W *ℤ pos d) (S60 * Pi) _ (lit< tt)
      (w_same _ (law (pos b) (pos n) (pos C) (pos h) (pos Pi) (pos unit) (pos S60) B W (pos d))
      (w_sub
      (w_sub
      (w_add (w_mul (w_num (h * d * unit)) a.gap) (w_mul (w_mul (w_pos k) (w_num unit)) (by_abs (pos C *ℤ pos Pi -ℤ pos (h * d) *ℤ pos unit) (le_refl _))))
      (w_mul (w_num (S60 * d)) r.gap))
      (w_mul (w_num (unit * Pi)) (w_rest (b * C) (n * S60) (2 * S60) m.lo (mul_rest m)))));
}
  where
    law : (b n C h P U S B W d : ℤ)
        → (h *ℤ d *ℤ U) *ℤ (b *ℤ U -ℤ B *ℤ S) +ℤ (b *ℤ U) *ℤ (C *ℤ P -ℤ (h *ℤ d) *ℤ U) -ℤ (S *ℤ d) *ℤ (W *ℤ P -ℤ (B *ℤ h) *ℤ U) -ℤ (U *ℤ P) *ℤ (b *ℤ C -ℤ n *ℤ S)
        ≡ (n *ℤ U -ℤ W *ℤ d) *ℤ (S *ℤ P)
    law b n C h P U S B W d = ring (b ∷ n ∷ C ∷ h ∷ P ∷ U ∷ S ∷ B ∷ W ∷ d ∷ []) λ ρ e1 e2 e3 e4 e5 e6 e7 e8 e9 e10. simp (Z·ring, e1, e2, e3, e4, e5, e6, e7, e8, e9, e10) (by_ring _ _ _ refl)

-- the definition's angle, on either side of 0
turned_times : (s : Bool) (x y : ℤ) → turned s (x *ℤ y) ≡ turned s x *ℤ y
unfolding turned
turned_times false x y = refl
turned_times true x y = go x y
  where
    go : (x y : ℤ) → neg_ℤ (x *ℤ y) ≡ neg_ℤ x *ℤ y
    go x y = ring (x ∷ y ∷ []) λ ρ ex ey. simp (Z·ring, ex, ey) (by_ring _ _ _ refl)

pub angle_ratio : (s : Bool) (h : ℕ) (B : ℤ) → Ratio (turned s (turned_to h B)) (turned s B *ℤ pos h) (pos Pi) 1
unfolding turned_to
angle_ratio s h B = subst (λ z. Ratio (turned s (turned_to h B)) z (pos Pi) 1) (turned_times s B (pos h)) (ratio_turned s (ratio_div (B *ℤ pos h) (pos Pi) (lit< tt)))
