-- Polynomials with whole coefficients, the lowest first: value, sum, product, and how large the value can be. Assumes nothing.
use Rattle.std.specs.Prelude.{◌≡◌, refl, List, [], ◌∷◌, ℕ, ◌+◌, ◌*◌, ◌≤◌, ℤ, pos, neg_ℤ, ◌+ℤ◌, ◌-ℤ◌, ◌*ℤ◌, nat_abs}
use Rattle.std.proofs.Common.{◌∙◌, ap, ap₂, le_refl}
use Rattle.arith.specs.Laws.Ring.{ring, Z·ring, by_ring, ev_num}
use Rattle.arith.specs.Within.{Within}
use Rattle.arith.specs.Laws.Within.{by_abs, w_num, w_add, w_mul}
use Rattle.fixed.proofs.Laws.Bounds.{w_pos}
use Rattle.fixed_bands.specs.Polynomials.{at, minus, multiple, negated, plus, reach, times}

-- ---- laws
pub at_reach : (p : List ℤ) (h H : ℕ) → h ≤ H → Within (at p (pos h)) (reach H p)
unfolding at reach
at_reach [] h H l = w_num 0
at_reach (c ∷ cs) h H l = w_add (by_abs c (le_refl (nat_abs c))) (w_mul (w_pos l) (at_reach cs h H l))

pub at_plus : (p q : List ℤ) (h : ℤ) → at (plus p q) h ≡ at p h +ℤ at q h
unfolding at plus
at_plus [] q h = law (at q h)
  where
    law : (x : ℤ) → x ≡ pos 0 +ℤ x
    law x = ring (x ∷ []) λ ρ e. simp (Z·ring, ev_num ρ, e) (by_ring _ _ _ refl)
at_plus (c ∷ cs) [] h = law (c +ℤ h *ℤ at cs h)
  where
    law : (x : ℤ) → x ≡ x +ℤ pos 0
    law x = ring (x ∷ []) λ ρ e. simp (Z·ring, ev_num ρ, e) (by_ring _ _ _ refl)
at_plus (c ∷ cs) (d ∷ ds) h = ap (λ x. c +ℤ d +ℤ h *ℤ x) (at_plus cs ds h) ∙ law c d h (at cs h) (at ds h)
  where
    law : (c d h x y : ℤ) → c +ℤ d +ℤ h *ℤ (x +ℤ y) ≡ c +ℤ h *ℤ x +ℤ (d +ℤ h *ℤ y)
    law c d h x y = ring (c ∷ d ∷ h ∷ x ∷ y ∷ []) λ ρ e1 e2 e3 e4 e5. simp (Z·ring, e1, e2, e3, e4, e5) (by_ring _ _ _ refl)

pub at_multiple : (k : ℤ) (p : List ℤ) (h : ℤ) → at (multiple k p) h ≡ k *ℤ at p h
unfolding at multiple
at_multiple k [] h = law k
  where
    law : (k : ℤ) → pos 0 ≡ k *ℤ pos 0
    law k = ring (k ∷ []) λ ρ e. simp (Z·ring, ev_num ρ, e) (by_ring _ _ _ refl)
at_multiple k (c ∷ cs) h = ap (λ x. k *ℤ c +ℤ h *ℤ x) (at_multiple k cs h) ∙ law k c h (at cs h)
  where
    law : (k c h x : ℤ) → k *ℤ c +ℤ h *ℤ (k *ℤ x) ≡ k *ℤ (c +ℤ h *ℤ x)
    law k c h x = ring (k ∷ c ∷ h ∷ x ∷ []) λ ρ e1 e2 e3 e4. simp (Z·ring, e1, e2, e3, e4) (by_ring _ _ _ refl)

pub at_times : (p q : List ℤ) (h : ℤ) → at (times p q) h ≡ at p h *ℤ at q h
unfolding at times
at_times [] q h = law (at q h)
  where
    law : (x : ℤ) → pos 0 ≡ pos 0 *ℤ x
    law x = ring (x ∷ []) λ ρ e. simp (Z·ring, ev_num ρ, e) (by_ring _ _ _ refl)
at_times (c ∷ cs) q h =
    at_plus (multiple c q) (pos 0 ∷ times cs q) h
    ∙ ap₂ (λ x y. x +ℤ (pos 0 +ℤ h *ℤ y)) (at_multiple c q h) (at_times cs q h)
    ∙ law c h (at cs h) (at q h)
  where
    law : (c h x y : ℤ) → c *ℤ y +ℤ (pos 0 +ℤ h *ℤ (x *ℤ y)) ≡ (c +ℤ h *ℤ x) *ℤ y
    law c h x y = ring (c ∷ h ∷ x ∷ y ∷ []) λ ρ e1 e2 e3 e4. simp (Z·ring, ev_num ρ, e1, e2, e3, e4) (by_ring _ _ _ refl)

pub at_negated : (p : List ℤ) (h : ℤ) → at (negated p) h ≡ neg_ℤ (at p h)
unfolding at negated
at_negated [] h = refl
at_negated (c ∷ cs) h = ap (λ x. neg_ℤ c +ℤ h *ℤ x) (at_negated cs h) ∙ law c h (at cs h)
  where
    law : (c h x : ℤ) → neg_ℤ c +ℤ h *ℤ neg_ℤ x ≡ neg_ℤ (c +ℤ h *ℤ x)
    law c h x = ring (c ∷ h ∷ x ∷ []) λ ρ e1 e2 e3. simp (Z·ring, e1, e2, e3) (by_ring _ _ _ refl)

pub at_minus : (p q : List ℤ) (h : ℤ) → at (minus p q) h ≡ at p h -ℤ at q h
unfolding minus
at_minus p q h = at_plus p (negated q) h ∙ ap (λ x. at p h +ℤ x) (at_negated q h)
