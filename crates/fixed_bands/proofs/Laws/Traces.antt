-- The worked polynomial followed along a band: with five steps of 30 bits, v·2^150 is a polynomial in the ticks h with whole coefficients, but for 5 units.
-- Assumes nothing.
use Rattle.std.specs.Prelude.{◌≡◌, refl, List, [], ◌∷◌, ℕ, ◌+◌, ◌*◌, ◌-◌, ◌/◌, ◌%◌, ◌^◌, ◌<◌, ◌≤◌, ℤ, pos, neg_ℤ, ◌+ℤ◌, ◌-ℤ◌, ◌*ℤ◌}
use Rattle.std.proofs.Common.{sym, ◌∙◌, ap, subst, mul-le-mul, le_trans, le_refl, div-add-mod', arith}
use Rattle.arith.specs.Laws.Ring.{ring, Z·ring, by_ring, ev_num}
use Rattle.arith.specs.Within.{Within}
use Rattle.arith.specs.Laws.Within.{w_num, w_add, w_neg, w_mul}
use Rattle.fixed.specs.Worked.{P30}
use Rattle.fixed.proofs.Laws.Bounds.{w_same, w_up, w_rest}
use Rattle.fixed_bands.specs.Worked.{part30}
use Rattle.fixed_bands.specs.Polynomials.{at, negated}
use Rattle.fixed_bands.proofs.Laws.Polynomials.{at_negated}
use Rattle.fixed_bands.specs.Traces.{Part30, Traces}

pub part30_is : (s h : ℕ) → h ≤ P30 → Part30 s h (part30 s h)
unfolding part30
part30_is s h l =
    subst (λ x. Part30 x h (s / P30 * h + s % P30 * h / P30)) (div-add-mod' s P30)
    (go (s / P30) (s % P30) (s % P30 * h / P30) (s % P30 * h % P30) (div-add-mod' (s % P30 * h) P30) (omega arith))
  where
    cancel : (m n : ℕ) → m * P30 ≤ n * P30 → m ≤ n
    cancel m n k = omega arith

    go : (x y b d : ℕ) → b * P30 + d ≡ y * h → d < P30 → Part30 (x * P30 + y) h (x * h + b)
    go x y b d e k =
        let lo : (x * h + b) * P30 ≤ (x * P30 + y) * h = omega arith in
        record { lo = lo; hi = omega arith; small = cancel (x * h + b) (x * P30 + y) (le_trans lo (mul-le-mul (le_refl (x * P30 + y)) l)) }

pub traces_last : (h c : ℕ) → Traces 1 h c (pos c ∷ []) 0
unfolding at
traces_last h c = record { gap = w_same _ (law (pos c) (pos h)) (w_num 0) }
  where
    law : (c h : ℤ) → pos 0 ≡ c *ℤ pos 1 -ℤ (c +ℤ h *ℤ pos 0)
    law c h = ring (c ∷ h ∷ []) λ ρ e1 e2. simp (Z·ring, ev_num ρ, e1, e2) (by_ring _ _ _ refl)

-- s·h / 2^30 at the finer scale B = 2^30·A is h times the polynomial
traces_part : {h s : ℕ} {p : List ℤ} {e : ℕ} (A m : ℕ) → h ≤ P30 → Part30 s h m → Traces A h s p e → Within (pos m *ℤ pos (P30 * A) -ℤ pos h *ℤ at p (pos h)) ((e + 1) * (P30 * A))
traces_part {h} {s} {p} {e} A m l k t =
    w_up ((e + 1) * (P30 * A)) (bound (mul-le-mul l (le_refl (e * A))))
    (w_same _ (law (pos m) (pos s) (pos h) (pos A) (pos (P30)) (at p (pos h)))
    (w_add (w_neg (w_mul (w_rest (s * h) (m * P30) P30 k.lo (over m (s * h) k.hi)) (w_num A))) (w_mul (w_num h) t.gap)))
  where
    law : (m s h a c x : ℤ) → neg_ℤ ((s *ℤ h -ℤ m *ℤ c) *ℤ a) +ℤ h *ℤ (s *ℤ a -ℤ x) ≡ m *ℤ (c *ℤ a) -ℤ h *ℤ x
    law m s h a c x = ring (m ∷ s ∷ h ∷ a ∷ c ∷ x ∷ []) λ ρ e1 e2 e3 e4 e5 e6. simp (Z·ring, e1, e2, e3, e4, e5, e6) (by_ring _ _ _ refl)

    over : (m x : ℕ) → x ≤ (m + 1) * P30 → x ≤ m * P30 + P30
    over m x g = omega arith

    bound : h * (e * A) ≤ P30 * (e * A) → P30 * A + h * (e * A) ≤ (e + 1) * (P30 * A)
    bound g = omega arith

-- c + s·h / 2^30, and c - s·h / 2^30
pub traces_up : {h s : ℕ} {p : List ℤ} {e : ℕ} (A c m : ℕ) → h ≤ P30 → Part30 s h m → Traces A h s p e → Traces (P30 * A) h (c + m) (pos (c * (P30 * A)) ∷ p) (e + 1)
unfolding at
traces_up {h} {p = p} A c m l k t = record { gap = w_same _ (law (pos c) (pos m) (pos (P30 * A)) (pos h *ℤ at p (pos h))) (traces_part A m l k t) }
  where
    law : (c m a x : ℤ) → m *ℤ a -ℤ x ≡ (c +ℤ m) *ℤ a -ℤ (c *ℤ a +ℤ x)
    law c m a x = ring (c ∷ m ∷ a ∷ x ∷ []) λ ρ e1 e2 e3 e4. simp (Z·ring, e1, e2, e3, e4) (by_ring _ _ _ refl)

pub traces_down : {h s : ℕ} {p : List ℤ} {e : ℕ} (A c m r : ℕ) → r + m ≡ c → h ≤ P30 → Part30 s h m → Traces A h s p e → Traces (P30 * A) h r (pos (c * (P30 * A)) ∷ negated p) (e + 1)
unfolding at
traces_down {h} {p = p} {e = e} A c m r q l k t = record { gap = w_same _ (down ∙ ap (λ x. pos r *ℤ pos (P30 * A) -ℤ (pos (c * (P30 * A)) +ℤ pos h *ℤ x)) (sym (at_negated p (pos h)))) (w_neg (traces_part A m l k t)) }
  where
    law : (r m a h x : ℤ) → neg_ℤ (m *ℤ a -ℤ h *ℤ x) ≡ r *ℤ a -ℤ ((r +ℤ m) *ℤ a +ℤ h *ℤ neg_ℤ x)
    law r m a h x = ring (r ∷ m ∷ a ∷ h ∷ x ∷ []) λ ρ e1 e2 e3 e4 e5. simp (Z·ring, e1, e2, e3, e4, e5) (by_ring _ _ _ refl)

    down : neg_ℤ (pos m *ℤ pos (P30 * A) -ℤ pos h *ℤ at p (pos h)) ≡ pos r *ℤ pos (P30 * A) -ℤ (pos (c * (P30 * A)) +ℤ pos h *ℤ neg_ℤ (at p (pos h)))
    down = law (pos r) (pos m) (pos (P30 * A)) (pos h) (at p (pos h)) ∙ ap (λ n. pos r *ℤ pos (P30 * A) -ℤ (pos (n * (P30 * A)) +ℤ pos h *ℤ neg_ℤ (at p (pos h)))) q
