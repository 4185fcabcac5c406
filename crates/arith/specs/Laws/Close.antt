-- Quotients of whole numbers that are near each other, at any two denominators, with every denominator multiplied out. `Close v s w t e d`: v/s is within e/d of w/t.
-- A chain of steps at different scales is one `close-trans` a step; the numbers e and d are compared by computation where they are named. Assumes nothing.
use Rattle.std.specs.Prelude.{◌≡◌, refl, List, [], ◌∷◌, ℕ, ◌+◌, ◌*◌, ◌≤◌, ◌<◌, T, leb, ltb, ℤ, pos, neg_ℤ, ◌+ℤ◌, ◌-ℤ◌, ◌*ℤ◌, nat_abs}
use Rattle.std.proofs.Common.{sym, ◌∙◌, ap, subst, le_trans, le_of_eq, mul-le-mul_right, mul-le-mul_left, add-le-add, le_of_mul-le-mul_right, mul-pos, arith, leb→le, ltb→lt}
use Rattle.arith.specs.Laws.Diff.{◌⊖◌, Z·ℕ, lin}
use Rattle.arith.specs.Laws.Ring.{ring, Z·ring, by_ring}
use Rattle.arith.specs.Laws.Order.{abs_add, abs_mul, abs_neg, abs_sub_comm}
use Rattle.arith.specs.Floor.{floor}
use Rattle.arith.specs.Laws.Floor.{floor_rest_abs}

pub record Close (v : ℤ) (s : ℕ) (w : ℤ) (t : ℕ) (e d : ℕ) : Type 0 where
  pub gap : d * nat_abs (v *ℤ pos t -ℤ w *ℤ pos s) ≤ e * (s * t)

-- the same distance seen from the other side
pub close_sym : {v w : ℤ} {s t e d : ℕ} → Close v s w t e d → Close w t v s e d
close_sym {v} {w} {s} {t} {e} {d} c =
    record { gap = le_trans (le_of_eq (ap (λ n. d * n) (abs_sub_comm (w *ℤ pos s) (v *ℤ pos t)))) (le_trans c.gap (le_of_eq (go e s t))) }
  where
    go : (e s t : ℕ) → e * (s * t) ≡ e * (t * s)
    go e s t = omega arith

-- two steps: the errors add up
pub close_trans : {v w x : ℤ} {s t u e f d : ℕ} → 0 < t → Close v s w t e d → Close w t x u f d → Close v s x u (e + f) d
close_trans {v} {w} {x} {s} {t} {u} {e} {f} {d} h a b =
    record {
      gap =
          le_of_mul-le-mul_right {k = t}
          (sum d _ _ _ e f s t u total a.gap b.gap)
          h;
    }
  where
    law : (v w x s t u : ℤ) → (v *ℤ u -ℤ x *ℤ s) *ℤ t ≡ (v *ℤ t -ℤ w *ℤ s) *ℤ u +ℤ (w *ℤ u -ℤ x *ℤ t) *ℤ s
    law v w x s t u = ring (v ∷ w ∷ x ∷ s ∷ t ∷ u ∷ []) λ ρ ev ew ex es et eu. simp (Z·ring, ev, ew, ex, es, et, eu) (by_ring _ _ _ refl)

    total : nat_abs (v *ℤ pos u -ℤ x *ℤ pos s) * t ≤ nat_abs (v *ℤ pos t -ℤ w *ℤ pos s) * u + nat_abs (w *ℤ pos u -ℤ x *ℤ pos t) * s
    total =
        le_trans (le_of_eq (sym (abs_mul (v *ℤ pos u -ℤ x *ℤ pos s) (pos t)) ∙ ap nat_abs (law v w x (pos s) (pos t) (pos u))))
        (le_trans (abs_add ((v *ℤ pos t -ℤ w *ℤ pos s) *ℤ pos u) ((w *ℤ pos u -ℤ x *ℤ pos t) *ℤ pos s))
        (add-le-add (le_of_eq (abs_mul (v *ℤ pos t -ℤ w *ℤ pos s) (pos u))) (le_of_eq (abs_mul (w *ℤ pos u -ℤ x *ℤ pos t) (pos s)))))

    sum : (d p q r e f s t u : ℕ) → p * t ≤ q * u + r * s → d * q ≤ e * (s * t) → d * r ≤ f * (t * u) → d * p * t ≤ (e + f) * (s * u) * t
    sum d p q r e f s t u h k l =
        let a = mul-le-mul_left d h in
        let b = mul-le-mul_right u k in
        let c = mul-le-mul_right s l in
        omega arith

-- a larger error, at another denominator
pub close_le : {v w : ℤ} {s t e d : ℕ} (f g : ℕ) → Close v s w t e d → T (ltb 0 d) → T (leb (e * g) (f * d)) → Close v s w t f g
close_le {v} {w} {s} {t} {e} {d} f g c p l =
    record { gap = le_of_mul-le-mul_right {k = d} (go d e f g _ (s * t) c.gap (leb→le (e * g) (f * d) l)) (ltb→lt 0 d p) }
  where
    go : (d e f g n m : ℕ) → d * n ≤ e * m → e * g ≤ f * d → g * n * d ≤ f * m * d
    go d e f g n m h k = let a = mul-le-mul_left g h in let b = mul-le-mul_right m k in omega arith

-- both numbers times k
pub close_times : (k : ℕ) {v w : ℤ} {s t e d : ℕ} → Close v s w t e d → Close (pos k *ℤ v) s (pos k *ℤ w) t (k * e) d
close_times k {v} {w} {s} {t} {e} {d} c =
    record { gap = le_trans (le_of_eq (ap (λ n. d * n) (ap nat_abs (law (pos k) v w (pos s) (pos t)) ∙ abs_mul (pos k) (v *ℤ pos t -ℤ w *ℤ pos s)))) (go d k _ e (s * t) c.gap) }
  where
    law : (k v w s t : ℤ) → k *ℤ v *ℤ t -ℤ k *ℤ w *ℤ s ≡ k *ℤ (v *ℤ t -ℤ w *ℤ s)
    law k v w s t = ring (k ∷ v ∷ w ∷ s ∷ t ∷ []) λ ρ ek ev ew es et. simp (Z·ring, ek, ev, ew, es, et) (by_ring _ _ _ refl)

    go : (d k n e m : ℕ) → d * n ≤ e * m → d * (k * n) ≤ k * e * m
    go d k n e m h = let a = mul-le-mul_left k h in omega arith

-- both negated
pub close_neg : {v w : ℤ} {s t e d : ℕ} → Close v s w t e d → Close (neg_ℤ v) s (neg_ℤ w) t e d
close_neg {v} {w} {s} {t} {e} {d} c =
    record { gap = le_trans (le_of_eq (ap (λ n. d * n) (ap nat_abs (law v w (pos s) (pos t)) ∙ abs_neg (v *ℤ pos t -ℤ w *ℤ pos s)))) c.gap }
  where
    law : (v w s t : ℤ) → neg_ℤ v *ℤ t -ℤ neg_ℤ w *ℤ s ≡ neg_ℤ (v *ℤ t -ℤ w *ℤ s)
    law v w s t = ring (v ∷ w ∷ s ∷ t ∷ []) λ ρ ev ew es et. simp (Z·ring, ev, ew, es, et) (by_ring _ _ _ refl)

-- ---- equal quotients
pub close_same : {v w : ℤ} {s t : ℕ} (d : ℕ) → v *ℤ pos t ≡ w *ℤ pos s → Close v s w t 0 d
close_same {v} {w} {s} {t} d e = record { gap = subst (λ z. d * nat_abs (z -ℤ w *ℤ pos s) ≤ 0 * (s * t)) (sym e) (le_of_eq (ap (λ z. d * nat_abs z) (law (w *ℤ pos s)) ∙ go d (s * t))) }
  where
    law : (z : ℤ) → z -ℤ z ≡ pos 0
    law z = lin (z ∷ []) λ u v ez. simp (Z·ℕ, ez) (omega arith)

    go : (d m : ℕ) → d * 0 ≡ 0 * m
    go d m = omega arith

-- a quotient gone down, floor(a / m) over t, is a over t·m but for one unit of 1/t
pub close_floor : (a : ℤ) (m t : ℕ) → 0 < m → Close (floor a m) t a (t * m) 1 t
close_floor a m t h =
    record { gap = le_trans (le_of_eq (ap (λ n. t * n) (ap nat_abs (law (floor a m) a (pos t) (pos m)) ∙ abs_mul (pos t) (floor a m *ℤ pos m -ℤ a)))) (go t _ m (le_trans (le_of_eq (abs_sub_comm (floor a m *ℤ pos m) a)) (small (floor_rest_abs a m h)))) }
  where
    law : (q a t m : ℤ) → q *ℤ (t *ℤ m) -ℤ a *ℤ t ≡ t *ℤ (q *ℤ m -ℤ a)
    law q a t m = ring (q ∷ a ∷ t ∷ m ∷ []) λ ρ eq ea et em. simp (Z·ring, eq, ea, et, em) (by_ring _ _ _ refl)

    small : {x y : ℕ} → x < y → x ≤ y
    small h = omega arith

    go : (t n m : ℕ) → n ≤ m → t * (t * n) ≤ 1 * (t * (t * m))
    go t n m h = let a = mul-le-mul_left (t * t) h in omega arith

-- a larger error over the same denominator
pub close_more : {v w : ℤ} {s t e d : ℕ} (f : ℕ) → e ≤ f → Close v s w t e d → Close v s w t f d
close_more {s = s} {t} f h c = record { gap = le_trans c.gap (mul-le-mul_right (s * t) h) }

-- both denominators k-fold: the quotients, and their distance, are a k-th
pub close_over : (k : ℕ) {v w : ℤ} {s t e d : ℕ} → Close v s w t e d → Close v (k * s) w (k * t) e (k * d)
close_over k {v} {w} {s} {t} {e} {d} c =
    record { gap = le_trans (le_of_eq (ap (λ n. k * d * n) (ap nat_abs (law (pos k) v w (pos s) (pos t)) ∙ abs_mul (pos k) (v *ℤ pos t -ℤ w *ℤ pos s)))) (go k d _ e s t c.gap) }
  where
    law : (k v w s t : ℤ) → v *ℤ (k *ℤ t) -ℤ w *ℤ (k *ℤ s) ≡ k *ℤ (v *ℤ t -ℤ w *ℤ s)
    law k v w s t = ring (k ∷ v ∷ w ∷ s ∷ t ∷ []) λ ρ ek ev ew es et. simp (Z·ring, ek, ev, ew, es, et) (by_ring _ _ _ refl)

    go : (k d n e s t : ℕ) → d * n ≤ e * (s * t) → k * d * (k * n) ≤ e * (k * s * (k * t))
    go k d n e s t h = let a = mul-le-mul_left (k * k) h in omega arith
