-- The seed of the root: a quadratic in v, whose square differs from the number by a quartic in v, bounded over bands by its development about each band's middle. Assumes nothing.
use Rattle.std.specs.Prelude.{Bool, ◌≡◌, refl, [], ◌∷◌, ℕ, ◌+◌, ◌*◌, ◌-◌, ◌/◌, ◌^◌, ◌<◌, ◌≤◌, T, leb, ℤ, ◌+ℤ◌, ◌-ℤ◌, ◌*ℤ◌, nat_abs}
use Rattle.std.proofs.Math.Path.{ap}
use Rattle.std.proofs.Common.{subst, le_refl, mul-le-mul, leb→le, lit<}
use native.Mathlib.Omega.{arith}
use Rattle.std.proofs.Math.IntN.{pos}
use Rattle.arith.specs.Laws.Diff.{◌⊖◌, Z·ℕ}
use Rattle.arith.specs.Laws.Ring.{ring, Z·ring, by_ring, ev_num}
use Rattle.arith.specs.Within.{Within}
use Rattle.arith.specs.Laws.Within.{by_abs, w_num, w_add, w_sub, w_mul}
use Rattle.fixed.specs.Worked.{S60}
use Rattle.fixed.specs.Relations.{Mul60}
use Rattle.fixed.proofs.Laws.Products.{mul_rest}
use Rattle.fixed.proofs.Laws.Bounds.{w_div, w_same, w_up, w_rest}
use Rattle.fixed_inverse.proofs.Laws.Bands.{every, every_at, band_of}
use Rattle.fixed_inverse.specs.Laws.Heron.{Squares}

-- k₀ + v·(k₁ − v·k₂) at the scale's cube; its value and its slope at c
unfoldable pub quadratic : (k₀ k₁ k₂ : ℕ) → ℕ → ℤ
quadratic k₀ k₁ k₂ v = pos k₀ *ℤ pos S60 *ℤ pos S60 +ℤ pos k₁ *ℤ pos S60 *ℤ pos v -ℤ pos k₂ *ℤ pos v *ℤ pos v

unfoldable pub slope : (k₁ k₂ : ℕ) → ℕ → ℤ
slope k₁ k₂ c = pos k₁ *ℤ pos S60 -ℤ pos 2 *ℤ pos k₂ *ℤ pos c

-- four times the square less the number (w = w₀ + v/4), at the scale's sixth power
unfoldable pub excess : (k₀ k₁ k₂ w₀ : ℕ) → ℕ → ℤ
excess k₀ k₁ k₂ w₀ v = pos 4 *ℤ quadratic k₀ k₁ k₂ v *ℤ quadratic k₀ k₁ k₂ v -ℤ (pos v +ℤ pos 4 *ℤ pos w₀) *ℤ pos (S60 ^ 5)

-- its bound within h of c, from its development about c
unfoldable pub excess_b : (k₀ k₁ k₂ w₀ c h : ℕ) → ℕ
excess_b k₀ k₁ k₂ w₀ c h =
    nat_abs (excess k₀ k₁ k₂ w₀ c)
    + nat_abs (pos 8 *ℤ quadratic k₀ k₁ k₂ c *ℤ slope k₁ k₂ c -ℤ pos (S60 ^ 5)) * h
    + nat_abs (pos 4 *ℤ slope k₁ k₂ c *ℤ slope k₁ k₂ c -ℤ pos 8 *ℤ quadratic k₀ k₁ k₂ c *ℤ pos k₂) * (h * h)
    + nat_abs (pos 8 *ℤ slope k₁ k₂ c *ℤ pos k₂) * (h * h * h)
    + 4 * k₂ * k₂ * (h * h * h * h)

module _ (k₀ k₁ k₂ w₀ : ℕ) where
  about : (c v h : ℕ) → Within (pos v -ℤ pos c) h → Within (excess k₀ k₁ k₂ w₀ v) (excess_b k₀ k₁ k₂ w₀ c h)
  unfolding excess excess_b quadratic slope
  about c v h t =
      w_same _ (law (pos k₀) (pos k₁) (pos k₂) (pos w₀) (pos c) (pos v) (pos S60) (pos (S60 ^ 5)))
      (w_add (w_sub (w_add (w_add (by_abs (excess k₀ k₁ k₂ w₀ c) (le_refl _)) (w_mul (by_abs (pos 8 *ℤ quadratic k₀ k₁ k₂ c *ℤ slope k₁ k₂ c -ℤ pos (S60 ^ 5)) (le_refl _)) t)) (w_mul (by_abs (pos 4 *ℤ slope k₁ k₂ c *ℤ slope k₁ k₂ c -ℤ pos 8 *ℤ quadratic k₀ k₁ k₂ c *ℤ pos k₂) (le_refl _)) (w_mul t t))) (w_mul (by_abs (pos 8 *ℤ slope k₁ k₂ c *ℤ pos k₂) (le_refl _)) (w_mul (w_mul t t) t))) (w_mul (w_mul (w_mul (w_num 4) (w_num k₂)) (w_num k₂)) (w_mul (w_mul (w_mul t t) t) t)))
    where
      law : (k₀ k₁ k₂ w₀ c v S Q : ℤ)
          → (pos 4 *ℤ (k₀ *ℤ S *ℤ S +ℤ k₁ *ℤ S *ℤ c -ℤ k₂ *ℤ c *ℤ c) *ℤ (k₀ *ℤ S *ℤ S +ℤ k₁ *ℤ S *ℤ c -ℤ k₂ *ℤ c *ℤ c) -ℤ (c +ℤ pos 4 *ℤ w₀) *ℤ Q)
          +ℤ (pos 8 *ℤ (k₀ *ℤ S *ℤ S +ℤ k₁ *ℤ S *ℤ c -ℤ k₂ *ℤ c *ℤ c) *ℤ (k₁ *ℤ S -ℤ pos 2 *ℤ k₂ *ℤ c) -ℤ Q) *ℤ (v -ℤ c)
          +ℤ (pos 4 *ℤ (k₁ *ℤ S -ℤ pos 2 *ℤ k₂ *ℤ c) *ℤ (k₁ *ℤ S -ℤ pos 2 *ℤ k₂ *ℤ c) -ℤ pos 8 *ℤ (k₀ *ℤ S *ℤ S +ℤ k₁ *ℤ S *ℤ c -ℤ k₂ *ℤ c *ℤ c) *ℤ k₂) *ℤ ((v -ℤ c) *ℤ (v -ℤ c))
          -ℤ (pos 8 *ℤ (k₁ *ℤ S -ℤ pos 2 *ℤ k₂ *ℤ c) *ℤ k₂) *ℤ ((v -ℤ c) *ℤ (v -ℤ c) *ℤ (v -ℤ c))
          +ℤ pos 4 *ℤ k₂ *ℤ k₂ *ℤ ((v -ℤ c) *ℤ (v -ℤ c) *ℤ (v -ℤ c) *ℤ (v -ℤ c))
          ≡ pos 4 *ℤ (k₀ *ℤ S *ℤ S +ℤ k₁ *ℤ S *ℤ v -ℤ k₂ *ℤ v *ℤ v) *ℤ (k₀ *ℤ S *ℤ S +ℤ k₁ *ℤ S *ℤ v -ℤ k₂ *ℤ v *ℤ v) -ℤ (v +ℤ pos 4 *ℤ w₀) *ℤ Q
      law k₀ k₁ k₂ w₀ c v S Q = ring (k₀ ∷ k₁ ∷ k₂ ∷ w₀ ∷ c ∷ v ∷ S ∷ Q ∷ []) λ ρ e1 e2 e3 e4 e5 e6 e7 e8. simp (Z·ring, ev_num ρ, e1, e2, e3, e4, e5, e6, e7, e8) (by_ring _ _ _ refl)

  -- the test of the band i of width 2·h
  unfoldable pub band_test : (h d : ℕ) → ℕ → Bool
  band_test h d i = leb (excess_b k₀ k₁ k₂ w₀ (i * (2 * h) + h) h) d

  pub excess_all : (h d n v : ℕ) → 0 < h → v < n * (2 * h) → T (every (band_test h d) n) → Within (excess k₀ k₁ k₂ w₀ v) d
  unfolding band_test
  excess_all h d n v hh hv t =
      let b = band_of 0 (2 * h) n v (omega arith) (omega arith) (omega arith) in
      w_up d (leb→le _ d (every_at (band_test h d) n b.place t b.among)) (about (b.place * (2 * h) + h) v h (middle (b.place * (2 * h)) b.low b.high))
    where
      middle : (a : ℕ) → 0 + a ≤ v → v ≤ 0 + a + 2 * h → Within (pos v -ℤ pos (a + h)) h
      middle a l u = record { within = simp Z·ℕ (omega arith) }

  -- the code's seed: a = v·k₂, b = v·(k₁ − a), s = k₀ + b
  unfoldable pub seed_e : ℕ → ℕ → ℕ
  seed_e hs d = (4 * (4 * (S60 * S60)) * ((2 * hs + 4) * (S60 * S60)) + d) / (4 * S60 ^ 4)

  module _ {v a b : ℕ} (ma : Mul60 v k₂ a) (ha : a ≤ k₁) (mb : Mul60 v (k₁ - a) b) (hv : v ≤ S60) where
    rest : {x y r : ℕ} → Mul60 x y r → Within (pos x *ℤ pos y -ℤ pos r *ℤ pos S60) (2 * S60)
    rest {x} {y} {r} m = w_rest (x * y) (r * S60) (2 * S60) m.lo (mul_rest m)

    less : pos (k₁ - a) ≡ pos k₁ -ℤ pos a
    less = go (k₁ - a) (omega arith)
      where
        go : (z : ℕ) → z + a ≡ k₁ → pos z ≡ pos k₁ -ℤ pos a
        go z e = simp Z·ℕ (omega arith)

    seed_gap : Within (pos (k₀ + b) *ℤ pos S60 *ℤ pos S60 -ℤ quadratic k₀ k₁ k₂ v) (4 * (S60 * S60))
    unfolding quadratic
    seed_gap = w_up _ (bound (mul-le-mul hv (le_refl (2 * S60)))) (w_same _ (law (pos k₀) (pos k₁) (pos k₂) (pos v) (pos a) (pos b) (pos S60)) (w_sub (w_mul (w_num v) (rest ma)) (w_mul (w_num S60) (subst (λ z. Within (pos v *ℤ z -ℤ pos b *ℤ pos S60) (2 * S60)) less (rest mb)))))
      where
        bound : v * (2 * S60) ≤ S60 * (2 * S60) → v * (2 * S60) + S60 * (2 * S60) ≤ 4 * (S60 * S60)
        bound k = omega arith

        law : (k₀ k₁ k₂ v a b S : ℤ) → v *ℤ (v *ℤ k₂ -ℤ a *ℤ S) -ℤ S *ℤ (v *ℤ (k₁ -ℤ a) -ℤ b *ℤ S) ≡ (k₀ +ℤ b) *ℤ S *ℤ S -ℤ (k₀ *ℤ S *ℤ S +ℤ k₁ *ℤ S *ℤ v -ℤ k₂ *ℤ v *ℤ v)
        law k₀ k₁ k₂ v a b S = ring (k₀ ∷ k₁ ∷ k₂ ∷ v ∷ a ∷ b ∷ S ∷ []) λ ρ e1 e2 e3 e4 e5 e6 e7. simp (Z·ring, e1, e2, e3, e4, e5, e6, e7) (by_ring _ _ _ refl)

    pub seed_law : {w d : ℕ} (hs : ℕ) → 4 * w ≡ v + 4 * w₀ → k₀ + b ≤ hs → Within (excess k₀ k₁ k₂ w₀ v) d → Squares (k₀ + b) w (seed_e hs d)
    unfolding excess seed_e
    seed_law {w} {d} hs e hb x = record {
      gap = w_div (pos (k₀ + b) *ℤ pos (k₀ + b) -ℤ pos w *ℤ pos S60) (4 * S60 ^ 4) _ (lit< tt)
          (w_same _ (law (pos (k₀ + b)) (quadratic k₀ k₁ k₂ v) (pos w) (pos v +ℤ pos 4 *ℤ pos w₀) (pos S60) four)
          (w_add (w_mul (w_mul (w_num 4) seed_gap) sum) x));
    }
      where
        four : pos 4 *ℤ pos w ≡ pos v +ℤ pos 4 *ℤ pos w₀
        four = ap pos e

        sum : Within (pos (k₀ + b) *ℤ pos S60 *ℤ pos S60 +ℤ quadratic k₀ k₁ k₂ v) ((2 * hs + 4) * (S60 * S60))
        sum = w_up _ (size (mul-le-mul hb (le_refl (S60 * S60)))) (w_same _ (twice (pos (k₀ + b) *ℤ pos S60 *ℤ pos S60) (quadratic k₀ k₁ k₂ v)) (w_sub (w_mul (w_num 2) (w_mul (w_mul (w_num (k₀ + b)) (w_num S60)) (w_num S60))) seed_gap))
          where
            twice : (x y : ℤ) → pos 2 *ℤ x -ℤ (x -ℤ y) ≡ x +ℤ y
            twice x y = ring (x ∷ y ∷ []) λ ρ e1 e2. simp (Z·ring, ev_num ρ, e1, e2) (by_ring _ _ _ refl)

            size : (k₀ + b) * (S60 * S60) ≤ hs * (S60 * S60) → 2 * ((k₀ + b) * S60 * S60) + 4 * (S60 * S60) ≤ (2 * hs + 4) * (S60 * S60)
            size k = omega arith

        law0 : (s q w n S : ℤ) → pos 4 *ℤ (s *ℤ S *ℤ S -ℤ q) *ℤ (s *ℤ S *ℤ S +ℤ q) +ℤ (pos 4 *ℤ q *ℤ q -ℤ (pos 4 *ℤ w) *ℤ (S *ℤ S *ℤ S *ℤ S *ℤ S)) ≡ (s *ℤ s -ℤ w *ℤ S) *ℤ (pos 4 *ℤ (S *ℤ S *ℤ S *ℤ S))
        law0 s q w n S = ring (s ∷ q ∷ w ∷ S ∷ []) λ ρ e1 e2 e3 e4. simp (Z·ring, ev_num ρ, e1, e2, e3, e4) (by_ring _ _ _ refl)

        law : (s q w n S : ℤ) → pos 4 *ℤ w ≡ n → pos 4 *ℤ (s *ℤ S *ℤ S -ℤ q) *ℤ (s *ℤ S *ℤ S +ℤ q) +ℤ (pos 4 *ℤ q *ℤ q -ℤ n *ℤ (S *ℤ S *ℤ S *ℤ S *ℤ S)) ≡ (s *ℤ s -ℤ w *ℤ S) *ℤ (pos 4 *ℤ (S *ℤ S *ℤ S *ℤ S))
        law s q w n S f = subst (λ m. pos 4 *ℤ (s *ℤ S *ℤ S -ℤ q) *ℤ (s *ℤ S *ℤ S +ℤ q) +ℤ (pos 4 *ℤ q *ℤ q -ℤ m *ℤ (S *ℤ S *ℤ S *ℤ S *ℤ S)) ≡ (s *ℤ s -ℤ w *ℤ S) *ℤ (pos 4 *ℤ (S *ℤ S *ℤ S *ℤ S))) f (law0 s q w n S)
