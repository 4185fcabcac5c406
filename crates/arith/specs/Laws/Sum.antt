-- Laws of finite sums over ℤ. Assumes nothing.
use Rattle.std.specs.Prelude.{◌≡◌, refl, [], ◌∷◌, ℕ, zero, suc, ◌*◌, ◌<◌, ◌≤◌, ℤ, pos, neg_ℤ, ◌+ℤ◌, ◌-ℤ◌, ◌*ℤ◌, nat_abs, ◌≤ℤ◌}
use Rattle.std.proofs.Common.{◌∙◌, ap, ap₂, arith}
use Rattle.arith.specs.Laws.Diff.{◌⊖◌, Z·ℕ, lin}
use Rattle.arith.specs.Laws.Order.{abs_add, +ℤ_mono}
use Rattle.arith.specs.Laws.Ring.{ring, Z·ring, by_ring}
use Rattle.arith.specs.Sum.{Σ}

pub Σ_zero : (f : ℕ → ℤ) → Σ 0 f ≡ pos 0
unfolding Σ
Σ_zero f = refl

pub Σ_suc : (n : ℕ) (f : ℕ → ℤ) → Σ (suc n) f ≡ Σ n f +ℤ f n
unfolding Σ
Σ_suc n f = refl

pub Σ_cong : (n : ℕ) (f g : ℕ → ℤ) → ((i : ℕ) → i < n → f i ≡ g i) → Σ n f ≡ Σ n g
unfolding Σ
Σ_cong zero f g h = refl
Σ_cong (suc n) f g h = ap₂ ◌+ℤ◌ (Σ_cong n f g (λ i l. h i (omega arith))) (h n (omega arith))

pub Σ_add : (n : ℕ) (f g : ℕ → ℤ) → Σ n (λ i. f i +ℤ g i) ≡ Σ n f +ℤ Σ n g
unfolding Σ
Σ_add zero f g = refl
Σ_add (suc n) f g = ap (λ t. t +ℤ (f n +ℤ g n)) (Σ_add n f g) ∙ swap (Σ n f) (Σ n g) (f n) (g n)
  where
    swap : (a b c d : ℤ) → (a +ℤ b) +ℤ (c +ℤ d) ≡ (a +ℤ c) +ℤ (b +ℤ d)
    swap a b c d = ring (a ∷ b ∷ c ∷ d ∷ []) λ ρ ea eb ec ed. simp (Z·ring, ea, eb, ec, ed) (by_ring _ _ _ refl)

pub Σ_neg : (n : ℕ) (f : ℕ → ℤ) → Σ n (λ i. neg_ℤ (f i)) ≡ neg_ℤ (Σ n f)
unfolding Σ
Σ_neg zero f = refl
Σ_neg (suc n) f = ap (λ t. t +ℤ neg_ℤ (f n)) (Σ_neg n f) ∙ law (Σ n f) (f n)
  where
    law : (a b : ℤ) → neg_ℤ a +ℤ neg_ℤ b ≡ neg_ℤ (a +ℤ b)
    law a b = ring (a ∷ b ∷ []) λ ρ ea eb. simp (Z·ring, ea, eb) (by_ring _ _ _ refl)

pub Σ_scale : (n : ℕ) (k : ℤ) (f : ℕ → ℤ) → Σ n (λ i. k *ℤ f i) ≡ k *ℤ Σ n f
unfolding Σ
Σ_scale zero k f = law k
  where
    law : (k : ℤ) → pos 0 ≡ k *ℤ pos 0
    law k = lin (k ∷ []) λ u v e. simp (Z·ℕ, e) (omega arith)
Σ_scale (suc n) k f = ap (λ t. t +ℤ k *ℤ f n) (Σ_scale n k f) ∙ law k (Σ n f) (f n)
  where
    law : (k a b : ℤ) → k *ℤ a +ℤ k *ℤ b ≡ k *ℤ (a +ℤ b)
    law k a b = ring (k ∷ a ∷ b ∷ []) λ ρ ek ea eb. simp (Z·ring, ek, ea, eb) (by_ring _ _ _ refl)

-- a sum of differences
pub Σ_telescope : (n : ℕ) (f : ℕ → ℤ) → Σ n (λ i. f (suc i) -ℤ f i) ≡ f n -ℤ f 0
unfolding Σ
Σ_telescope zero f = law (f 0)
  where
    law : (a : ℤ) → pos 0 ≡ a -ℤ a
    law a = lin (a ∷ []) λ u v e. simp (Z·ℕ, e) (omega arith)
Σ_telescope (suc n) f = ap (λ t. t +ℤ (f (suc n) -ℤ f n)) (Σ_telescope n f) ∙ law (f n) (f 0) (f (suc n))
  where
    law : (a b c : ℤ) → (a -ℤ b) +ℤ (c -ℤ a) ≡ c -ℤ b
    law a b c = ring (a ∷ b ∷ c ∷ []) λ ρ ea eb ec. simp (Z·ring, ea, eb, ec) (by_ring _ _ _ refl)

pub Σ_mono : (n : ℕ) (f g : ℕ → ℤ) → ((i : ℕ) → i < n → f i ≤ℤ g i) → Σ n f ≤ℤ Σ n g
unfolding Σ
Σ_mono zero f g h = simp Z·ℕ (omega arith)
Σ_mono (suc n) f g h = +ℤ_mono (Σ_mono n f g (λ i l. h i (omega arith))) (h n (omega arith))

pub Σ_abs : (n B : ℕ) (f : ℕ → ℤ) → ((i : ℕ) → i < n → nat_abs (f i) ≤ B) → nat_abs (Σ n f) ≤ n * B
unfolding Σ
Σ_abs zero B f h = omega arith
Σ_abs (suc n) B f h = omega (arith, abs_add (Σ n f) (f n), Σ_abs n B f (λ i l. h i (omega arith)), h n (omega arith))
