-- On which side of another number a number lies. Assumes nothing.
use Rattle.std.specs.Prelude.{Bool, true, false, ◌≡◌, refl, [], ◌∷◌, ℕ, ◌<◌, T, ℤ, pos, negsuc, nat_abs, ◌-ℤ◌, ◌≤ℤ◌, ◌<ℤ◌}
use Rattle.std.proofs.Common.{arith, ltb→lt}
use Rattle.std.proofs.Common.{◌∙◌}
use Rattle.std.specs.Int.Signed.{lt_z, non_neg}
use Rattle.rules.proofs.Laws.Checks.{lt_z_true, lt_z_false}
use Rattle.arith.specs.Laws.Diff.{Z·ℕ, lin}
use Rattle.fixed.specs.Laws.Turned.{below_zero}

pub west_side : (z : ℤ) → z <ℤ pos 0 → true ≡ below_zero z
west_side (pos k) h = absurd (not_below k (ltb→lt k 0 h.lt))
  where
    not_below : (k : ℕ) → k < 0 → ⊥
    not_below k h = omega arith
west_side (negsuc k) h = refl

pub east_side : (z : ℤ) → pos 0 ≤ℤ z → false ≡ below_zero z
east_side (pos k) h = refl
east_side (negsuc k) h = absurd h.le

-- which of two numbers is the lower, and the sign of their difference
pub lower_is : (a b : ℤ) → lt_z a b ≡ below_zero (a -ℤ b)
lower_is a b = by_test (lt_z a b) refl
  where
    less : a <ℤ b → (a -ℤ b) <ℤ pos 0
    less = lin (a ∷ b ∷ []) λ u v ea eb. simp (Z·ℕ, ea, eb) (omega arith)

    least : b ≤ℤ a → pos 0 ≤ℤ (a -ℤ b)
    least = lin (a ∷ b ∷ []) λ u v ea eb. simp (Z·ℕ, ea, eb) (omega arith)

    by_test : (t : Bool) → lt_z a b ≡ t → lt_z a b ≡ below_zero (a -ℤ b)
    by_test true e = e ∙ west_side (a -ℤ b) (less ((lt_z_true a b).0 e))
    by_test false e = e ∙ east_side (a -ℤ b) (least ((lt_z_false a b).0 e))

-- the size of a number below 0, taken from 0
pub minus_size : (z : ℤ) → nat_abs (pos 0 -ℤ z) ≡ nat_abs z
minus_size z = lin (z ∷ []) λ u v ez. simp (Z·ℕ, ez) (omega arith)

pub nonneg : (z : ℤ) → pos 0 ≤ℤ z → T (non_neg z)
nonneg (pos k) h = tt
nonneg (negsuc k) h = absurd h.le

pub minus_nonneg : (z : ℤ) → z <ℤ pos 0 → pos 0 ≤ℤ (pos 0 -ℤ z)
minus_nonneg z = lin (z ∷ []) λ u v ez. simp (Z·ℕ, ez) (omega arith)
