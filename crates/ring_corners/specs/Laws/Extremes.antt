-- std's `min` and `max` are the smaller and the larger of two numbers, as the rules have them. Assumes nothing.
use Rattle.std.specs.Prelude.{◌≡◌, refl, Bool, true, false, cond, ℤ}
use Rattle.std.specs.Int.{int_min, int_max}
use Rattle.std.specs.Int.Signed.{lt_z}
use Rattle.arith.specs.Laws.Order.{<ℤ→≤ℤ, ≤ℤ_antisym}
use Rattle.rules.specs.RingAnswers.{smaller, larger}
use Rattle.rules.proofs.Laws.Checks.{lt_z_true, lt_z_false}

pub min_is : (a b : ℤ) → int_min a b ≡ smaller a b
unfolding smaller
min_is a b = go (lt_z b a)
  where
    go : (t : Bool) → cond t b a ≡ elim t [ true ↦ b | false ↦ a ]
    go true = refl
    go false = refl

pub max_is : (a b : ℤ) → int_max a b ≡ larger a b
unfolding larger
max_is a b = go (lt_z a b) (lt_z b a) refl refl
  where
    go : (t s : Bool) → lt_z a b ≡ t → lt_z b a ≡ s → cond s a b ≡ elim t [ true ↦ b | false ↦ a ]
    go true true e f = ≤ℤ_antisym (<ℤ→≤ℤ ((lt_z_true a b).0 e)) (<ℤ→≤ℤ ((lt_z_true b a).0 f))
    go true false e f = refl
    go false true e f = refl
    go false false e f = ≤ℤ_antisym ((lt_z_false a b).0 e) ((lt_z_false b a).0 f)
