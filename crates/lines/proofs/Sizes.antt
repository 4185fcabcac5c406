-- A whole number's text in decimal by how far it is from 0, as the code has it. Assumes nothing.
use mathlib.Core.Path.{◌≡◌, refl, sym, ap, ◌∙◌}
use mathlib.Core.Bool.{true, false}
use mathlib.Core.List.{◌++◌}
use Prim.Native.Nat.{ℕ}
use native.Mathlib.Omega.{arith}
use borrow.Author.Tests.{ltb-true}
use lib.IntN.{ℤ, pos, negsuc, nat_abs}
use lib.Signed.{lt_z}
use mir.Syntax.{w64}
use mir.Val.{to_z, of_z, SFits}
use mir.Facts.{to_z-of_z}
use Rattle.rules.specs.JobFile.{text, decimal, whole}

-- ---- a whole number's text: its sign, and its size in decimal
pub text_below : (z : ℤ) (n : ℕ) → SFits w64 z → lt_z (to_z w64 (of_z w64 z)) (pos 0) ≡ true → n ≡ nat_abs (to_z w64 (of_z w64 z)) → text "-" ++ decimal n ≡ whole z
unfolding whole
text_below z n f h e = ap (λ (n : ℕ). text "-" ++ decimal n) (e ∙ ap nat_abs (to_z-of_z f)) ∙ go z (sym (ap (λ (t : ℤ). lt_z t (pos 0)) (to_z-of_z f)) ∙ h)
  where
    go : (z : ℤ) → lt_z z (pos 0) ≡ true → text "-" ++ decimal (nat_abs z) ≡ whole z
    go (pos n) h = let l = ltb-true n 0 h in absurd (omega arith)
    go (negsuc n) h = refl

pub text_above : (z : ℤ) (n : ℕ) → SFits w64 z → lt_z (to_z w64 (of_z w64 z)) (pos 0) ≡ false → n ≡ nat_abs (to_z w64 (of_z w64 z)) → decimal n ≡ whole z
unfolding whole
text_above z n f h e = ap decimal (e ∙ ap nat_abs (to_z-of_z f)) ∙ go z (sym (ap (λ (t : ℤ). lt_z t (pos 0)) (to_z-of_z f)) ∙ h)
  where
    never : true ≡ false → ⊥
    never e = let z : ◌≡◌ {A = ℕ} 0 1 = cc in omega arith

    go : (z : ℤ) → lt_z z (pos 0) ≡ false → decimal (nat_abs z) ≡ whole z
    go (pos n) h = refl
    go (negsuc n) h = absurd (never h)
