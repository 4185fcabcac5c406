-- √(1 - x) of a small number x by its series to x⁴. That r² is near 1 - x is a polynomial identity, of which x⁵·7/128 and less is left; then the law of roots
-- gives how near r is to the definition's whole-number root. Assumes nothing.
use Rattle.std.specs.Prelude.{◌≡◌, List, [], ◌∷◌, ℕ, ◌+◌, ◌*◌, ◌-◌, ◌/◌, ◌^◌, ◌<◌, ◌≤◌, ℤ, ◌+ℤ◌, ◌-ℤ◌, ◌*ℤ◌, ◌≤ℤ◌}
use Rattle.std.proofs.Math.IntN.{pos}
use Rattle.arith.specs.Laws.Diff.{◌⊖◌}
use Rattle.arith.specs.Within.{Within}
use Rattle.rules.specs.Scaled.{unit, one}
use Rattle.fixed.specs.Worked.{S60, mul60, ser60}
use Rattle.fixed.specs.Relations.{Mul60}
use Rattle.fixed.specs.Laws.Products.{off_at}
use Rattle.fixed.specs.Laws.Roots.{root_e}

-- 1/2, 1/8, 1/16, 5/128
abbrev pub root_table : List ℕ
root_table = 576460752303423488 ∷ 144115188075855872 ∷ 72057594037927936 ∷ 45035996273704960 ∷ []

unfoldable pub root60 : ℕ → ℕ
root60 x = S60 - mul60 x (ser60 x root_table)

-- ---- the series as a polynomial: S = 128·σ, the coefficients are 64σ, 16σ, 8σ, 5σ
abbrev pub S_of : ℤ → ℤ
S_of σ = pos 128 *ℤ σ

abbrev pub poly : ℤ → ℤ → ℤ
poly σ x =
    S_of σ *ℤ S_of σ *ℤ S_of σ *ℤ S_of σ *ℤ S_of σ -ℤ x *ℤ (pos 64 *ℤ σ) *ℤ S_of σ *ℤ S_of σ *ℤ S_of σ -ℤ x *ℤ x *ℤ (pos 16 *ℤ σ) *ℤ S_of σ *ℤ S_of σ -ℤ x *ℤ x *ℤ x *ℤ (pos 8 *ℤ σ) *ℤ S_of σ -ℤ x *ℤ x *ℤ x *ℤ x *ℤ (pos 5 *ℤ σ)

-- what is left of its square less 1 - x: x⁵·7/128 and less
abbrev pub left : ℤ → ℤ → ℤ
left σ x =
    (σ *ℤ σ)
    *ℤ (pos 1879048192 *ℤ (x *ℤ x *ℤ x *ℤ x *ℤ x) *ℤ (σ *ℤ σ *ℤ σ) +ℤ pos 3670016 *ℤ (x *ℤ x *ℤ x *ℤ x *ℤ x *ℤ x) *ℤ (σ *ℤ σ) +ℤ pos 10240 *ℤ (x *ℤ x *ℤ x *ℤ x *ℤ x *ℤ x *ℤ x) *ℤ σ +ℤ pos 25 *ℤ (x *ℤ x *ℤ x *ℤ x *ℤ x *ℤ x *ℤ x *ℤ x))

abbrev pub S4 : ℤ → ℤ
S4 S = S *ℤ S *ℤ S *ℤ S

-- ---- r² against (1 - x)·1, for x up to h
abbrev pub σ : ℕ
σ = 2 ^ 53

-- how far S⁴·r is from the polynomial
unfoldable pub series_d : ℕ → ℕ
series_d h = S60 * S60 * S60 * (2 * S60) + S60 * S60 * h * (2 * S60) + S60 * h * h * (2 * S60) + h * h * h * (2 * S60)

unfoldable pub square_d : ℕ → ℕ
square_d h =
    (σ * σ * (1879048192 * (h * h * h * h * h) * (σ * σ * σ) + 3670016 * (h * h * h * h * h * h) * (σ * σ) + 10240 * (h * h * h * h * h * h * h) * σ + 25 * (h * h * h * h * h * h * h * h)) + series_d h * (S60 * S60 * S60 * S60 * S60 + series_d h + S60 * S60 * S60 * S60 * S60)) / (S60 * S60 * S60 * S60 * (S60 * S60 * S60 * S60))

-- ---- the worked root
pub record Step (x b m : ℕ) : Type 0 where
  pub is : Mul60 x b m
  pub half : 2 * m ≤ b

-- r² against 1 - x, and r from 1 - h to 1
pub record RootIs (x h r : ℕ) : Type 0 where
  pub square : Within (pos r *ℤ pos r -ℤ pos (S60 - x) *ℤ pos S60) (square_d h)
  pub low : S60 - h ≤ r
  pub high : r ≤ S60

-- ---- and the definition's root
abbrev pub root_e60 : ℕ → ℕ → ℕ
root_e60 e hi = root_e (square_d hi) (off_at S60 (pos S60) one + e) (2 * unit) (S60 - hi)
