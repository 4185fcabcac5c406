-- A root by steps of Heron: how far the square of each step is from the number, between which numbers the root lies, and how near it is to the root of a value
-- that the number is near. Only squares are compared, so it does not matter how a root is found. Assumes nothing.
use Rattle.std.specs.Prelude.{◌≡◌, ◌∷◌, ℕ, ◌+◌, ◌*◌, ◌-◌, ◌/◌, ◌<◌, ◌≤◌, pos, ◌+ℤ◌, ◌-ℤ◌, ◌*ℤ◌}
use Rattle.arith.specs.Laws.Diff.{◌⊖◌}
use Rattle.arith.specs.Within.{Within}
use Rattle.rules.specs.Scaled.{unit}
use Rattle.fixed.specs.Worked.{S60}

-- s·s is w at scale 2^60, within d of the scale's square
pub record Squares (s w d : ℕ) : Type 0 where
  pub gap : Within (pos s *ℤ pos s -ℤ pos w *ℤ pos S60) d

-- ---- one step of Heron: r is half of s + w/s, gone down
-- how far s is from w/s
unfoldable pub gap_h : ℕ → ℕ → ℕ
gap_h d lo = d / lo + 9

unfoldable pub heron_e : ℕ → ℕ → ℕ → ℕ
heron_e d lo hi = (gap_h d lo * gap_h d lo + 4 * (9 * hi) + 1 * (2 * (2 * hi + gap_h d lo))) / 4

unfoldable pub root_x : (d e h : ℕ) → ℕ
root_x d e h = unit * unit * d + unit * S60 * e + S60 * S60 * h

unfoldable pub root_e : (d e h lo : ℕ) → ℕ
root_e d e h lo = root_x d e h / (2 * (lo * unit) - root_x d e h / (lo * unit))
