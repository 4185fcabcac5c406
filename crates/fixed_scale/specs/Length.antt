-- The length of the polynomial's derivative, times 0.000002: from its first part f and the slope s/f, as F·(1 + slope²/2). What is left is F·slope⁴/8 and the
-- definition's floors. Assumes nothing: the two numbers come from f64, and how near they are is for the caller to show.
use Rattle.std.specs.Prelude.{◌≡◌, ◌∷◌, ℕ, ◌+◌, ◌*◌, ◌-◌, ◌/◌, ◌^◌, ◌<◌, ◌≤◌, ◌+ℤ◌, ◌-ℤ◌, ◌*ℤ◌, ◌≤ℤ◌}
use native.Mathlib.Omega.{arith}
use Rattle.arith.specs.Laws.Diff.{◌⊖◌}
use Rattle.fixed.specs.Worked.{mul60}

-- F·(1 + slope²/2), of two numbers at scale 2^60
unfoldable pub length60 : ℕ → ℕ → ℕ
length60 F slope = F + mul60 F (mul60 slope slope) / 2

-- ---- what the definition's numbers are, from its F = f·0.000002 and σ = s/f
abbrev pub M : ℕ
M = 2 * 10 ^ 18
