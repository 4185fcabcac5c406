-- Mercator's x: the tangent of f over cos d as a quotient of what the code has, its difference from 52° by the tangent difference rule, the arc tangent, and
-- that in metres. Assumes nothing.
use Rattle.std.specs.Prelude.{Bool, ◌≡◌, ◌∷◌, ℕ, ◌+◌, ◌*◌, ◌-◌, ◌/◌, ◌^◌, ◌≤◌, ◌<◌, ℤ, pos, ◌+ℤ◌, ◌-ℤ◌, ◌*ℤ◌}
use native.Mathlib.Omega.{arith}
use Rattle.rules.specs.Systems.{◌/10^◌}
use Rattle.fixed.specs.Worked.{mul60, odd_alt60}
use Rattle.fixed.specs.Nearness.{turned}
use Rattle.fixed.specs.Tables.{arctan_table}

-- ---- x less 5,760,000 m, in units of 2^-30 m, of the tangent of the difference from 52°
unfoldable pub north30 : ℕ → ℕ → Bool → ℕ → ℤ
north30 centre radius south u = pos centre +ℤ turned south (pos (mul60 (odd_alt60 u arctan_table) radius))
