-- How large Mercator's pair is in units of 2^-30 m: below 595 km in either part, so that z's parts are at most 1.2. Assumes nothing.
use Rattle.std.specs.Prelude.{◌≡◌, ◌∷◌, ℕ, ◌+◌, ◌*◌, ◌/◌, ◌^◌, ◌≤◌, ◌+ℤ◌, ◌*ℤ◌}
use native.Mathlib.Omega.{arith}
use Rattle.rules.specs.Units.{◌°◌'◌''}

abbrev pub limit30 : ℕ
limit30 = 595000 * 2 ^ 30
