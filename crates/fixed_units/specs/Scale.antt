-- The scale in whole units of 10^-9: how near it is to the definition's. Assumes nothing: the derivative's first part and slope come from f64, and how near they
-- are is for the caller to show.
use Rattle.std.specs.Prelude.{◌≡◌, ◌∷◌, ℕ, ◌+◌, ◌*◌, ◌/◌, ◌%◌, ◌^◌, ◌<◌, ◌≤◌, ◌+ℤ◌, ◌-ℤ◌, ◌*ℤ◌}
use Rattle.rules.specs.Units.{◌°◌'◌'', units_in_scale}
use Rattle.rules.specs.Scaled.{unit}
use Rattle.fixed.specs.Worked.{P30}

-- m0, of M millionths, times a number at scale 2^60, in units of 10^-9 at scale 2^30
unfoldable pub times_e : ℕ → ℕ
times_e e = (unit * units_in_scale * e + P30 * unit * unit + units_in_scale * (1 * unit) * (P30 * P30)) / (P30 * unit)
