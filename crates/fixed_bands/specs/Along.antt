-- The definition's numbers along the bands of each table, with their models. Assumes nothing.
use Rattle.std.specs.Prelude.{◌≡◌, Bool, true, false, ℕ, ◌+◌, ◌*◌, ◌≤◌, ◌-ℤ◌}
use Rattle.rules.specs.Units.{◌°◌'◌''}
use Rattle.rules.specs.Scaled.{one}
use Rattle.rules.specs.Systems.{Ellipsoid, constants}
use Rattle.fixed_bands.specs.Worked.{width}
use Rattle.fixed_bands.specs.Models.{Model, still, opposite, difference}
use Rattle.fixed_bands.specs.Functions.{angle_model, sine_model, cosine_model, K_model}

-- where the tables of latitudes start
abbrev pub north : ℕ
north = 48 ° 0 ' 0 ''

-- a latitude along the band i, its sine and cosine, and what K is short of 1
abbrev pub latitude_model : ℕ → Model
latitude_model i = angle_model false (north + i * width)

abbrev pub latitude_sine_model : ℕ → Model
latitude_sine_model i = sine_model (latitude_model i)

abbrev pub latitude_cosine_model : ℕ → Model
latitude_cosine_model i = cosine_model (latitude_model i)

abbrev pub shortfall_model : Ellipsoid → ℕ → Model
shortfall_model E i = difference (still one) (K_model (constants E) (latitude_sine_model i))

-- a difference of longitude, east (false) or west (true): its sine without the sign, and its cosine
unfoldable pub turned_model : Bool → Model → Model
turned_model true m = opposite m
turned_model false m = m

abbrev pub longitude_sine_model : Bool → ℕ → Model
longitude_sine_model s i = turned_model s (sine_model (angle_model s (i * width)))

abbrev pub longitude_cosine_model : Bool → ℕ → Model
longitude_cosine_model s i = cosine_model (angle_model s (i * width))
