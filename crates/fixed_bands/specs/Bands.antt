-- How near the worked sine, cosine and K are to the definition's, over all the bands of their tables. Assumes nothing.
use Rattle.std.specs.Prelude.{◌≡◌, ◌∷◌, ℕ, ◌+◌, ◌*◌, ◌-◌, ◌/◌, ◌<◌, ◌≤◌, ◌-ℤ◌}
use Rattle.rules.specs.Units.{◌°◌'◌''}
use Rattle.fixed.specs.Worked.{S60}
use Rattle.fixed_bands.specs.Worked.{latitude_sine, latitude_cosine}
use Rattle.fixed_bands.specs.Checks.{sine_low, sine_high, cosine_low, cosine_high}

-- ticks of a latitude
pub record Latitude (n : ℕ) : Type 0 where
  pub low : 48 ° 0 ' 0 '' ≤ n
  pub high : n ≤ 56 ° 0 ' 0 ''

-- the sine and cosine of a latitude of n ticks lie between these ten-thousandths
pub record Spans (n sl sh cl ch : ℕ) : Type 0 where
  pub sine_low : sl * S60 / 10000 ≤ latitude_sine n
  pub sine_high : latitude_sine n ≤ sh * S60 / 10000
  pub cosine_low : cl * S60 / 10000 ≤ latitude_cosine n
  pub cosine_high : latitude_cosine n ≤ ch * S60 / 10000

-- ---- how large they are, for the callers' own needs
pub record LatitudeSizes (t c : ℕ) : Type 0 where
  pub sine_low : 70 * S60 / 100 ≤ t
  pub sine_high : t ≤ 87 * S60 / 100
  pub cosine_low : 54 * S60 / 100 ≤ c
  pub cosine_high : c ≤ 68 * S60 / 100

pub record LongitudeSizes (s c : ℕ) : Type 0 where
  pub sine_high : s ≤ 961 * S60 / 10000
  pub cosine_low : 99 * S60 / 100 ≤ c
  pub cosine_high : c ≤ S60
