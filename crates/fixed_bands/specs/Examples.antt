-- Sine and cosine of 50° and of 5°, worked out. An independent calculation has, times 2^60: 883189111956446361.1, 741083658102443605.8, 100483730063757352.9
-- and 1148534290205298929.1. Assumes nothing.
use Rattle.std.specs.Prelude.{◌≡◌, ℕ}
use Rattle.rules.specs.Units.{◌°◌'◌''}
use Rattle.fixed_bands.specs.Worked.{latitude_sine, latitude_cosine, longitude_sine, longitude_cosine}
use Rattle.fixed_bands.specs.Worked as Worked

-- a switch that opens the worked numbers
unfoldable pub worked : ℕ
unfolding Worked.part30 Worked.rise_at Worked.sink_at Worked.rising Worked.sinking Worked.latitude_sine Worked.latitude_cosine Worked.longitude_sine Worked.longitude_cosine
worked = 0
