-- Sine and cosine of 50° and of 5°, worked out. An independent calculation has, times 2^60: 883189111956446361.1, 741083658102443605.8, 100483730063757352.9
-- and 1148534290205298929.1. Assumes nothing.
use Rattle.std.specs.Prelude.{◌≡◌, refl}
use Rattle.rules.specs.Units.{◌°◌'◌''}
use Rattle.fixed_bands.specs.Worked.{latitude_sine, latitude_cosine, longitude_sine, longitude_cosine}
use Rattle.fixed_bands.specs.Examples.{worked}

sine_of_50 : latitude_sine (50 ° 0 ' 0 '') ≡ 883189111956446369
unfolding worked
sine_of_50 = refl

cosine_of_50 : latitude_cosine (50 ° 0 ' 0 '') ≡ 741083658102443614
unfolding worked
cosine_of_50 = refl

sine_of_5 : longitude_sine (5 ° 0 ' 0 '') ≡ 100483730063757353
unfolding worked
sine_of_5 = refl

cosine_of_5 : longitude_cosine (5 ° 0 ' 0 '') ≡ 1148534290205298941
unfolding worked
cosine_of_5 = refl
