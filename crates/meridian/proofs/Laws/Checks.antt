-- Every band of either ellipsoid passes its test, by computing. Assumes nothing.
use Rattle.std.specs.Prelude.{T}
use Rattle.rules.specs.Systems.{Ellipsoid, GRS_80, Krasovsky}
use Rattle.fixed_bands.specs.Tests.{every}
use Rattle.meridian.specs.Models.{test_band}
use Rattle.meridian.specs.Numbers.{computed}

abbrev pub Passed : Ellipsoid → Type 0
Passed E = T (every 32 (test_band E))

grs80_passes : Passed GRS_80
unfolding computed
grs80_passes = tt

krasovsky_passes : Passed Krasovsky
unfolding computed
krasovsky_passes = tt

pub passes : (E : Ellipsoid) → Passed E
passes GRS_80 = grs80_passes
passes Krasovsky = krasovsky_passes
