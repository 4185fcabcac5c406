-- Every band of every table is tested here, by computing. Assumes nothing.
use Rattle.std.specs.Prelude.{Bool, true, false, ◌*◌, ◌/◌, T, pos}
use Rattle.std.proofs.Common.{lit≤}
use Rattle.rules.specs.Units.{◌°◌'◌''}
use Rattle.rules.specs.Scaled.{unit, radians, cosine}
use Rattle.rules.specs.Computing.{computing}
use Rattle.rules.specs.Systems.{Ellipsoid, GRS_80, Krasovsky}
use Rattle.fixed.specs.Nearness.{Near60}
use Rattle.fixed_bands.specs.Worked.{latitude_cosine}
use Rattle.fixed_bands.specs.Examples.{worked}
use Rattle.fixed_bands.specs.Tables.{latitude_sine_table, latitude_cosine_table}
use Rattle.fixed_bands.specs.Tests.{every, rise_row, sink_row}
use Rattle.fixed_bands.specs.Along.{latitude_sine_model, latitude_cosine_model}
use Rattle.fixed_bands.specs.Numbers.{bands}
use Rattle.fixed_bands.specs.Checks.{LongitudeCosineCheck, LongitudeSineCheck, ShortfallCheck, cosine_gap, cosine_high, cosine_low, sine_high, sine_low}

pub latitude_sine_check : T (every 32 (λ i. rise_row latitude_sine_table i (latitude_sine_model i) (16 * unit) (sine_low i) (sine_high i)))
unfolding bands
latitude_sine_check = tt

cosine_at_50 : Near60 (latitude_cosine (50 ° 0 ' 0 '')) (cosine (radians (pos (50 ° 0 ' 0 '')))) (cosine_gap * unit)
unfolding worked computing
cosine_at_50 = record { gap = record { within = lit≤ tt } }

pub latitude_cosine_check : T (every 32 (λ i. sink_row latitude_cosine_table i (latitude_cosine_model i) (cosine_gap * unit) (cosine_low i) (cosine_high i)))
unfolding bands
latitude_cosine_check = tt

grs80_check : ShortfallCheck GRS_80
unfolding bands
grs80_check = tt

krasovsky_check : ShortfallCheck Krasovsky
unfolding bands
krasovsky_check = tt

pub shortfall_check : (E : Ellipsoid) → ShortfallCheck E
shortfall_check GRS_80 = grs80_check
shortfall_check Krasovsky = krasovsky_check

east_sine_check : LongitudeSineCheck false
unfolding bands
east_sine_check = tt

west_sine_check : LongitudeSineCheck true
unfolding bands
west_sine_check = tt

pub longitude_sine_check : (s : Bool) → LongitudeSineCheck s
longitude_sine_check true = west_sine_check
longitude_sine_check false = east_sine_check

east_cosine_check : LongitudeCosineCheck false
unfolding bands
east_cosine_check = tt

west_cosine_check : LongitudeCosineCheck true
unfolding bands
west_cosine_check = tt

pub longitude_cosine_check : (s : Bool) → LongitudeCosineCheck s
longitude_cosine_check true = west_cosine_check
longitude_cosine_check false = east_cosine_check
