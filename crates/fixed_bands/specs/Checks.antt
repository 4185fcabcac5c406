-- Every band of every table is tested here, by computing. Assumes nothing.
use Rattle.std.specs.Prelude.{Bool, cond, ℕ, ◌*◌, ◌/◌, T, ltb}
use Rattle.rules.specs.Units.{◌°◌'◌''}
use Rattle.rules.specs.Scaled.{unit}
use Rattle.rules.specs.Systems.{Ellipsoid}
use Rattle.fixed.specs.Worked.{S60}
use Rattle.fixed_bands.specs.Worked.{shortfall_table}
use Rattle.fixed_bands.specs.Tables.{longitude_sine_table, longitude_cosine_table}
use Rattle.fixed_bands.specs.Tests.{every, rise_row, sink_row}
use Rattle.fixed_bands.specs.Along.{longitude_sine_model, longitude_cosine_model, shortfall_model}

-- bounds for each two degrees, so many ten-thousandths
abbrev pub one_of : Bool → Bool → Bool → (a b c d : ℕ) → ℕ
one_of x y z a b c d = cond x (a * S60 / 10000) (cond y (b * S60 / 10000) (cond z (c * S60 / 10000) (d * S60 / 10000)))

abbrev stepped : (a b c d : ℕ) → ℕ → ℕ
stepped a b c d i = one_of (ltb i 8) (ltb i 16) (ltb i 24) a b c d

abbrev pub sine_low : ℕ → ℕ
sine_low = stepped 7431 7660 7880 8090

abbrev pub sine_high : ℕ → ℕ
sine_high = stepped 7661 7881 8091 8291

abbrev pub cosine_low : ℕ → ℕ
cosine_low = stepped 6427 6156 5877 5591

abbrev pub cosine_high : ℕ → ℕ
cosine_high = stepped 6692 6428 6157 5878

-- how near the cosine is shown to be, in units of 2^-60; at 50° it is more than 8 of them off
abbrev pub cosine_gap : ℕ
cosine_gap = 14

abbrev pub ShortfallCheck : Ellipsoid → Type 0
ShortfallCheck E = T (every 32 (λ i. rise_row (shortfall_table E) i (shortfall_model E i) (8 * unit) 0 (6 * S60 / 1000)))

abbrev pub LongitudeSineCheck : Bool → Type 0
LongitudeSineCheck s = T (every 22 (λ i. rise_row longitude_sine_table i (longitude_sine_model s i) (8 * unit) 0 (961 * S60 / 10000)))

abbrev pub LongitudeCosineCheck : Bool → Type 0
LongitudeCosineCheck s = T (every 22 (λ i. sink_row longitude_cosine_table i (longitude_cosine_model s i) (18 * unit) (99 * S60 / 100) S60))
