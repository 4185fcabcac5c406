-- sin p, cos p, sinh q and cosh q of Mercator's angles, and d from tan d = sinh q / cos p: how near each is, and between which numbers it lies. Assumes nothing.
use Rattle.std.specs.Prelude.{true, ◌&&◌, ℕ, ◌+◌, ◌*◌, ◌-◌, ◌/◌, ◌^◌, ◌<◌, ◌≤◌}
use Rattle.std.proofs.Math.Bool.{false}
use Rattle.fixed.specs.Worked.{S60}
use Rattle.fixed.specs.Laws.Series.{alt_b}
use Rattle.fixed.specs.Laws.Functions.{sq_l, sq_h}
use Rattle.fixed.specs.Tables.{sine_table}

-- ---- the bounds of each; the sine's are found over 32 bands, since over the whole range an interval is too wide
abbrev pub sine_low : ℕ
sine_low = 7375 * S60 / 10000

abbrev pub sine_high : ℕ
sine_high = 8325 * S60 / 10000

abbrev pub cosine_low : ℕ
cosine_low = 5456 * S60 / 10000

abbrev pub cosine_high : ℕ
cosine_high = 6816 * S60 / 10000

abbrev pub sinh_high : ℕ
sinh_high = 6618 * S60 / 100000

abbrev pub cosh_high : ℕ
cosh_high = 10022 * S60 / 10000

abbrev pub difference_high : ℕ
difference_high = 1214 * S60 / 10000

abbrev pub band_width : ℕ
band_width = 4673 * S60 / 1000000

-- what is asked of an angle from l to h: that the sine's law can be used, and the bounds that it gives
abbrev pub nest_low : ℕ → ℕ → ℕ
nest_low l h = alt_b false (sq_l l) (sq_h h) sine_table

abbrev pub nest_high : ℕ → ℕ → ℕ
nest_high l h = alt_b true (sq_l l) (sq_h h) sine_table
