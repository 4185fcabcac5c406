-- A function of an angle as it is worked, on natural numbers at scale 2^60: the band of a quarter of a degree, and in it a polynomial in the ticks from the band's start.
-- Each definition is what the function of src/ of the same name answers. Assumes nothing.
use Rattle.std.specs.Prelude.{List, ℕ, ◌+◌, ◌*◌, ◌-◌, ◌/◌, ◌%◌, ◌^◌, get_or}
use Rattle.rules.specs.Units.{◌°◌'◌''}
use Rattle.rules.specs.Systems.{Ellipsoid, GRS_80, Krasovsky}
use Rattle.fixed.specs.Worked.{S60, P30}
use Rattle.fixed_bands.specs.Tables.{latitude_sine_table, latitude_cosine_table, longitude_sine_table, longitude_cosine_table, shortfall_grs80_table, shortfall_krasovsky_table}

-- s·h / 2^30 by the halves of s, gone down
unfoldable pub part30 : ℕ → ℕ → ℕ
part30 s h = s / P30 * h + s % P30 * h / P30

-- c₀ + x·(c₁ - x·(c₂ + x·(c₃ - x·(c₄ + x·c₅)))) and c₀ - x·(c₁ + x·(c₂ - x·(c₃ + x·(c₄ - x·c₅)))), where x = h / 2^30
abbrev pub rise : (c0 c1 c2 c3 c4 c5 h : ℕ) → ℕ
rise c0 c1 c2 c3 c4 c5 h = c0 + part30 (c1 - part30 (c2 + part30 (c3 - part30 (c4 + part30 c5 h) h) h) h) h

abbrev pub sink : (c0 c1 c2 c3 c4 c5 h : ℕ) → ℕ
sink c0 c1 c2 c3 c4 c5 h = c0 - part30 (c1 + part30 (c2 - part30 (c3 + part30 (c4 - part30 c5 h) h) h) h) h

-- of the six numbers of a table from the place k on
unfoldable pub rise_at : List ℕ → ℕ → ℕ → ℕ
rise_at tab k h = rise (get_or tab k 0) (get_or tab (k + 1) 0) (get_or tab (k + 2) 0) (get_or tab (k + 3) 0) (get_or tab (k + 4) 0) (get_or tab (k + 5) 0) h

unfoldable pub sink_at : List ℕ → ℕ → ℕ → ℕ
sink_at tab k h = sink (get_or tab k 0) (get_or tab (k + 1) 0) (get_or tab (k + 2) 0) (get_or tab (k + 3) 0) (get_or tab (k + 4) 0) (get_or tab (k + 5) 0) h

-- the width of a band in ticks: one more than a quarter of a degree, so that the last angle of a table, 56° or 5°30', falls into its last band
abbrev pub width : ℕ
width = 900000001

-- the band, and the ticks in it, of n ticks from the table's start
unfoldable pub rising : List ℕ → ℕ → ℕ
rising tab n = rise_at tab (6 * (n / width)) (n % width)

unfoldable pub sinking : List ℕ → ℕ → ℕ
sinking tab n = sink_at tab (6 * (n / width)) (n % width)

-- the sine and cosine of a latitude and of a difference of longitude, of n ticks
unfoldable pub latitude_sine : ℕ → ℕ
latitude_sine n = rising latitude_sine_table (n - 48 ° 0 ' 0 '')

unfoldable pub latitude_cosine : ℕ → ℕ
latitude_cosine n = sinking latitude_cosine_table (n - 48 ° 0 ' 0 '')

unfoldable pub longitude_sine : ℕ → ℕ
longitude_sine n = rising longitude_sine_table n

unfoldable pub longitude_cosine : ℕ → ℕ
longitude_cosine n = sinking longitude_cosine_table n

-- K of a latitude of n ticks
abbrev pub shortfall_table : Ellipsoid → List ℕ
shortfall_table GRS_80 = shortfall_grs80_table
shortfall_table Krasovsky = shortfall_krasovsky_table

unfoldable pub K60 : Ellipsoid → ℕ → ℕ
K60 E n = S60 - rising (shortfall_table E) (n - 48 ° 0 ' 0 '')
