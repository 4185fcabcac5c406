-- What the arithmetic gives for the inverse: one value for every input. How near it is to the definition is in Laws.Inverse. Definitions only.
use Rattle.std.specs.Prelude.{Bool, ℕ, ◌*◌, ◌/◌, ◌^◌, ◌≤◌, ℤ, pos, nat_abs, ◌+ℤ◌, ◌-ℤ◌}
use Rattle.rules.specs.Refusals.{Answer, ◌>>=◌, ◌>>◌, ◌if◌, plane_outside}
use Rattle.rules.specs.Systems.{System, Ellipsoid, GRS_80, Krasovsky, constants, b_coefficients}
use Rattle.rules.specs.Scaled.{unit}
use Rattle.rules.specs.Points.{Ticks, offset_X, offset_Y, plane_bad, inverse_checks, judged}
use Rattle.systems.specs.Zones.{Sized}
use Rattle.systems.specs.declared.Zone.{Zone}
use Rattle.double.specs.declared.Pair.{Pair}
use Rattle.double.specs.Value.{value}
use Rattle.double.specs.Complex.{horner}
use Rattle.double.specs.Exact.{doubles}
use Rattle.metres.specs.Metres.{arguments_of}
use Rattle.metres.specs.Millimetres.{truncated}
use Rattle.fixed.specs.Nearness.{turned}
use Rattle.fixed.specs.Laws.Turned.{below_zero}
use Rattle.fixed_inverse.specs.Worked.{latitude_ticks, difference_ticks}
use Rattle.projection_worked.specs.Worked.{below_nought, millionths_of}

-- n millimetres after m0 of M millionths is undone, in whole multiples of 2^-30 m, gone down
unfoldable pub undone30 : ℕ → ℕ → ℕ
undone30 M n = n * 1000 * 2 ^ 30 / M

-- a0 in units of 2^-30 m, to the nearest: the inverse's centre
unfoldable pub centre30 : Ellipsoid → ℕ
centre30 GRS_80 = 6_190_316_082_331_924
centre30 Krasovsky = 6_190_315_423_164_320

-- the first part of z in units of 2^-30 m
unfoldable pub centred30 : Ellipsoid → ℕ → ℤ
centred30 E g = pos g -ℤ pos (centre30 E)

-- Mercator's pair in metres of a point n millimetres north of the offset and m millimetres to a side of it, whichever
unfoldable pub mercator_pair : Ellipsoid → ℕ → ℕ → ℕ → Pair
mercator_pair E M n m = horner (doubles unit (b_coefficients (constants E))) (arguments_of (centred30 E (undone30 M n)) (pos (undone30 M m)))

-- B and L - L0 of Mercator's pair, in ticks; `west` is the side that the point lies on
unfoldable pub latitude_from : Ellipsoid → Pair → ℤ
latitude_from E p = pos (latitude_ticks E (truncated 30 (value p.re)) (truncated 30 (value p.im)))

unfoldable pub difference_from : Ellipsoid → Bool → Pair → ℤ
difference_from E west p = turned west (turned (below_nought p.im) (pos (difference_ticks E (truncated 30 (value p.re)) (truncated 30 (value p.im)))))

unfoldable pub worked_pair : System → ℤ → ℤ → Pair
worked_pair s X Y = mercator_pair s.ellipsoid (millionths_of s) (nat_abs (X -ℤ offset_X s)) (nat_abs (Y -ℤ offset_Y s))

abbrev pub ticks_from : System → Bool → Pair → Ticks
ticks_from s west p = record { B = latitude_from s.ellipsoid p; L = s.L0 +ℤ difference_from s.ellipsoid west p }

unfoldable pub worked_ticks : System → ℤ → ℤ → Ticks
worked_ticks s X Y = ticks_from s (below_zero (Y -ℤ offset_Y s)) (worked_pair s X Y)

unfoldable pub worked_inverse : ℕ → ℤ → ℤ → Answer Ticks
worked_inverse code X Y = inverse_checks code X Y >>= λ s. judged s (worked_ticks s X Y)

-- the same after refusal 1, for the code's branches
abbrev pub in_system : System → ℤ → ℤ → Answer Ticks
in_system s X Y = plane_outside if plane_bad s X Y >> judged s (worked_ticks s X Y)

-- how far the box of refusal 4 reaches to a side, in kilometres
abbrev pub side_km : ℕ
side_km = 420

-- the box of refusal 4, of a point n millimetres north of the offset and m millimetres to a side of it: a millionth of m0 is a millimetre in a km
pub record Boxed (M n m : ℕ) : Type 0 where
  pub scale_low : 999_000 ≤ M
  pub scale_high : M ≤ 1_000_000
  pub low : 5300 * M ≤ n
  pub high : n ≤ 6250 * M
  pub side : m ≤ side_km * M

-- what the code knows of a point that passed refusal 4
pub record InBox (zone : Zone) (x y : ℤ) : Type 0 where
  pub sized : Sized zone
  pub boxed : Boxed (nat_abs zone.millionths) (nat_abs (x -ℤ zone.north)) (nat_abs (y -ℤ zone.east))
