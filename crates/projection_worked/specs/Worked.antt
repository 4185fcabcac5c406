-- What the arithmetic gives forward: the worked value, one for every input. That of the inverse is in Inverse, how near both are to the definition in Laws. Assumes nothing.
use Rattle.std.specs.Prelude.{Bool, false, ℕ, ◌-◌, ◌/◌, ◌^◌, ℤ, pos, nat_abs, ◌+ℤ◌, ◌-ℤ◌, Float}
use Rattle.std.specs.Float.{fin}
use Rattle.std.specs.Float.Ieee.{lt}
use Rattle.rules.specs.Refusals.{Answer, answered, ◌>>=◌}
use Rattle.rules.specs.Systems.{System, Ellipsoid, constants, a_coefficients}
use Rattle.rules.specs.Scaled.{unit, derivative}
use Rattle.rules.specs.Points.{Point, offset_X, offset_Y, forward_checks}
use Rattle.double.specs.declared.Pair.{Pair}
use Rattle.double.specs.Value.{value}
use Rattle.double.specs.Complex.{horner}
use Rattle.double.specs.Exact.{doubles}
use Rattle.metres.specs.Metres.{arguments_of}
use Rattle.metres.specs.Millimetres.{truncated, in_millimetres}
use Rattle.fixed.specs.Worked.{mul60, quot60}
use Rattle.fixed.specs.Nearness.{turned}
use Rattle.fixed.specs.Laws.Turned.{below_zero}
use Rattle.fixed_forward.specs.Mercator.{north_of, east_of}
use Rattle.fixed_scale.specs.Answers.{scale_of}
use Rattle.fixed_scale.specs.Convergence.{turn_of, convergence60}
use Rattle.fixed_units.specs.Worked.{scale_units, m0_units, convergence_units}

-- ---- forward
-- z of a latitude of n ticks and a difference of longitude of d ticks, whatever its side
unfoldable pub z_of : Ellipsoid → ℕ → ℕ → Pair
z_of E n d = arguments_of (north_of E n d) (pos (east_of E n d))

-- the Gauss-Krüger pair in metres
unfoldable pub plane_pair : Ellipsoid → ℕ → ℕ → Pair
plane_pair E n d = horner (doubles unit (a_coefficients (constants E))) (z_of E n d)

-- a part of v units of 2^-1074 m after m0 of M millionths, in whole millimetres
unfoldable pub scaled_part : ℕ → ℤ → ℤ
scaled_part M v = in_millimetres v (1_000_000 - M) 1000

-- m0 in millionths
unfoldable pub millionths_of : System → ℕ
millionths_of s = nat_abs s.m0 / 10 ^ 18

-- X and Y of a latitude of B ticks and a difference d of longitude
unfoldable pub worked_X : System → ℤ → ℤ → ℤ
worked_X s B d = offset_X s +ℤ scaled_part (millionths_of s) (value (plane_pair s.ellipsoid (nat_abs B) (nat_abs d)).re)

-- Y of a second part p, on its side of the meridian: the part is rounded first, and the whole offset added then, so that east and west of the meridian mirror
abbrev pub beside_Y : System → Bool → Float → ℤ
beside_Y s west p = offset_Y s +ℤ turned west (scaled_part (millionths_of s) (value p))

unfoldable pub worked_Y : System → ℤ → ℤ → ℤ
worked_Y s B d = beside_Y s (below_zero d) (plane_pair s.ellipsoid (nat_abs B) (nat_abs d)).im

-- the derivative in metres by z
unfoldable pub slope_pair : Ellipsoid → ℕ → ℕ → Pair
slope_pair E n d = horner (doubles unit (derivative (a_coefficients (constants E)))) (z_of E n d)

-- the derivative as whole numbers: its parts in units of 2^-41 m, gone down; the first times 0.000002 at scale 2^60, by 1.048576·2^60; the slope at scale 2^60
abbrev pub first41 : Pair → ℕ
first41 h = truncated 41 (value h.re)

abbrev pub second41 : Pair → ℕ
second41 h = truncated 41 (value h.im)

abbrev pub grain : ℕ
grain = 1208925819614629175

unfoldable pub first60 : Pair → ℕ
first60 h = mul60 (first41 h) grain

unfoldable pub slope60 : Pair → ℕ
slope60 h = quot60 (second41 h) (first41 h)

-- whether a double is below 0: near the meridian a second part can come out a little below 0
abbrev pub below_nought : Float → Bool
below_nought x = lt x (fin false 0 (pos 0))

-- scale in units of 10^-9 after m0 of M millionths, and convergence in thousandths of an arc second, of a derivative h
unfoldable pub scale_from : Ellipsoid → ℕ → ℕ → ℕ → Pair → ℤ
scale_from E M n d h = pos (scale_units (m0_units M) (scale_of E n d (first60 h) (slope60 h)))

unfoldable pub convergence_from : Ellipsoid → ℕ → ℤ → Pair → ℤ
convergence_from E n d h = convergence_units (turned (below_zero d) (convergence60 (turn_of E n (nat_abs d)) (below_nought h.im) (slope60 h)))

unfoldable pub worked_scale : System → ℤ → ℤ → ℤ
worked_scale s B d = scale_from s.ellipsoid (millionths_of s) (nat_abs B) (nat_abs d) (slope_pair s.ellipsoid (nat_abs B) (nat_abs d))

unfoldable pub worked_convergence : System → ℤ → ℤ → ℤ
worked_convergence s B d = convergence_from s.ellipsoid (nat_abs B) d (slope_pair s.ellipsoid (nat_abs B) (nat_abs d))

-- the point of a latitude of B ticks and a difference d of longitude
unfoldable pub worked_point : System → ℤ → ℤ → Point
worked_point s B d = record { X = worked_X s B d; Y = worked_Y s B d; scale = worked_scale s B d; convergence = worked_convergence s B d }

unfoldable pub worked_forward : ℕ → ℤ → ℤ → Answer Point
worked_forward code B L = forward_checks code B L >>= λ s. answered (worked_point s B (L -ℤ s.L0))
