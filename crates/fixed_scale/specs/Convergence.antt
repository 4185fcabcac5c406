-- The convergence: arctan(sin f·tan d) less the derivative's own direction, as sizes, with the sign of d put on last. Assumes nothing: the derivative's slope
-- comes from f64, and how near it is is for the caller to show.
use Rattle.std.specs.Prelude.{Bool, ◌≡◌, List, [], ◌∷◌, ℕ, ◌*◌, ◌-◌, ◌/◌, ◌≤◌, ℤ, pos, ◌-ℤ◌}
use Rattle.rules.specs.Units.{◌°◌'◌''}
use Rattle.rules.specs.Systems.{Ellipsoid}
use Rattle.fixed.specs.Worked.{mul60, quot60, odd_alt60}
use Rattle.fixed.specs.Nearness.{turned}
use Rattle.fixed.specs.Tables.{arctan_table}
use Rattle.fixed_bands.specs.Worked.{longitude_sine, longitude_cosine}
use Rattle.fixed_forward.specs.Mercator.{numerator_of, denominator_of}

-- 1 and 1/3: enough for a slope of up to 0.0003
abbrev pub slope_table : List ℕ
slope_table = 1152921504606846976 ∷ 384307168202282325 ∷ []

-- sin f, of half its numerator and denominator; the arc tangent of sin f·tan d; and the convergence of a point to the east, where the flag says that the
-- derivative turns the other way
unfoldable pub sine_f60 : ℕ → ℕ → ℕ
sine_f60 n2 d2 = quot60 n2 d2

unfoldable pub turn60 : (sf sd cd : ℕ) → ℕ
turn60 sf sd cd = odd_alt60 (quot60 (mul60 sd sf) cd) arctan_table

unfoldable pub convergence60 : (turn : ℕ) → (back : Bool) → (slope : ℕ) → ℤ
convergence60 turn back slope = pos turn -ℤ turned back (pos (odd_alt60 slope slope_table))

unfoldable pub turn_of : Ellipsoid → ℕ → ℕ → ℕ
turn_of E n d = turn60 (sine_f60 (numerator_of E n) (denominator_of E n)) (longitude_sine d) (longitude_cosine d)
