-- Mercator's pair, from ticks to units of 2^-30 m: the worked numbers, and that they are near the definition's for every ellipsoid, every latitude from 48° to
-- 56° and every difference of longitude of up to 5°30' to the east or the west. Assumes nothing.
use Rattle.std.specs.Prelude.{ℕ, ◌*◌, ◌/◌, ◌^◌, ◌≤◌, ℤ, pos, ◌-ℤ◌, ◌*ℤ◌, nat_abs}
use Rattle.rules.specs.Units.{◌°◌'◌''}
use Rattle.rules.specs.Systems.{◌/10^◌, Ellipsoid, constants}
use Rattle.rules.specs.Scaled.{unit, radians, sine, cosine, Pair}
use Rattle.rules.specs.Projection.{K_of, Sphere, sphere, mercator}
use Rattle.fixed.specs.Worked.{mul60, tilt60, tilt_south}
use Rattle.fixed.specs.Nearness.{NearAt, turned}
use Rattle.fixed.specs.Laws.Turned.{below_zero}
use Rattle.fixed_bands.specs.Worked.{K60, latitude_sine, latitude_cosine, longitude_sine, longitude_cosine}
use Rattle.fixed_forward.specs.Ellipsoids.{radius30, centre30}
use Rattle.fixed_forward.specs.Sphere.{numerator60, denominator60}
use Rattle.fixed_forward.specs.Across.{across60, east30}
use Rattle.fixed_forward.specs.Along.{north30}

-- ---- the worked numbers: n ticks of latitude, d ticks of longitude from the meridian
unfoldable pub numerator_of : Ellipsoid → ℕ → ℕ
numerator_of E n = numerator60 (K60 E n) (latitude_sine n)

unfoldable pub denominator_of : Ellipsoid → ℕ → ℕ
denominator_of E n = denominator60 (K60 E n) (latitude_sine n)

unfoldable pub doubled_of : Ellipsoid → ℕ → ℕ
doubled_of E n = mul60 (K60 E n) (latitude_cosine n)

unfoldable pub middle_of : Ellipsoid → ℕ → ℕ → ℕ
middle_of E n d = mul60 (doubled_of E n) (longitude_cosine d)

-- cos f·sin d
unfoldable pub across_of : Ellipsoid → ℕ → ℕ → ℕ
across_of E n d = across60 (doubled_of E n) (denominator_of E n) (longitude_sine d)

-- x less 5,760,000 m, and the size of y, in units of 2^-30 m
unfoldable pub north_of : Ellipsoid → ℕ → ℕ → ℤ
north_of E n d =
    north30 (centre30 E) (radius30 E) (tilt_south (numerator_of E n) (middle_of E n d)) (tilt60 (numerator_of E n) (middle_of E n d))

unfoldable pub east_of : Ellipsoid → ℕ → ℕ → ℕ
east_of E n d = east30 (radius30 E) (across_of E n d)

-- ---- the definition's: of a latitude in ticks, and of a signed difference of longitude
unfoldable pub sphere_at : Ellipsoid → ℕ → Sphere
sphere_at E n = let t = sine (radians (pos n)) in sphere (K_of (constants E) t) t (cosine (radians (pos n)))

unfoldable pub mercator_at : Ellipsoid → ℕ → ℤ → Pair
mercator_at E n d = mercator (constants E) (sphere_at E n) (sine (radians d)) (cosine (radians d))

-- how near: within 50 and 300 units of 2^-30 m, which are 0.05 and 0.28 micrometres
pub record MercatorNear (E : Ellipsoid) (n : ℕ) (d : ℤ) : Type 0 where
  pub north : NearAt (2 ^ 30) (north_of E n (nat_abs d)) ((mercator_at E n d).first -ℤ 5760000 /10^ 0) (50 * unit)
  pub east : NearAt (2 ^ 30) (turned (below_zero d) (pos (east_of E n (nat_abs d)))) (mercator_at E n d).second (300 * unit)
