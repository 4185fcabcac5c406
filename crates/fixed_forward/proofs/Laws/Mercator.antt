-- Mercator's pair, from ticks to units of 2^-30 m: the worked numbers, and that they are near the definition's for every ellipsoid, every latitude from 48° to
-- 56° and every difference of longitude of up to 5°30' to the east or the west. Assumes nothing.
use Rattle.std.specs.Prelude.{Bool, ℕ, ◌*◌, ◌/◌, ◌^◌, ◌≤◌, ℤ, pos, ◌-ℤ◌, ◌*ℤ◌, nat_abs}
use Rattle.std.proofs.Common.{subst}
use Rattle.rules.specs.Units.{◌°◌'◌''}
use Rattle.rules.specs.Systems.{◌/10^◌, Ellipsoid, constants}
use Rattle.rules.specs.Scaled.{unit, product, quotient, radians, sine, cosine}
use Rattle.rules.specs.Projection.{K_of, sphere, mercator}
use Rattle.fixed.specs.Worked.{S60, tilt60, tilt_south}
use Rattle.fixed.specs.Nearness.{NearAt, Near30, Fixed, turned}
use Rattle.fixed.specs.Laws.Tangents.{slant}
use Rattle.fixed.specs.Laws.Turned.{below_zero}
use Rattle.fixed.proofs.Laws.Turned.{turned_size, near_turn}
use Rattle.fixed_bands.specs.Worked.{K60}
use Rattle.fixed_bands.specs.Bands.{Latitude}
use Rattle.fixed_bands.proofs.Laws.Bands.{K_near, latitude_sine_near, latitude_cosine_near, longitude_sine_near, longitude_cosine_near}
use Rattle.fixed_forward.specs.Sphere.{numerator, denominator}
use Rattle.fixed_forward.proofs.Laws.Sphere.{numerator_near, denominator_near, doubled_near}
use Rattle.fixed_forward.proofs.Laws.Across.{across_near, east_near}
use Rattle.fixed_forward.proofs.Laws.Along.{middle_near, tangent_high, tangent_law, north_near}
use Rattle.fixed_forward.proofs.Laws.Tilt.{tilt_near}
use Rattle.fixed_forward.specs.Mercator.{MercatorNear, across_of, denominator_of, doubled_of, east_of, mercator_at, middle_of, north_of, numerator_of, sphere_at}

module _ (E : Ellipsoid) (n : ℕ) (h : Latitude n) where
  abbrev t : ℤ
  t = sine (radians (pos n))

  abbrev c : ℤ
  c = cosine (radians (pos n))

  abbrev K : ℤ
  K = K_of (constants E) t

  pub K_of_near : Fixed (K60 E n) K (9 * unit) (994 * S60 / 1000) S60
  K_of_near = K_near n h E

  pub numerator_of_near : Fixed (2 * numerator_of E n) (numerator K t) (110 * unit) (130 * S60 / 100) (176 * S60 / 100)
  unfolding numerator_of
  numerator_of_near = numerator_near K_of_near (latitude_sine_near n h)

  pub denominator_of_near : Fixed (2 * denominator_of E n) (denominator K t) (110 * unit) (178 * S60 / 100) (220 * S60 / 100)
  unfolding denominator_of
  denominator_of_near = denominator_near K_of_near (latitude_sine_near n h)

  pub doubled_of_near : Fixed (2 * doubled_of E n) (product (pos 2 *ℤ K) c) (60 * unit) (107 * S60 / 100) (136 * S60 / 100)
  unfolding doubled_of
  doubled_of_near = doubled_near K_of_near (latitude_cosine_near n h)

  module _ (s : Bool) (d : ℕ) (g : d ≤ 5 ° 30 ' 0 '') where
    abbrev δ : ℤ
    δ = radians (turned s (pos d))

    pub across_of_near : Fixed (across_of E n d) (turned s (product (sphere_at E n).cos_f (sine δ))) (60 * unit) 0 (74 * S60 / 1000)
    unfolding across_of sphere_at sphere denominator
    across_of_near = across_near (doubled_of E n) (denominator_of E n) s (product (pos 2 *ℤ K) c) (denominator K t) (sine δ) doubled_of_near denominator_of_near (longitude_sine_near s d g)

    east_turned : Near30 (east_of E n d) (turned s (mercator_at E n (turned s (pos d))).second) (300 * unit)
    unfolding east_of mercator_at mercator
    east_turned = east_near E s (product (sphere_at E n).cos_f (sine δ)) across_of_near

    -- the tangent of the difference from 52°
    pub tilt_of_near : Fixed (tilt60 (numerator_of E n) (middle_of E n d)) (turned (tilt_south (numerator_of E n) (middle_of E n d)) (slant (quotient (sphere_at E n).sin_f (product (sphere_at E n).cos_f (cosine δ))))) (250 * unit) 0 (89 * S60 / 1000)
    unfolding sphere_at sphere numerator denominator numerator_of middle_of doubled_of
    tilt_of_near =
        let fz = longitude_cosine_near s d g in
        let w = product (pos 2 *ℤ K) c in
        let n2 = numerator_of E n in
        let d2 = denominator_of E n in
        let kc = doubled_of E n in
        tilt_near n (numerator K t) (product w (cosine δ)) _ K_of_near (latitude_sine_near n h) (latitude_cosine_near n h) fz numerator_of_near
        (middle_near n2 d2 kc (numerator K t) (denominator K t) w (cosine δ) numerator_of_near denominator_of_near doubled_of_near fz)
        (tangent_law n2 d2 kc (numerator K t) (denominator K t) w (cosine δ) numerator_of_near denominator_of_near doubled_of_near fz)
        (tangent_high n2 d2 kc (numerator K t) (denominator K t) w (cosine δ) numerator_of_near denominator_of_near doubled_of_near fz) h

    north_turned : NearAt (2 ^ 30) (north_of E n d) ((mercator_at E n (turned s (pos d))).first -ℤ 5760000 /10^ 0) (50 * unit)
    unfolding north_of mercator_at mercator
    north_turned = north_near E (tilt_south (numerator_of E n) (middle_of E n d)) _ tilt_of_near

pub mercator_near : (E : Ellipsoid) (n : ℕ) (d : ℤ) → Latitude n → nat_abs d ≤ 5 ° 30 ' 0 '' → MercatorNear E n d
mercator_near E n d h g =
    let s = below_zero d in
    let a = nat_abs d in
    record {
      north = subst (λ z. NearAt (2 ^ 30) (north_of E n a) ((mercator_at E n z).first -ℤ 5760000 /10^ 0) (50 * unit)) (turned_size d) (north_turned E n h s a g);
      east = subst (λ z. NearAt (2 ^ 30) (turned s (pos (east_of E n a))) (mercator_at E n z).second (300 * unit)) (turned_size d)
          (near_turn s (mercator_at E n (turned s (pos a))).second (east_turned E n h s a g));
    }
