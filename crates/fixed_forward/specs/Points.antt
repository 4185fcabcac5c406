-- What the code's struct of a point holds, and how large its numbers are. Assumes nothing.
use Rattle.std.specs.Prelude.{◌≡◌, ℕ, ◌*◌, ◌/◌, ◌≤◌}
use Rattle.rules.specs.Systems.{Ellipsoid}
use Rattle.fixed.specs.Worked.{S60, mul60}
use Rattle.fixed_forward.specs.declared.Spherical.{Spherical}
use Rattle.fixed_forward.specs.declared.Mercator.{Mercator}
use Rattle.fixed_forward.specs.Mercator.{across_of, north_of, east_of}
use Rattle.fixed_bands.specs.Worked.{K60, latitude_sine, latitude_cosine, longitude_sine, longitude_cosine}
use Rattle.fixed_bands.specs.Bands.{LatitudeSizes, LongitudeSizes}
use Rattle.fixed_forward.specs.Sphere.{numerator60, denominator60, HalvesSizes}

-- the worked numbers of a latitude of n ticks and a difference of longitude of d ticks
pub record IsSphere (E : Ellipsoid) (n d : ℕ) (r : Spherical) : Type 0 where
  pub is_t : r.t ≡ latitude_sine n
  pub is_c : r.c ≡ latitude_cosine n
  pub is_sd : r.sd ≡ longitude_sine d
  pub is_cd : r.cd ≡ longitude_cosine d
  pub is_k : r.k ≡ K60 E n
  pub is_n2 : r.n2 ≡ numerator60 (K60 E n) (latitude_sine n)
  pub is_d2 : r.d2 ≡ denominator60 (K60 E n) (latitude_sine n)
  pub is_kc : r.kc ≡ mul60 (K60 E n) (latitude_cosine n)

pub record SphereSizes (r : Spherical) : Type 0 where
  pub latitude : LatitudeSizes r.t r.c
  pub longitude : LongitudeSizes r.sd r.cd
  pub halves : HalvesSizes r.n2 r.d2
  pub k_low : 994 * S60 / 1000 ≤ r.k
  pub k_high : r.k ≤ S60
  pub kc_low : 53 * S60 / 100 ≤ r.kc
  pub kc_high : r.kc ≤ 68 * S60 / 100

pub record IsMercator (E : Ellipsoid) (n d : ℕ) (r : Mercator) : Type 0 where
  pub is_sphere : IsSphere E n d r.sphere
  pub is_across : r.across ≡ across_of E n d
  pub is_north : r.north ≡ north_of E n d
  pub is_east : r.east ≡ east_of E n d
