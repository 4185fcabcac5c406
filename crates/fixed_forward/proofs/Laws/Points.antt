-- What the code's struct of a point holds, and how large its numbers are. Assumes nothing.
use Rattle.std.specs.Prelude.{◌≡◌, ℕ, ◌*◌, ◌/◌, ◌≤◌}
use Rattle.rules.specs.Systems.{Ellipsoid}
use Rattle.fixed.specs.Worked.{mul60, tilt60, tilt_south}
use Rattle.fixed_forward.specs.declared.Spherical.{Spherical}
use Rattle.fixed_forward.specs.Ellipsoids.{radius30, centre30}
use Rattle.fixed_forward.specs.Across.{across60}
use Rattle.fixed_forward.specs.Along.{north30}
use Rattle.fixed_forward.specs.Mercator.{numerator_of, denominator_of, doubled_of, middle_of, across_of, north_of}
use Rattle.fixed_forward.specs.Points.{IsSphere}

-- ---- Mercator's pair of a point: from the numbers of the struct to those of the ticks
pub across_is : {r : Spherical} (E : Ellipsoid) (n d : ℕ) → IsSphere E n d r → across60 r.kc r.d2 r.sd ≡ across_of E n d
unfolding across_of doubled_of denominator_of
across_is E n d i = cc

pub north_is : {r : Spherical} (E : Ellipsoid) (n d : ℕ)
    → IsSphere E n d r
    → north30 (centre30 E) (radius30 E) (tilt_south r.n2 (mul60 r.kc r.cd)) (tilt60 r.n2 (mul60 r.kc r.cd)) ≡ north_of E n d
unfolding north_of numerator_of middle_of doubled_of
north_is E n d i = cc
