-- The ellipsoids' constants as the code has them, in units of 2^-30 m. Assumes nothing.
use Rattle.std.specs.Prelude.{◌*◌, ◌/◌, ◌^◌, ◌≤◌, pos, ◌-ℤ◌}
use Rattle.std.proofs.Common.{lit≤}
use Rattle.rules.specs.Systems.{◌/10^◌, Ellipsoid, GRS_80, Krasovsky, constants}
use Rattle.rules.specs.Scaled.{unit, product, radians, at_52}
use Rattle.fixed.specs.Nearness.{Near30}
use Rattle.fixed.specs.Laws.Products.{off_at}
use Rattle.fixed.proofs.Laws.Products.{near_le, near_const}
use Rattle.fixed_forward.specs.Ellipsoids.{centre30, radius30}

pub radius_near : (E : Ellipsoid) → Near30 (radius30 E) (constants E).R0 unit
unfolding radius30 constants off_at
radius_near GRS_80 = near_le unit (near_const (2 ^ 30) (pos (radius30 GRS_80)) (constants GRS_80).R0) tt
radius_near Krasovsky = near_le unit (near_const (2 ^ 30) (pos (radius30 Krasovsky)) (constants Krasovsky).R0) tt

pub centre_near : (E : Ellipsoid) → Near30 (centre30 E) (product (constants E).R0 at_52 -ℤ 5760000 /10^ 0) unit
unfolding centre30 constants off_at product at_52 radians
centre_near GRS_80 = near_le unit (near_const (2 ^ 30) (pos (centre30 GRS_80)) (product (constants GRS_80).R0 at_52 -ℤ 5760000 /10^ 0)) tt
centre_near Krasovsky = near_le unit (near_const (2 ^ 30) (pos (centre30 Krasovsky)) (product (constants Krasovsky).R0 at_52 -ℤ 5760000 /10^ 0)) tt

pub radius_high : (E : Ellipsoid) → radius30 E ≤ 6838000000000000
unfolding radius30
radius_high GRS_80 = lit≤ tt
radius_high Krasovsky = lit≤ tt

pub centre_high : (E : Ellipsoid) → centre30 E ≤ 6838000000000000
unfolding centre30
centre_high GRS_80 = lit≤ tt
centre_high Krasovsky = lit≤ tt
