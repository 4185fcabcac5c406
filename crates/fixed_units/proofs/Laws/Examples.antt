-- Two scales times the m0 of code 1, worked out. 1.0000000005002: 999300000.49985 units, one unit less than where the scale were rounded first and then, times m0,
-- once more. 1.0000000005005: 999300000.50015 units. And a convergence of 62.5 units, a half, on either side of 0. Assumes nothing.
use Rattle.std.specs.Prelude.{◌≡◌, refl, pos, negsuc}
use Rattle.fixed.specs.Worked.{mul60}
use Rattle.fixed.specs.Nearness.{turned}
use Rattle.fixed_inverse.specs.Worked.{nearest_even}
use Rattle.fixed_units.specs.Worked.{scale_units, m0_units, angle_units, convergence_units}

once : scale_units (m0_units 999300) 1152921505183538313 ≡ 999300000
unfolding scale_units nearest_even
once = refl

up : scale_units (m0_units 999300) 1152921505183884189 ≡ 999300001
unfolding scale_units nearest_even
up = refl

east : convergence_units (pos 349_345_074_175) ≡ pos 62
unfolding convergence_units angle_units turned nearest_even mul60
east = refl

-- -62
west : convergence_units (negsuc 349_345_074_174) ≡ negsuc 61
unfolding convergence_units angle_units turned nearest_even mul60
west = refl
