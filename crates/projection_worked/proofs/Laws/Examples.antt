-- The trap of the false easting at two doubles near a half and at a half itself, by computation. 01: "Adding the false easting in f64 before rounding: near halves, east and west part."
-- And a scale with m0 in it. Assumes nothing.
use Rattle.std.specs.Prelude.{◌≡◌, refl, Bool, true, false, ℕ, ◌+◌, ◌-◌, ℤ, pos, negsuc, Float}
use Rattle.std.specs.Float.{fin}
use Rattle.rules.specs.Refusals.{Answer, answered, ◌>>=◌}
use Rattle.rules.specs.Systems.{system}
use Rattle.rules.specs.Computing.{computing}
use Rattle.double.specs.declared.Pair.{Pair}
use Rattle.double.specs.Value.{value, magnitude}
use Rattle.metres.specs.Millimetres.{truncated}
use Rattle.fixed.specs.Nearness.{turned}
use Rattle.fixed.specs.Worked as Fixed
use Rattle.fixed_bands.specs.Examples.{worked}
use Rattle.fixed_bands.specs.Worked as Bands
use Rattle.fixed_forward.specs.Across as Across
use Rattle.fixed_forward.specs.Mercator as Mercator
use Rattle.fixed_forward.specs.Sphere as Sphere
use Rattle.fixed_scale.specs.Answers as Answers
use Rattle.fixed_scale.specs.Scale as Scale
use Rattle.fixed_scale.specs.Length as Length
use Rattle.fixed_scale.specs.Root as Root
use Rattle.fixed_units.specs.Worked as Units
use Rattle.fixed_inverse.specs.Worked as Inverse
use Rattle.projection_worked.specs.Worked.{scaled_part, millionths_of, beside_Y, first60, slope60, scale_from}

-- a switch that opens what the examples compute
unfoldable opened : Bool
unfolding computing value magnitude truncated turned scaled_part millionths_of
opened = true

-- in the system of code 13, whose false easting is 8,500,000 m and whose m0 is 1
abbrev in_13 : Bool → Float → Answer ℤ
in_13 west p = system 13 >>= λ s. answered (beside_Y s west p)

-- n mm to either side of the meridian
pub record Mirrored (p : Float) (n : ℕ) : Type 0 where
  pub east : in_13 false p ≡ answered (pos (8_500_000_000 + n))
  pub west : in_13 true p ≡ answered (pos (8_500_000_000 - n))

-- 187.5 mm less 2 ^ -40 m, of which f64 keeps nothing beside 8,500,000 m: its doubles are 2 ^ -29 m apart there, so the sum would be the half itself
pub swallowed : Mirrored (fin false 206_158_430_207 (negsuc 39)) 187
unfolding opened
swallowed = record { east = refl; west = refl }

-- 187.5 mm less 2 ^ -25 m, which f64 keeps: the sum to the west alone would go down to the half
pub parted : Mirrored (fin false 6_291_455 (negsuc 24)) 187
unfolding opened
parted = record { east = refl; west = refl }

-- 62.5 mm, a half itself: to the even on either side, whatever the offset
pub tied : Mirrored (fin false 1 (negsuc 3)) 62
unfolding opened
tied = record { east = refl; west = refl }

-- ---- the scale at 52° and 1° east of the meridian of code 14, whose m0 is 0.999983, of the derivative there; without m0 it would be 1,000,057,877
unfoldable followed : Bool
unfolding opened worked Fixed.mul60 Fixed.quot60 Fixed.ser60 Bands.K60 Across.across60 Mercator.denominator_of Mercator.doubled_of Mercator.across_of Sphere.lifted60 Sphere.denominator60 Answers.scale_of Scale.square60 Scale.ratio60 Scale.meridian60 Scale.spread60 Scale.sphere_scale60 Scale.meridian_of Scale.spread_of Scale.sphere_scale_of Length.length60 Root.root60 Units.scale_units Inverse.nearest_even first60 slope60 scale_from
followed = true

abbrev derivative_there : Pair
derivative_there = record { re = fin false 8_586_518_319_679_970 (negsuc 33); im = fin true 4_936_296_258_197_821 (negsuc 47) }

pub scale_of_14 : (system 14 >>= λ s. answered (scale_from s.ellipsoid (millionths_of s) 187_200_000_000 3_600_000_000 derivative_there)) ≡ answered (pos 1_000_040_877)
unfolding followed
scale_of_14 = refl
