-- Two points, worked out by antt: the worked ticks, and the definition's values in ticks at the same p and q, on either side of the central meridian. Assumes nothing.
use Rattle.std.specs.Prelude.{◌≡◌, ℕ, ◌+◌, ◌*◌, ◌^◌}
use Rattle.rules.specs.Scaled as Scaled
use Rattle.rules.specs.Systems.{constants}
use Rattle.rules.specs.Projection as Projection
use Rattle.fixed.specs.Worked as Base
use Rattle.fixed_inverse.specs.Worked.{latitude_ticks, difference_ticks}
use Rattle.fixed_inverse.specs.Worked as Worked

-- switches that open the worked numbers and the definition
unfoldable pub worked : ℕ
unfolding Base.mul60 Base.quot60 Base.alt60 Base.ser60 Base.odd_alt60 Base.odd_ser60 Base.even_alt60 Base.even_ser60 Base.tilt60 Base.tilt_south Worked.over_radius Worked.angle60 Worked.difference60 Worked.seed60 Worked.closer60 Worked.root60 Worked.beside_52 Worked.about_52 Worked.sphere60 Worked.latitude_table Worked.latitude60 Worked.nearest_even Worked.ticks60 Worked.latitude_ticks Worked.difference_ticks
worked = 0

unfoldable pub defined : ℕ
unfolding Scaled.product Scaled.quotient Scaled.raised Scaled.root_by Scaled.root Scaled.sqrt Scaled.radians Scaled.turned_to Scaled.summed Scaled.alternating Scaled.nested Scaled.fractions Scaled.factorial Scaled.sine_divisors Scaled.cosine_divisors Scaled.sine Scaled.cosine Scaled.hyperbolic_sine_coefficients Scaled.hyperbolic_cosine_coefficients Scaled.hyperbolic_sine Scaled.hyperbolic_cosine Scaled.odd_fractions Scaled.arctan Scaled.at_52 Scaled.tan_52 Scaled.arctan_about_52 Projection.latitude_of Projection.inverse_from constants
defined = 0
