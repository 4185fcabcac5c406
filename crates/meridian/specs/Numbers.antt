-- A switch for comparisons by computation: an `unfolding` line that names `computed` opens every function of models and tests. Assumes nothing.
use Rattle.std.specs.Prelude.{ℕ}
use Rattle.fixed_bands.specs.Numbers.{bands}
use Rattle.meridian.specs.Models as Models

unfoldable pub computed : ℕ
unfolding bands Models.first Models.rest Models.least Models.room Models.positive Models.divided Models.quotient_line Models.quotient_model Models.newton Models.root_line Models.root_model Models.rooted Models.alternating_model Models.arctan_model Models.polynomial_model Models.lifted_model Models.numerator_model Models.denominator_model Models.under_model Models.over_model Models.slant_model Models.z_model Models.slope_model Models.near_one Models.test_length Models.test_slant Models.test_tangent Models.test_scale Models.test_radius Models.test_root Models.test_sphere Models.test Models.test_from Models.test_band
computed = 0
