-- A switch for comparisons by computation: an `unfolding` line that names `bands` opens every function of models, rows and tests, and the definition's tables.
-- Assumes nothing.
use Rattle.std.specs.Prelude.{ℕ}
use Rattle.rules.specs.Computing.{computing}
use Rattle.fixed.specs.Nearness as Nearness
use Rattle.fixed_bands.specs.Polynomials as Polynomials
use Rattle.fixed_bands.specs.Models as Models
use Rattle.fixed_bands.specs.Functions as Functions
use Rattle.fixed_bands.specs.Rows as Rows
use Rattle.fixed_bands.specs.Tests as Tests
use Rattle.fixed_bands.specs.Along as Along

unfoldable pub bands : ℕ
unfolding computing Nearness.turned Polynomials.at Polynomials.reach Polynomials.plus Polynomials.multiple Polynomials.times Polynomials.negated Polynomials.minus Polynomials.cut Models.still Models.opposite Models.sum Models.difference Models.product_line Models.product_model Models.part Models.nested_model Models.summed_model Functions.angle_model Functions.sine_model Functions.cosine_model Functions.artanh_model Functions.K_model Rows.rise_line Rows.sink_line Rows.apart Rows.also Rows.rise_test Rows.sink_test Tests.every Tests.rise_row Tests.sink_row Along.turned_model
bands = 0
