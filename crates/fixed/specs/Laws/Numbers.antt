-- A switch for comparisons by computation: an `unfolding` line that names `numbers` opens every function of errors and bounds, and the definition's tables.
-- Assumes nothing.
use Rattle.std.specs.Prelude.{ℕ}
use Rattle.rules.specs.Scaled as Scaled
use Rattle.fixed.specs.Laws.Products as Products
use Rattle.fixed.specs.Laws.Series as Series
use Rattle.fixed.specs.Laws.Nested as Nested
use Rattle.fixed.specs.Laws.Quotients as Quotients
use Rattle.fixed.specs.Laws.Roots as Roots

unfoldable pub numbers : ℕ
unfolding Scaled.fractions Scaled.factorial Scaled.sine_divisors Scaled.cosine_divisors Scaled.exponential_coefficients Scaled.hyperbolic_sine_coefficients Scaled.hyperbolic_cosine_coefficients Scaled.odd_fractions Products.off_at Products.slack_e Products.most Series.rest_b Series.top Series.alt_e Series.alt_b Series.ser_e Series.ser_h Nested.all_positive Nested.nest_b Nested.prod_e Nested.nest_e Quotients.least Quotients.quot_e Roots.root_e
numbers = 0
