-- Models of the definition's functions along a band: an angle, its sine and cosine, and K. Assumes nothing.
use Rattle.std.specs.Prelude.{◌≡◌, Bool, [], ◌∷◌, ℕ, ◌+◌, ◌*◌, ◌<◌, ◌≤◌, pos, ◌+ℤ◌, ◌-ℤ◌, ◌*ℤ◌}
use Rattle.std.proofs.Common.{◌∙◌}
use Rattle.rules.specs.Units.{half_turn_in_ticks}
use Rattle.rules.specs.Scaled.{Pi, sine_divisors, cosine_divisors, odd_fractions, exponential_coefficients}
use Rattle.rules.specs.Systems.{Constants}
use Rattle.fixed.specs.Nearness.{turned}
use Rattle.fixed_bands.specs.Models.{Model, fine, still, opposite, product_model, part, nested_model, summed_model}

-- the angle of so many ticks more than `from`, or its opposite where the flag is set
unfoldable pub angle_model : Bool → ℕ → Model
angle_model s from =
    part half_turn_in_ticks (record { line = (pos fine *ℤ turned s (pos from *ℤ pos Pi)) ∷ (pos fine *ℤ turned s (pos Pi)) ∷ []; error = 0 })

unfoldable pub sine_model : Model → Model
sine_model x = product_model x (nested_model (product_model x x) sine_divisors)

unfoldable pub cosine_model : Model → Model
cosine_model x = nested_model (product_model x x) cosine_divisors

unfoldable pub artanh_model : Model → Model
artanh_model x = product_model x (summed_model (product_model x x) odd_fractions)

-- of K, from that of the latitude's sine
unfoldable pub K_model : Constants → Model → Model
K_model k t = summed_model (opposite (product_model (still k.e) (artanh_model (product_model (still k.e) t)))) exponential_coefficients
