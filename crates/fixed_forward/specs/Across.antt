-- Mercator's y: cos f·sin d by one quotient, its inverse hyperbolic tangent, and that in metres. Assumes nothing.
use Rattle.std.specs.Prelude.{ℕ, ◌*◌, ◌-◌, ◌/◌, ◌^◌, ◌≤◌}
use Rattle.fixed.specs.Worked.{mul60, quot60, odd_ser60}
use Rattle.fixed.specs.Tables.{artanh_table}

-- cos f·sin d, of K·cos B, half the denominator of sin f, and sin d
unfoldable pub across60 : ℕ → ℕ → ℕ → ℕ
across60 kc d2 sd = quot60 (mul60 kc sd) d2

unfoldable pub east30 : ℕ → ℕ → ℕ
east30 radius v = mul60 (odd_ser60 v artanh_table) radius
