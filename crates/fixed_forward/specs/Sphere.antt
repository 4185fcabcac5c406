-- The sphere's latitude f: half of the numerator and of the denominator of sin f, and K·cos B, which halves that of cos f. Assumes nothing.
use Rattle.std.specs.Prelude.{ℕ, ◌+◌, ◌*◌, ◌-◌, ◌/◌, ◌≤◌, ℤ, ◌+ℤ◌, ◌-ℤ◌, ◌*ℤ◌}
use Rattle.rules.specs.Scaled.{one}
use Rattle.rules.specs.Projection.{lifted}
use Rattle.fixed.specs.Worked.{S60, mul60}

-- ---- K²(1+t), and half of K²(1+t) - (1-t) and of K²(1+t) + (1-t)
unfoldable pub lifted60 : ℕ → ℕ → ℕ
lifted60 k t = mul60 (mul60 k k) (S60 + t)

unfoldable pub numerator60 : ℕ → ℕ → ℕ
numerator60 k t = (lifted60 k t - (S60 - t)) / 2

unfoldable pub denominator60 : ℕ → ℕ → ℕ
denominator60 k t = (lifted60 k t + (S60 - t)) / 2

-- the definition's numerator and denominator of sin f
unfoldable pub numerator : ℤ → ℤ → ℤ
numerator K t = lifted K t -ℤ (one -ℤ t)

unfoldable pub denominator : ℤ → ℤ → ℤ
denominator K t = lifted K t +ℤ (one -ℤ t)

-- ---- how large they are, for the callers' own needs
pub record HalvesSizes (n2 d2 : ℕ) : Type 0 where
  pub numerator_low : 65 * S60 / 100 ≤ n2
  pub numerator_high : n2 ≤ 88 * S60 / 100
  pub denominator_low : 89 * S60 / 100 ≤ d2
  pub denominator_high : d2 ≤ 110 * S60 / 100
