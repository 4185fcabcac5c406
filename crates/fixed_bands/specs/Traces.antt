-- The worked polynomial followed along a band: with five steps of 30 bits, v·2^150 is a polynomial in the ticks h with whole coefficients, but for 5 units.
-- Assumes nothing.
use Rattle.std.specs.Prelude.{◌≡◌, List, ◌∷◌, ℕ, ◌+◌, ◌*◌, ◌-◌, ◌/◌, ◌%◌, ◌^◌, ◌<◌, ◌≤◌, ℤ, pos, ◌+ℤ◌, ◌-ℤ◌, ◌*ℤ◌}
use Rattle.std.proofs.Common.{◌∙◌}
use Rattle.arith.specs.Within.{Within}
use Rattle.fixed.specs.Worked.{P30}
use Rattle.fixed_bands.specs.Polynomials.{at}

-- m is s·h / 2^30, less by under 1, and at most s
pub record Part30 (s h m : ℕ) : Type 0 where
  pub lo : m * P30 ≤ s * h
  pub hi : s * h ≤ (m + 1) * P30
  pub small : m ≤ s

-- v·2^(30·k), here v·A, is the polynomial's value at h, but for e units of v
pub record Traces (A h v : ℕ) (p : List ℤ) (e : ℕ) : Type 0 where
  pub gap : Within (pos v *ℤ pos A -ℤ at p (pos h)) (e * A)
