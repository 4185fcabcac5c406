-- From how near the parts are, how near a constant, a sum, a difference and a product are. The errors and bounds are functions of those of the parts, which
-- compute; `fix-le` takes the result to round numbers, with `tt` for each comparison. Assumes nothing.
use Rattle.std.specs.Prelude.{◌≡◌, ◌∷◌, ℕ, ◌+◌, ◌*◌, ◌-◌, ◌/◌, ◌^◌, ◌<◌, ◌≤◌, ℤ, pos, ◌+ℤ◌, ◌-ℤ◌, ◌*ℤ◌, nat_abs, ◌≤ℤ◌}
use Rattle.arith.specs.Laws.Diff.{◌⊖◌}
use Rattle.arith.specs.Floor.{floor}
use Rattle.rules.specs.Scaled.{unit}
use Rattle.fixed.specs.Worked.{S60}

-- the error of a constant
unfoldable pub off_at : ℕ → ℤ → ℤ → ℕ
off_at s c x = nat_abs (c *ℤ pos unit -ℤ x *ℤ pos s)

-- how large the definition's value is
unfoldable pub most : ℕ → ℕ → ℕ
most hi e = (hi * unit + e) / S60

-- every number is near some value: for the bounds of a result, which do not turn on the definition
abbrev pub self : ℕ → ℤ
self v = floor (pos v *ℤ pos unit) S60

-- the error of a product of numbers up to ha and hb with errors ea and eb, the second at scale Z, which is less than the true product by up to j units,
-- against any value within one of the definition's
unfoldable pub slack_e : (Z j ha ea hb eb : ℕ) → ℕ
slack_e Z j ha ea hb eb = (ha * unit * eb + ea * (hb * unit) + ea * eb + unit * unit * (j * S60) + S60 * Z * (1 * unit)) / (S60 * unit)

abbrev pub mul_e : ℕ → ℕ → ℕ → ℕ → ℕ
mul_e ha ea hb eb = slack_e S60 2 ha ea hb eb

abbrev pub mul30_e : ℕ → ℕ → ℕ → ℕ → ℕ
mul30_e ha ea hb eb = slack_e (2 ^ 30) 2 ha ea hb eb
