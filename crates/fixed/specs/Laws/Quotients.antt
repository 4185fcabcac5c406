-- A quotient, against any value that is nearly the quotient of the definition's two; and halved and doubled numbers. Assumes nothing.
use Rattle.std.specs.Prelude.{◌≡◌, ◌∷◌, ℕ, ◌+◌, ◌*◌, ◌-◌, ◌/◌, ◌^◌, ◌<◌, ◌≤◌, T, leb, ◌+ℤ◌, ◌-ℤ◌, ◌*ℤ◌}
use Rattle.std.proofs.Common.{◌∙◌}
use Rattle.rules.specs.Scaled.{unit}
use Rattle.fixed.specs.Worked.{S60}

-- how large the definition's value is at least
unfoldable pub least : ℕ → ℕ → ℕ
least lo e = (lo * unit - e) / S60

-- ---- the error of a quotient a/b, a/b ≤ m/n, b ≥ lo, against a value within k of the definition's quotient
unfoldable pub quot_e : (ea lo eb k m n : ℕ) → ℕ
quot_e ea lo eb k m n = (n * ea + m * eb) * unit / (n * least lo eb) + (9 * unit + k * S60)

-- what quot60 asks, of the bounds
abbrev pub QuotTest : ℕ → ℕ → ℕ → Type 0
QuotTest lb ha hb = T (leb (2 ^ 59) lb) × T (leb hb (2 ^ 61)) × T (leb (4 * ha) (5 * lb))

-- a quotient of two halved numbers
abbrev pub QuotTestDouble : ℕ → ℕ → ℕ → Type 0
QuotTestDouble lb ha hb = T (leb (2 ^ 60) lb) × T (leb hb (2 ^ 62)) × T (leb (4 * ha) (5 * lb))
