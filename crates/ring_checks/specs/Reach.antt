-- Checks 7 and 8: along one axis, where the smallest and the largest number decide, and of both. Assumes nothing.
use Rattle.std.specs.Prelude.{Bool, false, cond, ◌||◌, List, [], ◌∷◌, ℕ, eqb, ℤ, pos, ◌-ℤ◌}
use Rattle.std.specs.Int.Signed.{lt_z}
use Rattle.rules.specs.Refusals.{corner_number, span_too_large}
use Rattle.rules.specs.Rings.{Corner}
use Rattle.rules.specs.RingAnswers.{number_bad, any_bad, span, span_bad}

abbrev pub any_outside : List ℤ → Bool
any_outside [] = false
any_outside (a ∷ l) = number_bad a || any_outside l

-- 7 or 8, the first that is met, or 0
unfoldable pub axis_refusal : List ℤ → ℕ
axis_refusal l = cond (any_outside l) corner_number (cond (lt_z (pos 20_000_000) (span l)) span_too_large 0)

-- the same by the smallest and the largest number
unfoldable pub reach_refusal : ℤ → ℤ → ℕ
reach_refusal low high = cond (number_bad low || number_bad high) corner_number (cond (lt_z (pos 20_000_000) (high -ℤ low)) span_too_large 0)

-- 7 before 8, of either axis
unfoldable pub either_refusal : ℕ → ℕ → ℕ
either_refusal x y = cond (eqb x corner_number) corner_number (cond (eqb y corner_number) corner_number (cond (eqb x span_too_large) span_too_large y))

-- 7 or 8 of the corners, as the rules have it
unfoldable pub corners_refusal : List Corner → ℕ
corners_refusal r = cond (any_bad r) corner_number (cond (span_bad r) span_too_large 0)
