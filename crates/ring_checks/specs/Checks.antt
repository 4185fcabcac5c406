-- What the checks 6, 7 and 8 answer, without the corners that they found; and 7 and 8 along one axis, where the smallest and the largest number decide. Assumes nothing.
use Rattle.std.specs.Prelude.{Bool, ◌||◌, List, ℤ, pos, ◌-ℤ◌}
use Rattle.std.specs.Int.Signed.{lt_z}
use Rattle.rules.specs.Refusals.{Answer, answered, Passed, passed, ◌>>◌, ◌if◌, corner_number, span_too_large}
use Rattle.rules.specs.Rings.{Corner}
use Rattle.rules.specs.RingAnswers.{number_bad, any_bad, span_bad, ring_checks}

-- of a list of numbers, as the rules have it
abbrev pub checked : List ℤ → Answer Passed
checked numbers = ring_checks numbers >> answered passed

-- 7 and 8 of the corners, as the rules have it
unfoldable pub numbers_checked : List Corner → Answer Passed
numbers_checked r = corner_number if any_bad r >> (span_too_large if span_bad r)

-- an axis whose numbers reach from low to high: one of them is refused 7
unfoldable pub far : ℤ → ℤ → Bool
far low high = number_bad low || number_bad high

-- and their span is refused 8
unfoldable pub long : ℤ → ℤ → Bool
long low high = lt_z (pos 20_000_000) (high -ℤ low)
