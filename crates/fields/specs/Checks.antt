-- What the checks of a field's numbers answer, without the corners that they found. Assumes nothing.
use Rattle.std.specs.Prelude.{List, ℕ, ℤ}
use Rattle.rules.specs.Refusals.{Answer, answered, Passed, passed, ◌>>◌}
use Rattle.rules.specs.FieldAnswers.{inner_checks, rings_read, field_read}

-- of an inner ring, after so many others
abbrev pub inner_checked : ℕ → List ℤ → Answer Passed
inner_checked before numbers = inner_checks before numbers >> answered passed

-- of all rings
abbrev pub rings_checked : List (List ℤ) → Answer Passed
rings_checked rings = rings_read rings >> answered passed

-- of a field as it is lent
abbrev pub field_checked : List ℕ → List ℤ → Answer Passed
field_checked counts numbers = field_read counts numbers >> answered passed
