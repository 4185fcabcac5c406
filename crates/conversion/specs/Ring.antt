-- Conversion of a whole ring: what the call answers and what its output holds. Definitions only.
use Rattle.std.specs.Prelude.{List, ℕ, ltb, ℤ, length, take, Result}
use Rattle.rules.specs.Refusals.{Answer, ◌>>=◌, ◌>>◌, ◌if◌, output_too_short}
use Rattle.rules.specs.RingAnswers.{ring_checks}
use Rattle.rules.specs.Conversion.{converted, conversion_by}
use Rattle.terms.specs.Papers.{paper}
use Rattle.terms.specs.declared.refusals.Refusal.{Refusal}
use Rattle.conversion.specs.Plane.{worked_plane, carried}

-- what the call answers, and with `held` what its output holds
abbrev pub worked_conversion : ℕ → ℕ → List ℤ → List ℤ → Answer (List ℤ)
worked_conversion = conversion_by worked_plane

-- after the checks of the codes: the ring's own checks, the output's length, and the corners carried one after the other
abbrev pub ring_carried : ℕ → ℕ → List ℤ → List ℤ → Answer (List ℤ)
ring_carried source target numbers output =
    ring_checks numbers >>= λ r. (output_too_short if ltb (length output) (length numbers)) >> converted (carried source target) r

-- what the loop over the corners hands back: the numbers of the corners, of which so many count, or a corner's refusal
abbrev pub outcome : ℕ → Result (List ℤ) Refusal → Answer (List ℤ)
outcome count = paper (take count)
