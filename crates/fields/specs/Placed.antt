-- A ring that comes to the rings of a field, as the code asks it. Assumes nothing.
use Rattle.std.specs.Prelude.{◌≡◌, List, [], ◌∷◌, map, ℕ, ◌*◌, ◌-◌, ◌<◌, ℤ, length, get_or}
use Rattle.rules.specs.Refusals.{Answer, answered, Passed, passed, ◌>>=◌, ◌>>◌}
use Rattle.rules.specs.Fields.{Field}
use Rattle.rules.specs.FieldAnswers.{alone, inner_checks, placed, summed, cut, inner_accepted}
use Rattle.ring_corners.specs.Corners.{pairs, Accepted}
use Rattle.ring_boxes.specs.Boxes.{Boxed}
use Rattle.ring_boxes.specs.declared.reach.Reach.{Reach}

-- the rings of a field by their numbers
unfoldable pub as_field : List (List ℤ) → Field
as_field [] = alone []
as_field (numbers ∷ rest) = record { outer_ring = pairs numbers; inner_rings = map pairs rest }

-- one inner ring more: its own checks, and where it lies
unfoldable pub one_more : List (List ℤ) → List ℤ → Answer Field
one_more rings numbers = do
  r ← inner_checks (length rings - 1) numbers
  placed (as_field rings) r

-- passed, or the refusal
unfoldable pub passed_one : List (List ℤ) → List ℤ → Answer Passed
passed_one rings numbers = one_more rings numbers >> answered passed

-- all that are left
unfoldable pub the_rest : List (List ℤ) → List (List ℤ) → Answer Passed
the_rest rings rest = do
  inner_accepted (as_field rings) rest
  answered passed

-- the rings of a field whose numbers passed the checks of rings
pub record Checked (counts : List ℕ) (numbers : List ℤ) : Type 0 where
  pub some : 0 < length counts
  pub even : 2 * summed counts ≡ length numbers
  pub good : (k : ℕ) → k < length counts → Accepted (get_or (cut counts numbers) k [])

-- the boxes of the outer ring's runs of edges
abbrev pub OuterBoxed : List ℕ → List ℤ → List Reach → Type 0
OuterBoxed counts numbers boxes = Boxed (pairs (get_or (cut counts numbers) 0 [])) boxes

-- the numbers of the outer ring
abbrev pub Outer : List ℕ → List ℤ → List ℤ → Type 0
Outer counts numbers first = first ≡ get_or (cut counts numbers) 0 []
