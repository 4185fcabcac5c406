-- 02 (xii) on the numbers of C: what each call returns, as its clause `number` says it, is 0 or a number of the table, and so never 10. That it holds is in Laws.Calls.
-- Definitions only.
use Rattle.std.specs.Prelude.{List, ◌∷◌, ℕ, T, ℤ}
use Rattle.rules.specs.Refusals.{Answer, in_use, among}
use Rattle.rules.specs.Rings.{Corner}
use Rattle.rules.specs.RingAnswers.{area_answer, turning_answer, crossing_answer, nozzle_answer}
use Rattle.rules.specs.FieldAnswers.{accept_answer, field_nozzle_answer, field_position_answer}
use Rattle.rings.specs.Answers.{refusal_of}
use Rattle.projection.specs.Worked.{worked_forward}
use Rattle.projection.specs.Inverse.{worked_inverse}
use Rattle.conversion.specs.Plane.{worked_plane}
use Rattle.conversion.specs.Ring.{worked_conversion}

abbrev pub Returned : {A : Type 0} → Answer A → Type 0
Returned a = T (among (refusal_of a) (0 ∷ in_use))

pub record AllReturned : Type 0 where
  pub forward : (code : ℕ) (B L : ℤ) → Returned (worked_forward code B L)
  pub inverse : (code : ℕ) (X Y : ℤ) → Returned (worked_inverse code X Y)
  pub plane_to_plane : (source target : ℕ) (X Y : ℤ) → Returned (worked_plane source target X Y)
  pub convert_ring : (source target : ℕ) (numbers output : List ℤ) → Returned (worked_conversion source target numbers output)
  pub area2 : (numbers : List ℤ) → Returned (area_answer numbers)
  pub turning_number : (numbers : List ℤ) (p : Corner) → Returned (turning_answer numbers p)
  pub crossing : (numbers : List ℤ) → Returned (crossing_answer numbers)
  pub nozzle : (numbers : List ℤ) (p : Corner) → Returned (nozzle_answer numbers p)
  pub field_accept : (counts : List ℕ) (numbers : List ℤ) → Returned (accept_answer counts numbers)
  pub field_nozzle : (counts : List ℕ) (numbers : List ℤ) (p : Corner) → Returned (field_nozzle_answer counts numbers p)
  pub field_position : (counts : List ℕ) (numbers : List ℤ) (p : Corner) → Returned (field_position_answer counts numbers p)
