-- Where a point stands to a field's rings, ring by ring as the code asks them: so far, and beside one inner ring more. Laws.Walks shows that this is the rules' answer.
-- Assumes nothing.
use Rattle.std.specs.Prelude.{List, [], ◌∷◌, ℕ, suc, ℤ}
use Rattle.rules.specs.Refusals.{Answer, answered, ◌>>=◌}
use Rattle.rules.specs.Rings.{Corner}
use Rattle.rules.specs.RingAnswers.{Nozzle, nozzle}
use Rattle.rules.specs.Fields.{field_nozzle}
use Rattle.rules.specs.FieldAnswers.{inner_checks, rings_read}
use Rattle.rules.specs.Laws.Fields.{beside}

-- a field's rings, once their numbers are told apart
unfoldable pub rings_position : List (List ℤ) → Corner → Answer Nozzle
rings_position rings p = do
  f ← rings_read rings
  answered (field_nozzle f p)

-- an inner ring by itself, after so many others
unfoldable pub inner_position : ℕ → List ℤ → Corner → Answer Nozzle
inner_position before numbers p = do
  r ← inner_checks before numbers
  answered (nozzle r p)

-- the first refusal is the answer
unfoldable pub both_answers : Answer Nozzle → Answer Nozzle → Answer Nozzle
both_answers a b = do
  x ← a
  y ← b
  answered (beside x y)

-- the inner rings that are left, after so many others
unfoldable pub walked : Answer Nozzle → ℕ → List (List ℤ) → Corner → Answer Nozzle
walked a before [] p = a
walked a before (numbers ∷ rest) p = walked (both_answers a (inner_position before numbers p)) (suc before) rest p
