-- What the calls answer, as the paper's answers. Assumes nothing.
use Rattle.std.specs.Prelude.{◌≡◌, List, ℕ, ℤ, Result}
use Rattle.rules.specs.Refusals.{Answer, answered, ◌>>=◌}
use Rattle.rules.specs.Rings.{Corner}
use Rattle.rules.specs.RingAnswers.{Nozzle, nozzle, ring_checks, area_answer, turning_answer}
use Rattle.terms.specs.declared.positions.Position.{Position}
use Rattle.terms.specs.declared.refusals.Refusal.{Refusal}
use Rattle.terms.specs.Papers.{paper, nozzle_of}
-- the number of a refusal, or 0
pub use Rattle.ring_checks.specs.Refusal.{refusal_of}

-- doubled area and turning number
abbrev pub whole_paper : Result ℤ Refusal → Answer ℤ
whole_paper = paper (λ z. z)

-- what `area2` promises of its answer for a list of numbers, and `turning_number` for a list and a point (Demand says what follows of several calls)
abbrev pub AreaCall : List ℤ → Result ℤ Refusal → Type 0
AreaCall numbers w = whole_paper w ≡ area_answer numbers

abbrev pub TurningCall : List ℤ → Corner → Result ℤ Refusal → Type 0
TurningCall numbers p w = whole_paper w ≡ turning_answer numbers p

-- the crossing test, with the pairs looked at
abbrev pub crossing_paper : Result ℕ Refusal → Answer ℕ
crossing_paper = paper (λ looked. looked)

-- where a nozzle stands
abbrev pub nozzle_paper : Result Position Refusal → Answer Nozzle
nozzle_paper = paper nozzle_of

-- the nozzle's answer for a ring whose crossing was judged before: the checks 6, 7 and 8, and then border, open or shut
unfoldable pub position_answer : List ℤ → Corner → Answer Nozzle
position_answer numbers p = do
  r ← ring_checks numbers
  answered (nozzle r p)
