-- What a call owes for an answer: the number that it returns is `refusal-of` of crate rings (0, or the refusal), and the lent arrays hold what is defined here. Definitions only.
use Rattle.std.specs.Prelude.{List, [], ◌∷◌, ◌<◌, ℤ, pos}
use Rattle.rules.specs.Refusals.{Answer, answered, refused, crossed_at}
use Rattle.rules.specs.RingAnswers.{Nozzle, shut_nozzle, open_nozzle, border_nozzle}
use Rattle.terms.specs.declared.refusals.Refusal.{Refusal}
use Rattle.terms.specs.declared.refusals.Refusal.TheVariants.{RingCrossed}

-- the array lent for an answer: the answer's numbers, and on a refusal what it held
abbrev pub lent : {A : Type 0} → (A → List ℤ) → Answer A → List ℤ → List ℤ
lent numbers (answered a) before = numbers a
lent numbers (refused n) before = before
lent numbers (crossed_at pair) before = before

-- 02 (i): the array lent for the place of refusal 9 in a field: the ring, its lower and its higher edge, and the pairs of edges looked at; and else what it held
abbrev pub place_lent : {A : Type 0} → Answer A → List ℤ → List ℤ
place_lent (answered a) before = before
place_lent (refused n) before = before
place_lent (crossed_at pair) before = pos pair.ring ∷ pos pair.low ∷ pos pair.high ∷ pos pair.looked_at ∷ []

-- the same of a refusal by itself
abbrev pub place_of : Refusal → List ℤ → List ℤ
place_of (RingCrossed pair) before = pos pair.ring ∷ pos pair.low ∷ pos pair.high ∷ pos pair.looked_at ∷ []
place_of refusal before = before

-- an i64 holds the numbers of its place
abbrev pub Held : Refusal → Type 0
Held (RingCrossed pair) = (pair.ring < 1_000_000) × (pair.low < 1_000_000) × (pair.high < 1_000_000) × (pair.looked_at < 1_000_000)
Held refusal = Unit

-- what the header says for shut, open and border
abbrev pub nozzle_number : Nozzle → List ℤ
nozzle_number shut_nozzle = pos 0 ∷ []
nozzle_number open_nozzle = pos 1 ∷ []
nozzle_number border_nozzle = pos 2 ∷ []
