-- What a call of the C interface owes for an answer: the number that it returns is `refusal-of` of crate rings (0, or the refusal), and the lent arrays
-- hold what is defined here. Definitions only.
use Rattle.std.specs.Prelude.{List, [], ◌∷◌, ℕ, ◌<◌, ℤ, pos}
use Rattle.rules.specs.Refusals.{Answer, answered, refused, crossed_at}
use Rattle.rules.specs.Points.{Point, Ticks}
use Rattle.rules.specs.Rings.{Corner}
use Rattle.terms.specs.declared.refusals.Refusal.{Refusal}
use Rattle.terms.specs.declared.refusals.Refusal.TheVariants.{RingCrossed}
-- the array lent for an answer, the one for the place of refusal 9 in a field, and what the header says for shut, open and border
pub use Rattle.terminal_fields.specs.Lent.{lent, place_lent, nozzle_number}

-- the array lent for the edges of refusal 9: its edges, and else what it held
abbrev pub edges_lent : {A : Type 0} → Answer A → List ℤ → List ℤ
edges_lent (answered a) before = before
edges_lent (refused n) before = before
edges_lent (crossed_at pair) before = pos pair.low ∷ pos pair.high ∷ []

-- 02 (vii): the array lent for the pairs of edges looked at, as refusal 9 carries them: their count, and else what it held
abbrev pub pairs_lent : {A : Type 0} → Answer A → List ℤ → List ℤ
pairs_lent (answered a) before = before
pairs_lent (refused n) before = before
pairs_lent (crossed_at pair) before = pos pair.looked_at ∷ []

-- the same of the crossing test, which says the count of a clean ring too
abbrev pub looked_lent : Answer ℕ → List ℤ → List ℤ
looked_lent (answered looked) before = pos looked ∷ []
looked_lent (refused n) before = before
looked_lent (crossed_at pair) before = pos pair.looked_at ∷ []

-- the same of a refusal by itself
abbrev pub edges_of : Refusal → List ℤ → List ℤ
edges_of (RingCrossed pair) before = pos pair.low ∷ pos pair.high ∷ []
edges_of refusal before = before

abbrev pub pairs_of : Refusal → List ℤ → List ℤ
pairs_of (RingCrossed pair) before = pos pair.looked_at ∷ []
pairs_of refusal before = before

-- an i64 holds the numbers of its place
abbrev pub Held : Refusal → Type 0
Held (RingCrossed pair) = (pair.low < 1_000_000) × (pair.high < 1_000_000) × (pair.looked_at < 1_000_000)
Held refusal = Unit

-- ---- the numbers of each kind of answer
abbrev pub point_numbers : Point → List ℤ
point_numbers p = p.X ∷ p.Y ∷ p.scale ∷ p.convergence ∷ []

abbrev pub tick_numbers : Ticks → List ℤ
tick_numbers t = t.B ∷ t.L ∷ []

abbrev pub plane_numbers : Corner → List ℤ
plane_numbers c = c.x ∷ c.y ∷ []

abbrev pub whole_number : ℤ → List ℤ
whole_number z = z ∷ []
