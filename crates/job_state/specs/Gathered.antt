-- The corners as the rules' rings, and as the flat list that the ring and field calls take; what the checks of a corner and of a closed ring make of them.
-- Assumes nothing.
use Rattle.std.specs.Prelude.{Bool, true, false, List, [], ◌∷◌, map, ℕ, ◌^◌, ltb, leb, ℤ, pos, neg_ℤ, take, drop, Result, Ok, Err}
use Rattle.std.specs.Int.Signed.{lt_z}
use Rattle.rules.specs.Refusals.{Answer, answered, refused, crossed_at, ◌>>◌, ◌if◌, in_ring, corner_count, span_too_large, badly_placed}
use Rattle.rules.specs.Rings.{Corner, area2}
use Rattle.rules.specs.RingAnswers.{number_bad, count_bad, span_bad, not_crossed, area_answer, crossing_answer}
use Rattle.rules.specs.Fields.{Field}
use Rattle.rules.specs.FieldAnswers.{alone, inner_count_bad, placed, field_read, join_answer}
use Rattle.terms.specs.declared.corners.Corner as code
use Rattle.terms.specs.declared.refusals.Refusal.{Refusal}
use Rattle.terms.specs.declared.refusals.Refusal.TheVariants.{CornerCount, CornerNumber}
use Rattle.terms.specs.Papers.{paper}

-- a number past ±10^10, which no corner has that a job took in, is read as that limit
abbrev pub chosen : {A : Type 0} → Bool → A → A → A
chosen true a b = a
chosen false a b = b

unfoldable pub within : ℤ → ℤ
within z = chosen (lt_z (pos (10 ^ 10)) z) (pos (10 ^ 10)) (chosen (lt_z z (neg_ℤ (pos (10 ^ 10)))) (neg_ℤ (pos (10 ^ 10))) z)

abbrev pub at : ℤ → ℤ → Corner
at X Y = record { x = X; y = Y }

abbrev pub corner_of : code.Corner → Corner
corner_of c = at (within c.x) (within c.y)

-- a count past the most that there can be, which no job hands back, is read as the most
abbrev pub at_most : ℕ → ℕ → ℕ
at_most most n = chosen (ltb most n) most n

-- the ring of the first corners, and of those from a place on
unfoldable pub ring_of : ℕ → List code.Corner → List Corner
ring_of count corners = map corner_of (take count corners)

abbrev pub ring_from : ℕ → ℕ → List code.Corner → List Corner
ring_from start count corners = ring_of count (drop start corners)

unfoldable pub flat : List Corner → List ℤ
flat [] = []
flat (c ∷ r) = c.x ∷ c.y ∷ flat r

-- ---- a corner's own record, of a ring of at most so many corners: 6 and 7, or that it is taken
abbrev pub corner_checked : ℕ → ℕ → ℤ → ℤ → Result Unit Refusal
corner_checked most count X Y = chosen (leb most count) (Err CornerCount) (chosen (number_bad X) (Err CornerNumber) (chosen (number_bad Y) (Err CornerNumber) (Ok tt)))

-- ---- a ring that is closed: 6, 8, 9 (each corner's own record made check 7), and its doubled area
unfoldable pub judged : List Corner → Answer ℤ
judged r = do
  corner_count if count_bad r
  span_too_large if span_bad r
  not_crossed r
  answered (area2 r)

-- an inner ring of a field: 6, 8, 9, 15
unfoldable pub inner_judged : Field → List Corner → Answer ℤ
inner_judged f r = do
  corner_count if inner_count_bad r
  span_too_large if span_bad r
  placed f r
  answered (area2 r)

-- rings that are no field, which no job hands back, are read as a field of no corners where an inner ring is gathered
abbrev pub field_or_none : Answer Field → Field
field_or_none (answered f) = f
field_or_none (refused n) = alone []
field_or_none (crossed_at pair) = alone []

-- the same of the flat lists, by the rules' answers: of an outer ring, of an inner one, and of an inner one of no field
unfoldable pub judged_flat : List ℤ → Answer ℤ
judged_flat numbers = crossing_answer numbers >> area_answer numbers

unfoldable pub joined_flat : List ℕ → List ℤ → List ℤ → Answer ℤ
joined_flat counts numbers ring = join_answer counts numbers ring >> area_answer ring

unfoldable pub apart_flat : List ℤ → Answer ℤ
apart_flat ring = in_ring 1 (crossing_answer ring) >> refused badly_placed

abbrev pub beside_by : Answer Field → List ℕ → List ℤ → List ℤ → Answer ℤ
beside_by (answered f) counts numbers ring = joined_flat counts numbers ring
beside_by (refused n) counts numbers ring = apart_flat ring
beside_by (crossed_at pair) counts numbers ring = apart_flat ring

unfoldable pub beside_flat : List ℕ → List ℤ → List ℤ → Answer ℤ
beside_flat counts numbers ring = beside_by (field_read counts numbers) counts numbers ring

abbrev pub judged_paper : Result ℤ Refusal → Answer ℤ
judged_paper = paper (λ z. z)
