-- 02 (i): what is asked of a field, and what is answered. A field comes as two lists: the corner count of each ring, the outer one first, and the numbers of all rings one after
-- the other, X and Y of each corner in turn. Assumes nothing.
use Rattle.std.specs.Prelude.{Bool, true, false, not, ◌||◌, List, [], ◌∷◌, ◌++◌, ℕ, suc, ◌+◌, ◌*◌, eqb, ltb, leb, ℤ, length, take, drop}
use Rattle.rules.specs.Refusals.{Answer, answered, refused, Passed, passed, ◌>>=◌, ◌>>◌, ◌if◌, in_ring, corner_count, corner_number, span_too_large, badly_placed, too_many_rings}
use Rattle.rules.specs.Rings.{Corner}
use Rattle.rules.specs.RingAnswers.{corners, any_bad, span_bad, ring_checks, not_crossed, Nozzle}
use Rattle.rules.specs.Fields.{Field, field_nozzle}
use Rattle.rules.specs.Placing.{misplaced}

abbrev pub alone : List Corner → Field
alone r = record { outer_ring = r; inner_rings = [] }

abbrev pub with_ring : Field → List Corner → Field
with_ring f r = record { outer_ring = f.outer_ring; inner_rings = f.inner_rings ++ (r ∷ []) }

-- ---- an inner ring: "each of 3 to 128 corners (refusal 6 reads so ..) and within the other ring limits."
unfoldable pub inner_count_bad : List Corner → Bool
inner_count_bad r = ltb (length r) 3 || ltb 128 (length r)

-- "16, a seventeenth inner ring, .. before its refusal 6"; its 6, 7 and 8. So many inner rings came before it.
unfoldable pub inner_checks : ℕ → List ℤ → Answer (List Corner)
inner_checks before numbers = do
  too_many_rings if leb 16 before
  r ← corners numbers
  corner_count if inner_count_bad r
  corner_number if any_bad r
  span_too_large if span_bad r
  answered r

-- 9, in which ring (the outer one is 0), and "15, inner ring badly placed, after its 9"; the field with it
unfoldable pub placed : Field → List Corner → Answer Field
placed f r = do
  in_ring (suc (length f.inner_rings)) (not_crossed r)
  badly_placed if misplaced f r
  answered (with_ring f r)

-- ---- a field, ring by ring: the outer one, by its 6, 7, 8 and 9; then the inner ones in their order
unfoldable pub outer_accepted : List ℤ → Answer Field
outer_accepted numbers = do
  r ← ring_checks numbers
  not_crossed r
  answered (alone r)

unfoldable pub inner_accepted : Field → List (List ℤ) → Answer Field
inner_accepted f [] = answered f
inner_accepted f (numbers ∷ rest) = do
  r ← inner_checks (length f.inner_rings) numbers
  g ← placed f r
  inner_accepted g rest

-- no ring at all is 6
unfoldable pub rings_accepted : List (List ℤ) → Answer Field
rings_accepted [] = refused corner_count
rings_accepted (numbers ∷ rest) = outer_accepted numbers >>= λ f. inner_accepted f rest

-- ---- the numbers of each ring. Counts that do not add up to just the numbers are 6 before all else, as no ring at all is (a reading: docs/DECISIONS.md, 22)
unfoldable pub summed : List ℕ → ℕ
summed [] = 0
summed (n ∷ counts) = n + summed counts

unfoldable pub cut : List ℕ → List ℤ → List (List ℤ)
cut [] numbers = []
cut (n ∷ counts) numbers = take (2 * n) numbers ∷ cut counts (drop (2 * n) numbers)

abbrev pub uneven : List ℕ → List ℤ → Bool
uneven counts numbers = not (eqb (2 * summed counts) (length numbers))

unfoldable pub field_accepted : List ℕ → List ℤ → Answer Field
field_accepted counts numbers = do
  corner_count if uneven counts numbers
  rings_accepted (cut counts numbers)

-- ---- a field that was accepted before: the checks of each ring's numbers, and 16; 9 and 15 are not judged
unfoldable pub inner_read : Field → List (List ℤ) → Answer Field
inner_read f [] = answered f
inner_read f (numbers ∷ rest) = do
  r ← inner_checks (length f.inner_rings) numbers
  inner_read (with_ring f r) rest

unfoldable pub rings_read : List (List ℤ) → Answer Field
rings_read [] = refused corner_count
rings_read (numbers ∷ rest) = ring_checks numbers >>= λ r. inner_read (alone r) rest

unfoldable pub field_read : List ℕ → List ℤ → Answer Field
field_read counts numbers = do
  corner_count if uneven counts numbers
  rings_read (cut counts numbers)

-- ---- the answers
unfoldable pub accept_answer : List ℕ → List ℤ → Answer Passed
accept_answer counts numbers = do
  field_accepted counts numbers
  answered passed

unfoldable pub field_nozzle_answer : List ℕ → List ℤ → Corner → Answer Nozzle
field_nozzle_answer counts numbers p = do
  f ← field_accepted counts numbers
  answered (field_nozzle f p)

unfoldable pub field_position_answer : List ℕ → List ℤ → Corner → Answer Nozzle
field_position_answer counts numbers p = do
  f ← field_read counts numbers
  answered (field_nozzle f p)

-- a ring that joins a field that was accepted before: the field is read, and then the ring's own 16, 6, 7, 8, 9 and 15
unfoldable pub join_answer : List ℕ → List ℤ → List ℤ → Answer Passed
join_answer counts numbers ring = do
  f ← field_read counts numbers
  r ← inner_checks (length f.inner_rings) ring
  placed f r
  answered passed
