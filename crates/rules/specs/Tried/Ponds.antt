-- 02 (i): a field with a pond and a barn, how a ring may lie badly, and the order of a field's refusals. Assumes nothing.
use Rattle.std.specs.Prelude.{◌≡◌, List, [], ◌∷◌, ◌++◌, reverse, ℕ, ℤ, pos, neg_ℤ, replicate}
use Rattle.rules.specs.Refusals.{Answer, answered, refused, crossed_at, Passed, passed}
use Rattle.rules.specs.Rings.{Corner}
use Rattle.rules.specs.RingAnswers.{numbers_of, Nozzle, open_nozzle, border_nozzle, shut_nozzle, nozzle_answer}
use Rattle.rules.specs.FieldAnswers.{inner_checks, accept_answer, field_nozzle_answer, field_position_answer}
use Rattle.rules.specs.Numbers.{at, square, bow}

abbrev box : ℕ → ℕ → ℕ → List Corner
box low left high = at low left ∷ at high left ∷ at high high ∷ at low high ∷ []

abbrev pond : List Corner
pond = box 200 200 400

abbrev barn : List Corner
barn = at 600 600 ∷ at 800 600 ∷ at 800 800 ∷ []

-- the square with one inner ring, and what is said of it
abbrev with_one : List Corner → List ℤ
with_one r = numbers_of (square ++ r)

abbrev one : List Corner → Answer Passed
one r = accept_answer (4 ∷ 4 ∷ []) (with_one r)

abbrev yard : List ℤ
yard = numbers_of (square ++ (pond ++ barn))

abbrev yard_nozzle : Corner → Answer Nozzle
yard_nozzle = field_nozzle_answer (4 ∷ 4 ∷ 3 ∷ []) yard

-- the square with so many rings like the pond, whose places are not judged
abbrev ponds : ℕ → List ℕ
ponds n = 4 ∷ replicate n 4

abbrev ponds_numbers : List (List Corner) → List ℤ
ponds_numbers [] = []
ponds_numbers (r ∷ rs) = numbers_of r ++ ponds_numbers rs

abbrev pond_position : ℕ → Answer Nozzle
pond_position n = field_position_answer (ponds n) (ponds_numbers (square ∷ replicate n pond)) (at 500 500)

pub record Ponds : Type 0 where
  -- "A nozzle is open if the outer ring has it open and it is neither inside nor on an inner ring; on an inner edge it is border."
  pub accepted : accept_answer (4 ∷ 4 ∷ 3 ∷ []) yard ≡ answered passed
  pub between : yard_nozzle (at 500 500) ≡ answered open_nozzle
  pub in_pond : yard_nozzle (at 300 300) ≡ answered shut_nozzle
  pub in_barn : yard_nozzle (at 750 650) ≡ answered shut_nozzle
  pub on_pond : yard_nozzle (at 200 300) ≡ answered border_nozzle
  pub on_barn : yard_nozzle (at 700 700) ≡ answered border_nozzle
  pub on_outer : yard_nozzle (at 0 500) ≡ answered border_nozzle
  pub outside : yard_nozzle (at 1500 500) ≡ answered shut_nozzle
  pub other_way_round : field_nozzle_answer (4 ∷ 4 ∷ []) (with_one (reverse pond)) (at 300 300) ≡ answered shut_nozzle
  -- "An inner ring lies strictly inside the outer ring, and no edge of one ring meets an edge of another."
  pub corner_on_outer : one (at 0 500 ∷ at 100 400 ∷ at 200 500 ∷ at 100 600 ∷ []) ≡ refused 15
  pub along_outer : one (at 0 400 ∷ at 100 400 ∷ at 100 600 ∷ at 0 600 ∷ []) ≡ refused 15
  pub as_outer : one square ≡ refused 15
  pub beside : one (box 2000 200 2400) ≡ refused 15
  pub around : accept_answer (4 ∷ 4 ∷ []) (numbers_of (pond ++ square)) ≡ refused 15
  pub corner_on_inner : accept_answer (4 ∷ 4 ∷ 4 ∷ []) (numbers_of (square ++ (pond ++ box 400 400 600))) ≡ refused 15
  pub as_inner : accept_answer (4 ∷ 4 ∷ 4 ∷ []) (numbers_of (square ++ (pond ++ pond))) ≡ refused 15
  -- "Inner rings may not lie inside each other."
  pub in_inner : accept_answer (4 ∷ 4 ∷ 4 ∷ []) (numbers_of (square ++ (pond ++ box 250 250 350))) ≡ refused 15
  pub around_inner : accept_answer (4 ∷ 4 ∷ 4 ∷ []) (numbers_of (square ++ (box 250 250 350 ++ pond))) ≡ refused 15
  -- ring by ring: 6, 7, 8, 9, then 15; 9 says in which ring
  pub crossed : one (at 200 200 ∷ at 400 400 ∷ at 400 200 ∷ at 200 400 ∷ []) ≡ crossed_at (record { ring = 1; low = 0; high = 2; looked_at = 2 })
  pub crossed_beside : one (at 2000 200 ∷ at 2400 400 ∷ at 2400 200 ∷ at 2000 400 ∷ []) ≡ crossed_at (record { ring = 1; low = 0; high = 2; looked_at = 2 })
  pub outer_first : accept_answer (4 ∷ 2 ∷ []) (numbers_of (bow ++ (at 1 1 ∷ at 2 2 ∷ []))) ≡ crossed_at (record { ring = 0; low = 0; high = 2; looked_at = 2 })
  pub two_corners : accept_answer (4 ∷ 2 ∷ []) (numbers_of (square ++ (at 1 1 ∷ at 2 2 ∷ []))) ≡ refused 6
  pub corners_128 : inner_checks 0 (numbers_of (replicate 128 (at 1 1))) ≡ answered (replicate 128 (at 1 1))
  pub corners_129 : inner_checks 0 (numbers_of (replicate 129 (at 1 1))) ≡ refused 6
  -- "16, a seventeenth inner ring, .. before its refusal 6"
  pub sixteenth : pond_position 16 ≡ answered open_nozzle
  pub seventeenth : pond_position 17 ≡ refused 16
  pub seventeenth_empty : field_position_answer (ponds 16 ++ (0 ∷ [])) (ponds_numbers (square ∷ replicate 16 pond)) (at 500 500) ≡ refused 16
  -- counts that do not add up to just the numbers, and no ring at all, are 6 before all else
  pub left_over : accept_answer (4 ∷ []) (with_one pond) ≡ refused 6
  pub too_few : accept_answer (4 ∷ 5 ∷ []) (with_one pond) ≡ refused 6
  pub no_ring : accept_answer [] [] ≡ refused 6
  -- a field of one ring answers as the ring does
  pub alone : field_nozzle_answer (4 ∷ []) (numbers_of square) (at 0 500) ≡ nozzle_answer (numbers_of square) (at 0 500)
