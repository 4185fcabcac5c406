-- Demand 3 as a statement about the calls: what `area2` and `turning_number` answer for an accepted ring, for its two parts when it is cut from corner i to
-- corner j, and for the ring reversed; and for two points joined by a line that meets no edge. A part, and the ring reversed, is the list of the numbers of its
-- corners, X and Y in turn (`numbers_of`), and is accepted too, which the statement includes: each answer is a number and no refusal. `AreaCall` and
-- `TurningCall` are what the two calls ensure. That it holds is `calls` of Laws.Demand. Definitions only.
use Rattle.std.specs.Prelude.{◌≡◌, ℕ, ◌<◌, ◌≤◌, ℤ, ◌+ℤ◌, neg_ℤ, length, Result, Ok}
use mathlib.Core.List.{List, reverse, Memᴰ}
use Rattle.rules.specs.Rings.{Corner, Edge, edges, inner, outer, Share}
use Rattle.rules.specs.RingAnswers.{numbers_of}
use Rattle.rings.specs.Answers.{AreaCall, TurningCall}
use Rattle.terms.specs.declared.refusals.Refusal.{Refusal}

-- the calls answer numbers, and the first is the sum of the others
pub record Sum (w u v : Result ℤ Refusal) : Type 0 where
  pub whole : ℤ
  pub part : ℤ
  pub other : ℤ
  pub whole_is : w ≡ Ok whole
  pub part_is : u ≡ Ok part
  pub other_is : v ≡ Ok other
  pub sum : whole ≡ part +ℤ other

pub record Opposite (w v : Result ℤ Refusal) : Type 0 where
  pub whole : ℤ
  pub whole_is : w ≡ Ok whole
  pub reversed_is : v ≡ Ok (neg_ℤ whole)

-- the calls for the list l, whose corners are r
pub record Calls (l : List ℤ) (r : List Corner) : Type 0 where
  -- cut from corner i to corner j into two parts of at least 3 corners
  pub cut_turning : (i j : ℕ) → i < j → j < length r → 3 ≤ length (inner i j r) → 3 ≤ length (outer i j r) → (p : Corner) (w u v : Result ℤ Refusal)
      → TurningCall l p w → TurningCall (numbers_of (inner i j r)) p u → TurningCall (numbers_of (outer i j r)) p v → Sum w u v
  pub cut_area : (i j : ℕ) → i < j → j < length r → 3 ≤ length (inner i j r) → 3 ≤ length (outer i j r) → (w u v : Result ℤ Refusal)
      → AreaCall l w → AreaCall (numbers_of (inner i j r)) u → AreaCall (numbers_of (outer i j r)) v → Sum w u v
  -- reversed
  pub reverse_turning : (p : Corner) (w v : Result ℤ Refusal) → TurningCall l p w → TurningCall (numbers_of (reverse r)) p v → Opposite w v
  pub reverse_area : (w v : Result ℤ Refusal) → AreaCall l w → AreaCall (numbers_of (reverse r)) v → Opposite w v
  -- two points joined by a line that meets no edge
  pub line_turning : (p q : Corner) → ((e : Edge) → Memᴰ e (edges r) → ¬ Share e.tail e.head p q) → (w v : Result ℤ Refusal)
      → TurningCall l p w → TurningCall l q v → w ≡ v
