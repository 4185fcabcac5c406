-- The boxes of a ring's runs of edges. Run m has the edges from corner 16 m to corner 16 m + 16, as far as the last corner. Assumes nothing.
use Rattle.std.specs.Prelude.{List, ℕ, pos, ◌+◌, ◌*◌, ◌<◌, ◌≤◌, length, get_or, ◌≤ℤ◌}
use Rattle.rules.specs.Rings.{Corner, origin}
use Rattle.rules.specs.RingAnswers.{smaller, larger}
use Rattle.terms.specs.Papers.{corner_of}
use Rattle.ring_boxes.specs.declared.reach.Reach.{Reach}

-- the lowest corner of the least box of two corners, and its highest
abbrev pub lower : Corner → Corner → Corner
lower a b = record { x = smaller a.x b.x; y = smaller a.y b.y }

abbrev pub upper : Corner → Corner → Corner
upper a b = record { x = larger a.x b.x; y = larger a.y b.y }

-- c lies in the box from low to high, border included
pub record Inside (low high c : Corner) : Type 0 where
  pub above_x : low.x ≤ℤ c.x
  pub below_x : c.x ≤ℤ high.x
  pub above_y : low.y ≤ℤ c.y
  pub below_y : c.y ≤ℤ high.y

abbrev pub Holds : Reach → Corner → Type 0
Holds b c = Inside (corner_of b.low) (corner_of b.high) c

-- the corners from number `start` to number `end` lie in the box
pub record Spans (r : List Corner) (start end : ℕ) (b : Reach) : Type 0 where
  pub inside : (j : ℕ) → start ≤ j → j ≤ end → Holds b (get_or r j origin)

-- end is the lesser of `stop` and the last corner of run m
pub record RunEnd (m stop end : ℕ) : Type 0 where
  pub in_run : end ≤ 16 * m + 16
  pub in_reach : end ≤ stop
  pub whole : (j : ℕ) → j ≤ 16 * m + 16 → j ≤ stop → j ≤ end

-- what stands for the box of a run that has none
abbrev pub nowhere : Reach
nowhere = record { low = record { x = pos 0; y = pos 0 }; high = record { x = pos 0; y = pos 0 } }

-- the list has the boxes of the runs before number m
pub record Filled (r : List Corner) (boxes : List Reach) (m : ℕ) : Type 0 where
  pub inside : (i j : ℕ) → i < m → 16 * i ≤ j → j ≤ 16 * i + 16 → j < length r → Holds (get_or boxes i nowhere) (get_or r j origin)

-- it has those of as many runs as it is long; of a run that has no edge nothing is said
pub record Boxed (r : List Corner) (boxes : List Reach) : Type 0 where
  pub inside : (m j : ℕ) → m < length boxes → 16 * m + 1 < length r → 16 * m ≤ j → j ≤ 16 * m + 16 → j < length r
      → Holds (get_or boxes m nowhere) (get_or r j origin)
