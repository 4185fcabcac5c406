-- The crossing test as the code makes it: boxes by the smaller and the larger end, and the first edge that makes a pair with a given one. Assumes nothing.
use Rattle.std.specs.Prelude.{◌≡◌, Bool, true, false, not, ◌&&◌, ◌||◌, List, ℕ, suc, ◌+◌, ◌*◌, ◌<◌, ◌≤◌, ℤ, ◌+ℤ◌, ◌-ℤ◌, ◌*ℤ◌, length, drop, get_or, Option, Some, None}
use Rattle.std.proofs.Math.Option as Maybe
use Rattle.std.specs.Int.Signed.{lt_z}
use Rattle.rules.specs.Rings.{Corner, ◌to◌, origin, D, is_zero, edge, edges, EdgePair}
use Rattle.rules.specs.Crossing.{aside, meets, bad, first_with}
use Rattle.terms.specs.Papers.{corner_of}
use Rattle.ring_corners.specs.Corners.{Near, Wide}
use Rattle.ring_boxes.specs.Boxes.{lower, upper, nowhere}
use Rattle.ring_boxes.specs.declared.reach.Reach.{Reach}

-- c and d lie both above high, or both below low
unfoldable pub outside : ℤ → ℤ → ℤ → ℤ → Bool
outside low high c d = (lt_z high c && lt_z high d) || (lt_z c low && lt_z d low)

-- the box of c-d has no point in common with the box from low to high
unfoldable pub away : Corner → Corner → Corner → Corner → Bool
away low high c d = outside low.x high.x c.x d.x || outside low.y high.y c.y d.y

-- corner j of one list and the corner `shift` numbers on of another
abbrev pub pair_away : Corner → Corner → List Corner → List Corner → ℕ → ℕ → Bool
pair_away low high first second shift j = away low high (get_or first j origin) (get_or second (j + shift) origin)

-- the edge from corner j to the next, and run m
abbrev pub leg_away : Corner → Corner → List Corner → ℕ → Bool
leg_away low high r j = away low high (get_or r j origin) (get_or r (j + 1) origin)

abbrev pub run_away : Corner → Corner → List Reach → ℕ → Bool
run_away low high boxes m = away low high (corner_of (get_or boxes m nowhere).low) (corner_of (get_or boxes m nowhere).high)

-- `around` is the box of the edge from a to b
pub record BoxOf (a b : Corner) (around : Reach) : Type 0 where
  pub low_is : corner_of around.low ≡ lower a b
  pub high_is : corner_of around.high ≡ upper a b

-- the runs before number n have boxes, and every run that has a box and an edge before number `stop` is one of them
pub record RunsTo (boxes stop n : ℕ) : Type 0 where
  pub have_boxes : n ≤ boxes
  pub at_most : n ≤ 64
  pub all : (m : ℕ) → m < boxes → 16 * m < stop → m < n

-- the boxes of the numbers from `start` to before l, which is `stop` at most, are away, as `is_away` says of each
pub record Skipped (is_away : ℕ → Bool) (start stop l : ℕ) : Type 0 where
  pub low : start ≤ l
  pub high : l ≤ stop
  pub skipped : (j : ℕ) → start ≤ j → j < l → is_away j ≡ true

-- l is the first such number whose box is not away, or `stop`
pub record FirstNear (is_away : ℕ → Bool) (start stop l : ℕ) : Type 0 where
  pub passed : Skipped is_away start stop l
  pub near : l < stop → is_away l ≡ false

-- neither edge lies to one side of the other's line
unfoldable pub straddle : Corner → Corner → Corner → Corner → Bool
straddle a b c d = not (aside (D a b c) (D a b d)) && not (aside (D c d a) (D c d b))

-- (b - a)·(c - b): below 0 where the edge b-c runs back
unfoldable pub ahead : Corner → Corner → Corner → ℤ
ahead a b c = (b.x -ℤ a.x) *ℤ (c.x -ℤ b.x) +ℤ (b.y -ℤ a.y) *ℤ (c.y -ℤ b.y)

unfoldable pub no_length : Corner → Corner → Bool
no_length a b = is_zero (b.x -ℤ a.x) && is_zero (b.y -ℤ a.y)

-- four corners within twice the span, as the products of the test want them
pub record AllNear (a b c d : Corner) : Type 0 where
  pub b_a : Wide b a
  pub c_a : Wide c a
  pub d_a : Wide d a
  pub d_c : Wide d c
  pub a_c : Wide a c
  pub b_c : Wide b c

-- three corners in a row
pub record RowNear (a b c : Corner) : Type 0 where
  pub b_a : Near b a
  pub c_a : Near c a
  pub c_b : Near c b

-- edges k and l, k before l, make a pair
unfoldable pub bad_at : List Corner → ℕ → ℕ → Bool
bad_at r k l = bad (length r) k l (edge r k) (edge r l)

-- edge k meets none of the edges from number `from` to before number l
pub record MetNone (r : List Corner) (k from l : ℕ) : Type 0 where
  pub none_met : (j : ℕ) → from ≤ j → j < l → meets (get_or r k origin to get_or r (k + 1) origin) (get_or r j origin to get_or r (j + 1) origin) ≡ false

-- l is the first edge from number `from` to before number `end` that meets edge k
pub record MetAt (r : List Corner) (k from end l : ℕ) : Type 0 where
  pub low : from ≤ l
  pub high : l < end
  pub met : meets (get_or r k origin to get_or r (k + 1) origin) (get_or r l origin to get_or r (l + 1) origin) ≡ true
  pub not_before : MetNone r k from l

-- the first edge from number `from` to before number `end` that meets edge k
abbrev pub FirstMet : List Corner → ℕ → ℕ → ℕ → Option ℕ → Type 0
FirstMet r k from end None = MetNone r k from end
FirstMet r k from end (Some l) = MetAt r k from end l

-- the pair k, l
abbrev pub pair_at : ℕ → Option ℕ → Maybe.Option EdgePair
pair_at k None = Maybe.none
pair_at k (Some l) = Maybe.some (record { low = k; high = l })

-- the first pair of edge k with a later edge
unfoldable pub pair_after : List Corner → ℕ → Maybe.Option EdgePair
pair_after r k = first_with (length r) k (edge r k) (suc k) (drop (suc k) (edges r))
