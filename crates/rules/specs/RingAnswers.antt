-- 01, Rings: what is asked of a ring, and what is answered. A ring comes as a list of numbers, X and Y of each corner in turn. Assumes nothing.
use Rattle.std.specs.Prelude.{Bool, true, false, not, ◌||◌, List, [], ◌∷◌, map, ℕ, ◌^◌, ltb, ℤ, pos, ◌-ℤ◌, length}
use Rattle.std.proofs.Math.Option.{Option, none, some}
use Rattle.std.specs.Int.Signed.{le_z, lt_z}
use Rattle.rules.specs.Refusals.{Answer, answered, refused, crossed_at, ◌>>=◌, ◌>>◌, ◌if◌, corner_count, corner_number, span_too_large}
use Rattle.rules.specs.Points.{above}
use Rattle.rules.specs.Rings.{Corner, edges, area2, turning_number, border, is_zero, EdgePair, edge_pairs, place}
use Rattle.rules.specs.Crossing.{crossed}

-- 6: "or a corner list of odd length"
unfoldable pub corners : List ℤ → Answer (List Corner)
corners [] = answered []
corners (X ∷ []) = refused corner_count
corners (X ∷ Y ∷ numbers) = corners numbers >>= λ r. answered (record { x = X; y = Y } ∷ r)

-- the list that a ring comes as
unfoldable pub numbers_of : List Corner → List ℤ
numbers_of [] = []
numbers_of (c ∷ r) = c.x ∷ c.y ∷ numbers_of r

-- "3 to 1,024 corners"
unfoldable pub count_bad : List Corner → Bool
count_bad r = ltb (length r) 3 || ltb 1024 (length r)

-- "each number within ±10^10 mm"
unfoldable pub number_bad : ℤ → Bool
number_bad z = above z (pos (10 ^ 10))

unfoldable pub corner_bad : Corner → Bool
corner_bad c = number_bad c.x || number_bad c.y

unfoldable pub any_bad : List Corner → Bool
any_bad [] = false
any_bad (c ∷ r) = corner_bad c || any_bad r

-- "span at most 20,000,000 mm on either axis": the largest number less the smallest
unfoldable pub larger : ℤ → ℤ → ℤ
larger a b = elim (lt_z a b) [ true ↦ b | false ↦ a ]

unfoldable pub smaller : ℤ → ℤ → ℤ
smaller a b = elim (lt_z b a) [ true ↦ b | false ↦ a ]

unfoldable pub largest : ℤ → List ℤ → ℤ
largest a [] = a
largest a (b ∷ l) = largest (larger a b) l

unfoldable pub smallest : ℤ → List ℤ → ℤ
smallest a [] = a
smallest a (b ∷ l) = smallest (smaller a b) l

unfoldable pub span : List ℤ → ℤ
span [] = pos 0
span (a ∷ l) = largest a l -ℤ smallest a l

unfoldable pub span_bad : List Corner → Bool
span_bad r = lt_z (pos 20_000_000) (span (map (λ (c : Corner). c.x) r)) || lt_z (pos 20_000_000) (span (map (λ (c : Corner). c.y) r))

-- "For rings: 6, 7, 8, 9": the checks 6, 7, 8
unfoldable pub ring_checks : List ℤ → Answer (List Corner)
ring_checks numbers = do
  r ← corners numbers
  corner_count if count_bad r
  corner_number if any_bad r
  span_too_large if span_bad r
  answered r

-- 9: "crossed", with its edges. 02 (vii): "The crossing test reports the pairs of edges looked at. For a clean ring of n corners it is n(n-1)/2" (all of them:
-- Laws.Looked); "for a crossed one it is the place of the reported pair, from 1, in the order of document 01."
abbrev pub looked_through : ℕ → Option EdgePair → Answer ℕ
looked_through n none = answered (length (edge_pairs n))
looked_through n (some t) = crossed_at (record { ring = 0; low = t.low; high = t.high; looked_at = place t (edge_pairs n) })

unfoldable pub not_crossed : List Corner → Answer ℕ
not_crossed r = looked_through (length r) (crossed r)

-- ---- the answers. "Turning number and area answer for crossed rings too."
unfoldable pub area_answer : List ℤ → Answer ℤ
area_answer numbers = do
  r ← ring_checks numbers
  answered (area2 r)

unfoldable pub turning_answer : List ℤ → Corner → Answer ℤ
turning_answer numbers p = do
  r ← ring_checks numbers
  answered (turning_number r p)

-- the crossing test: passed, with the pairs looked at, or refused 9 with the first pair and the pairs looked at
unfoldable pub crossing_answer : List ℤ → Answer ℕ
crossing_answer numbers = do
  r ← ring_checks numbers
  not_crossed r

-- "Nozzle: border if on an edge; otherwise open if the turning number isn't 0; otherwise shut. Refused for a crossed ring."
pub data Nozzle : Type 0 where
  open_nozzle : Nozzle
  border_nozzle : Nozzle
  shut_nozzle : Nozzle

unfoldable pub nozzle : List Corner → Corner → Nozzle
nozzle r p =
    elim (border (edges r) p) [
      | true ↦ border_nozzle
      | false ↦ elim (is_zero (turning_number r p)) [ true ↦ shut_nozzle | false ↦ open_nozzle ]
    ]

unfoldable pub nozzle_answer : List ℤ → Corner → Answer Nozzle
nozzle_answer numbers p = do
  r ← ring_checks numbers
  not_crossed r
  answered (nozzle r p)
