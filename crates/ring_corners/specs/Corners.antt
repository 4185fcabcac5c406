-- A ring as the calls take it: a flat list of numbers, X and Y of each corner in turn. What the calls require of it among themselves. Assumes nothing.
use Rattle.std.specs.Prelude.{List, [], ◌∷◌, ◌≡◌, true, false, ℕ, ◌+◌, ◌*◌, ◌<◌, ◌≤◌, ltb, ℤ, nat_abs, ◌-ℤ◌, length, get_or}
use Rattle.rules.specs.Rings.{Corner, origin}

abbrev pub corner : ℤ → ℤ → Corner
corner X Y = record { x = X; y = Y }

-- the corners; a number left over is none (`corners` of RingAnswers refuses it, and gives these otherwise)
unfoldable pub pairs : List ℤ → List Corner
pairs [] = []
pairs (X ∷ []) = []
pairs (X ∷ Y ∷ l) = corner X Y ∷ pairs l

-- c, seen from o
abbrev pub seen_from : Corner → Corner → Corner
seen_from o c = corner (c.x -ℤ o.x) (c.y -ℤ o.y)

-- a corner that lies at most w from the origin, on either axis
abbrev pub Small : ℕ → Corner → Type 0
Small w c = (nat_abs c.x ≤ w) × (nat_abs c.y ≤ w)

-- two corners that lie at most w apart, on either axis
pub record Apart (w : ℕ) (a b : Corner) : Type 0 where
  pub x_near : nat_abs (a.x -ℤ b.x) ≤ w
  pub y_near : nat_abs (a.y -ℤ b.y) ≤ w

-- within the span of check 8, as the corners of one ring are
abbrev pub Near : Corner → Corner → Type 0
Near = Apart 20_000_000

-- within twice the span, as the corners of two edges of different rings are where the edges' boxes touch
abbrev pub Wide : Corner → Corner → Type 0
Wide = Apart 40_000_000

-- a list that the checks 6, 7 and 8 accept
pub record Accepted (l : List ℤ) : Type 0 where
  pub even : length l ≡ 2 * length (pairs l)
  pub at_least : 3 ≤ length (pairs l)
  pub at_most : length (pairs l) ≤ 1024
  pub near : (i j : ℕ) → i < length (pairs l) → j < length (pairs l) → Near (get_or (pairs l) i origin) (get_or (pairs l) j origin)

-- the number of the corner after number i, of n
unfoldable pub next_of : ℕ → ℕ → ℕ
next_of i n = elim (ltb (i + 1) n) [ true ↦ i + 1 | false ↦ 0 ]
