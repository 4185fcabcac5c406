-- 01, Rings: the rules, as the paper has them. The test that finds a crossed pair by computing is in Crossing, and Laws.Pairs shows that it answers by
-- these rules. Assumes nothing.
use Rattle.std.specs.Prelude.{◌≡◌, Bool, true, false, cond, ◌&&◌, ◌||◌, ◌⊎◌, List, [], ◌∷◌, ◌++◌, ℕ, zero, suc, ◌-◌, ◌<◌, ◌≤◌, ℤ, pos, ◌+ℤ◌, ◌-ℤ◌, ◌*ℤ◌, eqb, length, take, drop, get_or}
use Rattle.std.specs.Int.Signed.{le_z, lt_z}

-- ---- "A ring is a list of corners, the last joined to the first, which is not repeated. Edge k runs from corner k to the next."
pub record Corner : Type 0 where
  pub x : ℤ
  pub y : ℤ

pub record Edge : Type 0 where
  pub tail : Corner
  pub head : Corner

infix 30 ◌to◌
abbrev pub ◌to◌ : Corner → Corner → Edge
a to b = record { tail = a; head = b }

-- the edges of an open line: from each corner of a list to the next one
unfoldable pub onward : Corner → List Corner → List Edge
onward a [] = []
onward a (b ∷ l) = (a to b) ∷ onward b l

unfoldable pub line : List Corner → List Edge
line [] = []
line (a ∷ l) = onward a l

-- the edges of a ring: edge k is number k of this list, counted from 0
unfoldable pub edges : List Corner → List Edge
edges r = line (r ++ take 1 r)

-- (what stands past the last edge, where nothing asks)
abbrev pub origin : Corner
origin = record { x = pos 0; y = pos 0 }

unfoldable pub edge : List Corner → ℕ → Edge
edge r k = get_or (edges r) k (origin to origin)

-- "the sum over edges"
unfoldable pub total : (Edge → ℤ) → List Edge → ℤ
total f [] = pos 0
total f (e ∷ l) = f e +ℤ total f l

-- ---- "Doubled area: the sum over edges a to b of aX·bY - bX·aY."
unfoldable pub area_term : Edge → ℤ
area_term e = e.tail.x *ℤ e.head.y -ℤ e.head.x *ℤ e.tail.y

unfoldable pub area2 : List Corner → ℤ
area2 r = total area_term (edges r)

-- ---- "Turning number for point p: with D = (bX-aX)(pY-aY) - (pX-aX)(bY-aY),"
unfoldable pub D : Corner → Corner → Corner → ℤ
D a b p = (b.x -ℤ a.x) *ℤ (p.y -ℤ a.y) -ℤ (p.x -ℤ a.x) *ℤ (b.y -ℤ a.y)

abbrev pub bit : Bool → ℤ
bit true = pos 1
bit false = pos 0

-- "an edge adds 1 if aX ≤ pX < bX and D > 0, takes 1 if bX ≤ pX < aX and D < 0, else nothing."
unfoldable pub turn : Corner → Edge → ℤ
turn p e =
    bit (le_z e.tail.x p.x && (lt_z p.x e.head.x && lt_z (pos 0) (D e.tail e.head p)))
    -ℤ bit (le_z e.head.x p.x && (lt_z p.x e.tail.x && lt_z (D e.tail e.head p) (pos 0)))

unfoldable pub turning_number : List Corner → Corner → ℤ
turning_number r p = total (turn p) (edges r)

-- ---- "Border: p lies on an edge if D = 0 and p is within the edge's own box."
abbrev pub is_zero : ℤ → Bool
is_zero z = le_z z (pos 0) && le_z (pos 0) z

unfoldable pub between : ℤ → ℤ → ℤ → Bool
between a b z = (le_z a z && le_z z b) || (le_z b z && le_z z a)

unfoldable pub on : Corner → Edge → Bool
on p e =
    is_zero (D e.tail e.head p)
    && (between e.tail.x e.head.x p.x && between e.tail.y e.head.y p.y)

unfoldable pub border : List Edge → Corner → Bool
border [] p = false
border (e ∷ l) p = on p e || border l p

-- ---- "Sharing a point: two lines a-b and c-d, edges or the line of demand 3, share one when whole numbers m > 0 and i, j from 0 to m give
-- (m-i)·a + i·b = (m-j)·c + j·d in X and in Y; that sum is the point times m. To meet is to share a point."
pub record Share (a b c d : Corner) : Type 0 where
  pub m : ℕ
  pub i : ℕ
  pub j : ℕ
  pub some : 0 < m
  pub i_in : i ≤ m
  pub j_in : j ≤ m
  pub same_x : pos (m - i) *ℤ a.x +ℤ pos i *ℤ b.x ≡ pos (m - j) *ℤ c.x +ℤ pos j *ℤ d.x
  pub same_y : pos (m - i) *ℤ a.y +ℤ pos i *ℤ b.y ≡ pos (m - j) *ℤ c.y +ℤ pos j *ℤ d.y

-- ---- "Crossed: two edges share a point that is not the common corner of neighbours;"
-- neighbours a-b and b-c: the shared point, times m, is not b times m
pub record ShareOff (a b c : Corner) : Type 0 where
  pub shared : Share a b b c
  pub off : ¬ ((pos (shared.m - shared.i) *ℤ a.x +ℤ pos shared.i *ℤ b.x ≡ pos shared.m *ℤ b.x)
      × (pos (shared.m - shared.i) *ℤ a.y +ℤ pos shared.i *ℤ b.y ≡ pos shared.m *ℤ b.y))

-- "an edge of no length also makes a pair with the edge after it": e, and f after it
abbrev pub Folded : Edge → Edge → Type 0
Folded e f = ShareOff e.tail e.head f.head ⊎ (e.tail ≡ e.head)

-- edges k and l, k before l, of a ring of n are a crossed pair: neighbours, the last and the first (which comes after it), or others
abbrev pub Crossing : ℕ → ℕ → ℕ → Edge → Edge → Type 0
Crossing n k l e f = cases (eqb l (suc k)) (eqb k 0 && eqb (suc l) n)
  where
    cases : Bool → Bool → Type 0
    cases true c = Folded e f
    cases false true = Folded f e
    cases false false = Share e.tail e.head f.tail f.head

-- "The pair reported is the first in order of lower edge number, then higher."
pub record EdgePair : Type 0 where
  pub low : ℕ
  pub high : ℕ

pub record First (r : List Corner) (t : EdgePair) : Type 0 where
  pub order : t.low < t.high
  pub inside : t.high < length r
  pub here : Crossing (length r) t.low t.high (edge r t.low) (edge r t.high)
  pub not_before : (k l : ℕ) → k < l → l < length r → ((k < t.low) ⊎ ((k ≡ t.low) × (l < t.high))) → ¬ Crossing (length r) k l (edge r k) (edge r l)

-- ---- 02 (vii): "The crossing test reports the pairs of edges looked at."
-- the pairs "in order of lower edge number, then higher". Edge k with the m edges from number l on:
unfoldable pub pairs_with : ℕ → ℕ → ℕ → List EdgePair
pairs_with k l zero = []
pairs_with k l (suc m) = record { low = k; high = l } ∷ pairs_with k (suc l) m

-- the m edges from number k on among themselves: the pairs of edge k, then those of the edges after it
unfoldable pub pairs_from : ℕ → ℕ → List EdgePair
pairs_from k zero = []
pairs_from k (suc m) = pairs_with k (suc k) m ++ pairs_from (suc k) m

-- all pairs of n edges
unfoldable pub edge_pairs : ℕ → List EdgePair
edge_pairs n = pairs_from 0 n

-- "the place of the reported pair, from 1" (a pair that is not in the list has none, and nothing asks)
unfoldable pub place : EdgePair → List EdgePair → ℕ
place t [] = 0
place t (u ∷ l) = cond (eqb t.low u.low && eqb t.high u.high) 1 (suc (place t l))

-- ---- a ring cut from corner i to corner j, i before j (P11, demand 3): the corners from i to j, and the others with those two
unfoldable pub inner : ℕ → ℕ → List Corner → List Corner
inner i j r = drop i (take (suc j) r)

unfoldable pub outer : ℕ → ℕ → List Corner → List Corner
outer i j r = take (suc i) r ++ drop j r
