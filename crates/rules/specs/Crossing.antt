-- The crossing test, by computing: `crossed r` is the first crossed pair of Rings, or none where there is none (Laws.Pairs: crossed_some, crossed_none).
-- Not the paper's words: its words are Share, ShareOff, Crossing and First of Rings. Assumes nothing.
use Rattle.std.specs.Prelude.{Bool, true, false, not, cond, ◌&&◌, ◌||◌, List, [], ◌∷◌, ℕ, suc, ℤ, pos, ◌+ℤ◌, ◌-ℤ◌, ◌*ℤ◌, eqb, length}
use Rattle.std.proofs.Math.Option.{Option, none, some}
use Rattle.std.specs.Int.Signed.{lt_z}
use Rattle.rules.specs.Rings.{Corner, Edge, edges, D, is_zero, EdgePair}

-- two edges share a point: their boxes meet, and neither lies to one side of the other's line
unfoldable pub before : ℤ → ℤ → ℤ → ℤ → Bool
before a b c d = (lt_z a c && lt_z a d) && (lt_z b c && lt_z b d)

unfoldable pub overlap : ℤ → ℤ → ℤ → ℤ → Bool
overlap a b c d = not (before a b c d) && not (before c d a b)

unfoldable pub aside : ℤ → ℤ → Bool
aside s t = (lt_z (pos 0) s && lt_z (pos 0) t) || (lt_z s (pos 0) && lt_z t (pos 0))

unfoldable pub meets : Edge → Edge → Bool
meets e f =
    (overlap e.tail.x e.head.x f.tail.x f.head.x && overlap e.tail.y e.head.y f.tail.y f.head.y)
    && (not (aside (D e.tail e.head f.tail) (D e.tail e.head f.head))
    && not (aside (D f.tail f.head e.tail) (D f.tail f.head e.head)))

-- an edge and the edge after it share more than their common corner: they lie on one line and run back on one another; or the first has no length
unfoldable pub folds : Edge → Edge → Bool
folds e f =
    (is_zero (D e.tail e.head f.head)
    && lt_z ((e.head.x -ℤ e.tail.x) *ℤ (f.head.x -ℤ f.tail.x) +ℤ (e.head.y -ℤ e.tail.y) *ℤ (f.head.y -ℤ f.tail.y)) (pos 0))
    || (is_zero (e.head.x -ℤ e.tail.x) && is_zero (e.head.y -ℤ e.tail.y))

-- edges k and l, k before l, of a ring of n
unfoldable pub bad : ℕ → ℕ → ℕ → Edge → Edge → Bool
bad n k l e f = cond (eqb l (suc k)) (folds e f) (cond (eqb k 0 && eqb (suc l) n) (folds f e) (meets e f))

-- the first pair, in order of the lower number, then of the higher
unfoldable pub first_with : ℕ → ℕ → Edge → ℕ → List Edge → Option EdgePair
first_with n k e l [] = none
first_with n k e l (f ∷ fs) = elim (bad n k l e f) [ true ↦ some (record { low = k; high = l }) | false ↦ first_with n k e (suc l) fs ]

unfoldable pub first_of : ℕ → ℕ → List Edge → Option EdgePair
first_of n k [] = none
first_of n k (e ∷ es) = elim (first_with n k e (suc k) es) [ some t ↦ some t | none ↦ first_of n (suc k) es ]

unfoldable pub crossed : List Corner → Option EdgePair
crossed r = first_of (length r) 0 (edges r)
