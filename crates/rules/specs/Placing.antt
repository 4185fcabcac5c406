-- The test of where an inner ring lies, by computing: `misplaced f s` is true exactly where s is Misplaced in Fields (Laws.Placing: misplaced_yes, misplaced_no). It costs pairs
-- of edges and one corner of a ring: where no edges meet, one corner of a ring tells of all of them. Not the paper's words: these are Meeting, StrictlyInside,
-- LiesInside and Misplaced of Fields. Assumes nothing.
use Rattle.std.specs.Prelude.{◌≡◌, Bool, true, false, not, ◌||◌, T}
use mathlib.Core.List.{List, [], ◌∷◌, Memᴰ}
use Rattle.rules.specs.Rings.{Corner, Edge, edges, turning_number, border, is_zero}
use Rattle.rules.specs.Crossing.{meets}
use Rattle.rules.specs.Fields.{Field}

-- an edge and one of a list, and one of a list and one of another, share a point
unfoldable pub meets_one : Edge → List Edge → Bool
meets_one e [] = false
meets_one e (f ∷ fs) = meets e f || meets_one e fs

unfoldable pub any_meet : List Edge → List Edge → Bool
any_meet [] fs = false
any_meet (e ∷ es) fs = meets_one e fs || any_meet es fs

unfoldable pub rings_meet : List Corner → List Corner → Bool
rings_meet r s = any_meet (edges r) (edges s)

-- the first corner of s has a turning number other than 0 in r, and has 0 (a ring of no corners has no corner, inside or outside)
unfoldable pub first_inside : List Corner → List Corner → Bool
first_inside r [] = false
first_inside r (c ∷ s) = not (is_zero (turning_number r c))

unfoldable pub first_outside : List Corner → List Corner → Bool
first_outside r [] = false
first_outside r (c ∷ s) = is_zero (turning_number r c)

-- s and an inner ring before it, and all inner rings before it
unfoldable pub entangled : List Corner → List Corner → Bool
entangled r s = rings_meet r s || (first_inside r s || first_inside s r)

unfoldable pub entangled_any : List (List Corner) → List Corner → Bool
entangled_any [] s = false
entangled_any (r ∷ rs) s = entangled r s || entangled_any rs s

unfoldable pub misplaced : Field → List Corner → Bool
misplaced f s = (rings_meet f.outer_ring s || first_outside f.outer_ring s) || entangled_any f.inner_rings s

-- ---- why one corner of s tells of all of s: of two rings whose edges do not meet, all whole points of the edges of s, the corners with them, have one turning number in r, and none
-- lies on an edge of r (Laws.Placing: one_corner_decides, by demand 3's line law along the edges of s)
pub record OneCornerDecides (r s : List Corner) : Type 0 where
  pub alike : (p q : Corner) → T (border (edges s) p) → T (border (edges s) q) → turning_number r p ≡ turning_number r q
  pub off : (p : Corner) → T (border (edges s) p) → border (edges r) p ≡ false
  pub corners : (c : Corner) → Memᴰ c s → T (border (edges s) c)
