-- 02 (i), Ponds and barns inside a field: a field's rings, how an inner ring lies badly, and the nozzle rule over all rings, as the paper has them. The test that finds a
-- badly placed ring by computing is in Placing, and Laws.Placing shows that it answers by these rules. Assumes nothing.
use Rattle.std.specs.Prelude.{◌≡◌, Bool, true, false, not, ◌||◌, pos}
use mathlib.Core.List.{List, [], ◌∷◌, ◌++◌, Memᴰ}
use Rattle.rules.specs.Rings.{Corner, Edge, edges, turning_number, border, is_zero, Share}
use Rattle.rules.specs.RingAnswers.{Nozzle, open_nozzle, border_nozzle, shut_nozzle}

-- ---- "A field may carry up to 16 inner rings beside its outer one"; "The field's record holds all rings from now on"
-- (the inner rings in the order in which they came)
pub record Field : Type 0 where
  pub outer_ring : List Corner
  pub inner_rings : List (List Corner)

-- ---- "no edge of one ring meets an edge of another"
pub record Meeting (r s : List Corner) : Type 0 where
  pub e : Edge
  pub f : Edge
  pub e_of : Memᴰ e (edges r)
  pub f_of : Memᴰ f (edges s)
  pub shared : Share e.tail e.head f.tail f.head

-- "An inner ring lies strictly inside the outer ring": of a corner, it lies on no edge and its turning number isn't 0
abbrev pub StrictlyInside : List Corner → Corner → Type 0
StrictlyInside r p = (border (edges r) p ≡ false) × ¬ (turning_number r p ≡ pos 0)

-- "Inner rings may not lie inside each other." A ring s lies inside a ring r where a corner of s has a turning number other than 0 there
pub record LiesInside (r s : List Corner) : Type 0 where
  pub corner : Corner
  pub corner_of : Memᴰ corner s
  pub turned : ¬ (turning_number r corner ≡ pos 0)

-- ---- 15: "inner ring badly placed", of a ring s that comes to a field's rings
pub data Misplaced (f : Field) (s : List Corner) : Type 0 where
  meets_outer : Meeting f.outer_ring s → Misplaced f s
  not_inside : (c : Corner) → Memᴰ c s → ¬ StrictlyInside f.outer_ring c → Misplaced f s
  meets_inner : (r : List Corner) → Memᴰ r f.inner_rings → Meeting r s → Misplaced f s
  inside_inner : (r : List Corner) → Memᴰ r f.inner_rings → LiesInside r s → Misplaced f s
  around_inner : (r : List Corner) → Memᴰ r f.inner_rings → LiesInside s r → Misplaced f s

-- the inner rings of a field, none of them badly placed among those before it
pub data WellPlaced (o : List Corner) : List (List Corner) → Type 0 where
  none : WellPlaced o []
  more : {rs : List (List Corner)} {r : List Corner} → WellPlaced o rs → ¬ Misplaced (record { outer_ring = o; inner_rings = rs }) r → WellPlaced o (rs ++ (r ∷ []))

-- ---- "A nozzle is open if the outer ring has it open and it is neither inside nor on an inner ring; on an inner edge it is border."
unfoldable pub on_any : List (List Corner) → Corner → Bool
on_any [] p = false
on_any (r ∷ rs) p = border (edges r) p || on_any rs p

unfoldable pub inside_any : List (List Corner) → Corner → Bool
inside_any [] p = false
inside_any (r ∷ rs) p = not (is_zero (turning_number r p)) || inside_any rs p

-- border on an edge of any ring; otherwise shut inside an inner ring or outside the outer one; otherwise open
unfoldable pub field_nozzle : Field → Corner → Nozzle
field_nozzle f p =
    elim (on_any (f.outer_ring ∷ f.inner_rings) p) [
      | true ↦ border_nozzle
      | false ↦ elim (inside_any f.inner_rings p || is_zero (turning_number f.outer_ring p)) [ true ↦ shut_nozzle | false ↦ open_nozzle ]
    ]
