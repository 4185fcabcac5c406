-- What an edge tells of a point: that the point lies on it, or else what the edge adds to the turning number. Assumes nothing.
use Rattle.std.specs.Prelude.{true, false, ℤ, pos, Option, Some, None}
use Rattle.std.specs.declared.cmp.Ordering.{Ordering}
use Rattle.std.specs.declared.cmp.Ordering.TheVariants.{Less, Equal, Greater}
use Rattle.rules.specs.Rings.{Corner, Edge, turn, on}

-- none where the point lies on the edge
unfoldable pub touch_of : Corner → Edge → Option ℤ
touch_of p e = elim (on p e) [ true ↦ None | false ↦ Some (turn p e) ]

-- the same by the sign of D, of an edge that adds z where D is above 0: 1 where it runs north past the point, -1 where it runs south past it (turned about), and 0 where it ends at the point or lies along it
abbrev pub touch_by : ℤ → Ordering → Option ℤ
touch_by z Greater = Some z
touch_by z Equal = None
touch_by z Less = Some (pos 0)
