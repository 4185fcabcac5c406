-- The sign of D, and what an edge then adds to the turning number. Assumes nothing.
use Rattle.std.specs.Prelude.{zero, suc, ℤ, pos, negsuc}
use Rattle.std.specs.declared.cmp.Ordering.{Ordering}
use Rattle.std.specs.declared.cmp.Ordering.TheVariants.{Less, Equal, Greater}

-- how a number stands to 0
unfoldable pub sign_of : ℤ → Ordering
sign_of (pos zero) = Equal
sign_of (pos (suc n)) = Greater
sign_of (negsuc n) = Less

-- of an edge that runs north past the point
abbrev pub rise_of : Ordering → ℤ
rise_of Greater = pos 1
rise_of Equal = pos 0
rise_of Less = pos 0

-- of an edge that runs south past it, by the sign of the edge turned about
abbrev pub fall_of : Ordering → ℤ
fall_of Greater = negsuc 0
fall_of Equal = pos 0
fall_of Less = pos 0
