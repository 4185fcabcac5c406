-- Signs. A worked number is a size; that it stands for a definition's value at a negative argument is said by `turned`. The definition's floors go down on
-- both sides of 0, so an odd function is odd to within a unit, which the laws of a product already allow. Assumes nothing.
use Rattle.std.specs.Prelude.{Bool, true, false, ◌≡◌, ◌∷◌, ◌*◌, ◌-◌, ◌/◌, ◌^◌, ◌≤◌, ℤ, pos, negsuc, ◌-ℤ◌, ◌*ℤ◌}

-- the sign of a whole number, and that it is its size, turned
abbrev pub below_zero : ℤ → Bool
below_zero (pos n) = false
below_zero (negsuc n) = true
