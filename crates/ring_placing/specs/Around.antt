-- A box of all of a ring, as it is worked once and handed on. Assumes nothing.
use Rattle.std.specs.Prelude.{Bool, List, ◌-◌, length}
use Rattle.rules.specs.Rings.{Corner}
use Rattle.terms.specs.Papers.{corner_of}
use Rattle.ring_boxes.specs.Boxes.{Spans}
use Rattle.ring_boxes.specs.declared.reach.Reach.{Reach}
use Rattle.ring_pairs.specs.Crossings.{away}

abbrev pub Around : List Corner → Reach → Type 0
Around r b = Spans r 0 (length r - 1) b

-- two boxes have no point in common
abbrev pub Apart : Reach → Reach → Bool
Apart a b = away (corner_of a.low) (corner_of a.high) (corner_of b.low) (corner_of b.high)
