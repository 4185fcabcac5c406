-- A run of edges whose box is away from the line from a point straight down in Y. Assumes nothing.
use Rattle.std.specs.Prelude.{◌⊎◌, List, ℕ, ◌<◌, length, get_or, ◌<ℤ◌}
use Rattle.rules.specs.Rings.{Corner}
use Rattle.terms.specs.Papers.{corner_of}
use Rattle.ring_boxes.specs.Boxes.{nowhere}
use Rattle.ring_boxes.specs.declared.reach.Reach.{Reach}

-- the box from low to high lies above p in X, below p in X, or above p in Y
abbrev pub Off : Corner → Corner → Corner → Type 0
Off low high p = (p.x <ℤ low.x) ⊎ ((high.x <ℤ p.x) ⊎ (p.y <ℤ low.y))

pub record Beside (boxes : List Reach) (m : ℕ) (p : Corner) : Type 0 where
  pub has_box : m < length boxes
  pub off : Off (corner_of (get_or boxes m nowhere).low) (corner_of (get_or boxes m nowhere).high) p
