-- The statements of Tried.Ponds hold, each by computing. Assumes nothing.
use Rattle.std.specs.Prelude.{refl}
use Rattle.rules.specs.Numbers.{square, bow}
use Rattle.rules.specs.Tried.Ponds.{Ponds}
use Rattle.rules.specs.Computing.{computing}

pub ponds : Ponds
unfolding square bow computing
ponds = record {
  accepted = refl;
  between = refl;
  in_pond = refl;
  in_barn = refl;
  on_pond = refl;
  on_barn = refl;
  on_outer = refl;
  outside = refl;
  other_way_round = refl;
  corner_on_outer = refl;
  along_outer = refl;
  as_outer = refl;
  beside = refl;
  around = refl;
  corner_on_inner = refl;
  as_inner = refl;
  in_inner = refl;
  around_inner = refl;
  crossed = refl;
  crossed_beside = refl;
  outer_first = refl;
  two_corners = refl;
  corners_128 = refl;
  corners_129 = refl;
  sixteenth = refl;
  seventeenth = refl;
  seventeenth_empty = refl;
  left_over = refl;
  too_few = refl;
  no_ring = refl;
  alone = refl;
}
