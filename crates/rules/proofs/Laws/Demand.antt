-- Demand 3 holds of the rules. Assumes nothing.
use Rattle.rules.proofs.Laws.Sums.{turning_cut, area2_cut, turning_reverse, area2_reverse}
use Rattle.rules.proofs.Laws.SameTurning.{same_turning}
use Rattle.rules.specs.Demand.{Demand}

pub demand : Demand
demand = record {
  cut_turning = λ r i j h k p. turning_cut i j r p h k;
  cut_area = λ r i j h k. area2_cut i j r h k;
  reverse_turning = turning_reverse;
  reverse_area = area2_reverse;
  line_turning = same_turning;
}
