-- The loop keeps what Reaching of Laws.Axis says, of either axis. Assumes nothing.
use Rattle.rules.specs.Rings.{Corner}
use Rattle.ring_corners.specs.Corners.{pairs}
use Rattle.ring_checks.proofs.Laws.Axis.{Reaching}
use Rattle.ring_checks.proofs.numbers.Given as goal

abbrev pub invariant-loop-k : goal.invariant-loop-k
invariant-loop-k l = record {
  north : Reaching (λ (c : Corner). c.x) (pairs l.corners) l.low.x l.high.x l.k;
  east : Reaching (λ (c : Corner). c.y) (pairs l.corners) l.low.y l.high.y l.k;
}
