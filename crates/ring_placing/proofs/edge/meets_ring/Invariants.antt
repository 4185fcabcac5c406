-- No edge before l meets the edge a-b. Assumes nothing.
use Rattle.std.proofs.Common.{◌-◌}
use Rattle.rules.specs.Rings.{◌to◌}
use Rattle.rules.specs.Crossing.{meets}
use Rattle.terms.specs.Papers.{corner_of}
use Rattle.ring_corners.specs.Corners.{pairs}
use Rattle.ring_pairs.specs.Laws.Search.{Unmet}
use Rattle.ring_placing.proofs.edge.meets_ring.Given as goal

abbrev pub invariant-loop-l : goal.invariant-loop-l
invariant-loop-l l = Unmet (meets (corner_of l.a to corner_of l.b)) (pairs l.ring.corners.now) 0 l.last l.l

abbrev pub decreases-loop-l : goal.decreases-loop-l
decreases-loop-l l = l.last - l.l
