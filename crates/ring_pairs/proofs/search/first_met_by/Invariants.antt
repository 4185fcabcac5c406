-- No edge before l meets edge k. Assumes nothing.
use Rattle.std.proofs.Common.{◌-◌}
use Rattle.rules.specs.Crossing.{meets}
use Rattle.ring_corners.specs.Corners.{pairs}
use Rattle.ring_pairs.specs.Laws.Search.{leg, Unmet}
use Rattle.ring_pairs.proofs.search.first_met_by.Given as goal

abbrev pub invariant-loop-l : goal.invariant-loop-l
invariant-loop-l l = Unmet (meets (leg (pairs l.ring.corners.now) l.k)) (pairs l.ring.corners.now) l.start l.stop l.l

abbrev pub decreases-loop-l : goal.decreases-loop-l
decreases-loop-l l = l.stop - l.l
