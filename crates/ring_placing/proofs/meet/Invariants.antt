-- No edge of the first ring before k meets an edge of the second. Assumes nothing.
use Rattle.std.proofs.Common.{◌-◌}
use Rattle.rules.specs.Rings.{edges}
use Rattle.rules.specs.Placing.{meets_one}
use Rattle.ring_corners.specs.Corners.{pairs}
use Rattle.ring_pairs.specs.Laws.Search.{Unmet}
use Rattle.ring_placing.proofs.meet.Given as goal

abbrev pub invariant-loop-k : goal.invariant-loop-k
invariant-loop-k l = Unmet (λ e. meets_one e (edges (pairs l.second.corners.now))) (pairs l.first.corners.now) 0 l.last l.k

abbrev pub decreases-loop-k : goal.decreases-loop-k
decreases-loop-k l = l.last - l.k
