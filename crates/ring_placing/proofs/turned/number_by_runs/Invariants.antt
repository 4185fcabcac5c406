-- The edges before number k add the sum. Assumes nothing.
use Rattle.std.proofs.Common.{◌-◌, ◌≤◌}
use Rattle.terms.specs.Papers.{corner_of}
use Rattle.ring_corners.specs.Corners.{pairs}
use Rattle.ring_turning.specs.Laws.Turning.{Turning}
use Rattle.ring_placing.proofs.turned.number_by_runs.Given as goal

abbrev pub invariant-loop-k : goal.invariant-loop-k
invariant-loop-k l = Turning (pairs l.ring.corners.now) (corner_of l.p) l.sum l.k × (l.k ≤ l.last)

abbrev pub decreases-loop-k : goal.decreases-loop-k
decreases-loop-k l = l.last - l.k
