use Rattle.terms.specs.Papers.{corner_of}
use Rattle.ring_corners.specs.Corners.{pairs}
use Rattle.ring_turning.specs.Laws.Turning.{Turning}
use Rattle.ring_turning.proofs.turning.number.Given as goal

abbrev pub invariant-loop-i : goal.invariant-loop-i
invariant-loop-i l = Turning (pairs l.fn.ring.corners.now) (corner_of l.fn.p) l.sum l.i
