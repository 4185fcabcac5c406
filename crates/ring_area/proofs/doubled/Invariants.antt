use Rattle.terms.specs.Papers.{corner_of}
use Rattle.ring_corners.specs.Corners.{pairs}
use Rattle.ring_area.specs.Laws.Area.{Summing}
use Rattle.ring_area.proofs.doubled.Given as goal

abbrev pub invariant-loop-i : goal.invariant-loop-i
invariant-loop-i l = Summing (pairs l.fn.ring.corners.now) (corner_of l.p) l.sum l.i
