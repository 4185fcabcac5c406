-- The loop keeps what Passing of Laws.Standing says. Assumes nothing.
use Rattle.ring_corners.specs.Corners.{pairs}
use Rattle.terms.specs.Papers.{corner_of}
use Rattle.rings.proofs.Laws.Standing.{Passing}
use Rattle.rings.proofs.standing.standing.Given as goal

abbrev pub invariant-loop-i : goal.invariant-loop-i
invariant-loop-i l = Passing (pairs l.ring.corners.now) (corner_of l.p) l.sum l.i
