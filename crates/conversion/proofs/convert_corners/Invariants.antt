-- The loop keeps what Converting of specs/Laws/Ring says.
use Rattle.ring_corners.specs.Corners.{pairs}
use Rattle.conversion.specs.Plane.{carried}
use Rattle.conversion.specs.Laws.Ring.{Converting}
use Rattle.conversion.proofs.convert_corners.Given as goal

abbrev pub invariant-loop-i : goal.invariant-loop-i
invariant-loop-i l = Converting (carried l.source l.target) (pairs l.ring.corners.now) l.numbers l.i
