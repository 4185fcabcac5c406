-- No edge that was passed makes a pair with a later one. Assumes nothing.
use Rattle.ring_corners.specs.Corners.{pairs}
use Rattle.rings.proofs.Laws.Crossed.{Searched}
use Rattle.rings.proofs.crossed.search.Given as goal

abbrev pub invariant-loop-k : goal.invariant-loop-k
invariant-loop-k l = Searched (pairs l.ring.corners.now) l.k
