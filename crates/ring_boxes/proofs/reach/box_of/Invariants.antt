-- The box has the corners as far as the loop has come. Assumes nothing.
use Rattle.ring_corners.specs.Corners.{pairs}
use Rattle.ring_boxes.specs.Boxes.{Spans}
use Rattle.ring_boxes.proofs.reach.box_of.Given as goal

abbrev pub invariant-loop-k : goal.invariant-loop-k
invariant-loop-k l = Spans (pairs l.corners) l.start l.k l.around
