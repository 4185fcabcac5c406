-- The runs before number m have their boxes. Assumes nothing.
use Rattle.std.proofs.Common.{◌≡◌, length}
use Rattle.ring_corners.specs.Corners.{pairs}
use Rattle.ring_boxes.specs.Boxes.{Filled}
use Rattle.ring_boxes.proofs.runs.fill.Given as goal

abbrev pub invariant-loop-m : goal.invariant-loop-m
invariant-loop-m l = Filled (pairs l.ring.corners.now) l.boxes l.m × (length l.boxes ≡ 64)
