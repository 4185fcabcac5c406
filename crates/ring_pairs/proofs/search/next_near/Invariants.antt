-- Run by run, and within a run edge by edge, every edge that was passed has its box away. Assumes nothing.
use Rattle.std.proofs.Common.{◌-◌}
use Rattle.terms.specs.Papers.{corner_of}
use Rattle.ring_corners.specs.Corners.{pairs}
use Rattle.ring_pairs.specs.Crossings.{leg_away, Skipped}
use Rattle.ring_pairs.proofs.search.next_near.Given as goal

abbrev pub invariant-loop-l : goal.invariant-loop-l
invariant-loop-l l = Skipped (leg_away (corner_of l.around.low) (corner_of l.around.high) (pairs l.corners)) l.start l.stop l.l

abbrev pub decreases-loop-l : goal.decreases-loop-l
decreases-loop-l l = l.stop - l.l
