-- The boxes of the edges before l are away. Assumes nothing.
use Rattle.terms.specs.Papers.{corner_of}
use Rattle.ring_corners.specs.Corners.{pairs}
use Rattle.ring_pairs.specs.Crossings.{pair_away, Skipped}
use Rattle.ring_pairs.proofs.search.first_near.Given as goal

abbrev pub invariant-loop-l : goal.invariant-loop-l
invariant-loop-l l = Skipped (pair_away (corner_of l.around.low) (corner_of l.around.high) (pairs l.first) (pairs l.second) l.shift) l.start l.stop l.l
