-- The boxes of the runs before m are away. Assumes nothing.
use Rattle.terms.specs.Papers.{corner_of}
use Rattle.ring_pairs.specs.Crossings.{run_away, Skipped}
use Rattle.ring_pairs.proofs.search.first_run_near.Given as goal

abbrev pub invariant-loop-m : goal.invariant-loop-m
invariant-loop-m l = Skipped (run_away (corner_of l.around.low) (corner_of l.around.high) l.boxes) l.start l.stop l.m
