-- The loop's invariant is `Turns`; the measure is what is left of the chunk, and whether the corners are still to be laid out.
use Rattle.std.proofs.Common.{◌+◌, ◌*◌}
use Rattle.job.specs.Passages.{run_of}
use Rattle.job.proofs.Looping.{Turns, unlaid}
use Rattle.job.proofs.run.Run.take_bytes.Given as goal

abbrev pub invariant-loop-counts : goal.invariant-loop-counts
invariant-loop-counts l = Turns (run_of l.initial.job l.initial.passage) l.chunk l.initial.out l.out l.job l.passage l.counts l.numbers

abbrev pub decreases-loop-counts : goal.decreases-loop-counts
decreases-loop-counts l = 2 * l.passage.left + unlaid l.passage.laid
