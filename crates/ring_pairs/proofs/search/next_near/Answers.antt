-- Runs that are away are passed whole. Assumes nothing.
use Rattle.std.proofs.Common.{le_refl}
use Rattle.terms.specs.Papers.{corner_of}
use Rattle.ring_pairs.specs.Laws.Search.{skip_join}
use Rattle.ring_pairs.specs.Laws.Runs.{skip_runs}
use Rattle.ring_pairs.proofs.search.next_near.Goals as goal

pub loop-l-preserved-then-m-n : goal.loop-l-preserved-then-m-n
loop-l-preserved-then-m-n c =
    let low = corner_of c.args.around.low in
    let high = corner_of c.args.around.high in
    skip_join c.loop-l.invariant (skip_runs low high c.requires.0 c.first_run_near-n.ensures.passed c.runs_to-runs.ensures.have_boxes c.if-m-n.true c.run_end-l.ensures c.loop-l-test.true c.requires.2) (le_refl c.args.stop)
