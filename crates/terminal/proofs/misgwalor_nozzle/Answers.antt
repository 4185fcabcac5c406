-- What `misgwalor_nozzle` lends out fits an i64. Assumes nothing.
use Rattle.terminal.proofs.Laws.Edges.{nozzle_nine, held}
use Rattle.terminal.proofs.misgwalor_nozzle.Goals as goal

pub mark-requires : goal.mark-requires
mark-requires c = held _ _ (λ pair. nozzle_nine c.args.corners.now pair _) c.in-Err.ensures
