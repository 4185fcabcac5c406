-- The run's box takes its place among the others. Assumes nothing.
use Rattle.std.proofs.Common.{rules, length-set, arith}
use Rattle.ring_boxes.specs.Laws.Filled.{filled_step}
use Rattle.ring_boxes.proofs.runs.fill.Goals as goal

pub loop-m-preserved : goal.loop-m-preserved
loop-m-preserved c =
    let inv = c.loop-m.invariant in
    let n = c.args.ring.now.accepted.at_most in
    let m = c.args.ring.now.accepted.at_least in
    (filled_step inv.0 c.run_end.ensures c.box_of.ensures (omega arith) (search rules), simp length-set inv.1)
