-- What `misgwalor_crossing` lends out fits an i64. Assumes nothing.
use Rattle.std.proofs.Common.{sym, ap, ◌∙◌, arith}
use Rattle.terminal.proofs.Laws.Lent.{one_same}
use Rattle.terminal.proofs.Laws.Edges.{clean_small, crossing_nine, held, small_is}
use Rattle.terminal.specs.Lent.{looked_lent}
use Rattle.terminal.proofs.misgwalor_crossing.Goals as goal

pub overflow_cast-pairs : goal.overflow_cast-pairs
overflow_cast-pairs c = let n = clean_small c.args.corners.now c.in-Ok.all (sym c.in-Ok.ensures) in record { sfits = omega arith }

pub mark-requires : goal.mark-requires
mark-requires c = held _ _ (crossing_nine c.args.corners.now) c.in-Err.ensures

pub returns-in-Ok-clause-looked : goal.returns-in-Ok-clause-looked
returns-in-Ok-clause-looked c =
    one_same (small_is (clean_small c.args.corners.now c.in-Ok.all (sym c.in-Ok.ensures))) ∙ ap (λ a. looked_lent a c.args.pairs.now) c.in-Ok.ensures
