-- The first edge that makes a pair makes the first pair. Assumes nothing.
use Rattle.std.proofs.Common.{arith}
use Rattle.rings.proofs.Laws.Crossed.{searched_start, searched_hit, searched_miss, searched_end}
use Rattle.rings.proofs.crossed.search.Goals as goal

pub loop-k-init : goal.loop-k-init
loop-k-init c = searched_start _

pub returns-in-Some : goal.returns-in-Some
returns-in-Some c = searched_hit c.loop-k.invariant (omega arith) c.in-Some.l c.in-Some.ensures.pair (omega arith)

pub loop-k-preserved : goal.loop-k-preserved
loop-k-preserved c = searched_miss c.loop-k.invariant (omega arith) c.in_default.ensures.pair

pub returns : goal.returns
returns c = searched_end c.loop-k.invariant (omega arith)
