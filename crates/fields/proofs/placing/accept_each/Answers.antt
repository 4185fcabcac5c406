-- Ring by ring, as Accepting of Laws.Accepting says, and the first refusal. Assumes nothing.
use Rattle.std.proofs.lemmas.Result.{err_from_is_err_and}
use Rattle.fields.specs.Placed.{passed_one}
use Rattle.fields.specs.Laws.Cut.{less_none, less_start}
use Rattle.fields.specs.Laws.Accepting.{accepting_first, accepting_refused, accepting_on, accepting_end}
use Rattle.fields.proofs.placing.accept_each.Goals as goal

pub loop-k-init : goal.loop-k-init
loop-k-init c = rw c.outer-at.ensures.many (accepting_first _ _ c.args.field.now.some _ c.requires c.args.outer.now.accepted)

pub returns-in_err-one_more : goal.returns-in_err-one_more
unfolding passed_one
returns-in_err-one_more c =
    let p = err_from_is_err_and c.from_residual.result c.from_residual.ensures.1 in
    rw (p.1, p.2) (accepting_refused _ _ c.loop-k.invariant c.args.field.now.even c.loop-k-test.true _ (simp (less_none, less_start) at c.in_err-one_more.ensures))

pub loop-k-preserved : goal.loop-k-preserved
unfolding passed_one
loop-k-preserved c = accepting_on _ _ c.loop-k.invariant c.args.field.now.even c.loop-k-test.true (simp (less_none, less_start) at c.in_ok-one_more.ensures)

pub returns : goal.returns
returns c = accepting_end _ _ c.loop-k.invariant c.loop-k-test.false
