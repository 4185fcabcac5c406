-- Each ring in turn, and the first refusal. Assumes nothing.
use Rattle.std.proofs.Common.{sym, ap}
use Rattle.std.proofs.lemmas.Result.{err_from_is_err_and}
use Rattle.rules.specs.Refusals.{Answer, answered, passed, ◌>>◌}
use Rattle.rules.specs.Fields.{Field}
use Rattle.fields.specs.Laws.Cut.{less_start}
use Rattle.fields.specs.Laws.Reading.{reading_refused, reading_on, reading_end}
use Rattle.fields.proofs.reading.check.Goals as goal

pub returns-in_err-check_inner : goal.returns-in_err-check_inner
returns-in_err-check_inner c =
    let p = err_from_is_err_and c.from_residual-in_err-check_inner.result c.from_residual-in_err-check_inner.ensures.1 in
    rw (p.1, p.2) (reading_refused _ _ c.loop-k.invariant c.loop-k-test.true _ (simp less_start at c.in_err-check_inner.ensures))

pub loop-k-preserved : goal.loop-k-preserved
loop-k-preserved c = reading_on _ _ c.loop-k.invariant c.loop-k-test.true (simp less_start at c.in_ok-check_inner.ensures)

pub returns : goal.returns
returns c = sym (ap (λ (a : Answer Field). a >> answered passed) (reading_end _ _ c.loop-k.invariant c.loop-k-test.false))
