-- 6 before all else, and then ring by ring. Assumes nothing.
use Rattle.std.proofs.Common.{◌∙◌}
use Rattle.std.proofs.lemmas.Result.{err_from_is_err_and}
use Rattle.fields.specs.Laws.Calls.{position_unfit, position_even}
use Rattle.fields.proofs.position.Goals as goal

pub returns-in_err-field : goal.returns-in_err-field
returns-in_err-field c =
    let p = err_from_is_err_and c.from_residual.result c.from_residual.ensures.1 in
    let e = c.in_err-field.ensures in
    rw (p.1, p.2, e.0) (position_unfit _ _ _ e.1)

pub returns : goal.returns
returns c =
    let e = c.in_ok-field.ensures in
    (rw (e.0, e.1) at c.over_rings.ensures) ∙ position_even _ _ _ e.2
