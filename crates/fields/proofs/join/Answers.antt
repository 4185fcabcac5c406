-- The field is read, and then the ring joins it. Assumes nothing.
use Rattle.std.proofs.Common.{◌∙◌}
use Rattle.std.proofs.lemmas.Result.{err_from_is_err_and}
use Rattle.fields.specs.Laws.Reading.{join_unfit, join_unread, join_read, read_checked}
use Rattle.fields.proofs.join.Goals as goal

pub returns-in_err-field : goal.returns-in_err-field
returns-in_err-field c =
    let p = err_from_is_err_and c.from_residual.result c.from_residual.ensures.1 in
    let e = c.in_err-field.ensures in
    rw (p.1, p.2, e.0) (join_unfit _ _ _ e.1)

pub returns-in_err-check : goal.returns-in_err-check
returns-in_err-check c =
    let p = err_from_is_err_and c.from_residual-in_err-check.result c.from_residual-in_err-check.ensures.1 in
    let e = c.in_ok-field.ensures in
    rw (p.1, p.2) (join_unread _ _ _ e.2 _ (rw (e.0, e.1) at c.in_err-check.ensures))

pub join-requires : goal.join-requires
join-requires c = (read_checked _ _ c.in_ok-field.field.some c.in_ok-field.field.even c.in_ok-check.ensures).0

pub returns : goal.returns
returns c =
    let e = c.in_ok-field.ensures in
    let z = (read_checked _ _ c.in_ok-field.field.some c.in_ok-field.field.even c.in_ok-check.ensures).1 in
    (rw (e.0, e.1) at c.join.ensures) ∙ join_read _ _ _ e.2 (rw (e.0, e.1) at z)
