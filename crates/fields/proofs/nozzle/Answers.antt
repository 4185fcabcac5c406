-- The position of a field that is accepted. Assumes nothing.
use Rattle.std.proofs.Common.{sym, ◌∙◌}
use Rattle.std.proofs.lemmas.Result.{err_from_is_err_and}
use Rattle.rules.proofs.Laws.AcceptedFields.{position_is_field_nozzle}
use Rattle.rules.specs.FieldAnswers.{accept_answer, field_accepted, field_nozzle_answer}
use Rattle.ring_checks.proofs.Laws.Steps.{refused_passed}
use Rattle.fields.proofs.nozzle.Goals as goal

pub returns-in_err-accept : goal.returns-in_err-accept
unfolding accept_answer field_nozzle_answer
returns-in_err-accept c =
    let p = err_from_is_err_and c.from_residual.result c.from_residual.ensures.1 in
    rw (p.1, p.2) (refused_passed (field_accepted c.args.counts.now c.args.corners.now) _ _ c.in_err-accept.ensures)

pub returns : goal.returns
returns c = c.position.ensures ∙ position_is_field_nozzle _ _ _ (sym c.in_ok-accept.ensures)
