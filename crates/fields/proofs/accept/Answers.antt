-- 6 before all else, then the outer ring, and then the inner ones. Assumes nothing.
use Rattle.std.specs.Prelude.{◌≡◌, false}
use Rattle.std.proofs.Common.{ap, ap₂, ◌∙◌}
use Rattle.std.proofs.lemmas.Result.{err_from_is_err_and}
use Rattle.rules.specs.RingAnswers.{crossing_answer}
use Rattle.rules.specs.FieldAnswers.{uneven, accept_answer}
use Rattle.fields.specs.Laws.Calls.{accept_unfit}
use Rattle.fields.specs.Laws.Outer.{outer_refused, outer_accepts, outer_clean}
use Rattle.fields.proofs.accept.Goals as goal

pub returns-in_err-field : goal.returns-in_err-field
returns-in_err-field c =
    let p = err_from_is_err_and c.from_residual.result c.from_residual.ensures.1 in
    let e = c.in_err-field.ensures in
    rw (p.1, p.2, e.0) (accept_unfit _ _ e.1)

pub returns-in_err-crossing : goal.returns-in_err-crossing
returns-in_err-crossing c =
    let p = err_from_is_err_and c.from_residual-in_err-crossing.result c.from_residual-in_err-crossing.ensures.1 in
    let e = c.in_ok-field.ensures in
    let f : uneven c.in_ok-field.field.counts.now c.in_ok-field.field.corners.now ≡ false = rw (e.0, e.1) e.2 in
    rw (p.1, p.2) (outer_refused _ _ f c.in_ok-field.field.some _ (c.in_err-crossing.ensures ∙ ap crossing_answer c.outer.ensures.first) ∙ ap₂ accept_answer e.0 e.1)

pub accept_inner-requires : goal.accept_inner-requires
accept_inner-requires c =
    let e = c.in_ok-field.ensures in
    let f : uneven c.in_ok-field.field.counts.now c.in_ok-field.field.corners.now ≡ false = rw (e.0, e.1) e.2 in
    outer_accepts _ _ f c.in_ok-field.field.some _ (c.in_ok-crossing.ensures ∙ ap crossing_answer c.outer.ensures.first)

pub returns : goal.returns
returns c =
    let e = c.in_ok-field.ensures in
    let f : uneven c.in_ok-field.field.counts.now c.in_ok-field.field.corners.now ≡ false = rw (e.0, e.1) e.2 in
    c.accept_inner.ensures ∙ outer_clean _ _ f c.in_ok-field.field.some _ (c.in_ok-crossing.ensures ∙ ap crossing_answer c.outer.ensures.first) ∙ ap₂ accept_answer e.0 e.1
