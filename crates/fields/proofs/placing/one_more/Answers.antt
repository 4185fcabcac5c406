-- 16 and 6 by its place and its length, then as the crossing test says, and then by where it lies. Assumes nothing.
use Rattle.std.specs.Prelude.{ℕ, ◌-◌}
use Rattle.std.proofs.Common.{sym, ap, ◌∙◌, arith}
use Rattle.std.proofs.lemmas.Result.{err_from_is_err_and}
use Rattle.rules.specs.FieldAnswers.{cut}
use Rattle.fields.specs.OfRing.{ring_refusal}
use Rattle.fields.specs.Laws.Cut.{length_cut}
use Rattle.fields.specs.Laws.Joining.{place_refused, join_refused, join_accepted, join_misplaced, join_placed}
use Rattle.fields.proofs.placing.one_more.Goals as goal

pub returns-in_err-check_place : goal.returns-in_err-check_place
returns-in_err-check_place c =
    let p = err_from_is_err_and c.from_residual.result c.from_residual.ensures.1 in
    rw (p.1, p.2) (place_refused _ _ _ _ (ap (λ (n : ℕ). n - 1) (sym (length_cut c.args.field.now.counts.now c.args.field.now.corners.now))) c.in_err-check_place.ensures)

pub returns-in-Err : goal.returns-in-Err
returns-in-Err c =
    let e = length_cut c.args.field.now.counts.now c.args.field.now.corners.now in
    let s = c.args.field.now.some in
    join_refused _ _ (omega (arith, c.in_ok-check_place.ensures.0)) c.in_ok-check_place.ensures.1 (omega arith) _ _ c.in-Err.ensures (c.of_ring.ensures ∙ ap (λ (n : ℕ). ring_refusal n c.in-Err.refusal) (sym e))

pub invariant_of-ring : goal.invariant_of-ring
invariant_of-ring c =
    let e = length_cut c.args.field.now.counts.now c.args.field.now.corners.now in
    record { accepted = join_accepted (cut c.args.field.now.counts.now c.args.field.now.corners.now) _ (omega (arith, c.in_ok-check_place.ensures.0)) c.in_ok-check_place.ensures.1 _ c.in_default.ensures }

pub returns-then-misplaced : goal.returns-then-misplaced
returns-then-misplaced c =
    let e = length_cut c.args.field.now.counts.now c.args.field.now.corners.now in
    join_misplaced _ _ (omega (arith, c.in_ok-check_place.ensures.0)) c.in_ok-check_place.ensures.1 _ c.in_default.ensures c.if-misplaced.ensures

pub returns : goal.returns
returns c =
    let e = length_cut c.args.field.now.counts.now c.args.field.now.corners.now in
    join_placed _ _ (omega (arith, c.in_ok-check_place.ensures.0)) c.in_ok-check_place.ensures.1 _ c.in_default.ensures c.if-misplaced.ensures
