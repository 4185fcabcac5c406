-- Each ring in turn, and the first refusal. Assumes nothing.
use Rattle.std.specs.Prelude.{List, ℤ}
use Rattle.std.proofs.Common.{ap, ◌∙◌}
use Rattle.std.proofs.lemmas.Result.{err_from_is_err_and}
use Rattle.terms.specs.Papers.{corner_of}
use Rattle.rings.specs.Answers.{position_answer}
use Rattle.fields.specs.Laws.Cut.{less_start}
use Rattle.fields.specs.Laws.Walks.{first_refused, first_stands, next_refused, next_stands}
use Rattle.fields.proofs.standing.over_rings.Goals as goal

pub returns-in_err-so_far : goal.returns-in_err-so_far
returns-in_err-so_far c =
    let p = err_from_is_err_and c.from_residual.result c.from_residual.ensures.1 in
    rw (p.1, p.2) (first_refused _ _ _ c.args.field.now.some _ (c.in_err-so_far.ensures ∙ ap (λ (l : List ℤ). position_answer l (corner_of c.args.p)) c.outer-outer.ensures.first))

pub loop-k-init : goal.loop-k-init
loop-k-init c =
    rw c.outer-outer.ensures.many (first_stands _ _ _ c.args.field.now.some (c.in_ok-so_far.ensures ∙ ap (λ (l : List ℤ). position_answer l (corner_of c.args.p)) c.outer-outer.ensures.first))

pub returns-in_err-inner : goal.returns-in_err-inner
returns-in_err-inner c =
    let p = err_from_is_err_and c.from_residual-in_err-inner.result c.from_residual-in_err-inner.ensures.1 in
    rw (p.1, p.2) (next_refused _ _ _ c.loop-k.invariant c.loop-k-test.true _ (simp less_start at c.in_err-inner.ensures))

pub loop-k-preserved : goal.loop-k-preserved
loop-k-preserved c = next_stands _ _ _ c.loop-k.invariant c.loop-k-test.true (simp less_start at c.in_ok-inner.ensures) c.beside-so_far.ensures
