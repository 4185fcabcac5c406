-- Refusals 2 and 3 in their order, and else the ticks. Assumes nothing.
use Rattle.std.proofs.Common.{ap₂, ◌∙◌, ℤ, to_z-of_z}
use Rattle.std.proofs.lemmas.Result.{err_from_is_err_and}
use Rattle.rules.specs.Refusals.{Answer, answered}
use Rattle.rules.specs.Points.{Ticks}
use Rattle.systems.specs.Zones.{point_checks}
use Rattle.systems.proofs.Laws.Points.{judged_refused, judged_passed}
use Rattle.projection_inverse.proofs.backward.judge.Goals as goal

ticks : ℤ → ℤ → Answer Ticks
ticks b l = answered (record { B = b; L = l })

pub returns-in_err-check_point : goal.returns-in_err-check_point
returns-in_err-check_point c = λ s h.
    let p = err_from_is_err_and c.from_residual.result c.from_residual.ensures.1 in
    rw (p.1, p.2) (judged_refused s _ _ (c.in_err-check_point.ensures s h ∙ ap₂ (point_checks s) (to_z-of_z c.ranges.b) (to_z-of_z c.ranges.l)))

pub returns : goal.returns
unfolding ticks
returns c = λ s h.
    ap₂ ticks (to_z-of_z c.ranges.b) (to_z-of_z c.ranges.l)
    ∙ judged_passed s _ (c.in_ok-check_point.ensures s h ∙ ap₂ (point_checks s) (to_z-of_z c.ranges.b) (to_z-of_z c.ranges.l))
