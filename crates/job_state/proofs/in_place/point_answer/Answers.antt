-- `job_state::in_place::point_answer` meets its contract. Assumes nothing.
use mathlib.Core.Path.{sym, ◌∙◌}
use Rattle.job_state.specs.InPlace.{Projecting}
use Rattle.job_state.proofs.Steps.{read_back}
use Rattle.job_state.proofs.InPlace.{point_out, point_taken}
use Rattle.job_state.proofs.in_place.point_answer.Goals as goal

pub returns-then-gathers : goal.returns-then-gathers
returns-then-gathers c = point_out _ _ _ _ (sym c.gathers.ensures ∙ c.if-gathers.true)

pub returns : goal.returns
returns c =
    point_taken _ _ _ _ (sym c.gathers.ensures ∙ c.if-gathers.false) _
    (read_back (λ B L. Projecting c.args.code B L c.projected_answer.result) _ _ c.ranges.b c.ranges.l c.projected_answer.ensures)
