-- `job_state::in_place::projected_answer` meets its contract. Assumes nothing.
use Rattle.job_state.specs.InPlace.{Projecting}
use Rattle.job_state.proofs.Steps.{read_back}
use Rattle.job_state.proofs.InPlace.{projecting}
use Rattle.job_state.proofs.in_place.projected_answer.Goals as goal

pub returns : goal.returns
returns c =
    read_back (λ B L. Projecting c.args.code B L c.forward_answer.result) _ _ c.ranges.b c.ranges.l
    (projecting _ _ _ _ c.forward-projected.result c.forward_answer.ensures c.forward-projected.ensures.worked)
