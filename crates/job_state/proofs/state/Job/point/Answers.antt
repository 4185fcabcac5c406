-- `job_state::state::Job::point` meets its contract. Assumes nothing.
use mathlib.Core.Path.{refl}
use Rattle.projection_worked.specs.Worked.{worked_forward}
use Rattle.records.specs.declared.Record.TheVariants as record_case
use Rattle.job_state.specs.States.{stepped, view}
use Rattle.job_state.proofs.Steps.{read_two}
use Rattle.job_state.proofs.state.Job.point.Goals as goal

pub returns : goal.returns
returns c =
    let s = c.args.self in
    read_two (λ B L. stepped worked_forward (view s) (record_case.Point c.args.code B L)) (λ B L. record_case.Point c.args.code B L) _ _ c.ranges.b c.ranges.l
    (c.point_answer.ensures.steps s refl)
