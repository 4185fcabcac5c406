-- `job_state::state::Job::corner` meets its contract. Assumes nothing.
use mathlib.Core.Path.{refl}
use Rattle.projection_worked.specs.Worked.{worked_forward}
use Rattle.records.specs.declared.Record.TheVariants as record_case
use Rattle.job_state.specs.States.{stepped, view}
use Rattle.job_state.proofs.Steps.{read_two}
use Rattle.job_state.proofs.state.Job.corner.Goals as goal

pub returns-in-Err : goal.returns-in-Err
returns-in-Err c =
    let st = c in
    let s = st.args.self in
    read_two (λ X Y. stepped worked_forward (view s) (record_case.Corner X Y)) record_case.Corner _ _ st.ranges.x st.ranges.y
    (rw (c.refused.ensures.0, c.refused.ensures.1)
    ((c.check_corner-checked.ensures.refuses _ c.in-Err.is).steps s (record { phase_is = refl; count_is = refl; long = st.well_formed.0.1.1.0.1.0.1 })))

pub corner_place-place-requires : goal.corner_place-place-requires
corner_place-place-requires c = c.check_corner-checked.ensures.room c.in-Ok.is

pub returns-in-Ok : goal.returns-in-Ok
returns-in-Ok c =
    let st = c in
    let s = st.args.self in
    read_two (λ X Y. stepped worked_forward (view s) (record_case.Corner X Y)) record_case.Corner _ _ st.ranges.x st.ranges.y
    (rw c.corner_place-place.ensures.0
    (c.check_corner-checked.ensures.stores c.in-Ok.is s (record { phase_is = refl; count_is = refl; long = st.well_formed.0.1.1.0.1.0.1 })))
