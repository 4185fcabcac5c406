-- `job_state::state::Job::take` meets its contract. Assumes nothing.
use Rattle.projection_worked.specs.Worked.{worked_forward}
use Rattle.projection_worked.proofs.Laws.Right.{right}
use Rattle.records.specs.declared.Record.{Record}
use Rattle.records.specs.declared.Record.TheVariants.{Corner, Query, Point}
use Rattle.job_state.specs.States.{Stepping, RightStepping, stepped, view}
use Rattle.job_state.specs.declared.state.Job.{Job}
use Rattle.job_state.specs.declared.state.Taken.{Taken}
use Rattle.job_state.proofs.Steps.{of_item, read_two}
use Rattle.job_state.proofs.state.Job.take.Goals as goal

-- the worked forward is one that is right
by_right_forward : {i : Record} {j : Job} {t : Taken} → Stepping (stepped worked_forward (view j) i) i j t → RightStepping i j t
by_right_forward h = record { forward_at = worked_forward; forward_right = right.forward_right; steps = h }

pub returns-in-Begin : goal.returns-in-Begin
returns-in-Begin c =
    let h =
    (of_item worked_forward (view c.args.self) c.in-Begin.is c.begin.ensures)
    in
    record { worked = h; band = by_right_forward h }

pub returns-in-Corner : goal.returns-in-Corner
returns-in-Corner c =
    let h =
    (of_item worked_forward (view c.args.self) c.in-Corner.is
    (read_two (λ X Y. stepped worked_forward (view c.args.self) (Corner X Y)) Corner _ _ (record { sfits = c.in-Corner.known_told-in-Corner-1-own.given.0.1 }) (record { sfits = c.in-Corner.known_told-in-Corner-1-own.given.1.0.1 }) c.corner.ensures))
    in
    record { worked = h; band = by_right_forward h }

pub returns-in-Close : goal.returns-in-Close
returns-in-Close c =
    let h =
    (of_item worked_forward (view c.args.self) c.in-Close.is c.close.ensures)
    in
    record { worked = h; band = by_right_forward h }

pub returns-in-Query : goal.returns-in-Query
returns-in-Query c =
    let h =
    (of_item worked_forward (view c.args.self) c.in-Query.is
    (read_two (λ X Y. stepped worked_forward (view c.args.self) (Query X Y)) Query _ _ (record { sfits = c.in-Query.known_told-in-Query-1-own.given.0.1 }) (record { sfits = c.in-Query.known_told-in-Query-1-own.given.1.0.1 }) c.query.ensures))
    in
    record { worked = h; band = by_right_forward h }

pub returns-in-Point : goal.returns-in-Point
returns-in-Point c =
    let h =
    (of_item worked_forward (view c.args.self) c.in-Point.is
    (read_two (λ B L. stepped worked_forward (view c.args.self) (Point c.in-Point.code B L)) (λ B L. Point c.in-Point.code B L) _ _ (record { sfits = c.in-Point.known_told-in-Point-1-own.given.1.0.1 }) (record { sfits = c.in-Point.known_told-in-Point-1-own.given.1.1.0.1 }) c.point.ensures))
    in
    record { worked = h; band = by_right_forward h }

pub returns-in-Inner : goal.returns-in-Inner
returns-in-Inner c =
    let h =
    (of_item worked_forward (view c.args.self) c.in-Inner.is c.inner.ensures)
    in
    record { worked = h; band = by_right_forward h }
