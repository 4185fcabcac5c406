-- `job_state::in_place::forward_answer` meets its contract. Assumes nothing.
use Rattle.std.proofs.Common.{rules}
use Rattle.job_state.proofs.Steps.{point_is, point_refused}
use Rattle.job_state.proofs.in_place.forward_answer.Goals as goal

pub returns-in-Ok : goal.returns-in-Ok
returns-in-Ok c = point_is c.in-Ok.is (search rules) (search rules) (search rules) (search rules)

pub returns-in-Err : goal.returns-in-Err
returns-in-Err c = point_refused c.in-Err.is
