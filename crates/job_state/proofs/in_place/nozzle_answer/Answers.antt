-- `job_state::in_place::nozzle_answer` meets its contract. Assumes nothing.
use Rattle.job_state.proofs.Steps.{nozzle_is, none_accepted}
use Rattle.job_state.proofs.in_place.nozzle_answer.Goals as goal

pub returns-in-Ok : goal.returns-in-Ok
returns-in-Ok c = nozzle_is c.in-Ok.is c.ranges.x c.ranges.y

pub returns-in-Err : goal.returns-in-Err
returns-in-Err c = none_accepted _ _ c.in-Err.is
