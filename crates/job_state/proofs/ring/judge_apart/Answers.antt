-- `job_state::ring::judge_apart` meets its contract. Assumes nothing.
use Rattle.job_state.proofs.Inner.{clean_apart, refused_apart}
use Rattle.job_state.proofs.ring.judge_apart.Goals as goal

pub returns-in-Ok : goal.returns-in-Ok
returns-in-Ok c = clean_apart _ c.in-Ok.ensures

pub returns-in-Err : goal.returns-in-Err
returns-in-Err c = refused_apart _ _ c.in-Err.ensures c.of_first_inner.ensures
