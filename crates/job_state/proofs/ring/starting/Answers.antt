-- `job_state::ring::starting` meets its contract. Assumes nothing.
use Rattle.job_state.proofs.ring.starting.Goals as goal

pub returns-in-Inner : goal.returns-in-Inner
returns-in-Inner c = rw c.in-Inner.is c.at_most.ensures
