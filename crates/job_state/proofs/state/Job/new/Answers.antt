-- `job_state::state::Job::new` meets its contract. Assumes nothing.
use mathlib.Core.Path.{refl}
use Rattle.job_state.proofs.state.Job.new.Goals as goal

pub returns : goal.returns
returns c = refl
