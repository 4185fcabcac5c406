-- `job_state::state::Job::close` meets its contract. Assumes nothing.
use mathlib.Core.Logic.{⊎_elim}
use mathlib.Core.Path.{refl}
use Rattle.projection_worked.specs.Worked.{worked_forward}
use Rattle.job_state.specs.declared.state.Phase.TheVariants.{Idle, Accepted}
use Rattle.terms.specs.declared.refusals.Refusal.TheVariants.{OutOfPlace}
use Rattle.job_state.proofs.Steps.{stepping_at, refusing, no_close}
use Rattle.job_state.proofs.state.Job.close.Goals as goal

pub returns-in-Idle : goal.returns-in-Idle
returns-in-Idle c =
    stepping_at (⊎_elim (λ e. no_close worked_forward _ Idle e refl) (λ e. no_close worked_forward _ Accepted e refl) c.in-Idle.is)
    (refusing OutOfPlace _ c.refused.ensures.0 c.refused.ensures.1)
