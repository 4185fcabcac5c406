-- `job_state::state::Job::begin_field` meets its contract. Assumes nothing.
use mathlib.Core.Logic.{⊎_elim}
use native.Mathlib.Omega.{arith}
use Rattle.job_state.proofs.Steps.{no_system, field_begun}
use Rattle.job_state.proofs.state.Job.begin_field.Goals as goal

pub returns-then-code-lt1 : goal.returns-then-code-lt1
returns-then-code-lt1 c =
    no_system c.args.self _ (λ h. ⊎_elim (λ l. omega arith) (λ g. omega arith) c.then-code-lt1.either) c.refused.ensures.0 c.refused.ensures.1

pub returns : goal.returns
returns c = field_begun c.args.self _ c.if-code-lt1.false c.if-code-gt14.false
