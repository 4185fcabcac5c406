-- `job_state::state::Job::inner` meets its contract. Assumes nothing.
use mathlib.Core.Path.{◌≡◌, refl}
use Prim.Native.Nat.{ℕ}
use native.Mathlib.Omega.{arith}
use Rattle.projection_worked.specs.Worked.{worked_forward}
use Rattle.terms.specs.declared.refusals.Refusal.TheVariants.{OutOfPlace}
use Rattle.job_state.proofs.Steps.{stepping_at, refusing, no_inner}
use Rattle.job_state.proofs.state.Job.inner.Goals as goal

pub returns-then-ne : goal.returns-then-ne
returns-then-ne c =
    stepping_at (no_inner worked_forward c.args.self _ refl (λ e. let z : ◌≡◌ {A = ℕ} 0 1 = cc (rw e at c.if-ne.ensures) in omega arith))
    (refusing OutOfPlace _ c.refused.ensures.0 c.refused.ensures.1)
