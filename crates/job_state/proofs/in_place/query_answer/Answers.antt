-- `job_state::in_place::query_answer` meets its contract. Assumes nothing.
use mathlib.Core.Logic.{⊎_elim}
use mathlib.Core.Path.{◌≡◌}
use native.Mathlib.Omega.{arith}
use Prim.Native.Nat.{ℕ}
use Rattle.records.specs.declared.Record.TheVariants.{Query}
use Rattle.job_state.specs.declared.state.Phase.TheVariants.{Idle, Gathering, Accepted, Inner}
use Rattle.job_state.specs.InPlace.{Lies, Answering}
use Rattle.job_state.proofs.Steps.{read_back}
use Rattle.job_state.proofs.InPlace.{query_out, located}
use Rattle.job_state.proofs.in_place.query_answer.Goals as goal

pub returns-in-Idle : goal.returns-in-Idle
returns-in-Idle c =
    ⊎_elim
    (λ h. rw h (query_out _ _ _ _ Idle (λ e. let z : ◌≡◌ {A = ℕ} 0 1 = cc e in omega arith)))
    (⊎_elim
    (λ h. rw h (query_out _ _ _ _ Gathering (λ e. let z : ◌≡◌ {A = ℕ} 0 1 = cc e in omega arith)))
    (λ h. rw h (query_out _ _ _ _ Inner (λ e. let z : ◌≡◌ {A = ℕ} 0 1 = cc e in omega arith))))
    c.in-Idle.is

pub returns-in-Accepted : goal.returns-in-Accepted
returns-in-Accepted c =
    let st = c in
    rw c.in-Accepted.is
    (read_back (λ X Y. Answering (Lies Accepted st.args.counts.now st.args.numbers.now) (Query X Y) c.nozzle_answer.result) _ _ st.ranges.x st.ranges.y
    (located _ _ _ _ c.position-located.result _ c.position-located.ensures c.nozzle_answer.ensures))
