-- `job_state::state::Job::accept` meets its contract. Assumes nothing.
use mir.Syntax.{w64}
use mathlib.Core.Path.{◌≡◌, ap, ◌∙◌}
use Prim.Native.Nat.{ℕ}
use native.Mathlib.Omega.{arith}
use lib.ListN.{length}
use mir.Facts.{to_z-of_z}
use Rattle.projection_worked.specs.Worked.{worked_forward}
use Rattle.job_state.specs.Gathered.{ring_of, judged}
use Rattle.job_state.specs.States.{joined_job, gathered_ring}
use Rattle.job_state.specs.declared.state.Phase.TheVariants.{Gathering}
use Rattle.job_state.proofs.Limits.{few}
use Rattle.job_state.proofs.Steps.{field_printed, outer_closes, outer_accepts, refuses}
use Rattle.std.proofs.Common.{rules}
use Rattle.job_state.proofs.state.Job.accept.Goals as goal

pub judge-judged-requires : goal.judge-judged-requires
judge-judged-requires c = let f = few 1024 c.args.self.count in let e = c.at_most-count.ensures in omega arith

pub with_ring-requires : goal.with_ring-requires
with_ring-requires c = let f = few 1024 c.args.self.count in let e = c.at_most-count.ensures in (omega arith, omega arith, omega arith)

pub returns-in-Ok : goal.returns-in-Ok
returns-in-Ok c =
    let st = c in
    let s = st.args.self in
    let held : length s.counts ≡ 17 = search rules in
    let e = c.at_most-count.ensures in
    rw e
    (outer_accepts worked_forward s st.well_formed.0.1.1.0.1.0.1 held st.requires (c.judge-judged.ensures ∙ ap (λ (n : ℕ). judged (ring_of n s.corners)) e) _ _ c.in-Ok.is
    (to_z-of_z {w = w64} (record { sfits = search rules })) (c.with_ring.ensures ∙ ap (joined_job s 0 0) e))

pub returns-in-Err : goal.returns-in-Err
returns-in-Err c =
    let st = c in
    let s = st.args.self in
    let held : length s.counts ≡ 17 = search rules in
    refuses s (field_printed s.code (gathered_ring Gathering s)) (outer_closes worked_forward s st.well_formed.0.1.1.0.1.0.1 held st.requires) (c.judge-judged.ensures ∙ ap (λ (n : ℕ). judged (ring_of n s.corners)) c.at_most-count.ensures)
    c.in-Err.is c.refused.ensures.0 c.refused.ensures.1
