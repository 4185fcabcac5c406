-- `job_state::state::Job::accept_inner` meets its contract. Assumes nothing.
use mir.Syntax.{w64}
use Rattle.job_state.proofs.Steps.{inner_told, joined_as}
use mathlib.Core.Path.{◌≡◌, ◌∙◌}
use native.Mathlib.Omega.{arith}
use lib.ListN.{length}
use mir.Facts.{to_z-of_z}
use Rattle.projection_worked.specs.Worked.{worked_forward}
use Rattle.job_state.specs.States.{gathered_ring, field_before}
use Rattle.job_state.specs.declared.state.Phase.TheVariants.{Inner}
use Rattle.job_state.proofs.Limits.{few}
use Rattle.job_state.proofs.Steps.{inner_printed, inner_closes, inner_accepts, refuses}
use Rattle.std.proofs.Common.{rules}
use Rattle.job_state.proofs.state.Job.accept_inner.Goals as goal

pub judge_inner-judged-requires : goal.judge_inner-judged-requires
judge_inner-judged-requires c =
    let s = c.args.self in
    let f = few 16 s.rings in
    let g = few 2944 s.total in
    let h = few 128 s.count in
    let a = c.at_most-rings.ensures in
    let b = c.at_most-start.ensures in
    let e = c.at_most-count.ensures in
    (omega arith, omega arith, omega arith)

pub with_ring-requires : goal.with_ring-requires
with_ring-requires c =
    let s = c.args.self in
    let f = few 16 s.rings in
    let g = few 2944 s.total in
    let h = few 128 s.count in
    let a = c.at_most-rings.ensures in
    let b = c.at_most-start.ensures in
    let e = c.at_most-count.ensures in
    (omega arith, omega arith, omega arith)

pub returns-in-Ok : goal.returns-in-Ok
returns-in-Ok c =
    let st = c in
    let s = st.args.self in
    let held : length s.counts ≡ 17 = search rules in
    let next = c.with_ring.ensures ∙ joined_as s c.at_most-rings.ensures c.at_most-start.ensures c.at_most-count.ensures in
    rw (c.at_most-rings.ensures, c.at_most-count.ensures)
    (inner_accepts worked_forward s st.well_formed.0.1.1.0.1.0.1 held st.requires (inner_told s c.at_most-rings.ensures c.at_most-start.ensures c.at_most-count.ensures c.judge_inner-judged.ensures) _ _ c.in-Ok.is (to_z-of_z {w = w64} (record { sfits = search rules })) next)

pub returns-in-Err : goal.returns-in-Err
returns-in-Err c =
    let st = c in
    let s = st.args.self in
    let held : length s.counts ≡ 17 = search rules in
    refuses s (inner_printed (field_before s) (gathered_ring Inner s)) (inner_closes worked_forward s st.well_formed.0.1.1.0.1.0.1 held st.requires) (inner_told s c.at_most-rings.ensures c.at_most-start.ensures c.at_most-count.ensures c.judge_inner-judged.ensures) c.in-Err.is c.refused.ensures.0 c.refused.ensures.1
