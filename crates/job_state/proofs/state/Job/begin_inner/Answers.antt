-- `job_state::state::Job::begin_inner` meets its contract. Assumes nothing.
use Rattle.std.proofs.Common.{◌≡◌, arith, rules, length}
use Rattle.projection_worked.specs.Worked.{worked_forward}
use Rattle.terms.specs.declared.refusals.Refusal.TheVariants.{OutOfPlace, TooManyRings}
use Rattle.job_state.proofs.Limits.{few}
use Rattle.job_state.proofs.Steps.{stepping_at, refusing, read_held, read_some, inner_none, inner_full, inner_begins}
use Rattle.job_state.proofs.state.Job.begin_inner.Goals as goal

pub slice_bounds-check-end : goal.slice_bounds-check-end
slice_bounds-check-end c = let f = few 17 c.args.self.rings in let e = c.counts_held-rings.ensures in let l : length c.args.self.counts ≡ 17 = search rules in omega arith

pub returns-in-Err : goal.returns-in-Err
returns-in-Err c =
    let st = c in
    let s = st.args.self in
    let held : length s.counts ≡ 17 = search rules in
    let e = read_held s _ _ _ held c.counts_held-rings.ensures c.numbers_held-end.ensures c.lay_out-numbers.ensures.1 c.in-Err.ensures in
    stepping_at (inner_none worked_forward s st.well_formed.0.1.1.0.1.0.1 held st.requires _ e) (refusing OutOfPlace s c.refused.ensures.0 c.refused.ensures.1)

pub returns-then-rings-gt16 : goal.returns-then-rings-gt16
returns-then-rings-gt16 c =
    let st = c in
    let s = st.args.self in
    let held : length s.counts ≡ 17 = search rules in
    let e = read_held s _ _ _ held c.counts_held-rings.ensures c.numbers_held-end.ensures c.lay_out-numbers.ensures.1 c.in-Ok.ensures in
    let k = c.counts_held-rings.ensures in
    stepping_at (inner_full worked_forward s st.well_formed.0.1.1.0.1.0.1 held st.requires _ (read_some _ e).1 (let h = c.if-rings-gt16.true in omega arith)) (refusing TooManyRings s c.refused-then-rings-gt16.ensures.0 c.refused-then-rings-gt16.ensures.1)

pub returns-else-rings-gt16 : goal.returns-else-rings-gt16
returns-else-rings-gt16 c =
    let st = c in
    let s = st.args.self in
    let held : length s.counts ≡ 17 = search rules in
    let e = read_held s _ _ _ held c.counts_held-rings.ensures c.numbers_held-end.ensures c.lay_out-numbers.ensures.1 c.in-Ok.ensures in
    let k = c.counts_held-rings.ensures in
    inner_begins worked_forward s st.well_formed.0.1.1.0.1.0.1 held st.requires _ (read_some _ e).1 (let h = c.if-rings-gt16.false in omega arith)
