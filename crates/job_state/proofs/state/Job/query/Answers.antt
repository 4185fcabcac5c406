-- `job_state::state::Job::query` meets its contract. Assumes nothing.
use mathlib.Core.Path.{◌≡◌, refl}
use native.Mathlib.Omega.{arith}
use lib.ListN.{length}
use Rattle.projection_worked.specs.Worked.{worked_forward}
use Rattle.records.specs.declared.Record.TheVariants as record_case
use Rattle.job_state.specs.States.{stepped, view}
use Rattle.job_state.proofs.Limits.{few, counts_part, numbers_part}
use Rattle.job_state.proofs.Steps.{read_two}
use Rattle.std.proofs.Common.{rules}
use Rattle.job_state.proofs.state.Job.query.Goals as goal

pub slice_bounds-query_answer-end : goal.slice_bounds-query_answer-end
slice_bounds-query_answer-end c = let f = few 17 c.args.self.rings in let e = c.counts_held-rings.ensures in let l : length c.args.self.counts ≡ 17 = search rules in omega arith

pub returns : goal.returns
returns c =
    let st = c in
    let s = st.args.self in
    let held : length s.counts ≡ 17 = search rules in
    read_two (λ X Y. stepped worked_forward (view s) (record_case.Query X Y)) record_case.Query _ _ st.ranges.x st.ranges.y
    (c.query_answer.ensures.steps s
    (record {
      phase_is = refl;
      counts_are = counts_part s.counts _ s.rings held c.counts_held-rings.ensures;
      numbers_are = numbers_part _ _ s.total c.numbers_held-end.ensures c.lay_out-numbers.ensures.1;
    }))
