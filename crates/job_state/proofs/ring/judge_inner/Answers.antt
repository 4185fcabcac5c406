-- `job_state::ring::judge_inner` meets its contract. Assumes nothing.
use native.Mathlib.Omega.{arith}
use mathlib.Core.Path.{◌≡◌, ◌∙◌}
use lib.ListN.{length}
use Rattle.job_state.proofs.Inner.{judged_laid}
use Rattle.std.proofs.Common.{rules}
use Rattle.job_state.proofs.ring.judge_inner.Goals as goal

pub returns : goal.returns
returns c =
    let st = c in
    let l : length st.args.corners ≡ 3072 = search rules in
    let h : length st.args.counts ≡ 17 = search rules in
    c.judge_beside.ensures ∙ judged_laid st.args.corners st.args.counts st.args.rings st.args.start st.args.count _ l h (omega arith) (omega arith) (omega arith) c.flatten-numbers.ensures.1
