-- `job_state::ring::judge` meets its contract. Assumes nothing.
use Rattle.std.proofs.Common.{◌∙◌, ap}
use Rattle.job_state.specs.Gathered.{judged_flat}
use Rattle.job_state.proofs.Flat.{judged_by_flat, ring_within}
use Rattle.job_state.proofs.ring.judge.Goals as goal

pub returns : goal.returns
returns c = c.judge_flat.ensures ∙ ap judged_flat c.flatten-numbers.ensures.1 ∙ judged_by_flat _ (ring_within c.args.count _)
