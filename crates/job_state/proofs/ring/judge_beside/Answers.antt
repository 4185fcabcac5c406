-- `job_state::ring::judge_beside` meets its contract. Assumes nothing.
use Rattle.std.proofs.Common.{ap, ◌∙◌, take, drop}
use Rattle.job_state.specs.Gathered.{apart_flat, joined_flat}
use Rattle.job_state.proofs.Flat.{rest}
use Rattle.job_state.proofs.Inner.{beside_apart, beside_joined}
use Rattle.job_state.proofs.ring.judge_beside.Goals as goal

pub returns-in-Err : goal.returns-in-Err
returns-in-Err c =
    let counts = c.args.counts.now in
    let numbers = c.args.numbers.now in
    let middle = c.args.middle in
    c.judge_apart.ensures ∙ ap apart_flat (rest middle numbers c.requires) ∙ beside_apart counts (take middle numbers) (drop middle numbers) _ c.in-Err.ensures

pub returns-in-Ok : goal.returns-in-Ok
returns-in-Ok c =
    let counts = c.args.counts.now in
    let numbers = c.args.numbers.now in
    let middle = c.args.middle in
    c.judge_joined.ensures ∙ ap (joined_flat counts (take middle numbers)) (rest middle numbers c.requires)
    ∙ beside_joined counts (take middle numbers) (drop middle numbers) c.in-Ok.ensures
