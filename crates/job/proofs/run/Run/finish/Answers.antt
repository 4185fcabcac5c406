-- `job::run::Run::finish` meets its contract. Assumes nothing.
use Rattle.std.proofs.Common.{◌≡◌, length, rules}
use Rattle.job.proofs.Advance.{finishing, finishing_short, finishing_stopped}
use Rattle.job.proofs.run.Run.finish.Goals as goal
use Rattle.job.proofs.run.Run.finish.Goals.{then-out-lt128-via-then-out-lt128, then-out-lt128-via-else-out-lt128+then-self}

pub returns-then-out-lt128 : goal.returns-then-out-lt128
returns-then-out-lt128 c =
    elim c.then-out-lt128.branch [
      | then-out-lt128-via-then-out-lt128 w ↦ finishing_short c.args.self _ w.if-out-lt128.true
      | then-out-lt128-via-else-out-lt128+then-self w ↦ finishing_stopped c.args.self _ w.if-out-lt128.false w.if-self.true
    ]

pub returns : goal.returns
returns c =
    let l : length c.args.self.held.bytes ≡ 18 = search rules in
    finishing c.args.self _ l c.if-self.false c.if-out-lt128.false c.last_line.ensures c.put.ensures.0 c.put.ensures.1
