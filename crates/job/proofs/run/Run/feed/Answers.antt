-- `job::run::Run::feed` meets its contract. Assumes nothing.
use Rattle.std.proofs.Common.{refl}
use Rattle.job.proofs.Looping.{stopped_before}
use Rattle.job.proofs.run.Run.feed.Goals as goal

pub returns-then-self : goal.returns-then-self
returns-then-self c =
    stopped_before c.args.self c.args.chunk.now c.args.out.now _ c.if-self.true refl
