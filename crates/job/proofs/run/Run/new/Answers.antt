-- `job::run::Run::new` meets its contract. Assumes nothing.
use Rattle.std.proofs.Common.{refl}
use Rattle.job.proofs.run.Run.new.Goals as goal

pub returns : goal.returns
returns c = rw (c.none.ensures, c.new.ensures) refl
