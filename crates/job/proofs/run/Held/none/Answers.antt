-- `job::run::Held::none` meets its contract. Assumes nothing.
use Rattle.std.proofs.Common.{refl}
use Rattle.job.proofs.run.Held.none.Goals as goal

pub returns : goal.returns
returns c = refl
