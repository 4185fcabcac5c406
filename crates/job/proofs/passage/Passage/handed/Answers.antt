-- `job::passage::Passage::handed` meets its contract. Assumes nothing.
use Rattle.std.proofs.Common.{refl}
use Rattle.job.proofs.passage.Passage.handed.Goals as goal

pub returns : goal.returns
returns c = (refl, refl, refl)
