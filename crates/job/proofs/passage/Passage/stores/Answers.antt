-- `job::passage::Passage::stores` meets its contract. Assumes nothing.
use Rattle.std.proofs.Common.{to_z-of_z}
use Rattle.job.proofs.Turning.{keeping}
use Rattle.job.proofs.passage.Passage.stores.Goals as goal

pub returns : goal.returns
returns c =
    rw (to_z-of_z c.ranges.x, to_z-of_z c.ranges.y)
    (keeping c.args.self _ _ _ c.none.ensures c.after.ensures.0 c.after.ensures.1)
