-- `fixed_bands::part30` meets its contract: the value is the worked one, and the relation is Laws.Traces' law. Assumes nothing.
use Rattle.std.proofs.Common.{refl, le_trans, lit≤}
use Rattle.fixed_bands.specs.Worked.{part30}
use Rattle.fixed_bands.proofs.Laws.Traces.{part30_is}
use Rattle.fixed_bands.proofs.part30.Goals as goal

pub returns-clause-value : goal.returns-clause-value
unfolding part30
returns-clause-value c = refl

pub returns-clause-size : goal.returns-clause-size
unfolding part30
returns-clause-size c = part30_is c.args.s c.args.h (le_trans c.requires.1 (lit≤ tt))
