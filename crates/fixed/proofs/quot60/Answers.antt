-- `fixed::quot60` meets its contract: the value is the worked one, and the relation is Laws.Words' law. Assumes nothing.
use Rattle.std.proofs.Common.{refl}
use Rattle.fixed.specs.Worked.{quot60}
use Rattle.fixed.proofs.Laws.Words.{quot60_is}
use Rattle.fixed.proofs.quot60.Goals as goal

pub returns-clause-value : goal.returns-clause-value
unfolding quot60
returns-clause-value c = refl

pub returns-clause-size : goal.returns-clause-size
unfolding quot60
returns-clause-size c = quot60_is c.args.a c.args.b c.requires
