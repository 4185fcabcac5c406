-- `fixed::mul60` meets its contract: the value is the worked one, and the relation is Laws.Words' law. Assumes nothing.
use Rattle.std.proofs.Common.{refl}
use Rattle.fixed.specs.Worked.{mul60}
use Rattle.fixed.proofs.Laws.Words.{mul60_is}
use Rattle.fixed.proofs.mul60.Goals as goal

pub returns-clause-value : goal.returns-clause-value
unfolding mul60
returns-clause-value c = refl

pub returns-clause-size : goal.returns-clause-size
unfolding mul60
returns-clause-size c = mul60_is c.args.a c.args.b c.requires.0 c.requires.1
