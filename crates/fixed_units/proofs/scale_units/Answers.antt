-- `fixed_units::scale_units` meets its contract: the halves of the bits, each times m0, are the whole of them times m0. Assumes nothing.
use mathlib.Core.Path.{◌∙◌, ap}
use lib.Dec.{lit<}
use Rattle.arith.specs.Laws.Floor.{divided}
use Rattle.fixed.specs.Worked.{P30}
use Rattle.fixed_inverse.specs.Worked.{nearest_even}
use Rattle.fixed_units.specs.Worked.{scale_units}
use Rattle.fixed_units.proofs.scale_units.Goals as goal

pub returns-clause-value : goal.returns-clause-value
unfolding scale_units
returns-clause-value c = c.nearest_even.ensures.value ∙ ap (λ n. nearest_even n P30) (divided c.args.sc P30 c.args.m0 (lit< tt))
