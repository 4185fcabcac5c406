-- `metres::argument` meets its contract: its literal is the double nearest to 0.000002, by computation. Assumes nothing.
use mathlib.Core.Path.{ap, ◌∙◌}
use lib.Ieee.{Float, binary64, mul, of_bits, round}
use mir.Syntax.{w64}
use mir.ValLaws.{to_z-of_z}
use Rattle.double.specs.Exact.{nearest_double}
use Rattle.metres.specs.Metres.{two_millionths, metres_of}
use Rattle.metres.proofs.argument.Goals as goal

pub returns : goal.returns
unfolding of_bits two_millionths nearest_double round
returns c = ap (λ (x : Float). mul binary64 x two_millionths) (c.metres.ensures ∙ ap metres_of (to_z-of_z w64 c.args.n c.ranges.n))
