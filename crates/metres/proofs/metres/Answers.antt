-- `metres::metres` meets its contract: the number is below 2 ^ 53, so that the cast loses nothing. Assumes nothing.
use mathlib.Core.Path.{ap}
use lib.IntN.{ℤ}
use lib.Ieee.{binary64, mul, of_int, of_bits}
use mir.Syntax.{w64}
use mir.ValLaws.{to_z-of_z}
use Rattle.metres.specs.Metres.{thirtieth}
use Rattle.metres.proofs.metres.Goals as goal

pub returns : goal.returns
unfolding of_bits
returns c = ap (λ (z : ℤ). mul binary64 (of_int binary64 z) thirtieth) (to_z-of_z w64 c.args.n c.ranges.n)
