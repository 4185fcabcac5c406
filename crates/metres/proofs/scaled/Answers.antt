-- `metres::scaled` meets its contract: a double is its pattern's digits times a power of two. Assumes nothing.
use mathlib.Core.Path.{◌∙◌}
use native.Mathlib.Omega.{arith}
use Rattle.metres.specs.Laws.Bits.{no_nan, none, some, fits, power_small}
use Rattle.metres.proofs.scaled.Goals as goal

pub float_to_bits-bits : goal.float_to_bits-bits
float_to_bits-bits c = no_nan c.args.x c.requires.0.is_finite

pub returns-then-field-eq0 : goal.returns-then-field-eq0
returns-then-field-eq0 c = none c.args.x c.requires.0 c.args.k c.if-field-eq0.true c.requires.1

pub shifted-requires : goal.shifted-requires
shifted-requires c =
    let x = c.args.x in
    let k = c.args.k in
    let p = c.requires in
    (omega arith, power_small x p.0 k (omega arith) p.2, fits x p.0 k (omega arith) p.2)

pub returns : goal.returns
returns c = c.shifted.ensures ∙ some c.args.x c.requires.0 c.args.k (omega arith)
