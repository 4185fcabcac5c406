-- `metres::rounded` meets its contract: the test tells which neighbour is `closest`. Assumes nothing.
use mathlib.Core.Path.{sym}
use Prim.Native.Nat.{◌+◌, ◌-◌, ◌*◌}
use native.Mathlib.Omega.{arith}
use Rattle.metres.specs.Laws.Nearest.{one_less, not_less, missing}
use Rattle.metres.proofs.rounded.Goals as goal

pub returns-then-d-r : goal.returns-then-d-r
returns-then-d-r c =
    let a = c.args.above in let q = c.args.q in let r = c.args.r in let d = c.args.d in
    sym (one_less (a * d - (q * d + r)) (a - q) r d (missing a q r d (omega arith) c.requires.1) c.requires.0 c.if-d-r.true)

pub returns : goal.returns
returns c =
    let a = c.args.above in let q = c.args.q in let r = c.args.r in let d = c.args.d in
    sym (not_less (a * d - (q * d + r)) (a - q) r d (missing a q r d (omega arith) c.requires.1) c.requires.0 c.if-d-r.false)
