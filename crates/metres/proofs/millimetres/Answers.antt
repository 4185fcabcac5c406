-- `metres::millimetres` meets its contract: what is missing to the whole number above, divided. Assumes nothing.
use Prim.Native.Nat.{◌*◌, ◌<◌}
use native.Mathlib.Nat.{le_trans, le_of_eq, div-add-mod', mod-lt, mul-pos}
use native.Mathlib.Omega.{arith}
use lib.Dec.{lit<}
use Rattle.metres.specs.Laws.Shortened.{missing_parts, missing_le, answer_is}
use Rattle.metres.proofs.millimetres.Goals as goal

pub rounded-requires : goal.rounded-requires
rounded-requires c =
    let x = c.args.x in
    let s = c.args.short in
    let k = c.args.per in
    let m = missing_parts x s k in
    let d : 0 < k * 1048576 = mul-pos c.requires.positive (lit< tt) in
    (mod-lt m d, le_trans (le_of_eq (div-add-mod' m (k * 1048576))) (missing_le x s k c.requires.at_most), omega (arith, c.requires.less))

pub returns : goal.returns
returns c = answer_is c.args.x c.args.short c.args.per c.rounded.result c.requires.at_most c.rounded.ensures
