-- A turning number of either sign is inside. Assumes nothing.
use Rattle.std.proofs.Common.{◌∙◌, sym, ap, arith}
use Rattle.rules.specs.Rings.{is_zero}
use Rattle.ring_corners.specs.Corners.{pairs}
use Rattle.ring_placing.specs.Laws.Placing.{first_at, zero_bits}
use Rattle.ring_placing.proofs.outside.Goals as goal

pub returns : goal.returns
returns c =
    let n = c.args.ring.now.accepted.at_least in
    let number = rw c.corner.ensures at c.number_by_runs.ensures in
    zero_bits c.number_by_runs.result (record { sfits = c.number_by_runs.type_inv })
    ∙ ap is_zero number
    ∙ sym (first_at (pairs c.args.outer.now.corners.now) (pairs c.args.ring.now.corners.now) (omega arith))
