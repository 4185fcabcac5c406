-- Rings whose boxes have no point in common. Assumes nothing.
use Rattle.std.proofs.Common.{◌≡◌, ◌∙◌, sym, ap, not, length, ◌-◌, arith}
use Rattle.ring_corners.specs.Corners.{pairs}
use Rattle.ring_placing.specs.Laws.Apart.{apart_not_tangled}
use Rattle.ring_placing.proofs.entangled.Goals as goal

pub returns-else-not-away : goal.returns-else-not-away
returns-else-not-away c =
    let r = pairs c.args.first.now.corners.now in
    let s = pairs c.args.second.now.corners.now in
    let n = c.args.second.now.accepted.at_least in
    let m = c.args.first.now.accepted.at_least in
    let e = ap pairs c.plain-first.ensures in
    let k = c.last.ensures ∙ ap length e in
    let last : c.last.result ≡ length r - 1 = omega arith in
    let own = rw (e, last) at c.box_of-own.ensures in
    ap not c.if-not-away.false ∙ sym (apart_not_tangled r s c.box_of-own.result c.args.around (omega arith) (omega arith) own c.requires (sym c.away.ensures ∙ c.if-not-away.false))
