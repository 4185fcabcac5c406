-- Edge 0 is the neighbour behind the last edge; of any other the box decides, and then the sides. Assumes nothing.
use Rattle.std.proofs.Common.{◌∙◌, sym, ap, not, arith}
use Rattle.ring_corners.specs.Corners.{pairs}
use Rattle.ring_pairs.specs.Laws.Search.{last_first, last_far, unmet, by_sides}
use Rattle.ring_pairs.proofs.search.last_makes_pair.Goals as goal

pub returns-then-k-eq0 : goal.returns-then-k-eq0
returns-then-k-eq0 c =
    let n = c.last-last.ensures in
    let far = c.requires.0 in
    let t = c.if-k-eq0.true in
    let r = pairs c.args.ring.now.corners.now in
    c.fold_at.ensures ∙ last_first r c.args.k c.last-last.result n (omega arith) (omega arith)

pub returns-then-not-away : goal.returns-then-not-away
returns-then-not-away c =
    let n = c.last-last.ensures in
    let far = c.requires.0 in
    let t = c.if-k-eq0.false in
    let r = pairs c.args.ring.now.corners.now in
    let near = rw (c.corner.ensures, c.corner-2.ensures) at (sym c.away.ensures ∙ c.if-not-away.true) in
    c.straddle_at.ensures ∙ by_sides c.requires.1 _ _ near ∙ last_far r c.args.k c.last-last.result n (omega arith) (omega arith)

pub returns-else-not-away : goal.returns-else-not-away
returns-else-not-away c =
    let n = c.last-last.ensures in
    let far = c.requires.0 in
    let t = c.if-k-eq0.false in
    let r = pairs c.args.ring.now.corners.now in
    let gone = rw (c.corner.ensures, c.corner-2.ensures) at (sym c.away.ensures ∙ c.if-not-away.false) in
    ap not c.if-not-away.false ∙ sym (unmet c.requires.1 _ _ gone) ∙ last_far r c.args.k c.last-last.result n (omega arith) (omega arith)
