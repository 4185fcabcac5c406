-- The edge after edge k, which may be the last. Assumes nothing.
use Rattle.std.proofs.Common.{◌∙◌, arith}
use Rattle.ring_corners.specs.Corners.{pairs}
use Rattle.ring_pairs.specs.Laws.Search.{next_leg, next_close}
use Rattle.ring_pairs.proofs.search.next_makes_pair.Goals as goal

pub returns-then-k-last : goal.returns-then-k-last
returns-then-k-last c =
    let n = c.last.ensures in
    let t = c.if-k-last.true in
    c.fold_at.ensures ∙ next_leg (pairs c.args.ring.now.corners.now) c.args.k (omega arith)

pub returns-else-k-last : goal.returns-else-k-last
returns-else-k-last c =
    let n = c.last.ensures in
    let t = c.if-k-last.false in
    let h = c.requires in
    c.fold_at-else-k-last.ensures ∙ next_close (pairs c.args.ring.now.corners.now) c.args.k (omega arith)
