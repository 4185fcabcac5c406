-- The neighbour, or where it is the last, none. Assumes nothing.
use Rattle.std.proofs.Common.{◌∙◌, sym, arith}
use Rattle.ring_corners.specs.Corners.{pairs}
use Rattle.ring_pairs.specs.Laws.Search.{hit_next, miss_only}
use Rattle.ring_pairs.proofs.search.later.Goals as goal

pub returns-then-next_makes_pair-clause-pair : goal.returns-then-next_makes_pair-clause-pair
returns-then-next_makes_pair-clause-pair c = hit_next (pairs c.args.ring.now.corners.now) c.args.k c.requires (sym c.next_makes_pair.ensures ∙ c.if-next_makes_pair.true)

pub returns-else-k-last-clause-pair : goal.returns-else-k-last-clause-pair
returns-else-k-last-clause-pair c =
    let n = c.last.ensures in
    let h = c.requires in
    let t = c.if-k-last.false in
    miss_only (pairs c.args.ring.now.corners.now) c.args.k (omega arith) (sym c.next_makes_pair.ensures ∙ c.if-next_makes_pair.false)
