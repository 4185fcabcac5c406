-- An edge between the neighbour and the last, or the last, or none. Assumes nothing.
use Rattle.ring_corners.specs.Corners.{pairs}
use Rattle.ring_pairs.specs.Laws.Search.{hit_far, by_last}
use Rattle.ring_pairs.proofs.search.past_next.Goals as goal

pub returns-in-Some-clause-pair : goal.returns-in-Some-clause-pair
returns-in-Some-clause-pair c = hit_far (pairs c.args.ring.now.corners.now) c.args.k c.requires.0 c.requires.1 c.last-last.ensures c.in-Some.ensures

pub returns-in-None-clause-pair : goal.returns-in-None-clause-pair
returns-in-None-clause-pair c =
    let r = pairs c.args.ring.now.corners.now in
    rw c.then_some.ensures (by_last r c.args.k c.requires.0 c.requires.1 c.last-last.ensures c.in-None.ensures c.last_makes_pair.ensures)
