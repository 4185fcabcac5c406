-- No edge that was passed meets the edge a-b. Assumes nothing.
use Rattle.std.proofs.Common.{◌∙◌, sym, ap, not, arith}
use Rattle.rules.specs.Rings.{◌to◌, edges}
use Rattle.rules.specs.Crossing.{meets}
use Rattle.terms.specs.Papers.{corner_of}
use Rattle.ring_corners.specs.Corners.{pairs}
use Rattle.ring_boxes.specs.Boxes.{lower, upper}
use Rattle.ring_pairs.specs.Laws.Crossings.{away_apart}
use Rattle.ring_pairs.specs.Laws.Search.{met_start, met_step, skip_on}
use Rattle.ring_placing.specs.Laws.Meeting.{one_is, found, found_last}
use Rattle.ring_placing.proofs.edge.meets_ring.Goals as goal

pub loop-l-init : goal.loop-l-init
loop-l-init c = met_start (meets (corner_of c.args.a to corner_of c.args.b)) (pairs c.args.ring.now.corners.now) 0 c.last-last.result (omega arith)

pub meets_touching-requires : goal.meets_touching-requires
meets_touching-requires c =
    let n = c.last-last.ensures in
    let h = c.if-l-last.true in
    (omega arith, omega arith, c.requires, (rw (c.of-around.ensures.low, c.of-around.ensures.high) at c.next_near-l.ensures.near) h)

pub returns-then-meets_touching : goal.returns-then-meets_touching
returns-then-meets_touching c =
    let a = corner_of c.args.a in
    let b = corner_of c.args.b in
    let next = rw (c.of-around.ensures.low, c.of-around.ensures.high) at c.next_near-l.ensures in
    let passed = skip_on c.loop-l.invariant (lower a b) (upper a b) (away_apart a b) next.passed in
    sym (one_is (a to b) (edges (pairs c.args.ring.now.corners.now)) ∙ found passed c.last-last.ensures c.if-l-last.true (sym c.meets_touching.ensures ∙ c.if-meets_touching.true))

pub loop-l-preserved-then-l-last : goal.loop-l-preserved-then-l-last
loop-l-preserved-then-l-last c =
    let a = corner_of c.args.a in
    let b = corner_of c.args.b in
    let next = rw (c.of-around.ensures.low, c.of-around.ensures.high) at c.next_near-l.ensures in
    met_step (skip_on c.loop-l.invariant (lower a b) (upper a b) (away_apart a b) next.passed) c.if-l-last.true (sym c.meets_touching.ensures ∙ c.if-meets_touching.false)

pub loop-l-preserved : goal.loop-l-preserved
loop-l-preserved c =
    let a = corner_of c.args.a in
    let b = corner_of c.args.b in
    let next = rw (c.of-around.ensures.low, c.of-around.ensures.high) at c.next_near-l.ensures in
    skip_on c.loop-l.invariant (lower a b) (upper a b) (away_apart a b) next.passed

pub returns-then-not-away : goal.returns-then-not-away
returns-then-not-away c =
    let e = corner_of c.args.a to corner_of c.args.b in
    c.meets_touching-then-not-away.ensures ∙ sym (one_is e (edges (pairs c.args.ring.now.corners.now)) ∙ found_last c.loop-l.invariant c.last-last.ensures c.loop-l-test.false)

pub returns-else-not-away : goal.returns-else-not-away
returns-else-not-away c =
    let a = corner_of c.args.a in
    let b = corner_of c.args.b in
    let gone = rw (c.of-around.ensures.low, c.of-around.ensures.high, c.corner.ensures, c.corner-2.ensures) at (sym c.away.ensures ∙ c.if-not-away.false) in
    ap not c.if-not-away.false
    ∙ sym (one_is (a to b) (edges (pairs c.args.ring.now.corners.now)) ∙ found_last c.loop-l.invariant c.last-last.ensures c.loop-l-test.false ∙ away_apart a b _ _ gone)
