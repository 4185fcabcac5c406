-- No edge of the first ring that was passed meets an edge of the second. Assumes nothing.
use Rattle.std.proofs.Common.{◌∙◌, sym, ap, not, arith}
use Rattle.rules.specs.Rings.{edges}
use Rattle.rules.specs.Placing.{meets_one, rings_meet}
use Rattle.terms.specs.Papers.{corner_of}
use Rattle.ring_corners.specs.Corners.{pairs}
use Rattle.ring_pairs.specs.Laws.Search.{met_start, met_step, skip_on}
use Rattle.ring_placing.specs.Laws.Meeting.{any_is, found, found_last, unmet_ring}
use Rattle.ring_placing.proofs.meet.Goals as goal

pub loop-k-init : goal.loop-k-init
loop-k-init c = met_start (λ e. meets_one e (edges (pairs c.args.second.now.corners.now))) (pairs c.args.first.now.corners.now) 0 c.last-last.result (omega arith)

pub returns-then-meets_ring : goal.returns-then-meets_ring
unfolding rings_meet
returns-then-meets_ring c =
    let r = pairs c.args.first.now.corners.now in
    let s = pairs c.args.second.now.corners.now in
    let n = c.args.second.now.accepted.at_least in
    let met = rw (c.corner.ensures, c.corner-then-k-last.ensures) at (sym c.meets_ring.ensures ∙ c.if-meets_ring.true) in
    let passed = skip_on c.loop-k.invariant (corner_of c.args.around.low) (corner_of c.args.around.high) (unmet_ring c.requires (omega arith)) c.next_near-k.ensures.passed in
    sym (any_is (edges r) (edges s) ∙ found passed c.last-last.ensures c.if-k-last.true met)

pub loop-k-preserved-then-k-last : goal.loop-k-preserved-then-k-last
loop-k-preserved-then-k-last c =
    let n = c.args.second.now.accepted.at_least in
    let unmet = rw (c.corner.ensures, c.corner-then-k-last.ensures) at (sym c.meets_ring.ensures ∙ c.if-meets_ring.false) in
    let passed = skip_on c.loop-k.invariant (corner_of c.args.around.low) (corner_of c.args.around.high) (unmet_ring c.requires (omega arith)) c.next_near-k.ensures.passed in
    met_step passed c.if-k-last.true unmet

pub loop-k-preserved : goal.loop-k-preserved
loop-k-preserved c =
    let n = c.args.second.now.accepted.at_least in
    skip_on c.loop-k.invariant (corner_of c.args.around.low) (corner_of c.args.around.high) (unmet_ring c.requires (omega arith)) c.next_near-k.ensures.passed

pub returns-then-not-away : goal.returns-then-not-away
unfolding rings_meet
returns-then-not-away c =
    let r = pairs c.args.first.now.corners.now in
    let s = pairs c.args.second.now.corners.now in
    let told = rw (c.corner-then-not-away.ensures, c.corner-then-not-away-2.ensures) at c.meets_ring-then-not-away.ensures in
    told ∙ sym (any_is (edges r) (edges s) ∙ found_last c.loop-k.invariant c.last-last.ensures c.loop-k-test.false)

pub returns-else-not-away : goal.returns-else-not-away
unfolding rings_meet
returns-else-not-away c =
    let r = pairs c.args.first.now.corners.now in
    let s = pairs c.args.second.now.corners.now in
    let n = c.args.second.now.accepted.at_least in
    let gone = rw (c.corner-2.ensures, c.corner-3.ensures) at (sym c.away.ensures ∙ c.if-not-away.false) in
    ap not c.if-not-away.false ∙ sym (any_is (edges r) (edges s) ∙ found_last c.loop-k.invariant c.last-last.ensures c.loop-k-test.false ∙ unmet_ring c.requires (omega arith) _ _ gone)
