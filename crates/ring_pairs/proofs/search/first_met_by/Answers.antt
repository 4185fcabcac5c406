-- An edge whose box is away does not meet edge k, and of one that is not away the sides decide. Assumes nothing.
use Rattle.std.proofs.Common.{◌+◌, ◌∙◌, sym, get_or}
use Rattle.rules.specs.Rings.{origin}
use Rattle.terms.specs.Papers.{corner_of}
use Rattle.ring_corners.specs.Corners.{pairs}
use Rattle.ring_pairs.specs.Laws.Search.{met_step, met_hit, skip_on, unmet, by_sides}
use Rattle.ring_pairs.proofs.search.first_met_by.Goals as goal

pub returns-then-straddle_at : goal.returns-then-straddle_at
returns-then-straddle_at c =
    let r = pairs c.args.ring.now.corners.now in
    let box = c.requires.3 in
    let l = c.next_near-l.result in
    let passed = skip_on c.loop-l.invariant (corner_of c.args.around.low) (corner_of c.args.around.high) (unmet box) c.next_near-l.ensures.passed in
    let sides = by_sides box (get_or r l origin) (get_or r (l + 1) origin) (c.next_near-l.ensures.near c.if-l-stop.true) in
    met_hit passed c.if-l-stop.true (sym sides ∙ sym c.straddle_at.ensures ∙ c.if-straddle_at.true)

pub loop-l-preserved-then-l-stop : goal.loop-l-preserved-then-l-stop
loop-l-preserved-then-l-stop c =
    let r = pairs c.args.ring.now.corners.now in
    let box = c.requires.3 in
    let l = c.next_near-l.result in
    let passed = skip_on c.loop-l.invariant (corner_of c.args.around.low) (corner_of c.args.around.high) (unmet box) c.next_near-l.ensures.passed in
    let sides = by_sides box (get_or r l origin) (get_or r (l + 1) origin) (c.next_near-l.ensures.near c.if-l-stop.true) in
    met_step passed c.if-l-stop.true (sym sides ∙ sym c.straddle_at.ensures ∙ c.if-straddle_at.false)

pub loop-l-preserved : goal.loop-l-preserved
loop-l-preserved c = skip_on c.loop-l.invariant (corner_of c.args.around.low) (corner_of c.args.around.high) (unmet c.requires.3) c.next_near-l.ensures.passed
