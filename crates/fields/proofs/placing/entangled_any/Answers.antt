-- Ring by ring, until one is entangled with the ring. Assumes nothing.
use Rattle.fields.specs.Laws.Cut.{less_start}
use Rattle.fields.specs.Laws.Tangled.{tangling_start, tangling_met, tangling_on, tangling_end, tangling_accepted, later_at, later_in, later_past}
use Rattle.fields.proofs.placing.entangled_any.Goals as goal

pub loop-count-init : goal.loop-count-init
loop-count-init c = rw c.outer-at.ensures.many (tangling_start _ _ _ c.requires.0)

pub invariant_of-inner : goal.invariant_of-inner
invariant_of-inner c =
    let k = later_in c.args.field.now.counts.now c.loop-count-test.true in
    record { accepted = simp less_start (rw (later_at c.args.field.now.counts.now c.loop-count.count-index) (tangling_accepted _ _ _ c.requires.0 c.loop-count.invariant k)) }

pub returns-then-entangled : goal.returns-then-entangled
returns-then-entangled c =
    let k = later_in c.args.field.now.counts.now c.loop-count-test.true in
    tangling_met _ _ _ c.requires.0 c.loop-count.invariant k (rw (less_start, later_at c.args.field.now.counts.now c.loop-count.count-index) at c.if-entangled.ensures)

pub loop-count-preserved : goal.loop-count-preserved
loop-count-preserved c =
    let k = later_in c.args.field.now.counts.now c.loop-count-test.true in
    let e = rw (less_start, later_at c.args.field.now.counts.now c.loop-count.count-index) at c.if-entangled.ensures in
    rw (later_at c.args.field.now.counts.now c.loop-count.count-index) (tangling_on _ _ _ c.requires.0 c.loop-count.invariant k e)

pub returns : goal.returns
returns c = tangling_end _ _ _ c.requires.0 c.loop-count.invariant (later_past c.args.field.now.counts.now c.loop-count-test.false)
