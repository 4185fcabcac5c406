-- The loop keeps what Summing of Laws.Area says. Assumes nothing.
use Rattle.std.proofs.Common.{rules, ◌<◌, length, ◌∙◌, ap₂, arith, w64}
use Rattle.terms.specs.Papers.{corner_of}
use Rattle.ring_corners.specs.Corners.{seen_from, pairs}
use Rattle.ring_corners.specs.Laws.Flat.{first_in}
use Rattle.ring_corners.specs.Laws.Signed.{held}
use Rattle.ring_area.specs.Laws.Area.{summing_start, summing_fits, summing_more, summing_end}
use Rattle.ring_area.proofs.doubled.Goals as goal

pub loop-i-init : goal.loop-i-init
loop-i-init c = summing_start (pairs c.args.ring.now.corners.now) (first_in c.args.ring.now.accepted)

pub overflow_add-sum : goal.overflow_add-sum
overflow_add-sum c =
    let h : c.loop-i.i < length (pairs c.args.ring.now.corners.now) = omega arith in
    summing_fits c.args.ring.now.accepted c.loop-i.invariant h (corner_of c.seen-q.result) (c.seen-q.ensures ∙ ap₂ seen_from c.corner-first.ensures c.corner.ensures) (held {w = w64} (search rules) c.cross-sum.ensures)

pub loop-i-preserved : goal.loop-i-preserved
loop-i-preserved c =
    let h : c.loop-i.i < length (pairs c.args.ring.now.corners.now) = omega arith in
    summing_more c.args.ring.now.accepted c.loop-i.invariant h (corner_of c.seen-q.result) (c.seen-q.ensures ∙ ap₂ seen_from c.corner-first.ensures c.corner.ensures) (held {w = w64} (search rules) c.cross-sum.ensures)

pub returns : goal.returns
returns c = summing_end c.loop-i.invariant (omega arith)
