-- No run that was passed adds anything. Assumes nothing.
use Rattle.std.proofs.Common.{arith, ◌+◌, get_or, to_z-of_z}
use Rattle.std.specs.Int.{w64}
use Rattle.rules.specs.Rings.{◌to◌, origin}
use Rattle.terms.specs.Papers.{corner_of}
use Rattle.ring_corners.specs.Corners.{pairs}
use Rattle.ring_corners.specs.Laws.Signed.{held}
use Rattle.ring_turning.specs.Laws.Turning.{turning_start, turning_fits}
use Rattle.ring_placing.specs.Laws.Turned.{turning_pass, turning_leg, turning_close}
use Rattle.ring_placing.proofs.turned.number_by_runs.Goals as goal

pub loop-k-init : goal.loop-k-init
loop-k-init c = (turning_start (pairs c.args.ring.now.corners.now) (corner_of c.args.p), omega arith)

pub loop-k-preserved-then-run_beside : goal.loop-k-preserved-then-run_beside
loop-k-preserved-then-run_beside c =
    (turning_pass c.loop-k.invariant.0 c.last-last.ensures c.loop-k-test.true c.args.ring.now.boxed (c.run_beside.ensures c.if-run_beside.true) c.run_end-k.ensures, c.run_end-k.ensures.in_reach)

pub overflow_add-sum : goal.overflow_add-sum
overflow_add-sum c =
    let added = held {w = w64} (record { sfits = c.turn_at-sum.type_inv }) c.turn_at-sum.ensures in
    rw added (turning_fits c.loop-k.invariant.0 c.args.ring.now.accepted.at_most _)

pub loop-k-preserved : goal.loop-k-preserved
loop-k-preserved c =
    let added = held {w = w64} (record { sfits = c.turn_at-sum.type_inv }) c.turn_at-sum.ensures in
    let h = c.loop-k-test.true in
    let r = pairs c.args.ring.now.corners.now in
    let edge = get_or r c.loop-k.k origin to get_or r (c.loop-k.k + 1) origin in
    (rw (added, to_z-of_z (turning_fits c.loop-k.invariant.0 c.args.ring.now.accepted.at_most edge)) (turning_leg c.loop-k.invariant.0 c.last-last.ensures h), omega arith)

pub overflow_add-result : goal.overflow_add-result
overflow_add-result c =
    let added = held {w = w64} (record { sfits = c.turn_at.type_inv }) c.turn_at.ensures in
    rw added (turning_fits c.loop-k.invariant.0 c.args.ring.now.accepted.at_most _)

pub returns : goal.returns
returns c =
    let added = held {w = w64} (record { sfits = c.turn_at.type_inv }) c.turn_at.ensures in
    let h = c.loop-k-test.false in
    let m = c.loop-k.invariant.1 in
    let r = pairs c.args.ring.now.corners.now in
    let edge = get_or r c.last-last.result origin to get_or r 0 origin in
    rw (added, to_z-of_z (turning_fits c.loop-k.invariant.0 c.args.ring.now.accepted.at_most edge)) (turning_close c.loop-k.invariant.0 c.last-last.ensures (omega arith))
