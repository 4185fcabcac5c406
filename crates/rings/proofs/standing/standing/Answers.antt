-- One edge more. Assumes nothing.
use Rattle.std.specs.Prelude.{◌≡◌, ℕ, ◌<◌, length, get_or, Some}
use Rattle.rules.specs.Rings.{◌to◌, origin}
use Rattle.std.proofs.Common.{sym, ◌∙◌, ap, rules, arith, to_z-of_z, SFits, w64}
use Rattle.terms.specs.Papers.{corner_of}
use Rattle.ring_corners.specs.Corners.{pairs, next_of}
use Rattle.ring_turning.specs.Touching.{touch_of}
use Rattle.ring_turning.specs.Laws.Turning.{run}
use Rattle.rings.proofs.Laws.Standing.{passing_start, passing_step, passing_fits}
use Rattle.rings.proofs.standing.standing.Goals as goal

pub loop-i-init : goal.loop-i-init
loop-i-init c = passing_start _ _

pub loop-i-preserved : goal.loop-i-preserved
loop-i-preserved c =
    let r = pairs c.args.ring.now.corners.now in
    let h : c.loop-i.i < length r = omega arith in
    let f : SFits w64 c.in-Some.turn = search rules in
    let told : touch_of (corner_of c.args.p) (run r c.loop-i.i) ≡ Some c.in-Some.turn =
    sym (c.in-Some.ensures ∙ ap (λ (k : ℕ). touch_of (corner_of c.args.p) (get_or r c.loop-i.i origin to get_or r k origin)) (c.next.ensures ∙ ap (next_of c.loop-i.i) c.count-n.ensures)) in
    rw (to_z-of_z f, to_z-of_z (passing_fits c.loop-i.invariant c.args.ring.now.accepted.at_most _ _ told)) (passing_step c.loop-i.invariant h _ told)
