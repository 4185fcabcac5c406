-- The loop keeps the sum of the edges that it passed. Assumes nothing.
use Rattle.std.proofs.Common.{rules, ◌≡◌, ◌<◌, ℕ, ℤ, List, length, get_or, arith, ◌∙◌, ap, w64, SFits, to_z, of_z, to_z-of_z}
use Rattle.rules.specs.Rings.{Corner, ◌to◌, origin, turn}
use Rattle.terms.specs.Papers.{corner_of}
use Rattle.ring_corners.specs.Corners.{pairs, next_of}
use Rattle.ring_corners.specs.Laws.Flat.{next_inside}
use Rattle.ring_corners.specs.Laws.Signed.{held}
use Rattle.ring_turning.specs.Laws.Turning.{run, turning_start, turning_step, turning_end, turning_fits}
use Rattle.ring_turning.proofs.turning.number.Goals as goal

pub loop-i-init : goal.loop-i-init
loop-i-init c = turning_start _ _

pub turn_at-sum-requires : goal.turn_at-sum-requires
turn_at-sum-requires c =
    let r = pairs c.args.ring.now.corners.now in
    let h : c.loop-i.i < length r = omega arith in
    (h, rw (c.next.ensures, c.count-n.ensures) (next_inside c.loop-i.i (length r) h))

-- what the edge adds, as the code read it
added : (r : List Corner) (p : Corner) (i j n : ℕ) (t : ℤ) → SFits w64 t → j ≡ next_of i n → n ≡ length r → t ≡ turn p (get_or r i origin to get_or r j origin) → to_z w64 (of_z w64 t) ≡ turn p (run r i)
added r p i j n t f e s h = held f (h ∙ ap (λ (k : ℕ). turn p (get_or r i origin to get_or r k origin)) (e ∙ ap (next_of i) s))

pub overflow_add-sum : goal.overflow_add-sum
overflow_add-sum c =
    rw (added (pairs c.args.ring.now.corners.now) (corner_of c.args.p) c.loop-i.i c.next.result c.count-n.result c.turn_at-sum.result (search rules) c.next.ensures c.count-n.ensures c.turn_at-sum.ensures)
    (turning_fits c.loop-i.invariant c.args.ring.now.accepted.at_most (run (pairs c.args.ring.now.corners.now) c.loop-i.i))

pub loop-i-preserved : goal.loop-i-preserved
loop-i-preserved c =
    let r = pairs c.args.ring.now.corners.now in
    let h : c.loop-i.i < length r = omega arith in
    rw (added (pairs c.args.ring.now.corners.now) (corner_of c.args.p) c.loop-i.i c.next.result c.count-n.result c.turn_at-sum.result (search rules) c.next.ensures c.count-n.ensures c.turn_at-sum.ensures, to_z-of_z (turning_fits c.loop-i.invariant c.args.ring.now.accepted.at_most (run r c.loop-i.i)))
    (turning_step c.loop-i.invariant h)

pub returns : goal.returns
returns c = turning_end c.loop-i.invariant (omega arith)
