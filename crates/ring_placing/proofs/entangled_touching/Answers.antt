-- The rings meet, or the first corner of one is not outside the other. Assumes nothing.
use Rattle.std.proofs.Common.{◌≡◌, Bool, true, false, ◌∙◌, sym, ap, not, ◌||◌, arith}
use Rattle.rules.specs.Placing.{rings_meet, first_outside}
use Rattle.ring_corners.specs.Corners.{pairs}
use Rattle.ring_placing.specs.Laws.Placing.{tangled_first, tangled_second}
use Rattle.ring_placing.proofs.entangled_touching.Goals as goal
use Rattle.ring_placing.proofs.entangled_touching.Goals.{then-meet, else-meet}

-- what the first two tests tell
by_first : {v m a : Bool} (b : Bool) → v ≡ m → m ≡ a → m ≡ true → v ≡ (a || b)
by_first b e f g = e ∙ g ∙ sym (ap (λ (t : Bool). t || b) (sym f ∙ g))

by_second : {v m a o b : Bool} → v ≡ not o → o ≡ b → m ≡ a → m ≡ false → v ≡ (a || not b)
by_second {v} {m} {a} {o} {b} e f g h = e ∙ ap not f ∙ sym (ap (λ (t : Bool). t || not b) (sym g ∙ h))

pub returns-then-not-outside : goal.returns-then-not-outside
returns-then-not-outside c =
    let r = pairs c.args.first.now.corners.now in
    let s = pairs c.args.second.now.corners.now in
    let n = c.args.first.now.accepted.at_least in
    let m = c.args.second.now.accepted.at_least in
    let told : c.if-meet.value ≡ (rings_meet r s || not (first_outside r s)) = elim c.if-meet.branch [
      | then-meet w ↦ by_first (not (first_outside r s)) w.value-is c.meet.ensures w.if-meet.true
      | else-meet w ↦ by_second w.value-is w.outside.ensures c.meet.ensures w.if-meet.false
    ] in
    tangled_first r s (omega arith) (omega arith) told c.if-not-outside.true

pub returns-else-not-outside : goal.returns-else-not-outside
returns-else-not-outside c =
    let r = pairs c.args.first.now.corners.now in
    let s = pairs c.args.second.now.corners.now in
    let n = c.args.first.now.accepted.at_least in
    let m = c.args.second.now.accepted.at_least in
    let told : c.if-meet.value ≡ (rings_meet r s || not (first_outside r s)) = elim c.if-meet.branch [
      | then-meet w ↦ by_first (not (first_outside r s)) w.value-is c.meet.ensures w.if-meet.true
      | else-meet w ↦ by_second w.value-is w.outside.ensures c.meet.ensures w.if-meet.false
    ] in
    tangled_second r s (omega arith) (omega arith) told c.if-not-outside.false c.outside-else-not-outside.ensures
