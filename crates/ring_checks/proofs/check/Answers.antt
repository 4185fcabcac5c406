-- 6, and then 7 and 8. Assumes nothing.
use Rattle.std.proofs.Common.{sym, ◌∙◌, inl, inr}
use Rattle.ring_checks.proofs.Laws.Accept.{odd_refused, count_refused, numbers_decide, some}
use Rattle.ring_checks.proofs.check.Goals as goal
use Rattle.ring_checks.proofs.check.Goals.{then-n-eq1-via-then-n-eq1, then-n-eq1-via-else-n-eq1+then-n-lt6, then-n-eq1-via-else-n-eq1+else-n-lt6+then-n-gt2048}

pub returns-then-n-eq1 : goal.returns-then-n-eq1
returns-then-n-eq1 c = sym (elim c.then-n-eq1.branch [
  | then-n-eq1-via-then-n-eq1 w ↦ odd_refused c.args.corners.now w.if-n-eq1.true
  | then-n-eq1-via-else-n-eq1+then-n-lt6 w ↦ count_refused c.args.corners.now w.if-n-eq1.false (inl w.if-n-lt6.true)
  | then-n-eq1-via-else-n-eq1+else-n-lt6+then-n-gt2048 w ↦ count_refused c.args.corners.now w.if-n-eq1.false (inr w.if-n-gt2048.true)
])

pub numbers-requires : goal.numbers-requires
numbers-requires c = some c.args.corners.now c.if-n-eq1.false c.if-n-lt6.false

pub returns : goal.returns
returns c = c.numbers.ensures ∙ sym (numbers_decide c.args.corners.now c.if-n-eq1.false c.if-n-lt6.false c.if-n-gt2048.false)
