-- `fixed::ser60`: s is at most twice the next number, so that a product by it can be added to that. Assumes nothing.
use Rattle.std.proofs.Common.{◌*◌, ◌≤◌, refl, ap, ◌∙◌, arith}
use Rattle.fixed.specs.Worked.{S60, ser60}
use Rattle.fixed.proofs.Laws.Loops.{ser60_is, mul_half, taken_none, taken_all, ser_taken, ser_turn}
use Rattle.fixed.proofs.ser60.Goals as goal

pub loop-coefficient-init : goal.loop-coefficient-init
unfolding ser60
loop-coefficient-init c = taken_none (ap (λ r. r.iter.rest.now) c.into_iter-coefficient-iterator.ensures.into_iter_gives ∙ ap (λ i. i.rest.now) c.rev-coefficient-items.ensures.source ∙ c.iter.ensures.rest) refl

pub mul60-requires : goal.mul60-requires
mul60-requires c =
    let s = ser_taken _ _ _ c.loop-coefficient.invariant c.in-Some.ensures.steps c.requires.0 c.requires.1 in
    omega arith

pub overflow_add-s : goal.overflow_add-s
overflow_add-s c =
    let s = ser_taken _ _ _ c.loop-coefficient.invariant c.in-Some.ensures.steps c.requires.0 c.requires.1 in
    omega (arith, mul_half c.mul60.ensures.size c.requires.1)

pub loop-coefficient-preserved : goal.loop-coefficient-preserved
loop-coefficient-preserved c = ser_turn _ _ _ c.loop-coefficient.invariant c.in-Some.ensures.steps c.mul60.ensures.value

pub returns-clause-value : goal.returns-clause-value
returns-clause-value c = taken_all c.loop-coefficient.invariant c.in-None.ensures.steps.0

pub returns-clause-size : goal.returns-clause-size
returns-clause-size c =
    let e = taken_all c.loop-coefficient.invariant c.in-None.ensures.steps.0 in
    omega (arith, e, (ser60_is c.args.q S60 c.args.tab.now (omega arith) c.requires.0 c.requires.1).high)
