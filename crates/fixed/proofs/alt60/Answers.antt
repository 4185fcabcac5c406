-- `fixed::alt60`: s is at most the next number, so that a product by it can be taken from that. Assumes nothing.
use Rattle.std.proofs.Common.{◌≤◌, refl, ap, ◌∙◌, arith}
use Rattle.fixed.specs.Worked.{S60, alt60}
use Rattle.fixed.proofs.Laws.Loops.{alt60_is, taken_none, taken_all, alt_taken, alt_turn}
use Rattle.fixed.proofs.alt60.Goals as goal

pub loop-coefficient-init : goal.loop-coefficient-init
unfolding alt60
loop-coefficient-init c = taken_none (ap (λ r. r.iter.rest.now) c.into_iter-coefficient-iterator.ensures.into_iter_gives ∙ ap (λ i. i.rest.now) c.rev-coefficient-items.ensures.source ∙ c.iter.ensures.rest) refl

pub mul60-requires : goal.mul60-requires
mul60-requires c =
    let s = alt_taken _ _ _ c.loop-coefficient.invariant c.in-Some.ensures.steps c.requires.0 c.requires.1 in
    omega arith

pub overflow_sub-s : goal.overflow_sub-s
overflow_sub-s c =
    let s = alt_taken _ _ _ c.loop-coefficient.invariant c.in-Some.ensures.steps c.requires.0 c.requires.1 in
    omega (arith, c.mul60.ensures.size.tight)

pub loop-coefficient-preserved : goal.loop-coefficient-preserved
loop-coefficient-preserved c = alt_turn _ _ _ c.loop-coefficient.invariant c.in-Some.ensures.steps c.mul60.ensures.value

pub returns-clause-value : goal.returns-clause-value
returns-clause-value c = taken_all c.loop-coefficient.invariant c.in-None.ensures.steps.0

pub returns-clause-size : goal.returns-clause-size
returns-clause-size c =
    let e = taken_all c.loop-coefficient.invariant c.in-None.ensures.steps.0 in
    omega (arith, e, (alt60_is c.args.q S60 c.args.tab.now (omega arith) c.requires.0 c.requires.1).high)
