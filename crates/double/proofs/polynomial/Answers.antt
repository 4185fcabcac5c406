-- `double::polynomial`: one turn is one step of Horner's rule. Assumes nothing.
use Rattle.std.proofs.Common.{◌≡◌, sym, refl, ap, ◌∙◌, List, [], ◌∷◌, ◌<◌, length, arith}
use lib.Ieee.{Float, of_bits}
use Rattle.double.specs.declared.Pair.{Pair}
use Rattle.double.specs.Complex.{horner}
use Rattle.double.proofs.Laws.Loop.{taken_none, taken_all, turn}
use Rattle.double.proofs.polynomial.Goals as goal

none : (l : List Float) (z : Pair) → length l < 1 → horner [] z ≡ horner l z
none [] z h = refl
none (c ∷ l) z h = absurd (omega arith)

pub returns-in_default : goal.returns-in_default
unfolding of_bits horner
returns-in_default c = none c.args.c.now c.args.z c.in_default.len_below

pub loop-coefficient-init : goal.loop-coefficient-init
unfolding of_bits
loop-coefficient-init c = taken_none c.args.c.now _ c.args.z (omega arith) (ap (λ r. r.iter.rest.now) c.into_iter-coefficient-iterator.ensures.into_iter_gives ∙ ap (λ i. i.rest.now) c.rev-coefficient-items.ensures.source ∙ c.iter.ensures.rest)

pub loop-coefficient-preserved : goal.loop-coefficient-preserved
loop-coefficient-preserved c = turn c.loop-coefficient.invariant _ _ c.in-Some.ensures.steps c.next-sum.ensures

pub returns : goal.returns
returns c = taken_all c.loop-coefficient.invariant c.in-None.ensures.steps.0
