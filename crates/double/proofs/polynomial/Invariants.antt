-- `double::polynomial`: the sum is the polynomial of the coefficients that are taken from the end, of which the last is one. Assumes nothing.
use Rattle.double.proofs.Laws.Loop.{Taken}
use Rattle.double.proofs.polynomial.Given as goal

abbrev pub invariant-loop-coefficient : goal.invariant-loop-coefficient
invariant-loop-coefficient l = Taken l.fn.c l.coefficient-iterator.iter.rest.now l.z l.sum
