-- `fixed::ser60`: s is the sum of the numbers that are taken from the table's end. Assumes nothing.
use Rattle.fixed.specs.Worked.{ser60}
use Rattle.fixed.proofs.Laws.Loops.{Taken}
use Rattle.fixed.proofs.ser60.Given as goal

abbrev pub invariant-loop-coefficient : goal.invariant-loop-coefficient
invariant-loop-coefficient l = Taken (ser60 l.q) l.fn.tab l.coefficient-iterator.iter.rest.now l.s
