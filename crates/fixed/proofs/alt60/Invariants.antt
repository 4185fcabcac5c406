-- `fixed::alt60`: s is the nest of the numbers that are taken from the table's end. Assumes nothing.
use Rattle.fixed.specs.Worked.{alt60}
use Rattle.fixed.proofs.Laws.Loops.{Taken}
use Rattle.fixed.proofs.alt60.Given as goal

abbrev pub invariant-loop-coefficient : goal.invariant-loop-coefficient
invariant-loop-coefficient l = Taken (alt60 l.q) l.fn.tab l.coefficient-iterator.iter.rest.now l.s
