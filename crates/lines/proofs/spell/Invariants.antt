-- `at` places are left for what is left of the number, and the rest of its digits stand behind them.
use Rattle.lines.proofs.Spelling.{Spelling}
use Rattle.lines.proofs.spell.Given as goal

abbrev pub invariant-loop-rest : goal.invariant-loop-rest
invariant-loop-rest l = Spelling l.n l.digits l.rest l.at

abbrev pub decreases-loop-rest : goal.decreases-loop-rest
decreases-loop-rest l = l.at
