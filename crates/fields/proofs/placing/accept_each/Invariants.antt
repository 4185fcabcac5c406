-- Ring by ring, as Accepting of Laws.Accepting says. Assumes nothing.
use Rattle.fields.specs.Laws.Accepting.{Accepting}
use Rattle.fields.proofs.placing.accept_each.Given as goal

abbrev pub invariant-loop-k : goal.invariant-loop-k
invariant-loop-k l = Accepting l.field.counts.now l.field.corners.now l.at l.k
