-- Ring by ring, as Reading of Laws.Reading says. Assumes nothing.
use Rattle.fields.specs.Laws.Reading.{Reading}
use Rattle.fields.proofs.reading.check.Given as goal

abbrev pub invariant-loop-k : goal.invariant-loop-k
invariant-loop-k l = Reading l.field.counts.now l.field.corners.now l.at l.k
