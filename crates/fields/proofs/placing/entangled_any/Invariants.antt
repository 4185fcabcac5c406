-- Ring by ring, as Tangling of Laws.Tangled says. Assumes nothing.
use Rattle.std.specs.Prelude.{◌+◌}
use Rattle.ring_corners.specs.Corners.{pairs}
use Rattle.fields.specs.Laws.Tangled.{Tangling}
use Rattle.fields.proofs.placing.entangled_any.Given as goal

abbrev pub invariant-loop-count : goal.invariant-loop-count
invariant-loop-count l = Tangling l.field.counts.now l.field.corners.now (pairs l.ring.corners.now) l.at (l.count-index + 1)
