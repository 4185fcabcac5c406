-- Ring by ring, as Going of Laws.Walks says. Assumes nothing.
use Rattle.rules.specs.Refusals.{answered}
use Rattle.terms.specs.Papers.{corner_of, nozzle_of}
use Rattle.fields.specs.Laws.Walks.{Going}
use Rattle.fields.proofs.standing.over_rings.Given as goal

abbrev pub invariant-loop-k : goal.invariant-loop-k
invariant-loop-k l = Going l.field.counts.now l.field.corners.now (corner_of l.p) l.at (answered (nozzle_of l.so_far)) l.k
