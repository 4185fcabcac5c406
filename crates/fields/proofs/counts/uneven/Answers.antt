-- Assumes nothing.
use Rattle.std.proofs.Common.{arith}
use Rattle.rules.specs.FieldAnswers.{summed}
use Rattle.fields.proofs.counts.uneven.Goals as goal

pub loop-count-init : goal.loop-count-init
unfolding summed
loop-count-init c = omega arith
