-- What is left, and the rings' numbers that were counted down, are all. Assumes nothing.
use Rattle.std.specs.Prelude.{◌≡◌, ◌+◌, ◌*◌, take}
use Rattle.rules.specs.FieldAnswers.{summed}
use Rattle.fields.proofs.counts.uneven.Given as goal

abbrev pub invariant-loop-count : goal.invariant-loop-count
invariant-loop-count l = l.left + 2 * summed (take l.count-index l.counts) ≡ l.numbers
