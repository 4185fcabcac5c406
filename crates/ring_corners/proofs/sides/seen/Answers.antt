-- Each number of the answer is a difference of two. Assumes nothing.
use Rattle.std.proofs.Common.{rules}
use Rattle.ring_corners.specs.Laws.Signed.{made}
use Rattle.ring_corners.proofs.sides.seen.Goals as goal

pub returns : goal.returns
returns c = made (search rules) (search rules)
