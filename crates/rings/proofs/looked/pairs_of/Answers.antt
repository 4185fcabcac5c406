-- The formula n(n-1)/2. Assumes nothing.
use Rattle.std.proofs.Common.{sym}
use Rattle.rules.proofs.Laws.Looked.{half}
use Rattle.rings.proofs.looked.pairs_of.Goals as goal

pub returns : goal.returns
returns c = sym (half c.args.edges)
