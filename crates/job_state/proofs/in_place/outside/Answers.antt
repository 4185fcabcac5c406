-- A number past ±10^10, as the rules test it.
use Rattle.std.proofs.Common.{◌∙◌}
use Rattle.job_state.proofs.Limits.{high, other}
use Rattle.job_state.proofs.in_place.outside.Goals as goal

pub returns-then-z-gt10000000000 : goal.returns-then-z-gt10000000000
returns-then-z-gt10000000000 c = c.if-z-gt10000000000.true ∙ high _ c.ranges.z c.if-z-gt10000000000.true

pub returns-else-z-gt10000000000 : goal.returns-else-z-gt10000000000
returns-else-z-gt10000000000 c = other _ c.ranges.z c.if-z-gt10000000000.false
