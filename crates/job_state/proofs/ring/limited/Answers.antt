-- A number past its limit is read as the limit.
use Rattle.job_state.proofs.Flat.{clamped_back}
use Rattle.job_state.proofs.ring.limited.Goals as goal

pub returns : goal.returns
returns c = clamped_back c.clamp.type_inv c.ranges.z c.clamp.ensures.value
