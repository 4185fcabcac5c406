-- The limits are 48° and 56° in ticks. Assumes nothing.
use Rattle.std.proofs.Common.{◌∙◌, ap, pos, to_z-of_z}
use Rattle.rules.specs.Points.{latitude_bad}
use Rattle.systems.specs.Zones.{beyond}
use Rattle.systems.proofs.latitude_refused.Goals as goal

pub returns : goal.returns
unfolding latitude_bad
returns c = c.outside.ensures ∙ ap (beyond (pos 172_800_000_000) (pos 201_600_000_000)) (to_z-of_z c.ranges.b)
