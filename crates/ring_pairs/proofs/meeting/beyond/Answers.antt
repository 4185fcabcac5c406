-- By the greater of c and d, where the lesser is not above high. Assumes nothing.
use Rattle.std.proofs.Common.{◌∙◌, ap₂, w64, to_z-of_z}
use Rattle.std.specs.Int.{int_min, int_max}
use mir.Val.{SFits}
use Rattle.ring_corners.specs.Laws.Signed.{not_less}
use Rattle.ring_pairs.specs.Laws.Crossings.{under_low}
use Rattle.ring_pairs.proofs.meeting.beyond.Goals as goal

pub returns-else-high-min : goal.returns-else-high-min
returns-else-high-min c =
    let f : SFits w64 c.max.result = record { sfits = c.max.type_inv } in
    let g : SFits w64 c.min.result = record { sfits = c.min.type_inv } in
    let lesser = c.min.ensures.value ∙ ap₂ int_min (to_z-of_z c.ranges.c) (to_z-of_z c.ranges.d) in
    let greater = c.max.ensures.value ∙ ap₂ int_max (to_z-of_z c.ranges.c) (to_z-of_z c.ranges.d) in
    rw (to_z-of_z f, to_z-of_z c.ranges.low)
    (under_low c.args.low c.args.high c.args.c c.args.d _ lesser _ greater (not_less c.ranges.high g c.if-high-min.false))
