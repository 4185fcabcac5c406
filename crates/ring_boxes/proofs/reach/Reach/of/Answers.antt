-- Each number is read back as the lesser or the greater that it is. Assumes nothing.
use Rattle.std.proofs.Common.{◌∙◌, ap₂, rules, to_z-of_z}
use Rattle.std.specs.Int.{w64, int_min, int_max}
use mir.Val.{SFits}
use Rattle.ring_corners.specs.Laws.Signed.{held, made}
use Rattle.ring_corners.specs.Laws.Extremes.{min_is, max_is}
use Rattle.ring_boxes.proofs.reach.Reach.of.Goals as goal

pub returns-clause-low : goal.returns-clause-low
returns-clause-low c =
    let a = c.args.a in
    let b = c.args.b in
    let ax : SFits w64 a.x = search rules in
    let ay : SFits w64 a.y = search rules in
    let bx : SFits w64 b.x = search rules in
    let by : SFits w64 b.y = search rules in
    made
    (held {w = w64} (record { sfits = c.min.type_inv }) (c.min.ensures.value ∙ ap₂ int_min (to_z-of_z ax) (to_z-of_z bx) ∙ min_is a.x b.x))
    (held {w = w64} (record { sfits = c.min-2.type_inv }) (c.min-2.ensures.value ∙ ap₂ int_min (to_z-of_z ay) (to_z-of_z by) ∙ min_is a.y b.y))

pub returns-clause-high : goal.returns-clause-high
returns-clause-high c =
    let a = c.args.a in
    let b = c.args.b in
    let ax : SFits w64 a.x = search rules in
    let ay : SFits w64 a.y = search rules in
    let bx : SFits w64 b.x = search rules in
    let by : SFits w64 b.y = search rules in
    made
    (held {w = w64} (record { sfits = c.max.type_inv }) (c.max.ensures.value ∙ ap₂ int_max (to_z-of_z ax) (to_z-of_z bx) ∙ max_is a.x b.x))
    (held {w = w64} (record { sfits = c.max-2.type_inv }) (c.max-2.ensures.value ∙ ap₂ int_max (to_z-of_z ay) (to_z-of_z by) ∙ max_is a.y b.y))
