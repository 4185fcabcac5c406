-- A point that passed refusal 4 lies in the box. Assumes nothing.
use Rattle.std.proofs.Common.{sym, ap₂, ◌∙◌, subst₂, to_z-of_z}
use Rattle.rules.specs.Points.{plane_bad}
use Rattle.projection_worked.specs.Inverse.{InBox}
use Rattle.projection_inverse.proofs.Standing.{in_box}
use Rattle.projection_inverse.proofs.backward.in_zone.Goals as goal

pub from_plane-requires : goal.from_plane-requires
from_plane-requires c =
    let s = c.requires.1.0 in
    let h = c.requires.1.1 in
    subst₂ (InBox c.args.zone) (sym (to_z-of_z c.ranges.x)) (sym (to_z-of_z c.ranges.y))
    (in_box c.args.zone s h c.requires.0 c.args.x c.args.y
    (sym (c.plane_refused.ensures s h ∙ ap₂ (plane_bad s) (to_z-of_z c.ranges.x) (to_z-of_z c.ranges.y)) ∙ c.if-plane_refused.false))
