-- A refusal of the checks, or X and Y of the worked point. Assumes nothing.
use Rattle.std.proofs.Common.{sym, ap, ap₂, ◌∙◌, ℤ, to_z-of_z}
use Rattle.std.proofs.lemmas.Result.{err_from_is_err_and}
use Rattle.rules.specs.Refusals.{Answer, answered}
use Rattle.rules.specs.Rings.{Corner}
use Rattle.rules.specs.Points.{plane_of}
use Rattle.rules.proofs.Laws.Clauses.{shown}
use Rattle.terms.proofs.Refused.{refused_first}
use Rattle.projection_worked.specs.Worked.{worked_forward}
use Rattle.projection_worked.proofs.Laws.Point.{forward_right}
use Rattle.projection.specs.Laws.Checked.{refused_by, taken_by, point_plane}
use Rattle.projection.proofs.forward_plane.Goals as goal

abbrev at : ℤ → ℤ → Answer Corner
at x y = answered (record { x = x; y = y })

pub returns-in_err-zone : goal.returns-in_err-zone
returns-in_err-zone c =
    let p = err_from_is_err_and c.from_residual.result c.from_residual.ensures.1 in
    let b = shown plane_of (forward_right c.args.code c.args.b c.args.l)
    (sym (refused_first c.in_err-zone.field-0.0 _) ∙ ap plane_of (refused_by c.args.code _ _ _ c.in_err-zone.ensures ∙ ap₂ (worked_forward c.args.code) (to_z-of_z c.ranges.b) (to_z-of_z c.ranges.l))) in
    rw (p.1, p.2) (record { worked = b.0; band = b.1 })

pub returns : goal.returns
returns c =
    let f = c.in_ok-zone.ensures in
    let k = c.plane_at.ensures f.0 f.2 in
    let b = shown plane_of (forward_right c.args.code c.args.b c.args.l)
    (ap₂ at k.0 k.1 ∙ sym (point_plane f.0 _ _) ∙ ap plane_of (taken_by c.args.code _ _ f.0 f.1 ∙ ap₂ (worked_forward c.args.code) (to_z-of_z c.ranges.b) (to_z-of_z c.ranges.l))) in
    record { worked = b.0; band = b.1 }
