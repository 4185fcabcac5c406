-- The refusal of the codes, or the point carried. Assumes nothing.
use Rattle.std.proofs.Common.{sym, ap₂, ◌∙◌, to_z-of_z}
use Rattle.std.proofs.lemmas.Result.{err_from_is_err_and}
use Rattle.rules.specs.Points.{RightPlane}
use Rattle.rules.proofs.Laws.Clauses.{banded}
use Rattle.rules.proofs.Laws.Legs.{plane_right}
use Rattle.projection.specs.Laws.Right.{right}
use Rattle.ring_checks.proofs.Laws.Steps.{refused_then}
use Rattle.conversion.specs.Plane.{carried}
use Rattle.conversion.specs.Laws.Plane.{plane_steps, codes_passed}
use Rattle.conversion.proofs.plane_to_plane.Goals as goal

pub returns-in_err-check_codes : goal.returns-in_err-check_codes
returns-in_err-check_codes c =
    let p = err_from_is_err_and c.from_residual.result c.from_residual.ensures.1 in
    let b = banded (RightPlane c.args.source c.args.target c.args.x c.args.y) (plane_right right c.args.source c.args.target c.args.x c.args.y)
    (refused_then c.in_err-check_codes.field-0.0 (carried c.args.source c.args.target c.args.x c.args.y) c.in_err-check_codes.ensures ∙ sym (plane_steps c.args.source c.args.target c.args.x c.args.y)) in
    rw (p.1, p.2) (record { worked = b.0; band = b.1 })

pub returns : goal.returns
returns c =
    let b = banded (RightPlane c.args.source c.args.target c.args.x c.args.y) (plane_right right c.args.source c.args.target c.args.x c.args.y)
    (c.convert.ensures ∙ ap₂ (carried c.args.source c.args.target) (to_z-of_z c.ranges.x) (to_z-of_z c.ranges.y)
    ∙ sym (codes_passed c.args.source c.args.target c.args.x c.args.y (sym c.in_ok-check_codes.ensures))) in
    record { worked = b.0; band = b.1 }
