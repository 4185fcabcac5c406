-- A refusal of the checks, or the worked point of the system. Assumes nothing.
use Rattle.std.proofs.Common.{ap, ap₂, ◌∙◌, to_z-of_z}
use Rattle.std.proofs.lemmas.Result.{err_from_is_err_and}
use Rattle.rules.specs.Refusals.{answered}
use Rattle.rules.specs.Points.{RightForward}
use Rattle.rules.proofs.Laws.Clauses.{banded}
use Rattle.projection_worked.specs.Worked.{worked_forward}
use Rattle.projection_worked.proofs.Laws.Point.{forward_right}
use Rattle.projection.specs.Laws.Checked.{refused_by, taken_by}
use Rattle.projection.proofs.forward.Goals as goal

pub returns-in_err-zone : goal.returns-in_err-zone
returns-in_err-zone c =
    let p = err_from_is_err_and c.from_residual.result c.from_residual.ensures.1 in
    let b = banded (RightForward c.args.code c.args.b c.args.l) (forward_right c.args.code c.args.b c.args.l) (refused_by c.args.code _ _ _ c.in_err-zone.ensures ∙ ap₂ (worked_forward c.args.code) (to_z-of_z c.ranges.b) (to_z-of_z c.ranges.l)) in
    rw (p.1, p.2) (record { worked = b.0; band = b.1 })

pub returns : goal.returns
returns c =
    let f = c.in_ok-zone.ensures in
    let b = banded (RightForward c.args.code c.args.b c.args.l) (forward_right c.args.code c.args.b c.args.l)
    (ap answered (c.point_at.ensures f.0 f.2) ∙ taken_by c.args.code _ _ f.0 f.1 ∙ ap₂ (worked_forward c.args.code) (to_z-of_z c.ranges.b) (to_z-of_z c.ranges.l)) in
    record { worked = b.0; band = b.1 }
