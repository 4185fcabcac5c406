-- The system's refusal, those of the checks 2 and 3, and else the row that stands for the system. Assumes nothing.
use Rattle.std.proofs.Common.{ap₂, ◌∙◌, to_z-of_z}
use Rattle.std.proofs.lemmas.Result.{err_from_is_err_and}
use Rattle.systems.specs.Zones.{point_checks}
use Rattle.systems.proofs.Laws.Points.{forward_unknown, forward_refused, forward_passed, point_passed}
use Rattle.projection.proofs.Checking.{taken_of}
use Rattle.projection.proofs.check.Goals as goal

pub returns-in_err-zone : goal.returns-in_err-zone
returns-in_err-zone c =
    let p = err_from_is_err_and c.from_residual.result c.from_residual.ensures.1 in
    rw (p.1, p.2) (forward_unknown c.args.code c.args.b c.args.l _ c.in_err-zone.ensures)

pub returns-in_err-check_point : goal.returns-in_err-check_point
returns-in_err-check_point c =
    let f = c.in_ok-zone.ensures in
    let p = err_from_is_err_and c.from_residual-in_err-check_point.result c.from_residual-in_err-check_point.ensures.1 in
    rw (p.1, p.2) (forward_refused c.args.code f.0 c.args.b c.args.l _ f.1 (c.in_err-check_point.ensures f.0 f.2 ∙ ap₂ (point_checks f.0) (to_z-of_z c.ranges.b) (to_z-of_z c.ranges.l)))

pub returns : goal.returns
returns c =
    let f = c.in_ok-zone.ensures in
    let e = c.in_ok-check_point.ensures f.0 f.2 ∙ ap₂ (point_checks f.0) (to_z-of_z c.ranges.b) (to_z-of_z c.ranges.l) in
    let t = point_passed f.0 c.args.b c.args.l e in
    (f.0, forward_passed c.args.code f.0 c.args.b c.args.l f.1 e, f.2, taken_of c.in_ok-zone.zone f.0 c.args.b c.args.l f.2 f.3 t.0 t.1)
