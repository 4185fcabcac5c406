-- Refusal 1, or the inverse in the code's zone. Assumes nothing.
use Rattle.std.proofs.Common.{sym, ap₂, ◌∙◌, to_z-of_z}
use Rattle.std.proofs.lemmas.Result.{err_from_is_err_and}
use Rattle.rules.specs.Points.{RightInverse}
use Rattle.rules.proofs.Laws.Clauses.{banded}
use Rattle.projection_worked.specs.Inverse.{in_system}
use Rattle.projection_worked.proofs.Laws.Inverse.{inverse_right}
use Rattle.projection_worked.proofs.Laws.InverseChecked.{worked_known, worked_refused}
use Rattle.projection.proofs.inverse.Goals as goal

pub returns-in_err-zone : goal.returns-in_err-zone
returns-in_err-zone c =
    let p = err_from_is_err_and c.from_residual.result c.from_residual.ensures.1 in
    rw (p.1, p.2)
    (let b = banded (RightInverse c.args.code c.args.x c.args.y) (inverse_right c.args.code c.args.x c.args.y) (worked_refused c.args.code c.args.x c.args.y _ c.in_err-zone.ensures) in
    record { worked = b.0; band = b.1 })

pub returns : goal.returns
returns c =
    let r = c.in_ok-zone.ensures in
    let b = banded (RightInverse c.args.code c.args.x c.args.y) (inverse_right c.args.code c.args.x c.args.y) (c.in_zone.ensures r.0 r.2 ∙ ap₂ (in_system r.0) (to_z-of_z c.ranges.x) (to_z-of_z c.ranges.y) ∙ sym (worked_known c.args.code r.0 c.args.x c.args.y r.1)) in
    record { worked = b.0; band = b.1 }
