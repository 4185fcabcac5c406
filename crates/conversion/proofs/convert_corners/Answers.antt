-- The loop keeps what Converting of specs/Laws/Ring says. Assumes nothing.
use Rattle.std.proofs.Common.{sym, ap, ◌∙◌, arith, rules, w64, to_z-of_z, FitsSigned, length, ◌<◌}
use Rattle.std.proofs.lemmas.Result.{err_from_is_err_and}
use Rattle.rules.specs.Rings.{Corner}
use Rattle.ring_corners.specs.Corners.{pairs}
use Rattle.conversion.specs.Plane.{carried}
use Rattle.conversion.specs.Laws.Ring.{start_converting, convert_more, convert_stopped}
use Rattle.conversion.proofs.convert_corners.Goals as goal

pub loop-i-init : goal.loop-i-init
loop-i-init c = start_converting (carried c.args.source c.args.target) (pairs c.args.ring.now.corners.now) _ (search rules)

pub returns-in_err-corner-clause-numbers_value : goal.returns-in_err-corner-clause-numbers_value
returns-in_err-corner-clause-numbers_value c =
    let p = err_from_is_err_and c.from_residual.result c.from_residual.ensures.1 in
    let h : c.loop-i.i < length (pairs c.args.ring.now.corners.now) = let e = c.count-i-end.ensures in let h = c.loop-i-test.true in omega arith in
    rw (p.1, p.2)
    (convert_stopped (carried c.args.source c.args.target) (pairs c.args.ring.now.corners.now) _ _ _ c.loop-i.invariant h
    (c.in_err-corner.ensures ∙ ap (λ (k : Corner). carried c.args.source c.args.target k.x k.y) c.corner.ensures))

pub loop-i-preserved : goal.loop-i-preserved
loop-i-preserved c =
    let h : c.loop-i.i < length (pairs c.args.ring.now.corners.now) = let e = c.count-i-end.ensures in let h = c.loop-i-test.true in omega arith in
    let x : FitsSigned w64 c.in_ok-corner.corner.x = record { sfits = search rules } in
    let y : FitsSigned w64 c.in_ok-corner.corner.y = record { sfits = search rules } in
    rw (to_z-of_z x, to_z-of_z y)
    (convert_more (carried c.args.source c.args.target) (pairs c.args.ring.now.corners.now) _ _ _ _ c.loop-i.invariant h c.args.ring.now.accepted.at_most
    (sym (c.in_ok-corner.ensures ∙ ap (λ (k : Corner). carried c.args.source c.args.target k.x k.y) c.corner.ensures)))
