-- Both axes' reach at the loop's end, and the checks in their order. Assumes nothing.
use Rattle.std.proofs.Common.{arith, ap, ◌∙◌, rules, to_z-of_z}
use Rattle.std.specs.Int.{w64}
use mir.Val.{SFits}
use Rattle.std.proofs.lemmas.Result.{err_from_is_err_and}
use Rattle.rules.specs.Rings.{Corner}
use Rattle.ring_corners.specs.Corners.{pairs}
use Rattle.ring_corners.specs.Laws.Flat.{count_half}
use Rattle.ring_checks.proofs.Laws.Axis.{reaching_next, numbers_end}
use Rattle.ring_checks.proofs.Laws.Steps.{refused_then, answered_then}
use Rattle.ring_checks.proofs.numbers.Goals as goal

pub corner_at-corner-requires : goal.corner_at-corner-requires
corner_at-corner-requires c = let e = count_half c.args.corners.now in omega arith

pub loop-k-preserved : goal.loop-k-preserved
loop-k-preserved c =
    let r = pairs c.args.corners.now in
    let e = count_half c.args.corners.now in
    let fx : SFits w64 c.corner_at-corner.result.x = search rules in
    let fy : SFits w64 c.corner_at-corner.result.y = search rules in
    let lx : SFits w64 c.loop-k.low.x = search rules in
    let hx : SFits w64 c.loop-k.high.x = search rules in
    let ly : SFits w64 c.loop-k.low.y = search rules in
    let hy : SFits w64 c.loop-k.high.y = search rules in
    let x = ap (λ (c : Corner). c.x) c.corner_at-corner.ensures in
    let y = ap (λ (c : Corner). c.y) c.corner_at-corner.ensures in
    record {
      north = grind (arith, to_z-of_z, reaching_next (λ (c : Corner). c.x) r c.loop-k.invariant.north (omega arith), x);
      east = grind (arith, to_z-of_z, reaching_next (λ (c : Corner). c.y) r c.loop-k.invariant.east (omega arith), y);
    }

pub returns-in_err-inside : goal.returns-in_err-inside
returns-in_err-inside c =
    let p = err_from_is_err_and c.from_residual.result c.from_residual.ensures.1 in
    let e = count_half c.args.corners.now in
    let lx : SFits w64 c.loop-k.low.x = search rules in
    let hx : SFits w64 c.loop-k.high.x = search rules in
    let ly : SFits w64 c.loop-k.low.y = search rules in
    let hy : SFits w64 c.loop-k.high.y = search rules in
    rw (p.1, p.2) (refused_then _ _ (simp to_z-of_z at c.in_err-inside.ensures)
    ∙ numbers_end (pairs c.args.corners.now) c.loop-k.invariant.north c.loop-k.invariant.east (omega arith) c.requires)

pub returns-in_err-inside-2 : goal.returns-in_err-inside-2
returns-in_err-inside-2 c =
    let p = err_from_is_err_and c.from_residual-in_err-inside-2.result c.from_residual-in_err-inside-2.ensures.1 in
    let e = count_half c.args.corners.now in
    let lx : SFits w64 c.loop-k.low.x = search rules in
    let hx : SFits w64 c.loop-k.high.x = search rules in
    let ly : SFits w64 c.loop-k.low.y = search rules in
    let hy : SFits w64 c.loop-k.high.y = search rules in
    rw (p.1, p.2) (refused_then _ _ (simp to_z-of_z at c.in_err-inside-2.ensures) ∙ answered_then _ (simp to_z-of_z at c.in_ok-inside.ensures)
    ∙ numbers_end (pairs c.args.corners.now) c.loop-k.invariant.north c.loop-k.invariant.east (omega arith) c.requires)

pub returns-in_err-narrow : goal.returns-in_err-narrow
returns-in_err-narrow c =
    let p = err_from_is_err_and c.from_residual-in_err-narrow.result c.from_residual-in_err-narrow.ensures.1 in
    let e = count_half c.args.corners.now in
    let lx : SFits w64 c.loop-k.low.x = search rules in
    let hx : SFits w64 c.loop-k.high.x = search rules in
    let ly : SFits w64 c.loop-k.low.y = search rules in
    let hy : SFits w64 c.loop-k.high.y = search rules in
    rw (p.1, p.2) (refused_then _ _ (simp to_z-of_z at c.in_err-narrow.ensures) ∙ answered_then _ (simp to_z-of_z at c.in_ok-inside-2.ensures) ∙ answered_then _ (simp to_z-of_z at c.in_ok-inside.ensures)
    ∙ numbers_end (pairs c.args.corners.now) c.loop-k.invariant.north c.loop-k.invariant.east (omega arith) c.requires)

pub returns : goal.returns
returns c =
    let e = count_half c.args.corners.now in
    let lx : SFits w64 c.loop-k.low.x = search rules in
    let hx : SFits w64 c.loop-k.high.x = search rules in
    let ly : SFits w64 c.loop-k.low.y = search rules in
    let hy : SFits w64 c.loop-k.high.y = search rules in
    (simp to_z-of_z at c.narrow-2.ensures) ∙ answered_then _ (simp to_z-of_z at c.in_ok-narrow.ensures) ∙ answered_then _ (simp to_z-of_z at c.in_ok-inside-2.ensures) ∙ answered_then _ (simp to_z-of_z at c.in_ok-inside.ensures)
    ∙ numbers_end (pairs c.args.corners.now) c.loop-k.invariant.north c.loop-k.invariant.east (omega arith) c.requires
