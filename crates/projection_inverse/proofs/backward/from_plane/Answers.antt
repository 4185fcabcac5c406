-- The zone's pair and side are those of the system that it stands for. Assumes nothing.
use Rattle.std.proofs.Common.{sym, ap, ap₂, ◌∙◌, subst}
use Rattle.rules.specs.Points.{judged}
use Rattle.terms.specs.Papers.{ellipsoid_of}
use Rattle.projection_worked.specs.Inverse.{ticks_from}
use Rattle.projection_worked.specs.Bounds.{Placed}
use Rattle.projection_worked.proofs.Laws.InverseRange.{box_placed}
use Rattle.projection_inverse.proofs.Standing.{pair_given, side_given, ticks_stand}
use Rattle.projection_inverse.proofs.backward.from_plane.Goals as goal

pub answer-requires : goal.answer-requires
answer-requires c =
    let k = c.requires.sized in
    let e = pair_given c.args.zone k c.args.x c.args.y c.ranges.x c.ranges.y _ _ _ c.abs_diff-north.ensures c.abs_diff-east.ensures c.mercator_pair-p.ensures in
    (k, subst Placed (sym e) (box_placed (ellipsoid_of c.args.zone.ellipsoid) c.requires.boxed))

pub returns : goal.returns
returns c = λ s h.
    let k = c.requires.sized in
    let e = pair_given c.args.zone k c.args.x c.args.y c.ranges.x c.ranges.y _ _ _ c.abs_diff-north.ensures c.abs_diff-east.ensures c.mercator_pair-p.ensures in
    c.answer.ensures s h
    ∙ ap₂ (λ w p. judged s (ticks_from s w p)) (side_given c.args.zone k c.args.x c.args.y c.ranges.x c.ranges.y) e
    ∙ ap (judged s) (ticks_stand c.args.zone s h k c.args.x c.args.y)
