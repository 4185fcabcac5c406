-- The pair of the zone's row is that of the system that it stands for. Assumes nothing.
use Rattle.std.proofs.Common.{sym, ap, ap₂, ◌∙◌, subst, subst₂, nat_abs, ◌+ℤ◌, ◌-ℤ◌, to_z-of_z}
use Rattle.double.specs.Value.{value}
use Rattle.double.specs.declared.Pair.{Pair}
use Rattle.fixed.specs.Nearness.{turned}
use Rattle.terms.specs.Papers.{ellipsoid_of}
use Rattle.projection_worked.specs.Worked.{scaled_part}
use Rattle.projection_worked.specs.Bounds.{Tame}
use Rattle.projection.specs.Located.{LocatedAt}
use Rattle.projection.specs.Laws.Stood.{X_stands, Y_stands}
use Rattle.projection.proofs.Locating.{pair_is, pair_tame}
use Rattle.projection.proofs.onward.plane_at.Goals as goal

pub corner_of-requires : goal.corner_of-requires
corner_of-requires c =
    let z = c.args.zone in
    let at = subst₂ (λ x y. LocatedAt (ellipsoid_of z.ellipsoid) (nat_abs x) (y -ℤ z.meridian) c.locate-at.result) (to_z-of_z c.ranges.b) (to_z-of_z c.ranges.l) c.locate-at.ensures in
    (c.requires.sized, subst Tame (sym (pair_is z c.args.b c.args.l c.requires at c.argument-z.ensures c.forward.ensures)) (pair_tame z c.args.b c.args.l c.requires at))

pub returns : goal.returns
returns c = λ s h.
    let z = c.args.zone in
    let k = c.corner_of.ensures.x_value in
    let at = subst₂ (λ x y. LocatedAt (ellipsoid_of z.ellipsoid) (nat_abs x) (y -ℤ z.meridian) c.locate-at.result) (to_z-of_z c.ranges.b) (to_z-of_z c.ranges.l) c.locate-at.ensures in
    let e = pair_is z c.args.b c.args.l c.requires at c.argument-z.ensures c.forward.ensures in (
      k.0 ∙ ap (λ (p : Pair). z.north +ℤ scaled_part (nat_abs z.millionths) (value p.re)) e ∙ X_stands z s h c.args.b c.args.l,
      k.1 ∙ ap₂ (λ w (p : Pair). z.east +ℤ turned w (scaled_part (nat_abs z.millionths) (value p.im))) at.side e ∙ Y_stands z s h c.args.b c.args.l,
    )
