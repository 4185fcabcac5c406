-- The pair and the derivative of the zone's row are those of the system that it stands for. Assumes nothing.
use Rattle.std.proofs.Common.{◌≡◌, sym, ap, ◌∙◌, subst, subst₂, ℤ, nat_abs, ◌+ℤ◌, ◌-ℤ◌, to_z-of_z}
use Rattle.double.specs.Value.{value}
use Rattle.double.specs.declared.Pair.{Pair}
use Rattle.double.specs.Complex.{Numbers}
use Rattle.fixed.specs.Nearness.{turned}
use Rattle.fixed.specs.Laws.Turned.{below_zero}
use Rattle.terms.specs.Papers.{ellipsoid_of}
use Rattle.projection_worked.specs.Worked.{scaled_part, scale_from, convergence_from, worked_point}
use Rattle.projection_worked.specs.Bounds.{Tame, Sloped}
use Rattle.projection.specs.Answers.{point_of}
use Rattle.projection.specs.Located.{LocatedAt}
use Rattle.projection.specs.Laws.Stood.{X_stands, Y_stands, scale_stands, convergence_stands}
use Rattle.projection.proofs.Locating.{pair_is, slope_is, pair_tame, slope_numbers, slope_sloped}
use Rattle.projection.proofs.onward.point_at.Goals as goal

pub point_answer-requires : goal.point_answer-requires
point_answer-requires c =
    let z = c.args.zone in
    let b = c.args.b in
    let l = c.args.l in
    let at = subst₂ (λ x y. LocatedAt (ellipsoid_of z.ellipsoid) (nat_abs x) (y -ℤ z.meridian) c.locate-at.result) (to_z-of_z c.ranges.b) (to_z-of_z c.ranges.l) c.locate-at.ensures in
    let e = pair_is z b l c.requires at c.argument-z.ensures c.forward-p.ensures in
    let f = slope_is z b l c.requires at c.argument-z.ensures c.derivative-h.ensures in
    (c.requires.sized, subst Tame (sym e) (pair_tame z b l c.requires at), subst Numbers (sym f) (slope_numbers z b l c.requires at), subst Sloped (sym f) (slope_sloped z b l c.requires at), at.sphere_sizes, at.across_small)

-- a point by its four numbers
four : {x X y Y s S g G : ℤ} → x ≡ X → y ≡ Y → s ≡ S → g ≡ G → point_of (record { x = x; y = y; scale = s; convergence = g }) ≡ record { X = X; Y = Y; scale = S; convergence = G }
four e f g h = cc

pub returns : goal.returns
unfolding worked_point
returns c = λ s h.
    let z = c.args.zone in
    let b = c.args.b in
    let l = c.args.l in
    let d = l -ℤ z.meridian in
    let E = ellipsoid_of z.ellipsoid in
    let at = subst₂ (λ x y. LocatedAt (ellipsoid_of z.ellipsoid) (nat_abs x) (y -ℤ z.meridian) c.locate-at.result) (to_z-of_z c.ranges.b) (to_z-of_z c.ranges.l) c.locate-at.ensures in
    let e = pair_is z b l c.requires at c.argument-z.ensures c.forward-p.ensures in
    let f = slope_is z b l c.requires at c.argument-z.ensures c.derivative-h.ensures in
    let k = c.point_answer.ensures (nat_abs b) d at in
    four
    (k.0 ∙ ap (λ (p : Pair). z.north +ℤ scaled_part (nat_abs z.millionths) (value p.re)) e ∙ X_stands z s h b l)
    (k.1 ∙ ap (λ (p : Pair). z.east +ℤ turned (below_zero d) (scaled_part (nat_abs z.millionths) (value p.im))) e ∙ Y_stands z s h b l)
    (k.2 ∙ ap (scale_from E (nat_abs z.millionths) (nat_abs b) (nat_abs d)) f ∙ scale_stands z s h b l)
    (k.3 ∙ ap (convergence_from E (nat_abs b) d) f ∙ convergence_stands z s h b l)
