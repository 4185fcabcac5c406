-- The scale and the convergence of a located point are the worked ones. Assumes nothing.
use Rattle.std.proofs.Common.{◌≡◌, ap, ap₂, ◌∙◌, ℕ, Bool, ℤ, pos, nat_abs, ◌+ℤ◌, w64, to_z-of_z}
use Rattle.std.specs.Float.Ieee.{of_bits}
use Rattle.arith.specs.Laws.Machine.{v_in}
use Rattle.rules.specs.Systems.{Ellipsoid}
use Rattle.double.specs.Value.{value}
use Rattle.double.specs.declared.Pair.{Pair}
use Rattle.fixed.specs.Worked.{mul60}
use Rattle.fixed.specs.Nearness.{turned}
use Rattle.fixed.specs.Laws.Turned.{below_zero}
use Rattle.terms.specs.Papers.{ellipsoid_of}
use Rattle.fixed_forward.specs.Points.{IsMercator}
use Rattle.fixed_forward.specs.declared.Mercator.{Mercator}
use Rattle.fixed_scale.specs.Answers.{scale_of}
use Rattle.fixed_scale.proofs.Laws.Answers.{scale_is, turn_is}
use Rattle.fixed_scale.specs.Scale.{square60, ratio60, meridian60, spread60, sphere_scale60}
use Rattle.fixed_scale.specs.Length.{length60}
use Rattle.fixed_scale.specs.Convergence.{sine_f60, turn60, turn_of, convergence60}
use Rattle.fixed_units.specs.Worked.{scale_units, m0_units, convergence_units}
use Rattle.projection_worked.specs.Worked.{scaled_part, first60, slope60, below_nought, scale_from, convergence_from}
use Rattle.projection.proofs.onward.point_answer.Goals as goal

scale_there : {r : Mercator} {first slope : ℕ} (E : Ellipsoid) (M n d : ℕ) (h : Pair) → IsMercator E n d r → first ≡ first60 h → slope ≡ slope60 h
    → pos (scale_units (m0_units M) (mul60 (sphere_scale60 (ratio60 E) r.sphere.k (meridian60 (square60 E) r.sphere.t) r.sphere.d2 (spread60 r.across)) (length60 first slope))) ≡ scale_from E M n d h
unfolding scale_from
scale_there {first = first} {slope} E M n d h i e f = ap (λ x. pos (scale_units (m0_units M) x)) (scale_is E n d first slope i ∙ ap₂ (scale_of E n d) e f)

convergence_there : {r : Mercator} {west : Bool} {slope : ℕ} (E : Ellipsoid) (n : ℕ) (d : ℤ) (h : Pair) → IsMercator E n (nat_abs d) r → west ≡ below_zero d → slope ≡ slope60 h
    → convergence_units (turned west (convergence60 (turn60 (sine_f60 r.sphere.n2 r.sphere.d2) r.sphere.sd r.sphere.cd) (below_nought h.im) slope)) ≡ convergence_from E n d h
unfolding convergence_from
convergence_there {r} {west} {slope} E n d h i e f =
    ap₂ (λ w t. convergence_units (turned w (convergence60 t (below_nought h.im) slope))) e (turn_is E n (nat_abs d) i)
    ∙ ap (λ k. convergence_units (turned (below_zero d) (convergence60 (turn_of E n (nat_abs d)) (below_nought h.im) k))) f

pub returns : goal.returns
unfolding of_bits
returns c = λ n d at.
    let a = c.args in
    let E = ellipsoid_of a.zone.ellipsoid in
    let o = c.corner_of-corner in
    let f = c.slope_parts-parts.ensures in (
      (v_in w64 o.result.x o.ensures.size.0 tt).is ∙ o.ensures.x_value.0,
      (v_in w64 o.result.y o.ensures.size.1 tt).is ∙ o.ensures.x_value.1 ∙ ap (λ w. a.zone.east +ℤ turned w (scaled_part (nat_abs a.zone.millionths) (value a.p.im))) at.side,
      to_z-of_z {w = w64} (record { sfits = c.scale_of.type_inv }) ∙ c.scale_of.ensures ∙ scale_there E (nat_abs a.zone.millionths) n (nat_abs d) a.h at.is f.first_value.0 f.first_value.1,
      to_z-of_z {w = w64} (record { sfits = c.convergence_of.type_inv }) ∙ c.convergence_of.ensures ∙ convergence_there E n d a.h at.is at.side f.first_value.1,
    )
