-- What the code works with a row of its table is what the worked values say of the paper's row. Assumes nothing.
use Rattle.std.specs.Prelude.{◌≡◌, ℕ, ◌*◌, ◌/◌, ◌^◌, ℤ, pos, ◌-ℤ◌}
use Rattle.std.proofs.Math.Path.{sym, ap, ap₂}
use Rattle.std.proofs.Common.{◌∙◌}
use native.Mathlib.Omega.{arith}
use Rattle.std.proofs.Math.IntN.{nat_abs, ◌+ℤ◌}
use Rattle.arith.specs.Laws.Order.{abs_mul}
use Rattle.rules.specs.Systems.{System}
use Rattle.systems.specs.Zones.{Stands}
use Rattle.systems.specs.declared.Zone.{Zone}
use Rattle.double.specs.Value.{value}
use Rattle.fixed.specs.Nearness.{turned}
use Rattle.fixed.specs.Laws.Turned.{below_zero}
use Rattle.terms.specs.Papers.{ellipsoid_of}
use Rattle.projection_worked.specs.Worked.{plane_pair, slope_pair, scaled_part, millionths_of, worked_X, worked_Y, scale_from, convergence_from, worked_scale, worked_convergence}

module _ (z : Zone) (s : System) (h : Stands z s) where
  pub millionths_are : nat_abs z.millionths ≡ millionths_of s
  unfolding millionths_of
  millionths_are = sym (ap (λ m. nat_abs m / 10 ^ 18) h.scale ∙ ap (λ n. n / 10 ^ 18) (abs_mul z.millionths (pos (10 ^ 18))) ∙ go (nat_abs z.millionths))
    where
      go : (n : ℕ) → n * 10 ^ 18 / 10 ^ 18 ≡ n
      go n = omega arith

  pub X_stands : (b l : ℤ) → z.north +ℤ scaled_part (nat_abs z.millionths) (value (plane_pair (ellipsoid_of z.ellipsoid) (nat_abs b) (nat_abs (l -ℤ z.meridian))).re) ≡ worked_X s b (l -ℤ s.L0)
  unfolding worked_X
  X_stands b l =
      ap₂ ◌+ℤ◌ (sym h.north)
      (ap₂ scaled_part millionths_are (ap₂ (λ E m. value (plane_pair E (nat_abs b) (nat_abs (l -ℤ m))).re) (sym h.ellipsoid) (sym h.meridian)))

  pub Y_stands : (b l : ℤ) → z.east +ℤ turned (below_zero (l -ℤ z.meridian)) (scaled_part (nat_abs z.millionths) (value (plane_pair (ellipsoid_of z.ellipsoid) (nat_abs b) (nat_abs (l -ℤ z.meridian))).im)) ≡ worked_Y s b (l -ℤ s.L0)
  unfolding worked_Y
  Y_stands b l =
      ap₂ ◌+ℤ◌ (sym h.east)
      (ap₂ (λ m v. turned (below_zero (l -ℤ m)) v) (sym h.meridian)
      (ap₂ scaled_part millionths_are (ap₂ (λ E m. value (plane_pair E (nat_abs b) (nat_abs (l -ℤ m))).im) (sym h.ellipsoid) (sym h.meridian))))

  pub scale_stands : (b l : ℤ) → scale_from (ellipsoid_of z.ellipsoid) (nat_abs z.millionths) (nat_abs b) (nat_abs (l -ℤ z.meridian)) (slope_pair (ellipsoid_of z.ellipsoid) (nat_abs b) (nat_abs (l -ℤ z.meridian))) ≡ worked_scale s b (l -ℤ s.L0)
  unfolding worked_scale
  scale_stands b l =
      ap₂ (λ E m. scale_from E (nat_abs z.millionths) (nat_abs b) (nat_abs (l -ℤ m)) (slope_pair E (nat_abs b) (nat_abs (l -ℤ m)))) (sym h.ellipsoid) (sym h.meridian)
      ∙ ap (λ M. scale_from s.ellipsoid M (nat_abs b) (nat_abs (l -ℤ s.L0)) (slope_pair s.ellipsoid (nat_abs b) (nat_abs (l -ℤ s.L0)))) millionths_are

  pub convergence_stands : (b l : ℤ) → convergence_from (ellipsoid_of z.ellipsoid) (nat_abs b) (l -ℤ z.meridian) (slope_pair (ellipsoid_of z.ellipsoid) (nat_abs b) (nat_abs (l -ℤ z.meridian))) ≡ worked_convergence s b (l -ℤ s.L0)
  unfolding worked_convergence
  convergence_stands b l = ap₂ (λ E m. convergence_from E (nat_abs b) (l -ℤ m) (slope_pair E (nat_abs b) (nat_abs (l -ℤ m)))) (sym h.ellipsoid) (sym h.meridian)
