-- The whole: from Mercator's x and y, each within 160 units of 2^-30 m (1.5e-7 m) of the definition's, the worked ticks of B lie within 0.518 tick of the
-- definition's, and those of |d| within 0.511, on either side of the central meridian. Assumes nothing.
use Rattle.std.specs.Prelude.{Bool, true, ◌≡◌, refl, List, [], ◌∷◌, ℕ, ◌*◌, ◌/◌, ◌^◌, ◌≤◌, T, leb, ℤ, pos, neg_ℤ, ◌-ℤ◌, ◌*ℤ◌, nat_abs}
use Rattle.std.proofs.Math.Bool.{false}
use Rattle.std.proofs.Common.{sym, ◌∙◌, ap, subst, mul-le-mul_right, arith, leb→le, lit≤}
use Rattle.arith.specs.Laws.Order.{abs_neg}
use Rattle.arith.specs.Laws.Ring.{ring, Z·ring, by_ring}
use Rattle.rules.specs.Rounding as Rounding
use Rattle.rules.specs.Scaled.{unit, quotient, hyperbolic_cosine}
use Rattle.rules.specs.Systems.{◌/10^◌, Ellipsoid, GRS_80, constants}
use Rattle.rules.specs.Projection.{Inverse, inverse_from}
use Rattle.fixed.specs.Worked.{S60}
use Rattle.fixed.specs.Nearness.{Near30, turned}
use Rattle.fixed_inverse.specs.Worked.{latitude_ticks, difference_ticks}
use Rattle.fixed_inverse.specs.Examples.{worked, defined}
use Rattle.fixed_inverse.specs.Laws.Radius.{x_low, x_high, y_high}
use Rattle.fixed_inverse.proofs.Laws.Radius.{x_angle, y_angle}
use Rattle.fixed_inverse.specs.Laws.Turns.{difference_high}
use Rattle.fixed_inverse.proofs.Laws.Turns.{near_sine, near_cosh, near_difference}
use Rattle.fixed_inverse.proofs.Laws.About52.{near_sphere}
use Rattle.fixed_inverse.proofs.Laws.Latitude.{near_latitude}
use Rattle.fixed_inverse.proofs.Laws.Ticks.{Tick, tick_near, tick_e}
use Rattle.fixed_inverse.specs.Laws.Inverse.{latitude_gap}

-- the box, and that x and y stand for the definition's X and Y; y is a size, and stands for -Y where `west` is set
pub record Mercator (west : Bool) (x y : ℕ) (X Y : ℤ) : Type 0 where
  pub low : x_low ≤ x
  pub high : x ≤ x_high
  pub side : y ≤ y_high
  pub near_x : Near30 x X (160 * unit)
  pub near_y : Near30 y (turned west Y) (160 * unit)

abbrev pub definition : Ellipsoid → ℤ → ℤ → Inverse
definition E X Y = inverse_from (constants E) (quotient X (constants E).R0) (quotient Y (constants E).R0)

hundredths : (k n : ℕ) → k ≤ 520 → 1000 * n ≤ k * unit → 100 * n ≤ 52 * unit
hundredths k n h l = go (mul-le-mul_right unit h)
  where
    go : k * unit ≤ 520 * unit → 100 * n ≤ 52 * unit
    go m = omega arith

-- in the words of the rules: within 52 hundredths of a tick, with the sign put on
band : {k t : ℕ} (s : Bool) (value : ℤ) → T (leb k 520) → Tick k t (turned s value) → Rounding.Within 52 (turned s (pos t)) value
unfolding turned
band {k} {t} false value u h = record { bound = hundredths k (nat_abs (pos t *ℤ pos unit -ℤ value)) (leb→le k 520 u) h.bound }
band {k} {t} true value u h = record { bound = hundredths k (nat_abs (neg_ℤ (pos t) *ℤ pos unit -ℤ value)) (leb→le k 520 u) (subst (λ n. 1000 * n ≤ k * unit) (sym (abs_neg (pos t *ℤ pos unit -ℤ neg_ℤ value)) ∙ ap nat_abs (law (pos t) value (pos unit))) h.bound) }
  where
    law : (t w U : ℤ) → neg_ℤ (t *ℤ U -ℤ neg_ℤ w) ≡ neg_ℤ t *ℤ U -ℤ w
    law t w U = ring (t ∷ w ∷ U ∷ []) λ ρ e1 e2 e3. simp (Z·ring, e1, e2, e3) (by_ring _ _ _ refl)

-- a point of Examples: rounded, its latitude is 0.2154 tick off, and no bound nearer than that is true
latitude_there : Tick latitude_gap (latitude_ticks GRS_80 (5780000 * 2 ^ 30) (120000 * 2 ^ 30)) (definition GRS_80 (5780000 /10^ 0) (120000 /10^ 0)).B
unfolding worked defined
latitude_there = record { bound = lit≤ tt }

module _ (E : Ellipsoid) (west : Bool) {x y : ℕ} (X Y : ℤ) (m : Mercator west x y X Y) where
  pub latitude_near : Tick latitude_gap (latitude_ticks E x y) (definition E X Y).B
  unfolding latitude_ticks inverse_from tick_e turned
  latitude_near =
      let p = x_angle E X m.low m.high m.near_x in
      let q = y_angle E west Y m.side m.near_y in
      let b = near_latitude E (near_sphere (hyperbolic_cosine (quotient Y (constants E).R0)) (near_sine p) (near_cosh west (quotient Y (constants E).R0) q)) in
      tick_near false _ _ (1003 * S60 / 1000) b.high b.near tt tt

  pub difference_near : Tick 511 (difference_ticks E x y) (turned west (definition E X Y).d)
  unfolding difference_ticks inverse_from tick_e
  difference_near =
      let p = x_angle E X m.low m.high m.near_x in
      let q = y_angle E west Y m.side m.near_y in
      let d = near_difference p west (quotient Y (constants E).R0) q in
      tick_near west _ _ difference_high d.high d.near tt tt

  -- the same in the words of the rules
  pub latitude_band : Rounding.Within 52 (pos (latitude_ticks E x y)) (definition E X Y).B
  unfolding turned
  latitude_band = band false (definition E X Y).B tt latitude_near

  pub difference_band : Rounding.Within 52 (turned west (pos (difference_ticks E x y))) (definition E X Y).d
  difference_band = band west (definition E X Y).d tt difference_near
