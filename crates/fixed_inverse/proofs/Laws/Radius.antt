-- A length over R0: a whole number of 2^-30 m times 2^82 / R0, against the definition's quotient, on either side of 0. Assumes nothing.
use Rattle.std.specs.Prelude.{Bool, false, ◌≡◌, refl, [], ◌∷◌, ℕ, ◌+◌, ◌*◌, ◌-◌, ◌/◌, ◌^◌, ◌<◌, ◌≤◌, ℤ, pos, ◌+ℤ◌, ◌-ℤ◌, ◌*ℤ◌}
use Rattle.std.proofs.Common.{sym, subst, le_refl, le_trans, mul-le-mul_right, arith, leb→le, ltb→lt, lit<}
use Rattle.arith.specs.Laws.Ring.{ring, Z·ring, by_ring, ev_num}
use Rattle.arith.specs.Laws.Within.{by_abs, w_num, w_add, w_sub, w_mul}
use Rattle.rules.specs.Scaled.{unit, quotient}
use Rattle.rules.specs.Systems.{Ellipsoid, GRS_80, Krasovsky, constants}
use Rattle.fixed.specs.Worked.{S60}
use Rattle.fixed.specs.Nearness.{Near60, Near30, Fixed, Ratio, turned}
use Rattle.fixed.specs.Relations.{Mul60}
use Rattle.fixed.proofs.Laws.Words.{mul60_is}
use Rattle.fixed.proofs.Laws.Bounds.{w_div, w_same, w_pos, w_rest}
use Rattle.fixed.proofs.Laws.Products.{near_le, mul_rest, mul_high, mul_low}
use Rattle.fixed.proofs.Laws.Quotients.{ratio_div}
use Rattle.fixed.proofs.Laws.Turned.{ratio_turned}
use Rattle.fixed_inverse.specs.Worked.{over_radius, angle60}
use Rattle.fixed_inverse.specs.Laws.Radius.{NearTest, SizeTest, p_high, p_low, q_high, radius_e, radius_of, x_high, x_low, y_high}

pub near_radius : {x p e : ℕ} {X P : ℤ} (R i hx : ℕ) → 0 < R * S60 → Mul60 i (x * 2 ^ 8) p → x ≤ hx → Near30 x X e → Ratio P X (pos R) 1 → Near60 p P (radius_e R i hx e)
unfolding radius_e
near_radius {x} {p} {e} {X} {P} R i hx h m k n r = record {
  gap = w_div (pos p *ℤ pos unit -ℤ P *ℤ pos S60) (R * S60) _ h
      (w_same _ (law (pos x) (pos p) (pos i) (pos R) (pos unit) X P)
      (w_sub
      (w_sub
      (w_add (w_mul (w_num (2 ^ 90 * unit)) n.gap) (w_mul (w_mul (w_mul (w_pos k) (w_num (2 ^ 8))) (w_num unit)) (by_abs (pos i *ℤ pos R -ℤ pos (2 ^ 82) *ℤ pos unit) (le_refl _))))
      (w_mul (w_num (S60 * S60)) r.gap))
      (w_mul (w_num (unit * R)) (w_rest (i * (x * 2 ^ 8)) (p * S60) (2 * S60) m.lo (mul_rest m)))));
}
  where
    law : (x p i R U X P : ℤ)
        → (pos (2 ^ 90) *ℤ U) *ℤ (x *ℤ U -ℤ X *ℤ pos (2 ^ 30)) +ℤ (x *ℤ pos (2 ^ 8) *ℤ U) *ℤ (i *ℤ R -ℤ pos (2 ^ 82) *ℤ U) -ℤ (pos S60 *ℤ pos S60) *ℤ (P *ℤ R -ℤ X *ℤ U) -ℤ (U *ℤ R) *ℤ (i *ℤ (x *ℤ pos (2 ^ 8)) -ℤ p *ℤ pos S60)
        ≡ (p *ℤ U -ℤ P *ℤ pos S60) *ℤ (R *ℤ pos S60)
    law x p i R U X P = ring (x ∷ p ∷ i ∷ R ∷ U ∷ X ∷ P ∷ []) λ ρ e1 e2 e3 e4 e5 e6 e7. simp (Z·ring, ev_num ρ, e1, e2, e3, e4, e5, e6, e7) (by_ring _ _ _ refl)

radius_is : (E : Ellipsoid) → (constants E).R0 ≡ pos (radius_of E)
unfolding constants radius_of
radius_is GRS_80 = refl
radius_is Krasovsky = refl

radius_positive : (E : Ellipsoid) → 0 < radius_of E
unfolding radius_of
radius_positive GRS_80 = lit< tt
radius_positive Krasovsky = lit< tt

radius_ratio : (E : Ellipsoid) (s : Bool) (X : ℤ) → Ratio (turned s (quotient X (constants E).R0)) (turned s X) (pos (radius_of E)) 1
radius_ratio E s X = subst (λ r. Ratio (turned s (quotient X r)) (turned s X) (pos (radius_of E)) 1) (sym (radius_is E)) (ratio_turned s (ratio_div X (pos (radius_of E)) (radius_positive E)))

module _ (E : Ellipsoid) (lo hi l h : ℕ) {x : ℕ} (a : lo ≤ x) (b : x ≤ hi) (t : SizeTest E lo hi l h) where
  angle_mul : Mul60 (over_radius E) (x * 2 ^ 8) (angle60 E x)
  unfolding angle60
  angle_mul = mul60_is (over_radius E) (x * 2 ^ 8) (leb→le (over_radius E) (2 ^ 61) t.1) (le_trans (mul-le-mul_right (2 ^ 8) b) (leb→le (hi * 2 ^ 8) (2 ^ 61) t.0))

  angle_size : (l ≤ angle60 E x) × (angle60 E x ≤ h)
  angle_size = (le_trans (leb→le l _ t.2) (mul_low angle_mul (le_refl (over_radius E)) (mul-le-mul_right (2 ^ 8) a)), le_trans (mul_high angle_mul (le_refl (over_radius E)) (mul-le-mul_right (2 ^ 8) b)) (leb→le _ h t.3))

  fix_angle : (s : Bool) (X : ℤ) (e : ℕ) → Near30 x (turned s X) (160 * unit) → NearTest E hi e → Fixed (angle60 E x) (turned s (quotient X (constants E).R0)) e l h
  fix_angle s X e n u = record {
    near = near_le e (near_radius (radius_of E) (over_radius E) hi (ltb→lt 0 (radius_of E * S60) u.0) angle_mul b n (radius_ratio E s X)) u.1;
    low = angle_size.0;
    high = angle_size.1;
  }

x_fits : (E : Ellipsoid) → SizeTest E x_low x_high p_low p_high
unfolding over_radius
x_fits GRS_80 = (tt, tt, tt, tt)
x_fits Krasovsky = (tt, tt, tt, tt)

y_fits : (E : Ellipsoid) → SizeTest E 0 y_high 0 q_high
unfolding over_radius
y_fits GRS_80 = (tt, tt, tt, tt)
y_fits Krasovsky = (tt, tt, tt, tt)

x_tests : (E : Ellipsoid) → NearTest E x_high (27000 * unit)
unfolding radius_e over_radius radius_of
x_tests GRS_80 = (tt, tt)
x_tests Krasovsky = (tt, tt)

y_tests : (E : Ellipsoid) → NearTest E y_high (27000 * unit)
unfolding radius_e over_radius radius_of
y_tests GRS_80 = (tt, tt)
y_tests Krasovsky = (tt, tt)

not_below_zero : (n : ℕ) → 0 ≤ n
not_below_zero n = omega arith

pub x_size : (E : Ellipsoid) {x : ℕ} → x_low ≤ x → x ≤ x_high → (p_low ≤ angle60 E x) × (angle60 E x ≤ p_high)
x_size E a b = angle_size E x_low x_high p_low p_high a b (x_fits E)

pub y_size : (E : Ellipsoid) {y : ℕ} → y ≤ y_high → angle60 E y ≤ q_high
y_size E {y} b = (angle_size E 0 y_high 0 q_high (not_below_zero y) b (y_fits E)).1

pub x_angle : (E : Ellipsoid) (X : ℤ) {x : ℕ} → x_low ≤ x → x ≤ x_high → Near30 x X (160 * unit) → Fixed (angle60 E x) (quotient X (constants E).R0) (27000 * unit) p_low p_high
unfolding turned
x_angle E X a b n = fix_angle E x_low x_high p_low p_high a b (x_fits E) false X (27000 * unit) n (x_tests E)

pub y_angle : (E : Ellipsoid) (s : Bool) (Y : ℤ) {y : ℕ} → y ≤ y_high → Near30 y (turned s Y) (160 * unit) → Fixed (angle60 E y) (turned s (quotient Y (constants E).R0)) (27000 * unit) 0 q_high
y_angle E s Y {y} b n = fix_angle E 0 y_high 0 q_high (not_below_zero y) b (y_fits E) s Y (27000 * unit) n (y_tests E)
