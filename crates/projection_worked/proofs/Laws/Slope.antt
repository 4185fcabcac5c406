-- The derivative in doubles: its first part lies between 499,000 and 501,000 m and its second below 135 m, for every point that is taken. Assumes nothing.
use Rattle.std.specs.Prelude.{◌≡◌, List, [], ◌∷◌, ℕ, suc, ◌+◌, ◌*◌, ◌^◌, ◌≤◌, ◌<◌, length, ℤ, pos, nat_abs, ◌+ℤ◌, ◌-ℤ◌, ◌*ℤ◌, ◌≤ℤ◌, ◌<ℤ◌}
use Rattle.std.proofs.Common.{sym, ◌∙◌, ap, subst₂, le_trans, le_of_eq, mul-le-mul_right, mul-le-mul_left, le_of_mul-le-mul_right, zero-mul, arith, lit<, lit≤, le→leb, lt→ltb}
use Rattle.std.proofs.Math.IntN.{*ℤ_comm}
use Rattle.arith.specs.Laws.Diff.{◌⊖◌, Z·ℕ, lin}
use Rattle.arith.specs.Laws.Order.{abs_mul, *ℤ_cancel-≤}
use Rattle.rules.specs.Systems.{Ellipsoid, GRS_80, Krasovsky, constants, a_coefficients}
use Rattle.rules.specs.Scaled.{unit, derivative, weighted}
use Rattle.rules.specs.Polynomial.{double_unit}
use Rattle.double.specs.declared.Pair.{Pair}
use Rattle.double.specs.Value.{value}
use Rattle.double.specs.Complex.{horner}
use Rattle.double.specs.Exact.{weight, doubles}
use Rattle.double.specs.Bound.{Light, Inside, reach}
use Rattle.double.proofs.Laws.Systems.{derivative_light}
use Rattle.projection_worked.proofs.Laws.InverseLine.{first_line, second_line}
use Rattle.projection_worked.specs.Bounds.{Sloped}

-- a part a over u of an answer that is c + x·c1 but for 11 m
size_above : (a w : ℤ) (k p q : ℕ) → nat_abs (a -ℤ w) ≤ k → pos q ≤ℤ w → p + k ≤ q → pos p ≤ℤ a
size_above a w k p q = lin (a ∷ w ∷ []) λ u v ea ew. simp (Z·ℕ, ea, ew) (omega arith)

size_below : (a w : ℤ) (k p q : ℕ) → nat_abs (a -ℤ w) ≤ k → nat_abs w ≤ p → p + k ≤ q → nat_abs a ≤ q
size_below a w k p q = lin (a ∷ w ∷ []) λ u v ea ew. simp (Z·ℕ, ea, ew) (omega arith)

sum_above : (c y : ℤ) (C k q : ℕ) → pos q ≤ℤ c → nat_abs y ≤ k → C + k ≤ q → pos C ≤ℤ (c +ℤ y)
sum_above c y C k q = lin (c ∷ y ∷ []) λ u v ec ey. simp (Z·ℕ, ec, ey) (omega arith)

sum_below : (c y : ℤ) (C k : ℕ) → nat_abs c ≤ C → nat_abs y ≤ k → nat_abs (c +ℤ y) ≤ C + k
sum_below c y C k = lin (c ∷ y ∷ []) λ u v ec ey. simp (Z·ℕ, ec, ey) (omega arith)

-- what the two terms are: the first coefficient C over 10^24, and x·c1 with x of at most 1.2
slope_term : (x c1 : ℤ) → 10 * nat_abs x ≤ 12 * double_unit → nat_abs c1 ≤ 128 * unit → nat_abs (x *ℤ c1) ≤ 154 * (unit * double_unit)
slope_term x c1 h g = le_trans (le_of_eq (abs_mul x c1)) (go (nat_abs x) (nat_abs c1) unit double_unit h g)
  where
    go : (x c t u : ℕ) → 10 * x ≤ 12 * u → c ≤ 128 * t → x * c ≤ 154 * (t * u)
    go x c t u h g = let a = mul-le-mul_right c h in let b = mul-le-mul_left (12 * u) g in omega arith

narrow_term : (x c1 : ℤ) → 100 * nat_abs x ≤ 98 * double_unit → nat_abs c1 ≤ 128 * unit → nat_abs (x *ℤ c1) ≤ 126 * (unit * double_unit)
narrow_term x c1 h g = le_trans (le_of_eq (abs_mul x c1)) (go (nat_abs x) (nat_abs c1) unit double_unit h g)
  where
    go : (x c t u : ℕ) → 100 * x ≤ 98 * u → c ≤ 128 * t → x * c ≤ 126 * (t * u)
    go x c t u h g = let a = mul-le-mul_right c h in let b = mul-le-mul_left (98 * u) g in omega arith

positive : {n : ℕ} → 0 < n → pos 0 <ℤ pos n
positive h = record { lt = lt→ltb _ _ h }

module _ (C : ℕ) (c1 : ℤ) (cs : List ℤ) (z : Pair) (l : Light unit (pos C) (c1 ∷ cs) reach 8000000) (i : Inside z reach)
    (w : reach * (reach * weight double_unit cs reach) ≤ 10 * (unit * double_unit ^ suc (length cs)))
    (c_low : 499700 * unit ≤ C) (c_high : C ≤ 499900 * unit) (c1_small : nat_abs c1 ≤ 128 * unit)
    (x_small : 10 * nat_abs (value z.re) ≤ 12 * double_unit) (y_small : 100 * nat_abs (value z.im) ≤ 98 * double_unit) where
  abbrev H : Pair
  H = horner (doubles unit (pos C ∷ c1 ∷ cs)) z

  abbrev TU : ℕ
  TU = unit * double_unit

  first_coefficient : pos (499700 * TU) ≤ℤ (pos C *ℤ pos double_unit)
  first_coefficient = record { le = le→leb _ _ (le_trans (le_of_eq (turn unit double_unit)) (mul-le-mul_right double_unit c_low)) }
    where
      turn : (t u : ℕ) → 499700 * (t * u) ≡ 499700 * t * u
      turn t u = omega arith

  pub first_low : pos (499000 * double_unit) ≤ℤ value H.re
  first_low =
      *ℤ_cancel-≤ (pos unit) (pos (499000 * double_unit)) (value H.re) (record { lt = tt })
      (subst₂ ◌≤ℤ◌ (ap pos (turn unit double_unit)) (*ℤ_comm (value H.re) (pos unit))
      (size_above (value H.re *ℤ pos unit) _ (11 * TU) (499000 * TU) (499500 * TU) (first_line (pos C) c1 cs z reach 10 l i w)
      (sum_above (pos C *ℤ pos double_unit) (value z.re *ℤ c1) (499500 * TU) (154 * TU) (499700 * TU) first_coefficient (slope_term (value z.re) c1 x_small c1_small) (less TU)) (more TU)))
    where
      turn : (t u : ℕ) → 499000 * (t * u) ≡ t * (499000 * u)
      turn t u = omega arith

      less : (k : ℕ) → 499500 * k + 154 * k ≤ 499700 * k
      less k = omega arith

      more : (k : ℕ) → 499000 * k + 11 * k ≤ 499500 * k
      more k = omega arith

  cancel : (a : ℤ) (k : ℕ) → nat_abs (a *ℤ pos unit) ≤ k * TU → nat_abs a ≤ k * double_unit
  cancel a k h = le_of_mul-le-mul_right {k = unit} (le_trans (le_of_eq (sym (abs_mul a (pos unit)))) (le_trans h (le_of_eq (turn k unit double_unit)))) (lit< tt)
    where
      turn : (k t u : ℕ) → k * (t * u) ≡ k * u * t
      turn k t u = omega arith

  pub first_high : nat_abs (value H.re) ≤ 501000 * double_unit
  first_high =
      cancel (value H.re) 501000
      (size_below (value H.re *ℤ pos unit) (pos C *ℤ pos double_unit +ℤ value z.re *ℤ c1) (11 * TU) (499900 * TU + 154 * TU) (501000 * TU) (first_line (pos C) c1 cs z reach 10 l i w)
      (sum_below (pos C *ℤ pos double_unit) (value z.re *ℤ c1) (499900 * TU) (154 * TU) (le_trans (mul-le-mul_right double_unit c_high) (le_of_eq (turn unit double_unit))) (slope_term (value z.re) c1 x_small c1_small)) (more TU))
    where
      turn : (t u : ℕ) → 499900 * t * u ≡ 499900 * (t * u)
      turn t u = omega arith

      more : (k : ℕ) → 499900 * k + 154 * k + 11 * k ≤ 501000 * k
      more k = omega arith

  pub second_high : nat_abs (value H.im) ≤ 137 * double_unit
  second_high =
      cancel (value H.im) 137
      (size_below (value H.im *ℤ pos unit) (pos 0 *ℤ pos double_unit +ℤ value z.im *ℤ c1) (11 * TU) (0 * TU + 126 * TU) (137 * TU) (second_line (pos C) c1 cs z reach 10 l i w)
      (sum_below (pos 0 *ℤ pos double_unit) (value z.im *ℤ c1) (0 * TU) (126 * TU) (le_of_eq (zero-mul double_unit ∙ sym (zero-mul TU))) (narrow_term (value z.im) c1 y_small c1_small)) (more TU))
    where
      more : (k : ℕ) → 0 * k + 126 * k + 11 * k ≤ 137 * k
      more k = omega arith

-- ---- both ellipsoids
pub sloped : (E : Ellipsoid) (z : Pair) → Inside z reach → 10 * nat_abs (value z.re) ≤ 12 * double_unit → 100 * nat_abs (value z.im) ≤ 98 * double_unit
    → Sloped (horner (doubles unit (derivative (a_coefficients (constants E)))) z)
unfolding a_coefficients constants derivative weighted weight reach double_unit
sloped GRS_80 z i x y =
    let l = derivative_light GRS_80 in
    record { first_low = first_low _ _ _ z l i (lit≤ tt) (lit≤ tt) (lit≤ tt) (lit≤ tt) x y; first_high = first_high _ _ _ z l i (lit≤ tt) (lit≤ tt) (lit≤ tt) (lit≤ tt) x y; second_high = second_high _ _ _ z l i (lit≤ tt) (lit≤ tt) (lit≤ tt) (lit≤ tt) x y }
sloped Krasovsky z i x y =
    let l = derivative_light Krasovsky in
    record { first_low = first_low _ _ _ z l i (lit≤ tt) (lit≤ tt) (lit≤ tt) (lit≤ tt) x y; first_high = first_high _ _ _ z l i (lit≤ tt) (lit≤ tt) (lit≤ tt) (lit≤ tt) x y; second_high = second_high _ _ _ z l i (lit≤ tt) (lit≤ tt) (lit≤ tt) (lit≤ tt) x y }
