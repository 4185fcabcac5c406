-- Where Mercator's pair lies: over the box of refusal 4 it stays in the range of the fixed-point inverse, by the first two terms of either table. Assumes nothing.
use Rattle.std.specs.Prelude.{◌≡◌, refl, List, [], ◌∷◌, ℕ, suc, ◌+◌, ◌*◌, ◌^◌, ◌≤◌, length, ℤ, pos, nat_abs, ◌+ℤ◌, ◌-ℤ◌, ◌*ℤ◌, ◌≤ℤ◌}
use Rattle.std.proofs.Common.{sym, ap, subst, le_trans, le_of_eq, mul-le-mul_left, le-add_left, lit<, lit≤}
use Rattle.arith.specs.Laws.Order.{≤ℤ_trans, nn_num}
use Rattle.arith.specs.Laws.Ring.{ring, Z·ring, by_ring, ev_num}
use Rattle.arith.specs.Laws.Close.{Close}
use Rattle.rules.specs.Systems.{Ellipsoid, GRS_80, Krasovsky, constants, b_coefficients}
use Rattle.rules.specs.Scaled.{unit}
use Rattle.rules.specs.Polynomial.{double_unit}
use Rattle.double.specs.declared.Pair.{Pair}
use Rattle.double.specs.Value.{value}
use Rattle.double.specs.Complex.{horner}
use Rattle.double.specs.Exact.{weight, doubles}
use Rattle.double.specs.Bound.{Light, LightTable, Inside, reach}
use Rattle.double.proofs.Laws.Systems.{inverse_light}
use Rattle.projection_worked.specs.Inverse.{centre30, centred30, mercator_pair, side_km, Boxed}
use Rattle.projection_worked.proofs.Laws.Size.{tame}
use Rattle.projection_worked.proofs.Laws.InverseLengths.{Lengths, lengths, north_in_range, east_in_range}
use Rattle.metres.specs.Metres.{arguments_of}
use Rattle.metres.specs.Laws.Into.{per_one, arguments_inside}
use Rattle.projection_worked.specs.Bounds.{Placed}
use Rattle.projection_worked.proofs.Laws.Argument.{argument_close}
use Rattle.projection_worked.proofs.Laws.InverseLine.{part_length, first_line, second_line, close_above, close_under, truncated_low, truncated_high, line_low, line_high}

-- ---- the two tables
-- b0 is the same on both ellipsoids
abbrev base : ℕ
base = 5760000 * 10 ^ 24

unfoldable slope : Ellipsoid → ℕ
slope GRS_80 = 500199_26224125 * 10 ^ 16
slope Krasovsky = 500199_20821246 * 10 ^ 16

tail_of : Ellipsoid → List ℤ
tail_of E = (constants E).b2 ∷ (constants E).b3 ∷ (constants E).b4 ∷ (constants E).b5 ∷ (constants E).b6 ∷ []

table_is : (E : Ellipsoid) → b_coefficients (constants E) ≡ pos base ∷ pos (slope E) ∷ tail_of E
unfolding b_coefficients constants slope tail_of
table_is GRS_80 = refl
table_is Krasovsky = refl

tail_weighs : (E : Ellipsoid) → reach * (reach * weight double_unit (tail_of E) reach) ≤ 250 * (unit * double_unit ^ suc (length (tail_of E)))
unfolding constants tail_of weight reach double_unit
tail_weighs GRS_80 = lit≤ tt
tail_weighs Krasovsky = lit≤ tt

slope_small : (E : Ellipsoid) → slope E ≤ 10 ^ 15 * unit
unfolding slope
slope_small GRS_80 = lit≤ tt
slope_small Krasovsky = lit≤ tt

table_light : (E : Ellipsoid) → Light unit (pos base) (pos (slope E) ∷ tail_of E) reach 8000000
table_light E = subst (λ cs. LightTable unit cs reach 8000000) (table_is E) (inverse_light E)

-- the ends of the box, through the first two terms
low_end : (E : Ellipsoid) → (5294000 + 252) * (unit * per_one) + slope E * centre30 E ≤ base * per_one + slope E * (5300000 * 2 ^ 30)
unfolding slope centre30
low_end GRS_80 = lit≤ tt
low_end Krasovsky = lit≤ tt

high_end : (E : Ellipsoid) → base * per_one + slope E * (6250000 * 2 ^ 30) ≤ 6245748 * (unit * per_one) + slope E * centre30 E
unfolding slope centre30
high_end GRS_80 = lit≤ tt
high_end Krasovsky = lit≤ tt

side_end : (E : Ellipsoid) → slope E * (side_km * 1000 * 2 ^ 30) ≤ 420748 * (unit * per_one)
unfolding slope
side_end GRS_80 = lit≤ tt
side_end Krasovsky = lit≤ tt

module _ (E : Ellipsoid) {g f : ℕ} (b : Lengths g f) where
  abbrev z_of : Pair
  z_of = arguments_of (centred30 E g) (pos f)

  abbrev pair_of : Pair
  pair_of = horner (doubles unit (b_coefficients (constants E))) z_of

  z_inside : Inside z_of reach
  z_inside = arguments_inside (centred30 E g) (pos f) (north_in_range b E) (east_in_range b)

  first_close : Close (value pair_of.re) double_unit (pos base *ℤ pos per_one +ℤ pos (slope E) *ℤ centred30 E g) (unit * per_one) 252 1
  first_close =
      part_length (value pair_of.re) (value z_of.re) (pos base) (pos (slope E)) (centred30 E g) unit double_unit 250
      (subst (λ cs. nat_abs (value (horner (doubles unit cs) z_of).re *ℤ pos unit -ℤ (pos base *ℤ pos double_unit +ℤ value z_of.re *ℤ pos (slope E))) ≤ (250 + 1) * (unit * double_unit)) (sym (table_is E)) (first_line (pos base) (pos (slope E)) (tail_of E) z_of reach 250 (table_light E) z_inside (tail_weighs E)))
      (argument_close (centred30 E g) (north_in_range b E)) (slope_small E)

  second_close : Close (value pair_of.im) double_unit (pos 0 *ℤ pos per_one +ℤ pos (slope E) *ℤ pos f) (unit * per_one) 252 1
  second_close =
      part_length (value pair_of.im) (value z_of.im) (pos 0) (pos (slope E)) (pos f) unit double_unit 250
      (subst (λ cs. nat_abs (value (horner (doubles unit cs) z_of).im *ℤ pos unit -ℤ (pos 0 *ℤ pos double_unit +ℤ value z_of.im *ℤ pos (slope E))) ≤ (250 + 1) * (unit * double_unit)) (sym (table_is E)) (second_line (pos base) (pos (slope E)) (tail_of E) z_of reach 250 (table_light E) z_inside (tail_weighs E)))
      (argument_close (pos f) (east_in_range b)) (slope_small E)

  north_low : pos (5294000 * double_unit) ≤ℤ value pair_of.re
  unfolding centred30
  north_low = close_above (value pair_of.re) _ double_unit (unit * per_one) 252 5294000 (lit< tt) first_close (line_low base (slope E) (centre30 E) g per_one (5300000 * 2 ^ 30) ((5294000 + 252) * (unit * per_one)) b.low (low_end E))

  north_high : nat_abs (value pair_of.re) ≤ 6246000 * double_unit
  unfolding centred30
  north_high = close_under (value pair_of.re) _ double_unit (unit * per_one) 252 6245748 (lit< tt) first_close (line_high base (slope E) (centre30 E) g per_one (5300000 * 2 ^ 30) (6250000 * 2 ^ 30) (6245748 * (unit * per_one)) b.low b.high (le_trans (le-add_left _ ((5294000 + 252) * (unit * per_one))) (low_end E)) (high_end E))

  east_high : nat_abs (value pair_of.im) ≤ 421000 * double_unit
  east_high = close_under (value pair_of.im) _ double_unit (unit * per_one) 252 420748 (lit< tt) second_close (le_trans (le_of_eq (ap nat_abs (plain (pos (slope E) *ℤ pos f) (pos per_one)))) (le_trans (mul-le-mul_left (slope E) b.side) (side_end E)))
    where
      plain : (a p : ℤ) → pos 0 *ℤ p +ℤ a ≡ a
      plain a p = ring (a ∷ p ∷ []) λ ρ ea ep. simp (Z·ring, ev_num ρ, ea, ep) (by_ring _ _ _ refl)

  pub placed : Placed pair_of
  placed = record {
    tame = tame (b_coefficients (constants E)) z_of reach (inverse_light E) z_inside;
    positive = ≤ℤ_trans (nn_num (5294000 * double_unit)) north_low;
    low = truncated_low (value pair_of.re) 5294000 north_low;
    high = truncated_high (value pair_of.re) 6246000 north_high;
    side = truncated_high (value pair_of.im) 421000 east_high;
  }

-- of a point in the box of refusal 4
pub box_placed : (E : Ellipsoid) {M n m : ℕ} → Boxed M n m → Placed (mercator_pair E M n m)
unfolding mercator_pair
box_placed E b = placed E (lengths b)
