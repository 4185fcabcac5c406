-- From Mercator's pair in doubles to lengths in units of 2^-30 m with their side: near the definition's on either side of the meridian. Assumes nothing.
use Rattle.std.specs.Prelude.{Bool, true, false, not, ◌≡◌, refl, List, [], ◌∷◌, ℕ, ◌+◌, ◌*◌, ◌/◌, ◌^◌, ◌≤◌, ◌<◌, ltb, ℤ, pos, neg_ℤ, nat_abs, ◌-ℤ◌, ◌*ℤ◌, Float}
use Rattle.std.proofs.Common.{sym, ◌∙◌, ap, zero-le, le_trans, le_of_eq, mul-pos, zero-mul, arith, lit<}
use Rattle.std.proofs.Math.Path.{subst}
use Rattle.std.proofs.Math.Nat.{zero-div}
use Rattle.std.proofs.Math.IntN.{neg_ℤ-neg_ℤ}
use Rattle.std.specs.Float.{nan, inf, fin}
use Rattle.std.specs.Float.Ieee.{lt, up, down}
use Rattle.arith.specs.Laws.Order.{abs_neg, abs_nonneg}
use Rattle.arith.specs.Laws.Ring.{ring, Z·ring, by_ring, ev_num}
use Rattle.arith.specs.Laws.Close.{Close, close_trans, close_same, close_floor, close_le}
use Rattle.rules.specs.Systems.{Ellipsoid, constants, b_coefficients}
use Rattle.rules.specs.Scaled.{unit, polynomial}
use Rattle.rules.specs.Scaled as scaled
use Rattle.rules.specs.Projection.{centred}
use Rattle.rules.specs.Polynomial.{double_unit}
use Rattle.rules.proofs.Laws.Checks.{ltb_false}
use Rattle.double.specs.declared.Pair.{Pair}
use Rattle.double.specs.Value.{value, magnitude, Number}
use Rattle.double.specs.Complex.{horner}
use Rattle.double.specs.Exact.{doubles}
use Rattle.double.proofs.Laws.Operations.{double_unit_pos}
use Rattle.double.proofs.Laws.Signs.{horner_mirrored}
use Rattle.metres.specs.Metres.{arguments_of}
use Rattle.metres.specs.Millimetres.{truncated}
use Rattle.fixed.specs.Nearness.{NearAt, Near30, turned}
use Rattle.fixed.specs.Laws.Turned.{below_zero}
use Rattle.fixed.proofs.Laws.Turned.{turned_twice}
use Rattle.fixed_inverse.proofs.Laws.Inverse.{Mercator}
use Rattle.projection_worked.specs.Worked.{below_nought}
use Rattle.projection_worked.specs.Inverse.{undone30, centred30, mercator_pair, Boxed}
use Rattle.projection_worked.proofs.Laws.West.{keeps_value, flips_value, mirrored}
use Rattle.projection_worked.proofs.Laws.InverseLengths.{lengths}
use Rattle.projection_worked.proofs.Laws.InverseUndone.{defined_length}
use Rattle.projection_worked.proofs.Laws.InverseUndone.{turn_close, near_of, undone_near, centred_near, centred_small}
use Rattle.projection_worked.proofs.Laws.InversePlane.{inverse_first, inverse_second}
use Rattle.projection_worked.specs.Bounds.{Placed}
use Rattle.projection_worked.proofs.Laws.InverseRange.{box_placed}

-- ---- a double is its size, turned where it is below 0
nothing : (a b : ℕ) → 0 * a * b ≡ 0
nothing a b = omega arith

-- a number of size v with the sign s, where the test that it is below 0 asks whether a + b is above 0
nought_below : (a b v : ℕ) → (a ≡ 0 → v ≡ 0) → turned (ltb 0 (a + b)) (pos (nat_abs (neg_ℤ (pos v)))) ≡ neg_ℤ (pos v)
unfolding turned
nought_below a b v h = go (ltb 0 (a + b)) refl
  where
    zero : (v : ℕ) → v ≡ 0 → pos (nat_abs (neg_ℤ (pos v))) ≡ neg_ℤ (pos v)
    zero v e = subst (λ n. pos (nat_abs (neg_ℤ (pos n))) ≡ neg_ℤ (pos n)) (sym e) refl

    none : a + b ≤ 0 → a ≡ 0
    none l = omega arith

    go : (t : Bool) → ltb 0 (a + b) ≡ t → turned t (pos (nat_abs (neg_ℤ (pos v)))) ≡ neg_ℤ (pos v)
    go true e = ap (λ n. neg_ℤ (pos n)) (abs_neg (pos v))
    go false e = zero v (h (none ((ltb_false 0 (a + b)).0 e)))

pub nought_size : (x : Float) → Number x → turned (below_nought x) (pos (nat_abs (value x))) ≡ value x
unfolding value magnitude turned lt
nought_size nan n = absurd n.is_finite
nought_size (inf s) n = absurd n.is_finite
nought_size (fin false m e) n = ap (λ b. turned b (pos (m * up e * double_unit / down e))) ((ltb_false (m * up e * down (pos 0)) (0 * up (pos 0) * down e)).1 (le_trans (le_of_eq (nothing (up (pos 0)) (down e))) zero-le))
nought_size (fin true m e) n = nought_below (m * up e * down (pos 0)) (0 * up (pos 0) * down e) (m * up e * double_unit / down e) (λ z. ap (λ n. n * double_unit / down e) (once (m * up e) z) ∙ ap (λ n. n / down e) (zero-mul double_unit) ∙ zero-div (down e))
  where
    once : (a : ℕ) → a * 1 ≡ 0 → a ≡ 0
    once a h = omega arith

-- ---- the doubles' answer on the definition's own side
module _ (cs : List ℤ) (n : ℤ) (f : ℕ) (west : Bool) where
  abbrev sized : Pair
  sized = horner (doubles unit cs) (arguments_of n (pos f))

  abbrev sided : Pair
  sided = horner (doubles unit cs) (arguments_of n (turned west (pos f)))

side_first : (cs : List ℤ) (n : ℤ) (f : ℕ) (west : Bool) → value (sided cs n f west).re ≡ value (sized cs n f west).re
unfolding turned
side_first cs n f false = refl
side_first cs n f true = keeps_value (horner_mirrored (doubles unit cs) (arguments_of n (pos f)) (arguments_of n (neg_ℤ (pos f))) (mirrored n (pos f))).stays

side_second : (cs : List ℤ) (n : ℤ) (f : ℕ) (west : Bool) → Number (sized cs n f west).im → value (sided cs n f west).im ≡ turned west (value (sized cs n f west).im)
unfolding turned
side_second cs n f false h = refl
side_second cs n f true h = flips_value h (horner_mirrored (doubles unit cs) (arguments_of n (pos f)) (arguments_of n (neg_ℤ (pos f))) (mirrored n (pos f))).turns

-- ---- cut to whole multiples of 2^-30 m
cut_close : (v : ℤ) → Close (pos (truncated 30 v)) (2 ^ 30) (pos (nat_abs v)) double_unit 1 (2 ^ 30)
unfolding truncated
cut_close v = close_trans (mul-pos (lit< tt) double_unit_pos) (close_floor (pos (nat_abs v * 2 ^ 30)) double_unit (2 ^ 30) double_unit_pos) (close_same (2 ^ 30) (law (pos (nat_abs v)) (pos double_unit)))
  where
    law : (v u : ℤ) → v *ℤ pos (2 ^ 30) *ℤ u ≡ v *ℤ (pos (2 ^ 30) *ℤ u)
    law v u = ring (v ∷ u ∷ []) λ ρ ev eu. simp (Z·ring, ev, eu, ev_num ρ) (by_ring _ _ _ refl)

-- the part v of a pair, whose definition's value is w
cut_near : (v w : ℤ) → Close (pos (nat_abs v)) double_unit w unit 107 (10 ^ 9) → Near30 (truncated 30 v) w (160 * unit)
cut_near v w c = near_of (close_le 160 (2 ^ 30) (close_trans double_unit_pos (close_le 1000000000 (10 ^ 18) (cut_close v) tt tt) (close_le 107000000000 (10 ^ 18) c tt tt)) tt tt)

-- which of two turns is left: one of them turns back what the other turned
abbrev pub differ : Bool → Bool → Bool
differ true b = not b
differ false b = b

pub turned_both : (a b : Bool) (z : ℤ) → turned a (turned b z) ≡ turned (differ a b) z
unfolding turned
turned_both true true z = neg_ℤ-neg_ℤ z
turned_both true false z = refl
turned_both false b z = refl

pub turned_abs : (b : Bool) (z : ℤ) → nat_abs (turned b z) ≡ nat_abs z
unfolding turned
turned_abs true z = abs_neg z
turned_abs false z = refl

-- ---- a point n millimetres north of the offset and b to the east of it (negative to the west)
-- the definition's pair, m0 being M millionths
abbrev pub defined_pair : Ellipsoid → ℕ → ℕ → ℤ → scaled.Pair
defined_pair E M n b = polynomial (b_coefficients (constants E)) (centred (constants E).a0 (record { first = defined_length (pos n) (pos (M * 10 ^ 18)); second = defined_length b (pos (M * 10 ^ 18)) }))

-- the side that the answer lies on
abbrev pub side_of : Ellipsoid → ℕ → ℕ → ℤ → Bool
side_of E M n b = differ (below_zero b) (below_nought (mercator_pair E M n (nat_abs b)).im)

-- in the box
module _ (E : Ellipsoid) (M n : ℕ) (b : ℤ) (box : Boxed M n (nat_abs b)) where
  abbrev pair_of : Pair
  pair_of = mercator_pair E M n (nat_abs b)

  abbrev defined : scaled.Pair
  defined = defined_pair E M n b

  abbrev side : Bool
  side = side_of E M n b

  scale_positive : 0 < M
  scale_positive = let h = box.scale_low in omega arith

  first_near : NearAt (2 ^ 30) (centred30 E (undone30 M n)) (defined_length (pos n) (pos (M * 10 ^ 18)) -ℤ (constants E).a0) (3 * unit)
  unfolding turned
  first_near = centred_near E (undone_near M scale_positive (pos n))

  north_small : nat_abs (centred30 E (undone30 M n)) ≤ 485000 * 2 ^ 30
  north_small = centred_small E (lengths box).low (lengths box).high

  east_small : nat_abs (turned (below_zero b) (pos (undone30 M (nat_abs b)))) ≤ 485000 * 2 ^ 30
  east_small = let h = (lengths box).side in go (below_zero b) (omega arith)
    where
      go : (t : Bool) {k : ℕ} → k ≤ 485000 * 2 ^ 30 → nat_abs (turned t (pos k)) ≤ 485000 * 2 ^ 30
      go t {k} h = le_trans (le_of_eq (turned_abs t (pos k))) h

  is_placed : Placed pair_of
  is_placed = box_placed E box

  -- both parts, on the definition's side
  north_close : Close (value pair_of.re) double_unit defined.first unit 107 (10 ^ 9)
  unfolding mercator_pair centred
  north_close =
      subst (λ v. Close v double_unit defined.first unit 107 (10 ^ 9)) (side_first (b_coefficients (constants E)) (centred30 E (undone30 M n)) (undone30 M (nat_abs b)) (below_zero b))
      (inverse_first (centred30 E (undone30 M n)) (turned (below_zero b) (pos (undone30 M (nat_abs b)))) _ _ first_near (undone_near M scale_positive b) north_small east_small E)

  east_close : Close (turned (below_zero b) (value pair_of.im)) double_unit defined.second unit 107 (10 ^ 9)
  unfolding mercator_pair centred
  east_close =
      subst (λ v. Close v double_unit defined.second unit 107 (10 ^ 9)) (side_second (b_coefficients (constants E)) (centred30 E (undone30 M n)) (undone30 M (nat_abs b)) (below_zero b) is_placed.tame.numbers.im)
      (inverse_second (centred30 E (undone30 M n)) (turned (below_zero b) (pos (undone30 M (nat_abs b)))) _ _ first_near (undone_near M scale_positive b) north_small east_small E)

  east_size : Close (pos (nat_abs (value pair_of.im))) double_unit (turned side defined.second) unit 107 (10 ^ 9)
  east_size =
      subst (λ v. Close v double_unit (turned side defined.second) unit 107 (10 ^ 9))
      (ap (λ z. turned side (turned (below_zero b) z)) (sym (nought_size pair_of.im is_placed.tame.numbers.im)) ∙ ap (turned side) (turned_both (below_zero b) (below_nought pair_of.im) (pos (nat_abs (value pair_of.im)))) ∙ turned_twice side (pos (nat_abs (value pair_of.im))))
      (turn_close side east_close)

  -- what the fixed-point inverse asks
  pub mercator : Mercator side (truncated 30 (value pair_of.re)) (truncated 30 (value pair_of.im)) defined.first defined.second
  mercator = record {
    low = is_placed.low;
    high = is_placed.high;
    side = is_placed.side;
    near_x = cut_near (value pair_of.re) defined.first (subst (λ v. Close v double_unit defined.first unit 107 (10 ^ 9)) (sym (abs_nonneg (value pair_of.re) is_placed.positive)) north_close);
    near_y = cut_near (value pair_of.im) (turned side defined.second) east_size;
  }
