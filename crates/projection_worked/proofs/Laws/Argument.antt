-- z: from whole multiples of 2^-30 m to the doubles' z, against the definition's z over 10^24. Assumes nothing.
use Rattle.std.specs.Prelude.{◌≡◌, refl, [], ◌∷◌, ℕ, ◌+◌, ◌*◌, ◌^◌, ◌≤◌, ◌<◌, T, leb, ℤ, pos, nat_abs, ◌-ℤ◌, ◌*ℤ◌}
use Rattle.std.proofs.Common.{le_trans, le_of_eq, mul-le-mul_right, mul-le-mul_left, arith, lit<}
use Rattle.std.proofs.Math.Nat.{le_of_mul-le-mul_left}
use Rattle.arith.specs.Laws.Ring.{ring, Z·ring, by_ring, ev_num}
use Rattle.arith.specs.Laws.Close.{Close, close_trans, close_sym, close_over, close_same, close_floor, close_le}
use Rattle.rules.specs.Scaled.{unit, product}
use Rattle.rules.specs.Scaled as scaled
use Rattle.rules.specs.Projection.{two_millionths}
use Rattle.rules.specs.Polynomial.{double_unit}
use Rattle.double.specs.declared.Pair.{Pair}
use Rattle.double.specs.Bound.{Apart}
use Rattle.double.proofs.Laws.Modulus.{modulus_parts}
use Rattle.double.specs.Value.{value}
use Rattle.metres.specs.Metres.{argument_of}
use Rattle.metres.specs.Laws.Into.{per_one, argument_near}
use Rattle.fixed.specs.Nearness.{NearAt}
use Rattle.projection_worked.specs.Bounds.{limit30}

-- two roundings: a part of z is n over 2^30·500,000 within 10^-15
pub argument_close : (n : ℤ) → nat_abs n ≤ limit30 → Close (value (argument_of n)) double_unit n per_one 1 (10 ^ 15)
argument_close n h = record { gap = go (nat_abs (value (argument_of n) *ℤ pos per_one -ℤ n *ℤ pos double_unit)) (nat_abs n) double_unit (argument_near n (small h)) h }
  where
    small : {k : ℕ} → k ≤ limit30 → k < 2 ^ 53
    small h = omega arith

    go : (a k u : ℕ) → 2 ^ 53 * a ≤ 3 * (k * u) → k ≤ limit30 → 10 ^ 15 * a ≤ 1 * (u * per_one)
    go a k u h g = let f = mul-le-mul_right u g in omega arith

-- a length near the definition's, in units of 2^-30 m
pub length_close : {n w : ℤ} (k : ℕ) → NearAt (2 ^ 30) n w (k * unit) → Close n (2 ^ 30) w unit k (2 ^ 30)
length_close {n} {w} k h = record { gap = le_trans (mul-le-mul_left (2 ^ 30) h.gap.within) (le_of_eq (go k unit)) }
  where
    go : (k t : ℕ) → 2 ^ 30 * (k * t) ≡ k * (2 ^ 30 * t)
    go k t = omega arith

-- the definition's part of z, floor(w·0.000002), is w over 500,000·10^24 but for a unit
pub part_close : (w : ℤ) → Close w (500000 * unit) (product w two_millionths) unit 1 unit
unfolding product
part_close w = close_sym (close_trans (lit< tt) (close_floor (w *ℤ two_millionths) unit unit (lit< tt)) (close_same unit (law w)))
  where
    law : (w : ℤ) → w *ℤ two_millionths *ℤ pos (500000 * unit) ≡ w *ℤ pos (unit * unit)
    law w = ring (w ∷ []) λ ρ ew. simp (Z·ring, ew, ev_num ρ) (by_ring _ _ _ refl)

-- a part of z against the definition's, of a length within k units of 2^-30 m: f parts in 10^16, and a little
pub z_close : {n w : ℤ} (k f : ℕ) → NearAt (2 ^ 30) n w (k * unit) → nat_abs n ≤ limit30 → T (leb (k * 10 ^ 16) (f * (500000 * 2 ^ 30)))
    → Close (value (argument_of n)) double_unit (product w two_millionths) unit (10 + f + 1) (10 ^ 16)
z_close {n} {w} k f h g t =
    close_trans (lit< tt)
    (close_trans (lit< tt) (close_le 10 (10 ^ 16) (argument_close n g) tt tt) (close_le f (10 ^ 16) (close_over 500000 (length_close k h)) tt t))
    (close_le 1 (10 ^ 16) (part_close w) tt tt)

-- ---- both parts: how far the doubles' z is from the definition's
apart_part : (v w : ℤ) (e : ℕ) → Close v double_unit w unit e (10 ^ 16) → nat_abs (v *ℤ pos unit -ℤ w *ℤ pos double_unit) ≤ e * 10 ^ 8 * double_unit
apart_part v w e c = le_of_mul-le-mul_left {k = 10 ^ 16} (le_trans c.gap (le_of_eq (go e double_unit))) (lit< tt)
  where
    go : (e u : ℕ) → e * (u * unit) ≡ 10 ^ 16 * (e * 10 ^ 8 * u)
    go e u = omega arith

pub apart : (z : Pair) (w : scaled.Pair) (e f : ℕ) → Close (value z.re) double_unit w.first unit e (10 ^ 16) → Close (value z.im) double_unit w.second unit f (10 ^ 16)
    → Apart z w (e * 10 ^ 8 * double_unit + f * 10 ^ 8 * double_unit)
apart z w e f a b = record { apart = modulus_parts _ _ _ (apart_part _ _ e a) (apart_part _ _ f b) }
