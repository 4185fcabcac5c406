-- Mercator's pair: the polynomial in doubles at the worked z, against the definition's polynomial at its own z, on either side of the meridian. Assumes nothing.
use Rattle.std.specs.Prelude.{◌≡◌, [], ◌∷◌, ℕ, ◌+◌, ◌*◌, ◌^◌, ◌≤◌, ◌<◌, T, leb, ℤ, pos, nat_abs, ◌-ℤ◌, ◌*ℤ◌}
use Rattle.std.proofs.Common.{sym, ap, subst, le_trans, le_of_eq, mul-le-mul_right, mul-le-mul_left, arith, lit<, lit≤, leb→le}
use Rattle.std.proofs.Math.Nat.{le_of_mul-le-mul_left}
use Rattle.arith.specs.Laws.Diff.{Z·ℕ, lin}
use Rattle.arith.specs.Laws.Order.{abs_mul}
use Rattle.arith.specs.Laws.Close.{Close, close_trans, close_sym, close_le}
use Rattle.rules.specs.Systems.{Ellipsoid, constants, b_coefficients}
use Rattle.rules.specs.Scaled.{unit, product, polynomial}
use Rattle.rules.specs.Scaled as scaled
use Rattle.rules.specs.Projection.{two_millionths}
use Rattle.rules.specs.Polynomial.{double_unit}
use Rattle.double.specs.declared.Pair.{Pair}
use Rattle.double.specs.Value.{value}
use Rattle.double.specs.Complex.{horner}
use Rattle.double.specs.Pairs.{Modulus}
use Rattle.double.specs.Exact.{doubles}
use Rattle.double.specs.Bound.{Inside, Apart, Defined, reach, reach_24}
use Rattle.double.proofs.Laws.Operations.{double_unit_pos}
use Rattle.double.proofs.Laws.Systems.{small_reach, inverse_defined}
use Rattle.metres.specs.Metres.{arguments_of}
use Rattle.metres.specs.Laws.Into.{per_one, arguments_inside}
use Rattle.fixed.specs.Nearness.{NearAt}
use Rattle.projection_worked.proofs.Laws.Argument.{argument_close, z_close, apart}
use Rattle.projection_worked.proofs.Laws.InverseUndone.{to_limit}

-- a number near one of at most k over a denominator d is itself hardly more
pub close_size : {v w : ℤ} {s t e d : ℕ} → Close v s w t e d → d * (nat_abs v * t) ≤ e * (s * t) + d * (nat_abs w * s)
close_size {v} {w} {s} {t} {e} {d} c =
    go d (nat_abs v * t) (nat_abs (v *ℤ pos t -ℤ w *ℤ pos s)) (nat_abs w * s) (e * (s * t))
    (le_trans (le_of_eq (sym (abs_mul v (pos t)))) (le_trans (near_abs (v *ℤ pos t) (w *ℤ pos s)) (le_of_eq (ap (λ x. nat_abs (v *ℤ pos t -ℤ w *ℤ pos s) + x) (abs_mul w (pos s))))))
    c.gap
  where
    near_abs : (a b : ℤ) → nat_abs a ≤ nat_abs (a -ℤ b) + nat_abs b
    near_abs a b = lin (a ∷ b ∷ []) λ u v ea eb. simp (Z·ℕ, ea, eb) (omega arith)

    go : (d a b c e : ℕ) → a ≤ b + c → d * b ≤ e → d * a ≤ e + d * c
    go d a b c e h k = let l = mul-le-mul_left d h in omega arith

-- the definition's part of z is at most 1.2 too
part_small : {n w : ℤ} (k f : ℕ) → NearAt (2 ^ 30) n w (k * unit) → nat_abs n ≤ 485000 * 2 ^ 30 → T (leb (k * 10 ^ 16) (f * (500000 * 2 ^ 30))) → f ≤ 1000
    → 10 * nat_abs (product w two_millionths) ≤ 12 * unit
part_small {n} {w} k f h g t l =
    let near : Close (product w two_millionths) unit n per_one (10 + f + 1 + 10) (10 ^ 16) = close_trans double_unit_pos (close_sym (z_close k f h (to_limit g) t)) (close_le 10 (10 ^ 16) (argument_close n (to_limit g)) tt tt) in
    le_of_mul-le-mul_left {k = 10 ^ 16 * per_one} (go (nat_abs (product w two_millionths)) (nat_abs n) f unit per_one (close_size near) (over g) l) (lit< tt)
  where
    over : {n : ℕ} → n ≤ 485000 * 2 ^ 30 → 100 * n ≤ 97 * per_one
    over h = omega arith

    go : (W n f u p : ℕ) → 10 ^ 16 * (W * p) ≤ (10 + f + 1 + 10) * (u * p) + 10 ^ 16 * (n * u) → 100 * n ≤ 97 * p → f ≤ 1000 → 10 ^ 16 * p * (10 * W) ≤ 10 ^ 16 * p * (12 * u)
    go W n f u p h g l = let a = mul-le-mul_right u g in let b = mul-le-mul_right (u * p) l in omega arith

-- what `Defined` says, as a distance of k over d
defined_close : (v g : ℤ) (e s l k d : ℕ) → 10 ^ 7 * nat_abs (v *ℤ pos unit -ℤ g *ℤ pos double_unit) ≤ unit * double_unit + 10 ^ 7 * (s * (e * double_unit) + l * double_unit)
    → T (leb (d * (unit + 10 ^ 7 * (s * e + l))) (k * (10 ^ 7 * unit))) → Close v double_unit g unit k d
defined_close v g e s l k d h t = record { gap = le_of_mul-le-mul_left {k = 10 ^ 7} (go (nat_abs (v *ℤ pos unit -ℤ g *ℤ pos double_unit)) unit double_unit s e l k d h (mul-le-mul_right double_unit (leb→le _ (k * (10 ^ 7 * unit)) t))) (lit< tt) }
  where
    go : (a t u s e l k d : ℕ) → 10 ^ 7 * a ≤ t * u + 10 ^ 7 * (s * (e * u) + l * u) → d * (t + 10 ^ 7 * (s * e + l)) * u ≤ k * (10 ^ 7 * t) * u → 10 ^ 7 * (d * a) ≤ 10 ^ 7 * (k * (u * t))
    go a t u s e l k d h g = let f = mul-le-mul_left d h in omega arith

-- of the lengths n and m of z, near the definition's x and y
module _ (n m x y : ℤ) (a : NearAt (2 ^ 30) n x (3 * unit)) (b : NearAt (2 ^ 30) m y (2 * unit)) (c : nat_abs n ≤ 485000 * 2 ^ 30) (d : nat_abs m ≤ 485000 * 2 ^ 30) where
  abbrev z_of : Pair
  z_of = arguments_of n m

  abbrev w_of : scaled.Pair
  w_of = record { first = product x two_millionths; second = product y two_millionths }

  z_inside : Inside z_of reach
  z_inside = arguments_inside n m (to_limit c) (to_limit d)

  w_inside : Modulus w_of reach_24
  w_inside = small_reach w_of (part_small 3 56 a c tt (lit≤ tt)) (part_small 2 38 b d tt (lit≤ tt))

  z_apart : Apart z_of w_of (116 * 10 ^ 8 * double_unit)
  z_apart = subst (Apart z_of w_of) (go double_unit) (apart z_of w_of 67 49 (z_close 3 56 a (to_limit c) tt) (z_close 2 38 b (to_limit d) tt))
    where
      go : (u : ℕ) → 67 * 10 ^ 8 * u + 49 * 10 ^ 8 * u ≡ 116 * 10 ^ 8 * u
      go u = omega arith

  -- both parts of Mercator's pair are within 1.07e-7 m of the definition's
  pub inverse_first : (E : Ellipsoid) → Close (value (horner (doubles unit (b_coefficients (constants E))) z_of).re) double_unit (polynomial (b_coefficients (constants E)) w_of).first unit 107 (10 ^ 9)
  inverse_first E = defined_close _ _ (116 * 10 ^ 8) 500500 2100000 107 (10 ^ 9) (inverse_defined E z_of w_of _ z_inside w_inside z_apart).first tt

  pub inverse_second : (E : Ellipsoid) → Close (value (horner (doubles unit (b_coefficients (constants E))) z_of).im) double_unit (polynomial (b_coefficients (constants E)) w_of).second unit 107 (10 ^ 9)
  inverse_second E = defined_close _ _ (116 * 10 ^ 8) 500500 2100000 107 (10 ^ 9) (inverse_defined E z_of w_of _ z_inside w_inside z_apart).second tt
