-- The ticks of the fixed-point inverse are small, over the whole range of Mercator's pair: the code's sums of them fit 64 bits. Assumes nothing.
use Rattle.std.proofs.Math.Bool.{false}
use Rattle.std.specs.Prelude.{ℕ, ◌+◌, ◌*◌, ◌^◌, ◌≤◌, ◌<◌, ℤ, pos, nat_abs, ◌-ℤ◌, ◌*ℤ◌}
use Rattle.std.proofs.Common.{le_trans, le_refl, arith, lit<, lit≤}
use Rattle.arith.specs.Laws.Diff.{Z·ℕ}
use Rattle.arith.specs.Floor.{floor}
use Rattle.arith.specs.Laws.Floor.{floor_rest_abs}
use Rattle.rules.specs.Scaled.{unit, quotient, hyperbolic_cosine}
use Rattle.rules.specs.Systems.{Ellipsoid, constants}
use Rattle.fixed.specs.Worked.{S60, mul60}
use Rattle.fixed.specs.Nearness.{Near30, turned}
use Rattle.fixed.proofs.Laws.Words.{mul60_is}
use Rattle.fixed.proofs.Laws.Products.{mul_high}
use Rattle.fixed_inverse.specs.Worked.{TickC, nearest_even, ticks60, latitude_ticks, difference_ticks}
use Rattle.fixed_inverse.specs.Laws.Radius.{x_low, x_high, y_high}
use Rattle.fixed_inverse.proofs.Laws.Radius.{x_angle, y_angle}
use Rattle.fixed_inverse.proofs.Laws.Turns.{near_sine, near_cosh, near_difference}
use Rattle.fixed_inverse.proofs.Laws.About52.{near_sphere}
use Rattle.fixed_inverse.proofs.Laws.Latitude.{near_latitude}
use Rattle.fixed_inverse.proofs.Laws.Ticks.{nearest_even_is}

-- a length over 10^24 that x units of 2^-30 m stand for
abbrev stands_for : ℕ → ℤ
stands_for x = floor (pos x *ℤ pos unit) (2 ^ 30)

stands : (x : ℕ) → Near30 x (stands_for x) (160 * unit)
stands x = record { gap = record { within = le_trans (less (floor_rest_abs (pos x *ℤ pos unit) (2 ^ 30) (lit< tt))) (lit≤ tt) } }
  where
    less : {a b : ℕ} → a < b → a ≤ b
    less h = omega arith

-- an angle of at most 2 in ticks
ticks_size : {b : ℕ} → b ≤ 2 * S60 → ticks60 b ≤ 10 ^ 12
unfolding ticks60
ticks_size {b} h = go (mul60 b TickC) (nearest_even (mul60 b TickC) (2 ^ 22)) (le_trans (mul_high (mul60_is b TickC (le_trans h (lit≤ tt)) (lit≤ tt)) h (le_refl TickC)) (lit≤ tt)) (nearest_even_is (mul60 b TickC) (2 ^ 22) (lit< tt)).half
  where
    go : (n r : ℕ) → n ≤ 2 * TickC → 2 * nat_abs (pos r *ℤ pos (2 ^ 22) -ℤ pos n) ≤ 2 ^ 22 → r ≤ 10 ^ 12
    go n r h k = below n r (nat_abs (pos r *ℤ pos (2 ^ 22) -ℤ pos n)) (near r n) h k
      where
        near : (r n : ℕ) → r * 2 ^ 22 ≤ n + nat_abs (pos r *ℤ pos (2 ^ 22) -ℤ pos n)
        near r n = simp Z·ℕ (omega arith)

        below : (n r x : ℕ) → r * 2 ^ 22 ≤ n + x → n ≤ 2 * TickC → 2 * x ≤ 2 ^ 22 → r ≤ 10 ^ 12
        below n r x a b c = omega arith

module _ (E : Ellipsoid) {x y : ℕ} (l : x_low ≤ x) (h : x ≤ x_high) (s : y ≤ y_high) where
  pub latitude_small : latitude_ticks E x y ≤ 10 ^ 12
  unfolding latitude_ticks turned
  latitude_small =
      let Y = stands_for y in
      let p = x_angle E (stands_for x) l h (stands x) in
      let q = y_angle E false Y s (stands y) in
      let b = near_latitude E (near_sphere (hyperbolic_cosine (quotient Y (constants E).R0)) (near_sine p) (near_cosh false (quotient Y (constants E).R0) q)) in
      ticks_size (le_trans b.high (lit≤ tt))

  pub difference_small : difference_ticks E x y ≤ 10 ^ 12
  unfolding difference_ticks turned
  difference_small =
      let Y = stands_for y in
      let p = x_angle E (stands_for x) l h (stands x) in
      let q = y_angle E false Y s (stands y) in
      ticks_size (le_trans (near_difference p false (quotient Y (constants E).R0) q).high (lit≤ tt))
