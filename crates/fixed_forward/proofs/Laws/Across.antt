-- Mercator's y: cos f·sin d by one quotient, its inverse hyperbolic tangent, and that in metres. Assumes nothing.
use Rattle.std.specs.Prelude.{Bool, ℕ, ◌*◌, ◌-◌, ◌/◌, ◌^◌, ◌≤◌, ℤ, nat_abs}
use Rattle.std.proofs.Common.{subst, lit≤}
use Rattle.std.proofs.Math.Nat.{le_trans}
use Rattle.arith.specs.Within.{Within}
use Rattle.arith.specs.Laws.Within.{w_le}
use Rattle.rules.specs.Systems.{Ellipsoid, constants}
use Rattle.rules.specs.Scaled.{unit, product, quotient, artanh}
use Rattle.fixed.specs.Worked.{S60, mul60, odd_ser60}
use Rattle.fixed.specs.Nearness.{Near30, Fixed, Ratio, turned}
use Rattle.fixed.specs.Tables.{artanh_table}
use Rattle.fixed.proofs.Laws.Words.{mul60_is}
use Rattle.fixed.proofs.Laws.Products.{near_le, near_most, fix_le, product_comm}
use Rattle.fixed.proofs.Laws.Quotients.{ratio_div, ratio_mul, near_least, fix_mul_double, fix_quot_double}
use Rattle.fixed.proofs.Laws.Turned.{within_turned, turned_rest_right, ratio_turned, near_mul_turned}
use Rattle.fixed.proofs.Laws.Functions.{fix_artanh}
use Rattle.fixed.specs.Laws.Numbers.{numbers}
use Rattle.fixed_forward.specs.Ellipsoids.{radius30}
use Rattle.fixed_forward.proofs.Laws.Ellipsoids.{radius_near, radius_high}
use Rattle.fixed_forward.specs.Across.{across60, east30}

-- n is the definition's 2K·cos B, d its denominator, and z its sin d, of a point to the east or (s) the west
module _ {sd : ℕ} (kc d2 : ℕ) (s : Bool) (n d z : ℤ)
    (fn : Fixed (2 * kc) n (60 * unit) (107 * S60 / 100) (136 * S60 / 100))
    (fd : Fixed (2 * d2) d (110 * unit) (178 * S60 / 100) (220 * S60 / 100))
    (fs : Fixed sd (turned s z) (8 * unit) 0 (961 * S60 / 10000)) where
  d_large : unit ≤ nat_abs d
  unfolding numbers
  d_large = le_trans (lit≤ tt) (near_least fd.near fd.low)

  z_small : Within z (1 * unit)
  unfolding numbers
  z_small = within_turned s z (w_le (1 * unit) (near_most fs.near fs.high) tt)

  ratio : Ratio (product (quotient n d) z) (product n z) d 3
  ratio = ratio_mul z 1 (ratio_div n d (le_trans (lit≤ tt) d_large)) z_small d_large

  pub across_near : Fixed (across60 kc d2 sd) (turned s (product (quotient n d) z)) (60 * unit) 0 (74 * S60 / 1000)
  unfolding across60 numbers
  across_near =
      fix_le (60 * unit) 0 (74 * S60 / 1000)
      (fix_quot_double (mul60 kc sd) d2 (ratio_turned s ratio) (fix_mul_double kc (turned s (product n z)) (turned_rest_right s n z) fn fs tt tt) fd (tt, tt, tt) tt) tt tt tt

-- y in units of 2^-30 m: within 300 of them
pub east_near : {v : ℕ} (E : Ellipsoid) (s : Bool) (w : ℤ)
    → Fixed v (turned s w) (60 * unit) 0 (74 * S60 / 1000)
    → Near30 (east30 (radius30 E) v) (turned s (product (constants E).R0 (artanh w))) (300 * unit)
unfolding east30 numbers
east_near {v} E s w f =
    let a = fix_le (43000 * unit) 0 (76 * S60 / 1000) (fix_artanh artanh_table s w tt f tt tt tt) tt tt tt in
    let m = mul60_is (odd_ser60 v artanh_table) (radius30 E) (le_trans a.high (lit≤ tt)) (le_trans (radius_high E) (lit≤ tt)) in
    subst (λ z. Near30 (mul60 (odd_ser60 v artanh_table) (radius30 E)) (turned s z) (300 * unit)) (product_comm (artanh w) (constants E).R0)
    (near_le (300 * unit) (near_mul_turned s (artanh w) m a.high (radius_high E) a.near (radius_near E)) tt)
