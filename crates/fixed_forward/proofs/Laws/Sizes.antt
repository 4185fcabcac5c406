-- How large Mercator's pair is in units of 2^-30 m: below 595 km in either part, so that z's parts are at most 1.2. Assumes nothing.
use Rattle.std.specs.Prelude.{Bool, true, false, ◌≡◌, refl, ◌∷◌, ℕ, ◌+◌, ◌*◌, ◌/◌, ◌^◌, ◌≤◌, pos, ◌+ℤ◌, ◌*ℤ◌, nat_abs}
use Rattle.std.proofs.Math.Nat.{le_trans}
use Rattle.std.proofs.Common.{mul-le-mul, lit≤}
use native.Mathlib.Omega.{arith}
use Rattle.arith.specs.Laws.Order.{abs_add, abs_neg}
use Rattle.rules.specs.Units.{◌°◌'◌''}
use Rattle.rules.specs.Systems.{Ellipsoid, GRS_80, Krasovsky}
use Rattle.rules.specs.Scaled.{unit}
use Rattle.fixed.specs.Worked.{S60, mul60, tilt60, tilt_south, odd_alt60, odd_ser60}
use Rattle.fixed.specs.Relations.{Mul60}
use Rattle.fixed.specs.Nearness.{turned}
use Rattle.fixed.specs.Tables.{arctan_table, artanh_table}
use Rattle.fixed.proofs.Laws.Words.{mul60_is}
use Rattle.fixed.proofs.Laws.Products.{fix_le}
use Rattle.fixed.proofs.Laws.Functions.{fix_arctan, fix_artanh}
use Rattle.fixed.specs.Laws.Numbers.{numbers}
use Rattle.fixed_bands.specs.Bands.{Latitude}
use Rattle.fixed_forward.specs.Ellipsoids.{radius30, centre30}
use Rattle.fixed_forward.proofs.Laws.Ellipsoids.{radius_high}
use Rattle.fixed_forward.specs.Across.{east30}
use Rattle.fixed_forward.specs.Along.{north30}
use Rattle.fixed_forward.specs.Mercator.{numerator_of, middle_of, across_of, north_of, east_of}
use Rattle.fixed_forward.proofs.Laws.Mercator.{across_of_near, tilt_of_near}
use Rattle.fixed_forward.specs.Sizes.{limit30}

centre_high : (E : Ellipsoid) → centre30 E ≤ 25000 * 2 ^ 30
unfolding centre30
centre_high GRS_80 = lit≤ tt
centre_high Krasovsky = lit≤ tt

turned_abs : (s : Bool) (m : ℕ) → nat_abs (turned s (pos m)) ≡ m
unfolding turned
turned_abs true m = abs_neg (pos m)
turned_abs false m = refl

-- a product at scale 2^60 with a radius, of a factor of at most k thousandths
scaled_high : {a r m : ℕ} (k : ℕ) → Mul60 a r m → a ≤ k * S60 / 1000 → r ≤ 6838000000000000 → m * S60 ≤ k * S60 / 1000 * 6838000000000000
scaled_high k m h g = le_trans m.lo (mul-le-mul h g)

module _ (E : Ellipsoid) (n : ℕ) (h : Latitude n) (s : Bool) (d : ℕ) (g : d ≤ 5 ° 30 ' 0 '') where
  -- y is below 485 km
  pub east_narrow : east_of E n d ≤ 485000 * 2 ^ 30
  unfolding east_of east30 numbers
  east_narrow =
      let v = across_of_near E n h s d g in
      let a = fix_le (43000 * unit) 0 (76 * S60 / 1000) (fix_artanh artanh_table s _ tt v tt tt tt) tt tt tt in
      let m = mul60_is (odd_ser60 (across_of E n d) artanh_table) (radius30 E) (le_trans a.high (lit≤ tt)) (le_trans (radius_high E) (lit≤ tt)) in
      go _ (scaled_high 76 m a.high (radius_high E))
    where
      go : (m : ℕ) → m * S60 ≤ 76 * S60 / 1000 * 6838000000000000 → m ≤ 485000 * 2 ^ 30
      go m h = omega arith

  pub east_size : east_of E n d ≤ limit30
  east_size = le_trans east_narrow (lit≤ tt)

  angle_size : mul60 (odd_alt60 (tilt60 (numerator_of E n) (middle_of E n d)) arctan_table) (radius30 E) ≤ 570000 * 2 ^ 30
  unfolding numbers
  angle_size =
      let t = tilt_of_near E n h s d g in
      let a = fix_le (2400 * unit) 0 (89 * S60 / 1000) (fix_arctan arctan_table (tilt_south (numerator_of E n) (middle_of E n d)) _ tt t tt tt tt) tt tt tt in
      let m = mul60_is (odd_alt60 (tilt60 (numerator_of E n) (middle_of E n d)) arctan_table) (radius30 E) (le_trans a.high (lit≤ tt)) (le_trans (radius_high E) (lit≤ tt)) in
      go _ (scaled_high 89 m a.high (radius_high E))
    where
      go : (m : ℕ) → m * S60 ≤ 89 * S60 / 1000 * 6838000000000000 → m ≤ 570000 * 2 ^ 30
      go m h = omega arith

  pub north_size : nat_abs (north_of E n d) ≤ limit30
  unfolding north_of north30
  north_size =
      le_trans (abs_add (pos (centre30 E)) (turned (tilt_south (numerator_of E n) (middle_of E n d)) (pos _)))
      (go (centre30 E) _ _ (centre_high E) (turned_abs (tilt_south (numerator_of E n) (middle_of E n d)) _) angle_size)
    where
      go : (c a m : ℕ) → c ≤ 25000 * 2 ^ 30 → a ≡ m → m ≤ 570000 * 2 ^ 30 → c + a ≤ 595000 * 2 ^ 30
      go c a m h e g = omega arith
