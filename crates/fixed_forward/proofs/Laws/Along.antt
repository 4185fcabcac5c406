-- Mercator's x: the tangent of f over cos d as a quotient of what the code has, its difference from 52° by the tangent difference rule, the arc tangent, and
-- that in metres. Assumes nothing.
use Rattle.std.specs.Prelude.{Bool, ◌≡◌, refl, [], ◌∷◌, ℕ, ◌+◌, ◌*◌, ◌-◌, ◌/◌, ◌^◌, ◌≤◌, ◌<◌, ℤ, pos, ◌+ℤ◌, ◌-ℤ◌, ◌*ℤ◌, nat_abs}
use Rattle.std.proofs.Common.{subst, mul-le-mul_left, lit<, lit≤}
use Rattle.std.proofs.Math.Nat.{le_trans}
use native.Mathlib.Omega.{arith}
use Rattle.arith.specs.Laws.Ring.{ring, Z·ring, by_ring}
use Rattle.arith.specs.Within.{Within}
use Rattle.arith.specs.Laws.Within.{w_num, w_add, w_sub, w_mul, w_le}
use Rattle.rules.specs.Systems.{◌/10^◌, Ellipsoid, constants}
use Rattle.rules.specs.Scaled.{unit, product, quotient, arctan, at_52, arctan_about_52}
use Rattle.fixed.specs.Worked.{S60, mul60, odd_alt60}
use Rattle.fixed.specs.Nearness.{NearAt, Fixed, Ratio, turned}
use Rattle.fixed.specs.Tables.{arctan_table}
use Rattle.fixed.proofs.Laws.Words.{mul60_is}
use Rattle.fixed.proofs.Laws.Bounds.{w_div, w_same, w_up}
use Rattle.fixed.proofs.Laws.Products.{near_le, near_add, near_most, near_shift, fix_le, product_rest, product_comm, product_sum}
use Rattle.fixed.proofs.Laws.Quotients.{ratio_div, ratio_mul, ratio_high, ratio_low, near_least, fix_mul_double}
use Rattle.fixed.specs.Laws.Tangents.{slant}
use Rattle.fixed.proofs.Laws.Turned.{near_mul_turned, near_turn}
use Rattle.fixed.proofs.Laws.Functions.{fix_arctan}
use Rattle.fixed.specs.Laws.Numbers.{numbers}
use Rattle.fixed_forward.specs.Ellipsoids.{radius30, centre30}
use Rattle.fixed_forward.proofs.Laws.Ellipsoids.{radius_near, radius_high, centre_near}
use Rattle.fixed_forward.specs.Along.{north30}

-- ---- t = sf / w, with sf = n / d and w = m / d, is n / m
tan_id : (t w sf n d m U : ℤ) → U *ℤ (sf *ℤ d -ℤ n *ℤ U) +ℤ d *ℤ (t *ℤ w -ℤ sf *ℤ U) -ℤ t *ℤ (w *ℤ d -ℤ m *ℤ U) ≡ (t *ℤ m -ℤ n *ℤ U) *ℤ U
tan_id t w sf n d m U = ring (t ∷ w ∷ sf ∷ n ∷ d ∷ m ∷ U ∷ []) λ ρ e1 e2 e3 e4 e5 e6 e7. simp (Z·ring, e1, e2, e3, e4, e5, e6, e7) (by_ring _ _ _ refl)

tan_ratio : {t w sf n d m : ℤ}
    → Ratio sf n d 1
    → Ratio w m d 4
    → Ratio t sf w 1
    → Within d (3 * unit)
    → Within w (2 * unit)
    → Within t (4 * unit)
    → Within (t *ℤ m -ℤ n *ℤ pos unit) (57 * unit)
tan_ratio {t} {w} {sf} {n} {d} {m} r1 r2 r3 hd hw ht =
    w_up _ (lit≤ tt)
    (w_div (t *ℤ m -ℤ n *ℤ pos unit) unit _ (lit< tt)
    (w_same _ (tan_id t w sf n d m (pos unit))
    (w_sub
    (w_add (w_mul (w_num unit) (w_up (3 * unit) (go (nat_abs d) (3 * unit) hd.within) r1.gap)) (w_mul hd (w_up (2 * unit) (go (nat_abs w) (2 * unit) hw.within) r3.gap)))
    (w_mul ht (w_up (4 * (3 * unit)) (mul-le-mul_left 4 hd.within) r2.gap)))))
  where
    go : (x y : ℕ) → x ≤ y → 1 * x ≤ y
    go x y h = omega arith

-- ---- the code's numbers: n2, d2 and kc are half of the definition's n, d and g, and z is its cos d
module _ {cd : ℕ} (n2 d2 kc : ℕ) (n d g z : ℤ)
    (fn : Fixed (2 * n2) n (110 * unit) (130 * S60 / 100) (176 * S60 / 100))
    (fd : Fixed (2 * d2) d (110 * unit) (178 * S60 / 100) (220 * S60 / 100))
    (fg : Fixed (2 * kc) g (60 * unit) (107 * S60 / 100) (136 * S60 / 100))
    (fz : Fixed cd z (18 * unit) (99 * S60 / 100) S60) where
  pub middle_near : Fixed (2 * mul60 kc cd) (product g z) (100 * unit) (105 * S60 / 100) (136 * S60 / 100)
  unfolding numbers
  middle_near = fix_le (100 * unit) (105 * S60 / 100) (136 * S60 / 100) (fix_mul_double kc (product g z) (product_rest g z) fg fz tt tt) tt tt tt

  -- the definition's tangent, sin f / (cos f·cos d)
  abbrev pub tangent : ℤ
  tangent = quotient (quotient n d) (product (quotient g d) z)

  d_low : 17 * unit / 10 ≤ nat_abs d
  unfolding numbers
  d_low = le_trans (lit≤ tt) (near_least fd.near fd.low)

  d_high : Within d (3 * unit)
  unfolding numbers
  d_high = w_le (3 * unit) (near_most fd.near fd.high) tt

  sf_ratio : Ratio (quotient n d) n d 1
  sf_ratio = ratio_div n d (le_trans (lit≤ tt) d_low)

  sf_high : Within (quotient n d) (11 * unit / 10)
  unfolding numbers
  sf_high = w_up _ (lit≤ tt) (ratio_high (17 * unit / 10) sf_ratio (near_most fn.near fn.high) d_low (lit< tt))

  w_ratio : Ratio (product (quotient g d) z) (product g z) d 4
  unfolding numbers
  w_ratio = ratio_mul z 2 (ratio_div g d (le_trans (lit≤ tt) d_low)) (w_le (2 * unit) (near_most fz.near fz.high) tt) (le_trans (lit≤ tt) d_low)

  w_high : Within (product (quotient g d) z) (2 * unit)
  unfolding numbers
  w_high = w_up _ (lit≤ tt) (ratio_high (17 * unit / 10) w_ratio (near_most middle_near.near middle_near.high) d_low (lit< tt))

  w_low : 3 * unit / 10 ≤ nat_abs (product (quotient g d) z)
  unfolding numbers
  w_low = go (nat_abs (product (quotient g d) z)) (le_trans (lit≤ tt) (ratio_low unit (3 * unit) w_ratio (le_trans (lit≤ tt) (near_least middle_near.near middle_near.low)) d_high.within (lit< tt)))
    where
      go : (x : ℕ) → 3 * unit / 10 + 4 ≤ x + 4 → 3 * unit / 10 ≤ x
      go x h = omega arith

  t_ratio : Ratio tangent (quotient n d) (product (quotient g d) z) 1
  t_ratio = ratio_div (quotient n d) (product (quotient g d) z) (le_trans (lit≤ tt) w_low)

  pub tangent_high : Within tangent (4 * unit)
  tangent_high = w_up _ (lit≤ tt) (ratio_high (3 * unit / 10) t_ratio sf_high w_low (lit< tt))

  pub tangent_law : Within (tangent *ℤ product g z -ℤ n *ℤ pos unit) (57 * unit)
  tangent_law = tan_ratio sf_ratio w_ratio t_ratio d_high w_high tangent_high

same_shift : (p q r c : ℤ) → (p +ℤ q) -ℤ r ≡ ((p -ℤ c) +ℤ q) -ℤ (r -ℤ c)
same_shift p q r c = ring (p ∷ q ∷ r ∷ c ∷ []) λ ρ e1 e2 e3 e4. simp (Z·ring, e1, e2, e3, e4) (by_ring _ _ _ refl)

-- within 50 units
pub north_near : {u : ℕ} (E : Ellipsoid) (s : Bool) (t : ℤ)
    → Fixed u (turned s (slant t)) (250 * unit) 0 (89 * S60 / 1000)
    → NearAt (2 ^ 30) (north30 (centre30 E) (radius30 E) s u) (product (constants E).R0 (arctan_about_52 t) -ℤ 5760000 /10^ 0) (50 * unit)
unfolding north30 arctan_about_52 slant numbers
north_near {u} E s t f =
    let R0 = (constants E).R0 in
    let A = arctan (slant t) in
    let a = fix_le (2400 * unit) 0 (89 * S60 / 1000) (fix_arctan arctan_table s (slant t) tt f tt tt tt) tt tt tt in
    let m = mul60_is (odd_alt60 u arctan_table) (radius30 E) (le_trans a.high (lit≤ tt)) (le_trans (radius_high E) (lit≤ tt)) in
    let r = near_turn s (product A R0) (near_mul_turned s A m a.high (radius_high E) a.near (radius_near E)) in
    let gap = w_same _ (same_shift (product R0 at_52) (product R0 A) (product R0 (at_52 +ℤ A)) (5760000 /10^ 0)) (product_sum R0 at_52 A) in
    near_le (50 * unit)
    (near_shift (product R0 (at_52 +ℤ A) -ℤ 5760000 /10^ 0) (near_add (centre_near E) r)
    (subst (λ z. Within (((product R0 at_52 -ℤ 5760000 /10^ 0) +ℤ z) -ℤ (product R0 (at_52 +ℤ A) -ℤ 5760000 /10^ 0)) 3) (product_comm R0 A) gap)) tt
