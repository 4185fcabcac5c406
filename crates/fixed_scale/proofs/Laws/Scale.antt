-- The scale without the derivative: R0·cos f / (N·cos B) times 1/√(1 - cos²f·sin²d), by one quotient. Assumes nothing.
use Rattle.std.specs.Prelude.{Bool, ◌≡◌, refl, [], ◌∷◌, ℕ, ◌+◌, ◌*◌, ◌-◌, ◌/◌, ◌<◌, ◌≤◌, ℤ, pos, ◌+ℤ◌, ◌-ℤ◌, ◌*ℤ◌, nat_abs}
use Rattle.std.proofs.Math.Nat.{le_trans}
use Rattle.std.proofs.Common.{lit<, lit≤}
use Rattle.arith.specs.Laws.Ring.{ring, Z·ring, by_ring}
use Rattle.arith.specs.Within.{Within}
use Rattle.arith.specs.Laws.Within.{w_num, w_add, w_sub, w_mul, w_le}
use Rattle.rules.specs.Units.{◌°◌'◌''}
use Rattle.rules.specs.Systems.{Ellipsoid, GRS_80, Krasovsky, constants}
use Rattle.rules.specs.Scaled.{unit, one, product, quotient, radians, sine, cosine}
use Rattle.rules.specs.Projection.{K_of, sphere, N_of, sphere_scale, mercator_scale}
use Rattle.rules.specs.Computing.{computing}
use Rattle.fixed.specs.Worked.{S60, mul60, ser60}
use Rattle.fixed.specs.Nearness.{Near60, Fixed, Ratio, turned}
use Rattle.fixed.proofs.Laws.Bounds.{w_div, w_same, w_up}
use Rattle.fixed.specs.Laws.Products.{off_at}
use Rattle.fixed.proofs.Laws.Products.{near_most, fix_shift, fix_const, fix_mul, fix_le, product_rest}
use Rattle.fixed.proofs.Laws.Quotients.{near_least, ratio_div, ratio_high, fix_twice, fix_mul_double, fix_quot_double}
use Rattle.fixed.proofs.Laws.Turned.{fix_square_turned, within_turned}
use Rattle.fixed.specs.Laws.Numbers.{numbers}
use Rattle.fixed_bands.specs.Worked.{part30, rise_at, rising, latitude_sine}
use Rattle.fixed_bands.specs.Bands.{Latitude}
use Rattle.fixed_bands.proofs.Laws.Bands.{latitude_sine_near, latitude_cosine_near, longitude_sine_near}
use Rattle.fixed_forward.specs.Sphere.{denominator}
use Rattle.fixed_forward.specs.Mercator.{denominator_of, sphere_at}
use Rattle.fixed_forward.proofs.Laws.Mercator.{K_of_near, denominator_of_near, doubled_of_near, across_of_near}
use Rattle.fixed_scale.specs.Root.{root60, square_d, series_d}
use Rattle.fixed_scale.proofs.Laws.Root.{fix_root}
use Rattle.fixed_scale.proofs.Laws.Ratios.{product_high, scale_ratio, scale_high, both_ratio}
use Rattle.fixed_scale.specs.Scale.{meridian60, meridian_at, meridian_gap, meridian_of, ratio60, sphere_scale60, sphere_scale_of, spread60, spread_at, spread_of, square60}

square_near : (E : Ellipsoid) → Fixed (square60 E) (product (constants E).e (constants E).e) unit 0 (6695 * S60 / 1000000)
unfolding square60 constants product off_at
square_near GRS_80 = fix_le unit 0 (6695 * S60 / 1000000) (fix_const (square60 GRS_80) (product (constants GRS_80).e (constants GRS_80).e)) tt tt tt
square_near Krasovsky = fix_le unit 0 (6695 * S60 / 1000000) (fix_const (square60 Krasovsky) (product (constants Krasovsky).e (constants Krasovsky).e)) tt tt tt

ratio_near : (E : Ellipsoid) → Fixed (ratio60 E) (quotient (constants E).R0 (constants E).a) unit (998 * S60 / 1000) (999 * S60 / 1000)
unfolding ratio60 constants quotient off_at
ratio_near GRS_80 = fix_le unit (998 * S60 / 1000) (999 * S60 / 1000) (fix_const (ratio60 GRS_80) (quotient (constants GRS_80).R0 (constants GRS_80).a)) tt tt tt
ratio_near Krasovsky = fix_le unit (998 * S60 / 1000) (999 * S60 / 1000) (fix_const (ratio60 Krasovsky) (quotient (constants Krasovsky).R0 (constants Krasovsky).a)) tt tt tt

a_high : (E : Ellipsoid) → Within (constants E).a (7000000 * unit)
unfolding constants
a_high GRS_80 = record { within = lit≤ tt }
a_high Krasovsky = record { within = lit≤ tt }

a_low : (E : Ellipsoid) → 6000000 * unit ≤ nat_abs (constants E).a
unfolding constants
a_low GRS_80 = lit≤ tt
a_low Krasovsky = lit≤ tt

R0_high : (E : Ellipsoid) → Within (constants E).R0 (7000000 * unit)
unfolding constants
R0_high GRS_80 = record { within = lit≤ tt }
R0_high Krasovsky = record { within = lit≤ tt }

-- ---- (a·b)² as the code squares it, against a²·b² as the definition does
swap_id : (U a b p q r X Y : ℤ)
    → a *ℤ a *ℤ (b *ℤ b -ℤ r *ℤ U) +ℤ (a *ℤ a -ℤ q *ℤ U) *ℤ (r *ℤ U) -ℤ (a *ℤ b -ℤ p *ℤ U) *ℤ (a *ℤ b +ℤ p *ℤ U) -ℤ U *ℤ U *ℤ (p *ℤ p -ℤ X *ℤ U) +ℤ U *ℤ U *ℤ (q *ℤ r -ℤ Y *ℤ U)
    ≡ (X -ℤ Y) *ℤ (U *ℤ U *ℤ U)
swap_id U a b p q r X Y =
    ring (U ∷ a ∷ b ∷ p ∷ q ∷ r ∷ X ∷ Y ∷ []) λ ρ e1 e2 e3 e4 e5 e6 e7 e8. simp (Z·ring, e1, e2, e3, e4, e5, e6, e7, e8) (by_ring _ _ _ refl)

square_swap : (a b : ℤ) → Within a (1 * unit) → Within b (1 * unit) → Within (product (product a b) (product a b) -ℤ product (product a a) (product b b)) 9
square_swap a b ha hb =
    w_up _ (lit≤ tt)
    (w_div (product (product a b) (product a b) -ℤ product (product a a) (product b b)) (unit * unit * unit) _ (lit< tt)
    (w_same _ (swap_id (pos unit) a b (product a b) (product a a) (product b b) (product (product a b) (product a b)) (product (product a a) (product b b)))
    (w_add (w_sub (w_sub (w_add
    (w_mul (w_mul ha ha) (product_rest b b))
    (w_mul (product_rest a a) (w_mul small (w_num unit))))
    (w_mul (product_rest a b) (w_add (w_mul ha hb) (w_mul small' (w_num unit)))))
    (w_mul (w_num (unit * unit)) (product_rest (product a b) (product a b))))
    (w_mul (w_num (unit * unit)) (product_rest (product a a) (product b b))))))
  where
    small : Within (product b b) (2 * unit)
    small = w_up _ (lit≤ tt) (product_high hb hb)

    small' : Within (product a b) (2 * unit)
    small' = w_up _ (lit≤ tt) (product_high ha hb)

meridian_at_56 : Near60 (meridian_of GRS_80 (56 ° 0 ' 0 '')) (meridian_at GRS_80 (sine (radians (pos (56 ° 0 ' 0 ''))))) (meridian_gap * unit)
unfolding meridian_of meridian60 square60 meridian_at root60 ser60 mul60 latitude_sine rising rise_at part30 computing
meridian_at_56 = record { gap = record { within = lit≤ tt } }

pub meridian_near : {t : ℕ} (E : Ellipsoid) (y : ℤ)
    → Fixed t y (16 * unit) (70 * S60 / 100) (87 * S60 / 100)
    → Fixed (meridian60 (square60 E) t) (meridian_at E y) (meridian_gap * unit) (994 * S60 / 1000) S60
unfolding meridian60 meridian_at numbers square_d series_d
meridian_near E y ft =
    fix_le (meridian_gap * unit) (994 * S60 / 1000) S60 (fix_root (fix_mul (square_near E) (fix_mul ft ft tt tt) tt tt) tt tt tt) tt tt tt

-- of v near f·z, or its opposite
pub spread_near : {v : ℕ} (s : Bool) (f z : ℤ)
    → Within f (1 * unit)
    → Within z (1 * unit)
    → Fixed v (turned s (product f z)) (60 * unit) 0 (74 * S60 / 1000)
    → Fixed (spread60 v) (spread_at f z) (314000 * unit) (994 * S60 / 1000) S60
unfolding spread60 spread_at numbers square_d series_d
spread_near {v} s f z hf hz fv =
    fix_le (314000 * unit) (994 * S60 / 1000) S60
    (fix_root (fix_shift (product (product f f) (product z z)) (fix_square_turned s (product f z) fv tt) (square_swap f z hf hz)) tt tt tt) tt tt tt

-- ---- the scale
module _ {k r₁ r₂ : ℕ} (E : Ellipsoid) (d2 : ℕ) (K c ρ₁ d ρ₂ : ℤ)
    (fk : Fixed k K (9 * unit) (994 * S60 / 1000) S60)
    (fc_high : Within c (1 * unit)) (fc_low : unit / 2 ≤ nat_abs c)
    (f₁ : Fixed r₁ ρ₁ (meridian_gap * unit) (994 * S60 / 1000) S60)
    (fd : Fixed (2 * d2) d (110 * unit) (178 * S60 / 100) (220 * S60 / 100))
    (f₂ : Fixed r₂ ρ₂ (314000 * unit) (994 * S60 / 1000) S60) where
  abbrev k2 : ℤ
  k2 = pos 2 *ℤ K

  abbrev A : ℤ
  A = quotient (constants E).R0 (constants E).a

  k2_near : Fixed (2 * k) k2 (4400 * unit) (198 * S60 / 100) (2 * S60)
  k2_near = fix_le (4400 * unit) (198 * S60 / 100) (2 * S60) (fix_twice fk) tt tt tt

  num_near : Fixed (2 * mul60 (mul60 k (ratio60 E)) r₁) (product (product k2 A) ρ₁) (440000 * unit) (196 * S60 / 100) (2 * S60)
  unfolding numbers
  num_near =
      fix_le (440000 * unit) (196 * S60 / 100) (2 * S60)
      (fix_mul_double (mul60 k (ratio60 E)) (product (product k2 A) ρ₁) (product_rest (product k2 A) ρ₁)
      (fix_mul_double k (product k2 A) (product_rest k2 A) k2_near (ratio_near E) tt tt) f₁ tt tt) tt tt tt

  den_near : Fixed (2 * mul60 d2 r₂) (product d ρ₂) (710000 * unit) (176 * S60 / 100) (220 * S60 / 100)
  unfolding numbers
  den_near = fix_le (710000 * unit) (176 * S60 / 100) (220 * S60 / 100) (fix_mul_double d2 (product d ρ₂) (product_rest d ρ₂) fd f₂ tt tt) tt tt tt

  d_high : Within d (3 * unit)
  unfolding numbers
  d_high = w_le (3 * unit) (near_most fd.near fd.high) tt

  d_low : 17 * unit / 10 ≤ nat_abs d
  unfolding numbers
  d_low = le_trans (lit≤ tt) (near_least fd.near fd.low)

  k2_high : Within k2 (3 * unit)
  unfolding numbers
  k2_high = w_le (3 * unit) (near_most k2_near.near k2_near.high) tt

  ρ₁_high : Within ρ₁ (2 * unit)
  unfolding numbers
  ρ₁_high = w_le (2 * unit) (near_most f₁.near f₁.high) tt

  ρ₁_low : 9 * unit / 10 ≤ nat_abs ρ₁
  unfolding numbers
  ρ₁_low = le_trans (lit≤ tt) (near_least f₁.near f₁.low)

  ρ₂_high : Within ρ₂ (2 * unit)
  unfolding numbers
  ρ₂_high = w_le (2 * unit) (near_most f₂.near f₂.high) tt

  ρ₂_low : 9 * unit / 10 ≤ nat_abs ρ₂
  unfolding numbers
  ρ₂_low = le_trans (lit≤ tt) (near_least f₂.near f₂.low)

  over_high : Within (product (product k2 A) ρ₁) (4 * unit)
  unfolding numbers
  over_high = w_le (4 * unit) (near_most num_near.near num_near.high) tt

  -- the definition's R0·cos f / (N·cos B), and times 1/ρ₂
  abbrev W : ℤ
  W = quotient (product (constants E).R0 (quotient (product k2 c) d)) (product (quotient (constants E).a ρ₁) c)

  ratio : Ratio (product W (quotient one ρ₂)) (product (product k2 A) ρ₁) (product d ρ₂) 1100
  ratio =
      let a = (constants E).a in
      let R = (constants E).R0 in
      both_ratio W (product (product k2 A) ρ₁) d ρ₂
      (scale_ratio a R c ρ₁ k2 d (a_high E) (a_low E) (R0_high E) fc_high fc_low ρ₁_high ρ₁_low k2_high d_high d_low)
      (scale_high a R c ρ₁ k2 d (a_high E) (a_low E) (R0_high E) fc_high fc_low ρ₁_high ρ₁_low k2_high d_high d_low)
      over_high d_high d_low ρ₂_high ρ₂_low

  pub sphere_scale_near : Fixed (sphere_scale60 (ratio60 E) k r₁ d2 r₂) (product W (quotient one ρ₂)) (710000 * unit) (88 * S60 / 100) (114 * S60 / 100)
  unfolding sphere_scale60 numbers
  sphere_scale_near =
      fix_le (710000 * unit) (88 * S60 / 100) (114 * S60 / 100)
      (fix_quot_double (mul60 (mul60 k (ratio60 E)) r₁) (mul60 d2 r₂) ratio num_near den_near (tt, tt, tt) tt) tt tt tt

-- for every ellipsoid, latitude and difference of longitude
module _ (E : Ellipsoid) (n : ℕ) (h : Latitude n) (s : Bool) (d : ℕ) (g : d ≤ 5 ° 30 ' 0 '') where
  abbrev t : ℤ
  t = sine (radians (pos n))

  abbrev c_b : ℤ
  c_b = cosine (radians (pos n))

  abbrev z : ℤ
  z = sine (radians (turned s (pos d)))

  c_b_high : Within c_b (1 * unit)
  unfolding numbers
  c_b_high = w_le (1 * unit) (near_most (latitude_cosine_near n h).near (latitude_cosine_near n h).high) tt

  c_b_low : unit / 2 ≤ nat_abs c_b
  unfolding numbers
  c_b_low = le_trans (lit≤ tt) (near_least (latitude_cosine_near n h).near (latitude_cosine_near n h).low)

  z_high : Within z (1 * unit)
  unfolding numbers
  z_high = within_turned s z (w_le (1 * unit) (near_most (longitude_sine_near s d g).near (longitude_sine_near s d g).high) tt)

  cos_f_high : Within (sphere_at E n).cos_f (1 * unit)
  unfolding sphere_at sphere numbers denominator
  cos_f_high =
      let fd = denominator_of_near E n h in
      let fn = doubled_of_near E n h in
      let low = le_trans (lit≤ {m = 17 * unit / 10} tt) (near_least fd.near fd.low) in
      w_up _ (lit≤ tt)
      (ratio_high (17 * unit / 10) (ratio_div (product (pos 2 *ℤ K_of (constants E) t) c_b) (denominator (K_of (constants E) t) t) (le_trans (lit≤ tt) low))
      (near_most fn.near fn.high) low (lit< tt))

  -- the product of R0·cos f / (N·cos B) and of 1/√(1 - cos²f·sin²d)
  pub sphere_scale_of_near : Fixed (sphere_scale_of E n d) (product (sphere_scale (constants E) (sphere_at E n) t c_b) (mercator_scale (sphere_at E n) z)) (710000 * unit) (88 * S60 / 100) (114 * S60 / 100)
  unfolding sphere_scale_of meridian_of spread_of sphere_scale mercator_scale N_of sphere_at sphere meridian_at spread_at denominator
  sphere_scale_of_near =
      sphere_scale_near E (denominator_of E n) (K_of (constants E) t) c_b (meridian_at E t) (denominator (K_of (constants E) t) t) (spread_at (sphere_at E n).cos_f z)
      (K_of_near E n h) c_b_high c_b_low (meridian_near E t (latitude_sine_near n h)) (denominator_of_near E n h)
      (spread_near s (sphere_at E n).cos_f z cos_f_high z_high (across_of_near E n h s d g))
