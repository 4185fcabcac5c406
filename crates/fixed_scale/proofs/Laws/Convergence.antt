-- The convergence: arctan(sin f·tan d) less the derivative's own direction, as sizes, with the sign of d put on last. Assumes nothing: the derivative's slope
-- comes from f64, and how near it is is for the caller to show.
use Rattle.std.specs.Prelude.{Bool, true, false, ◌≡◌, refl, [], ◌∷◌, ℕ, ◌*◌, ◌-◌, ◌/◌, ◌≤◌, ℤ, pos, neg_ℤ, ◌-ℤ◌, nat_abs}
use Rattle.std.proofs.Common.{sym, arith, lit≤}
use Rattle.std.proofs.Math.Path.{subst}
use Rattle.std.proofs.Math.Nat.{le_trans}
use Rattle.arith.specs.Laws.Ring.{ring, Z·ring, by_ring}
use Rattle.arith.specs.Within.{Within}
use Rattle.arith.specs.Laws.Within.{w_le}
use Rattle.rules.specs.Units.{◌°◌'◌''}
use Rattle.rules.specs.Systems.{Ellipsoid, constants}
use Rattle.rules.specs.Scaled.{unit, product, quotient, radians, sine, cosine, arctan, Pair, direction}
use Rattle.rules.specs.Projection.{K_of, sphere, convergence_of}
use Rattle.fixed.specs.Worked.{S60, mul60, quot60, odd_alt60}
use Rattle.fixed.specs.Nearness.{NearAt, Fixed, Ratio, turned}
use Rattle.fixed.specs.Tables.{arctan_table}
use Rattle.fixed.proofs.Laws.Products.{near_le, near_minus, near_most, fix_le, product_rest, product_comm}
use Rattle.fixed.proofs.Laws.Quotients.{near_least, ratio_div, ratio_mul_by, fix_quot, fix_quot_double}
use Rattle.fixed.proofs.Laws.Turned.{ratio_turned, fix_mul_turned, near_turn}
use Rattle.fixed.proofs.Laws.Functions.{fix_arctan}
use Rattle.fixed.specs.Laws.Numbers.{numbers}
use Rattle.fixed_bands.specs.Bands.{Latitude}
use Rattle.fixed_bands.proofs.Laws.Bands.{longitude_sine_near, longitude_cosine_near}
use Rattle.fixed_forward.specs.Sphere.{numerator, denominator}
use Rattle.fixed_forward.specs.Mercator.{numerator_of, denominator_of, sphere_at}
use Rattle.fixed_forward.proofs.Laws.Mercator.{numerator_of_near, denominator_of_near}
use Rattle.fixed_scale.specs.Convergence.{convergence60, sine_f60, slope_table, turn60, turn_of}

-- ---- sin f
module _ (n2 d2 : ℕ) (n d : ℤ)
    (fn : Fixed (2 * n2) n (110 * unit) (130 * S60 / 100) (176 * S60 / 100))
    (fd : Fixed (2 * d2) d (110 * unit) (178 * S60 / 100) (220 * S60 / 100)) where
  d_low : 17 * unit / 10 ≤ nat_abs d
  unfolding numbers
  d_low = le_trans (lit≤ tt) (near_least fd.near fd.low)

  pub sine_f_near : Fixed (sine_f60 n2 d2) (quotient n d) (140 * unit) (59 * S60 / 100) (99 * S60 / 100)
  unfolding sine_f60 numbers
  sine_f_near =
      fix_le (140 * unit) (59 * S60 / 100) (99 * S60 / 100)
      (fix_quot_double n2 d2 (ratio_div n d (le_trans (lit≤ tt) d_low)) fn fd (tt, tt, tt) tt) tt tt tt

-- ---- arctan(sin f·tan d)
module _ {sf sd cd : ℕ} (s : Bool) (f z c : ℤ)
    (ff : Fixed sf f (140 * unit) (59 * S60 / 100) (99 * S60 / 100))
    (fz : Fixed sd (turned s z) (8 * unit) 0 (961 * S60 / 10000))
    (fc : Fixed cd c (18 * unit) (99 * S60 / 100) S60) where
  c_low : 98 * unit / 100 ≤ nat_abs c
  unfolding numbers
  c_low = le_trans (lit≤ tt) (near_least fc.near fc.low)

  f_high : Within f (1 * unit)
  unfolding numbers
  f_high = w_le (1 * unit) (near_most ff.near ff.high) tt

  -- sin f·tan d is z·f over cos d
  ratio : Ratio (product (quotient z c) f) (product z f) c 4
  ratio = ratio_mul_by 2 f (product z f) 1 1 (ratio_div z c (le_trans (lit≤ tt) c_low)) f_high (twice (nat_abs c) c_low) (product_rest z f)
    where
      twice : (n : ℕ) → 98 * unit / 100 ≤ n → unit ≤ 2 * n
      twice n h = omega arith

  slope_near : Fixed (quot60 (mul60 sd sf) cd) (turned s (product f (quotient z c))) (45 * unit) 0 (97 * S60 / 1000)
  unfolding numbers
  slope_near =
      subst (λ x. Fixed (quot60 (mul60 sd sf) cd) (turned s x) (45 * unit) 0 (97 * S60 / 1000)) (product_comm (quotient z c) f)
      (fix_le (45 * unit) 0 (97 * S60 / 1000) (fix_quot (ratio_turned s ratio) (fix_mul_turned s z fz ff tt tt) fc (tt, tt, tt) tt) tt tt tt)

  pub turn_near : Fixed (turn60 sf sd cd) (turned s (arctan (product f (quotient z c)))) (7000 * unit) 0 (97 * S60 / 1000)
  unfolding turn60 numbers
  turn_near = fix_le (7000 * unit) 0 (97 * S60 / 1000) (fix_arctan arctan_table s (product f (quotient z c)) tt slope_near tt tt tt) tt tt tt

-- ---- signs: one turn after another
other : Bool → Bool → Bool
other true true = false
other true false = true
other false b = b

turned_turned : (s b : Bool) (z : ℤ) → turned s (turned b z) ≡ turned (other s b) z
unfolding turned other
turned_turned true true z = ring (z ∷ []) λ ρ e. simp (Z·ring, e) (by_ring _ _ _ refl)
turned_turned true false z = refl
turned_turned false b z = refl

turned_minus : (s : Bool) (x y : ℤ) → turned s x -ℤ turned s y ≡ turned s (x -ℤ y)
unfolding turned
turned_minus false x y = refl
turned_minus true x y = go x y
  where
    go : (x y : ℤ) → neg_ℤ x -ℤ neg_ℤ y ≡ neg_ℤ (x -ℤ y)
    go x y = ring (x ∷ y ∷ []) λ ρ ex ey. simp (Z·ring, ex, ey) (by_ring _ _ _ refl)

-- the derivative's direction, of a slope near its own: on the side of d or (b) on the other
direction_near : {slope : ℕ} (s b : Bool) (x : ℤ)
    → Fixed slope (turned s (turned b x)) (2000000 * unit) 0 (30 * S60 / 100000)
    → NearAt S60 (turned s (turned b (pos (odd_alt60 slope slope_table)))) (arctan x) (2001000 * unit)
unfolding numbers
direction_near {slope} s b x f =
    let g = subst (λ z. Fixed slope z (2000000 * unit) 0 (30 * S60 / 100000)) (turned_turned s b x) f in
    let a = fix_le (2001000 * unit) 0 (30 * S60 / 100000) (fix_arctan slope_table (other s b) x tt g tt tt tt) tt tt tt in
    subst (λ z. NearAt S60 z (arctan x) (2001000 * unit)) (sym (turned_turned s b (pos (odd_alt60 slope slope_table)))) (near_turn (other s b) (arctan x) a.near)

-- ---- for every ellipsoid, latitude and difference of longitude, and every slope near the derivative's
pub convergence_near : {slope : ℕ} (E : Ellipsoid) (n : ℕ)
    → Latitude n
    → (s : Bool) (d : ℕ)
    → d ≤ 5 ° 30 ' 0 ''
    → (b : Bool) (h : Pair)
    → Fixed slope (turned s (turned b (quotient h.second h.first))) (2000000 * unit) 0 (30 * S60 / 100000)
    → NearAt S60 (turned s (convergence60 (turn_of E n d) b slope)) (convergence_of (sphere_at E n) (sine (radians (turned s (pos d)))) (cosine (radians (turned s (pos d)))) h) (2012000 * unit)
unfolding convergence60 convergence_of direction sphere_at sphere turn_of numerator denominator
convergence_near {slope} E n l s d g b h fσ =
    let t = sine (radians (pos n)) in
    let K = K_of (constants E) t in
    let fs = sine_f_near (numerator_of E n) (denominator_of E n) (numerator K t) (denominator K t) (numerator_of_near E n l) (denominator_of_near E n l) in
    let a = turn_near s (quotient (numerator K t) (denominator K t)) (sine (radians (turned s (pos d)))) (cosine (radians (turned s (pos d)))) fs (longitude_sine_near s d g) (longitude_cosine_near s d g) in
    subst (λ z. NearAt S60 z (arctan (product (quotient (numerator K t) (denominator K t)) (quotient (sine (radians (turned s (pos d)))) (cosine (radians (turned s (pos d)))))) -ℤ arctan (quotient h.second h.first)) (2012000 * unit))
    (turned_minus s (pos (turn_of E n d)) (turned b (pos (odd_alt60 slope slope_table))))
    (near_le (2012000 * unit) (near_minus (near_turn s (arctan (product (quotient (numerator K t) (denominator K t)) (quotient (sine (radians (turned s (pos d)))) (cosine (radians (turned s (pos d))))))) a.near) (direction_near s b (quotient h.second h.first) fσ)) tt)
