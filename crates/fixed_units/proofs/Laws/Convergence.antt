-- The convergence in whole thousandths of an arc second: its sign, its size, and how near it is to the definition's. Assumes nothing: the derivative's slope comes
-- from f64, and how near it is is for the caller to show.
use Rattle.std.specs.Prelude.{Bool, true, false, ◌≡◌, refl, [], ◌∷◌, ℕ, zero, suc, ◌+◌, ◌*◌, ◌/◌, ◌^◌, ◌≤◌, ℤ, pos, negsuc, neg_ℤ, nat_abs}
use Rattle.std.proofs.Common.{sym, ◌∙◌, ap, subst, le_trans, arith, lit<, lit≤}
use Rattle.arith.specs.Laws.Ring.{ring, Z·ring, by_ring}
use Rattle.arith.specs.Laws.Within.{by_abs, w_sub}
use Rattle.rules.specs.Units.{◌°◌'◌'', half_turn_in_thousandths}
use Rattle.rules.specs.Systems.{Ellipsoid, constants}
use Rattle.rules.specs.Scaled.{unit, quotient, radians, sine, cosine, turned_to, Pair}
use Rattle.rules.specs.Projection.{K_of, convergence_of}
use Rattle.rules.specs.Rounding.{Within}
use Rattle.fixed.specs.Worked.{S60, mul60, odd_alt60}
use Rattle.fixed.specs.Nearness.{NearAt, Near60, Fixed, turned}
use Rattle.fixed.proofs.Laws.Words.{mul60_is}
use Rattle.fixed.proofs.Laws.Loops.{alt60_is, mul_small}
use Rattle.fixed.proofs.Laws.Bounds.{w_pos}
use Rattle.fixed.proofs.Laws.Products.{near_neg}
use Rattle.fixed.specs.Laws.Turned.{below_zero}
use Rattle.fixed.proofs.Laws.Turned.{turned_size, turned_within}
use Rattle.fixed_bands.specs.Bands.{Latitude}
use Rattle.fixed_bands.proofs.Laws.Bands.{longitude_sine_near, longitude_cosine_near}
use Rattle.fixed_forward.specs.Sphere.{numerator, denominator}
use Rattle.fixed_forward.specs.Mercator.{numerator_of, denominator_of, sphere_at}
use Rattle.fixed_forward.proofs.Laws.Mercator.{numerator_of_near, denominator_of_near}
use Rattle.fixed_inverse.specs.Worked.{nearest_even}
use Rattle.fixed_inverse.proofs.Laws.Ticks.{nearest_even_is}
use Rattle.fixed_scale.specs.Convergence.{slope_table, convergence60, turn_of}
use Rattle.fixed_scale.proofs.Laws.Convergence.{sine_f_near, turn_near, convergence_near}
use Rattle.fixed_units.specs.Worked.{ThousandthC, angle_units, convergence_units}
use Rattle.fixed_units.specs.Rounded.{angle_e}
use Rattle.fixed_units.proofs.Laws.Rounded.{rounded_within, within_turn, near_angle, angle_ratio}

-- ---- the sign is put on last
none : angle_units 0 ≡ 0
unfolding angle_units nearest_even mul60
none = refl

pub convergence_units_neg : (g : ℤ) → convergence_units (neg_ℤ g) ≡ neg_ℤ (convergence_units g)
unfolding convergence_units turned
convergence_units_neg (pos zero) = ap pos none ∙ ap (λ n. neg_ℤ (pos n)) (sym none)
convergence_units_neg (pos (suc n)) = refl
convergence_units_neg (negsuc n) = twice (pos (angle_units (suc n)))
  where
    twice : (z : ℤ) → z ≡ neg_ℤ (neg_ℤ z)
    twice z = ring (z ∷ []) λ ρ e. simp (Z·ring, e) (by_ring _ _ _ refl)

pub convergence_units_turned : (s : Bool) (g : ℤ) → convergence_units (turned s g) ≡ turned s (convergence_units g)
unfolding turned
convergence_units_turned false g = refl
convergence_units_turned true g = convergence_units_neg g

-- ---- a size within 2,012,000 units of 2^-60 is answered within 0.51 of a thousandth
angle_units_near : (s : Bool) (a : ℕ) (w : ℤ) → a ≤ S60 / 2 → Near60 a (turned s w) (2012000 * unit) → Within 51 (pos (angle_units a)) (turned s (turned_to half_turn_in_thousandths w))
unfolding angle_units angle_e
angle_units_near s a w h n =
    rounded_within 51 (2 ^ 32) (lit< tt)
    (near_angle half_turn_in_thousandths ThousandthC (2 ^ 32) (S60 / 2) (mul60_is a ThousandthC (le_trans h (lit≤ tt)) (lit≤ tt)) h n (angle_ratio s half_turn_in_thousandths w))
    (nearest_even_is (mul60 a ThousandthC) (2 ^ 32) (lit< tt)) tt

turn_back : {a e : ℕ} {w : ℤ} (s : Bool) → NearAt S60 (turned s (pos a)) w e → Near60 a (turned s w) e
unfolding turned
turn_back false h = h
turn_back {a} {e} {w} true h = subst (λ z. NearAt S60 z (neg_ℤ w) e) (twice (pos a)) (near_neg h)
  where
    twice : (z : ℤ) → neg_ℤ (neg_ℤ z) ≡ z
    twice z = ring (z ∷ []) λ ρ e. simp (Z·ring, e) (by_ring _ _ _ refl)

pub convergence_units_near : (g w : ℤ) → nat_abs g ≤ S60 / 2 → NearAt S60 g w (2012000 * unit) → Within 51 (convergence_units g) (turned_to half_turn_in_thousandths w)
unfolding convergence_units
convergence_units_near g w h n =
    within_turn (below_zero g)
    (angle_units_near (below_zero g) (nat_abs g) w h (turn_back (below_zero g) (subst (λ z. NearAt S60 z w (2012000 * unit)) (sym (turned_size g)) n)))

-- ---- the size of a worked convergence
slope_small : (slope : ℕ) → slope ≤ S60 → odd_alt60 slope slope_table ≤ slope
unfolding odd_alt60
slope_small slope h =
    let q = mul60_is slope slope (le_trans h (lit≤ tt)) (le_trans h (lit≤ tt)) in
    let v = alt60_is (mul60 slope slope) S60 slope_table (lit≤ tt) tt (le_trans (mul_small q h) h) in
    mul_small (mul60_is slope _ (le_trans h (lit≤ tt)) (le_trans v.high (lit≤ tt))) v.high

pub convergence_small : (turn slope : ℕ) (b : Bool) → turn ≤ S60 / 4 → slope ≤ 30 * S60 / 100000 → nat_abs (convergence60 turn b slope) ≤ S60 / 2
unfolding convergence60
convergence_small turn slope b h k =
    le_trans (w_sub (w_pos h) (turned_within b (w_pos (le_trans (slope_small slope (le_trans k (lit≤ tt))) k)))).within (lit≤ tt)

turn_small : (E : Ellipsoid) (n d : ℕ) → Latitude n → d ≤ 5 ° 30 ' 0 '' → turn_of E n d ≤ S60 / 4
unfolding turn_of turned
turn_small E n d l g =
    let t = sine (radians (pos n)) in
    let K = K_of (constants E) t in
    let f = sine_f_near (numerator_of E n) (denominator_of E n) (numerator K t) (denominator K t) (numerator_of_near E n l) (denominator_of_near E n l) in
    le_trans (turn_near false (quotient (numerator K t) (denominator K t)) (sine (radians (pos d))) (cosine (radians (pos d))) f (longitude_sine_near false d g) (longitude_cosine_near false d g)).high (lit≤ tt)

pub convergence_of_small : (E : Ellipsoid) (n d slope : ℕ) (b : Bool) → Latitude n → d ≤ 5 ° 30 ' 0 '' → slope ≤ 30 * S60 / 100000 → nat_abs (convergence60 (turn_of E n d) b slope) ≤ S60 / 2
convergence_of_small E n d slope b l g k = convergence_small (turn_of E n d) slope b (turn_small E n d l g) k

-- ---- for every ellipsoid, latitude and difference of longitude, and every slope near the derivative's
pub convergence_band : {slope : ℕ} (E : Ellipsoid) (n : ℕ)
    → Latitude n
    → (s : Bool) (d : ℕ)
    → d ≤ 5 ° 30 ' 0 ''
    → (b : Bool) (h : Pair)
    → Fixed slope (turned s (turned b (quotient h.second h.first))) (2000000 * unit) 0 (30 * S60 / 100000)
    → Within 51 (convergence_units (turned s (convergence60 (turn_of E n d) b slope))) (turned_to half_turn_in_thousandths (convergence_of (sphere_at E n) (sine (radians (turned s (pos d)))) (cosine (radians (turned s (pos d)))) h))
convergence_band {slope} E n l s d g b h f =
    convergence_units_near (turned s (convergence60 (turn_of E n d) b slope)) _
    (turned_within s (by_abs (convergence60 (turn_of E n d) b slope) (convergence_of_small E n d slope b l g f.high))).within
    (convergence_near E n l s d g b h f)
