-- On the central meridian the definition's scale before m0 lies within 10^-11 of 1, on every latitude from 48° to 56°; so after m0, in the answer's units, it lies within
-- 0.02 of m0's. Assumes nothing.
use Rattle.std.specs.Prelude.{◌≡◌, refl, [], ◌∷◌, ℕ, ◌+◌, ◌*◌, ◌-◌, ◌/◌, ◌%◌, ◌^◌, ◌<◌, ◌≤◌, ℤ, nat_abs, ◌-ℤ◌, ◌*ℤ◌}
use Rattle.std.proofs.Common.{sym, ◌∙◌, le_trans, le_of_eq, div-add-mod', arith, lit<, lit≤}
use Rattle.std.proofs.Math.Path.{ap, subst}
use Rattle.std.proofs.Math.IntN.{pos}
use Rattle.arith.specs.Laws.Ring.{ring, Z·ring, by_ring}
use Rattle.arith.specs.Laws.Order.{abs_sub_comm}
use Rattle.arith.specs.Within as A
use Rattle.arith.specs.Laws.Within.{w_num, w_sub, w_mul}
use Rattle.rules.specs.Units.{units_in_scale}
use Rattle.rules.specs.Systems.{System, Ellipsoid, constants}
use Rattle.rules.specs.Scaled.{unit, one, product, sqrt, radians, sine, cosine}
use Rattle.rules.specs.Projection as Unrounded
use Rattle.rules.specs.Projection.{K_of, sphere, sphere_scale, two_millionths}
use Rattle.rules.specs.Rounding.{Within}
use Rattle.rules.proofs.Laws.Meridian.{straight_slope, scale_0}
use Rattle.fixed.proofs.Laws.Bounds.{w_div, w_same, w_up, w_pos}
use Rattle.fixed.proofs.Laws.Products.{product_rest}
use Rattle.fixed_bands.specs.Worked.{width}
use Rattle.fixed_bands.specs.Along.{north, latitude_sine_model, latitude_cosine_model}
use Rattle.fixed_bands.proofs.Laws.Along.{latitude_sine_follows, latitude_cosine_follows}
use Rattle.fixed_bands.specs.Bands.{Latitude}
use Rattle.fixed_bands.proofs.Laws.Tests.{every_at}
use Rattle.meridian.specs.Models.{gap, test_band}
use Rattle.meridian.proofs.Laws.Followed.{followed}
use Rattle.meridian.proofs.Laws.Checks.{passes}

-- the scale before m0, of an ellipsoid and a latitude of n ticks
unfoldable pub before_m0 : Ellipsoid → ℕ → ℤ
before_m0 E n =
    let k = constants E in
    let t = sine (radians (pos n)) in
    let c = cosine (radians (pos n)) in
    let f = sphere (K_of k t) t c in
    product (product (sphere_scale k f t c) one) (product (sqrt (product (straight_slope k f).first (straight_slope k f).first)) two_millionths)

module _ (E : Ellipsoid) (n : ℕ) (a : Latitude n) where
  abbrev band : ℕ
  band = (n - north) / width

  again : north + ((n - north) / width * width + (n - north) % width) ≡ n
  again = ap (λ m. north + m) (div-add-mod' (n - north) width) ∙ omega (arith, a.low)

  inside : band < 32
  inside = omega (arith, a.low, a.high)

  below : (n - north) % width ≤ width
  below = omega arith

  pub one_before_m0 : A.Within (before_m0 E n -ℤ one) gap
  unfolding before_m0 test_band
  one_before_m0 =
      subst (λ m. A.Within (before_m0 E m -ℤ one) gap) again
      (followed below (constants E) (latitude_sine_model band) (latitude_cosine_model band) (every_at 32 (test_band E) (passes E) band inside)
      (latitude_sine_follows band ((n - north) % width) below) (latitude_cosine_follows band ((n - north) % width) below))

-- ---- after m0 of M millionths, in units of 10^-9, of which it is a whole number
pub m0_whole : (M : ℕ) → pos units_in_scale *ℤ pos (M * 10 ^ 18) ≡ pos (1000 * M) *ℤ pos unit
m0_whole M = ap pos (go M)
  where
    go : (M : ℕ) → units_in_scale * (M * 10 ^ 18) ≡ 1000 * M * unit
    go M = omega arith

module _ (s : System) (M : ℕ) (is : s.m0 ≡ pos (M * 10 ^ 18)) (most : M ≤ 1000000) (n : ℕ) (a : Latitude n) where
  abbrev p : ℤ
  p = product (before_m0 s.ellipsoid n) (pos (M * 10 ^ 18))

  is_product : (Unrounded.forward s (pos n) s.L0).scale ≡ pos units_in_scale *ℤ p
  unfolding before_m0
  is_product = scale_0 s (pos n) ∙ ap (λ m. pos units_in_scale *ℤ product (before_m0 s.ellipsoid n) m) is

  m0_small : A.Within (pos (M * 10 ^ 18)) unit
  m0_small = w_pos (go most)
    where
      go : {M : ℕ} → M ≤ 1000000 → M * 10 ^ 18 ≤ unit
      go h = omega arith

  near_m0 : A.Within (p -ℤ pos (M * 10 ^ 18)) (gap + 1)
  near_m0 =
      w_up (gap + 1) (lit≤ tt)
      (w_div (p -ℤ pos (M * 10 ^ 18)) unit _ (lit< tt)
      (w_same _ (law (before_m0 s.ellipsoid n) p (pos (M * 10 ^ 18)) (pos unit)) (w_sub (w_mul (one_before_m0 s.ellipsoid n a) m0_small) (product_rest (before_m0 s.ellipsoid n) (pos (M * 10 ^ 18))))))
    where
      law : (w x m U : ℤ) → (w -ℤ U) *ℤ m -ℤ (w *ℤ m -ℤ x *ℤ U) ≡ (x -ℤ m) *ℤ U
      law w x m U = ring (w ∷ x ∷ m ∷ U ∷ []) λ ρ e1 e2 e3 e4. simp (Z·ring, e1, e2, e3, e4) (by_ring _ _ _ refl)

  pub scale_near_m0 : Within 2 (pos (1000 * M)) (Unrounded.forward s (pos n) s.L0).scale
  scale_near_m0 =
      subst (λ v. Within 2 (pos (1000 * M)) v) (sym is_product)
      (record { bound = few (w_same _ (law p (pos units_in_scale) (pos (M * 10 ^ 18)) ∙ ap (λ z. pos units_in_scale *ℤ p -ℤ z) (m0_whole M)) (w_mul (w_num units_in_scale) near_m0)).within })
    where
      law : (x k m : ℤ) → k *ℤ (x -ℤ m) ≡ k *ℤ x -ℤ k *ℤ m
      law x k m = ring (x ∷ k ∷ m ∷ []) λ ρ e1 e2 e3. simp (Z·ring, e1, e2, e3) (by_ring _ _ _ refl)

      few : nat_abs (pos units_in_scale *ℤ p -ℤ pos (1000 * M) *ℤ pos unit) ≤ units_in_scale * (gap + 1) → 100 * nat_abs (pos (1000 * M) *ℤ pos unit -ℤ pos units_in_scale *ℤ p) ≤ 2 * unit
      few h = go (nat_abs (pos (1000 * M) *ℤ pos unit -ℤ pos units_in_scale *ℤ p)) (le_trans (le_of_eq (abs_sub_comm (pos (1000 * M) *ℤ pos unit) (pos units_in_scale *ℤ p))) h)
        where
          go : (x : ℕ) → x ≤ units_in_scale * (gap + 1) → 100 * x ≤ 2 * unit
          go x h = omega arith
