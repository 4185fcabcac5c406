-- The forward is right: refused as the rules say, and else X, Y, scale and convergence within 0.51 of the definition's. Assumes nothing.
use Rattle.std.specs.Prelude.{false, ◌≡◌, [], ◌∷◌, ℕ, ◌*◌, ◌^◌, ◌≤◌, ℤ, pos, nat_abs, ◌+ℤ◌, ◌-ℤ◌, ◌*ℤ◌}
use Rattle.std.proofs.Math.Path.{refl, ap₂, subst}
use Rattle.std.proofs.Common.{sym, le_trans}
use Rattle.arith.specs.Laws.Ring.{ring, Z·ring, by_ring}
use Rattle.rules.specs.Units.{◌°◌'◌'', units_in_scale, half_turn_in_thousandths}
use Rattle.rules.specs.Refusals.{Answer, answered, refused, crossed_at, ◌>>=◌}
use Rattle.rules.specs.Systems.{◌/10^◌, System, system, constants, a_coefficients}
use Rattle.rules.specs.Scaled.{radians, sine, cosine, turned_to, polynomial, derivative}
use Rattle.rules.specs.Scaled as scaled
use Rattle.rules.specs.Rounding.{Within}
use Rattle.rules.specs.Projection as Unrounded
use Rattle.rules.specs.Points.{offset_X, offset_Y, latitude_bad, longitude_bad, forward_checks, NearForward, RightForward, RightForwardBy}
use Rattle.rules.proofs.Laws.Checks.{longitude_exact, forward_passed}
use Rattle.fixed.specs.Laws.Turned.{below_zero}
use Rattle.fixed.proofs.Laws.Turned.{turned_size}
use Rattle.fixed_bands.specs.Bands.{Latitude}
use Rattle.fixed_forward.specs.Mercator.{sphere_at, mercator_at}
use Rattle.fixed_units.proofs.Laws.ScaleBand.{scale_band}
use Rattle.fixed_units.proofs.Laws.Convergence.{convergence_band}
use Rattle.projection_worked.specs.Worked.{slope_pair, below_nought, millionths_of, scale_from, convergence_from, worked_X, worked_Y, worked_scale, worked_convergence, worked_point, worked_forward}
use Rattle.projection_worked.proofs.Laws.Forward.{X_near, Y_near}
use Rattle.projection_worked.proofs.Laws.Derivative.{first_fixed, slope_fixed, slope_sided, other}
use Rattle.projection_worked.proofs.Laws.Taken.{latitude_taken}
use Rattle.projection_worked.proofs.Laws.InverseBox.{Millionths, system_millionths, system_narrow}

less_offset : (a d : ℤ) → a +ℤ d -ℤ a ≡ d
less_offset a d = ring (a ∷ d ∷ []) λ ρ ea ed. simp (Z·ring, ea, ed) (by_ring _ _ _ refl)

-- ---- a point of a system that passes refusals 2 and 3
module _ (s : System) (m : Millionths s (millionths_of s)) (B L : ℤ) (h : latitude_bad B ≡ false) (g : nat_abs (L -ℤ s.L0) ≤ 5 ° 30 ' 0 '') where
  abbrev d : ℤ
  d = L -ℤ s.L0

  abbrev n : ℕ
  n = nat_abs B

  latitude : Latitude n
  latitude = (latitude_taken B h).1

  -- the definition's values in the words of the steps
  abbrev defined : Unrounded.Forward
  defined = Unrounded.forward_from (constants s.ellipsoid) (pos (millionths_of s * 10 ^ 18)) (sine (radians (pos n))) (cosine (radians (pos n))) (sine (radians d)) (cosine (radians d))

  same_definition : Unrounded.forward s B L ≡ defined
  unfolding Unrounded.forward
  same_definition = ap₂ (λ x m0. Unrounded.forward_from (constants s.ellipsoid) m0 (sine (radians x)) (cosine (radians x)) (sine (radians d)) (cosine (radians d))) (latitude_taken B h).0 m.is

  X_right : Within 51 (worked_X s B d -ℤ offset_X s) defined.north
  unfolding worked_X Unrounded.forward_from mercator_at sphere_at
  X_right = subst (λ r. Within 51 r defined.north) (sym (less_offset (offset_X s) _)) (X_near s.ellipsoid n d latitude g (millionths_of s) m.high)

  Y_right : Within 51 (worked_Y s B d -ℤ offset_Y s) defined.east
  unfolding worked_Y Unrounded.forward_from mercator_at sphere_at
  Y_right = subst (λ r. Within 51 r defined.east) (sym (less_offset (offset_Y s) _)) (Y_near s.ellipsoid n d latitude g (millionths_of s) m.high)

  abbrev derived : scaled.Pair
  derived = polynomial (derivative (a_coefficients (constants s.ellipsoid))) (Unrounded.centred (5760000 /10^ 0) (mercator_at s.ellipsoid n d))

  scale_right : Within 51 (worked_scale s B d) defined.scale
  unfolding worked_scale scale_from Unrounded.forward_from mercator_at sphere_at
  scale_right =
      let E = s.ellipsoid in
      let b = other (below_nought (slope_pair E n (nat_abs d)).im) (below_zero d) in
      subst (λ e. Within 51 (worked_scale s B d) (pos units_in_scale *ℤ Unrounded.scale_of (constants E) (pos (millionths_of s * 10 ^ 18)) (sphere_at E n) (sine (radians (pos n))) (cosine (radians (pos n))) (sine (radians e)) derived)) (turned_size d)
      (scale_band E (millionths_of s) m.high n latitude (below_zero d) (nat_abs d) g b derived (first_fixed E n d latitude g) (slope_fixed E n d latitude g))

  convergence_right : Within 51 (worked_convergence s B d) defined.convergence
  unfolding worked_convergence convergence_from Unrounded.forward_from mercator_at sphere_at
  convergence_right =
      let E = s.ellipsoid in
      subst (λ e. Within 51 (worked_convergence s B d) (turned_to half_turn_in_thousandths (Unrounded.convergence_of (sphere_at E n) (sine (radians e)) (cosine (radians e)) derived))) (turned_size d)
      (convergence_band E n latitude (below_zero d) (nat_abs d) g (below_nought (slope_pair E n (nat_abs d)).im) derived (slope_sided E n d latitude g))

  pub point_near : NearForward s (Unrounded.forward s B L) (worked_point s B d)
  unfolding worked_point
  point_near = subst (λ v. NearForward s v (worked_point s B d)) (sym same_definition) (record { X = X_right; Y = Y_right; scale = scale_right; convergence = convergence_right })

-- ---- every point
pub within_reach : (code : ℕ) (s : System) (L : ℤ) → system code ≡ answered s → longitude_bad s L ≡ false → nat_abs (L -ℤ s.L0) ≤ 5 ° 30 ' 0 ''
within_reach code s L e k = le_trans ((longitude_exact s L).0 k) (system_narrow code s e)

module _ (code : ℕ) (B L : ℤ) where
  by_checks : (a : Answer System) → forward_checks code B L ≡ a → RightForwardBy B L a (a >>= λ s. answered (worked_point s B (L -ℤ s.L0)))
  by_checks (answered s) e =
      let h = forward_passed code s B L e in
      (worked_point s B (L -ℤ s.L0), refl, point_near s (system_millionths code s h.0) B L h.1 (within_reach code s L h.0 h.2))
  by_checks (refused n) e = refl
  by_checks (crossed_at pair) e = refl

  -- every answer of the worked forward is right
  pub forward_right : RightForward code B L (worked_forward code B L)
  unfolding worked_forward
  forward_right = by_checks (forward_checks code B L) refl
