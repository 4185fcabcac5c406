-- The inverse is right: refused as the rules say, and else ticks within 0.52 of the definition's, judged by refusals 2 and 3. Assumes nothing.
use Rattle.std.specs.Prelude.{false, ◌≡◌, [], ◌∷◌, ℕ, nat_abs, ◌+ℤ◌, ◌-ℤ◌}
use Rattle.std.proofs.Math.Path.{refl, ap₂, subst}
use Rattle.std.proofs.Common.{sym}
use Rattle.std.proofs.Math.IntN.{ℤ}
use Rattle.arith.specs.Laws.Ring.{ring, Z·ring, by_ring}
use Rattle.rules.specs.Refusals.{Answer, answered, refused, crossed_at, ◌>>=◌}
use Rattle.rules.specs.Systems.{System, system, constants, b_coefficients}
use Rattle.rules.specs.Scaled.{polynomial}
use Rattle.rules.specs.Scaled as scaled
use Rattle.rules.specs.Rounding.{Within}
use Rattle.rules.proofs.Laws.Checks.{inverse_passed}
use Rattle.rules.proofs.Laws.OwnAnswers.{wider}
use Rattle.rules.specs.Projection as Unrounded
use Rattle.rules.specs.Points.{offset_X, offset_Y, plane_bad, inverse_checks, judged, NearInverse, RightInverse, RightInverseBy}
use Rattle.double.specs.declared.Pair.{Pair}
use Rattle.fixed.specs.Laws.Turned.{below_zero}
use Rattle.fixed_inverse.proofs.Laws.Inverse.{definition, latitude_band, difference_band}
use Rattle.projection_worked.specs.Worked.{millionths_of, below_nought}
use Rattle.projection_worked.specs.Inverse.{latitude_from, difference_from, worked_pair, worked_ticks, worked_inverse}
use Rattle.projection_worked.proofs.Laws.InverseUndone.{defined_length}
use Rattle.projection_worked.proofs.Laws.InverseBox.{Millionths, system_millionths, north_is, boxed}
use Rattle.projection_worked.proofs.Laws.InverseTicks.{defined_pair, side_of, mercator, turned_both}

-- ---- a point of a system that passes refusal 4
module _ (s : System) (m : Millionths s (millionths_of s)) (X Y : ℤ) (p : plane_bad s X Y ≡ false) where
  abbrev n : ℕ
  n = nat_abs (X -ℤ offset_X s)

  abbrev b : ℤ
  b = Y -ℤ offset_Y s

  abbrev defined : scaled.Pair
  defined = defined_pair s.ellipsoid (millionths_of s) n b

  -- the definition's own words come to the same pair
  same_definition : Unrounded.inverse s X Y ≡ definition s.ellipsoid defined.first defined.second
  unfolding Unrounded.inverse Unrounded.undone
  same_definition =
      ap₂ (λ x m0. definition s.ellipsoid (pair x m0).first (pair x m0).second) (sym (north_is s (millionths_of s) m X Y p)) m.is
    where
      pair : ℤ → ℤ → scaled.Pair
      pair x m0 = polynomial (b_coefficients (constants s.ellipsoid)) (Unrounded.centred (constants s.ellipsoid).a0 (record { first = defined_length x m0; second = defined_length b m0 }))

  abbrev p_of : Pair
  p_of = worked_pair s X Y

  B_near : Within 52 (latitude_from s.ellipsoid p_of) (definition s.ellipsoid defined.first defined.second).B
  unfolding latitude_from worked_pair
  B_near = latitude_band s.ellipsoid _ _ _ (mercator s.ellipsoid (millionths_of s) n b (boxed s (millionths_of s) m X Y p))

  L_near : Within 52 (difference_from s.ellipsoid (below_zero b) p_of) (definition s.ellipsoid defined.first defined.second).d
  unfolding difference_from worked_pair
  L_near =
      subst (λ r. Within 52 r (definition s.ellipsoid defined.first defined.second).d) (sym (turned_both (below_zero b) (below_nought p_of.im) _))
      (difference_band s.ellipsoid (side_of s.ellipsoid (millionths_of s) n b) _ _ (mercator s.ellipsoid (millionths_of s) n b (boxed s (millionths_of s) m X Y p)))

  pub ticks_near : NearInverse s (Unrounded.inverse s X Y) (worked_ticks s X Y)
  unfolding worked_ticks
  ticks_near = subst (λ v. NearInverse s v (worked_ticks s X Y)) (sym same_definition) (record { B = wider 60 tt B_near; L = wider 60 tt (subst (λ r. Within 52 r (definition s.ellipsoid defined.first defined.second).d) (sym (less s.L0 (difference_from s.ellipsoid (below_zero b) p_of))) L_near) })
    where
      less : (a d : ℤ) → a +ℤ d -ℤ a ≡ d
      less a d = ring (a ∷ d ∷ []) λ ρ ea ed. simp (Z·ring, ea, ed) (by_ring _ _ _ refl)

-- ---- every point
module _ (code : ℕ) (X Y : ℤ) where
  by_checks : (a : Answer System) → inverse_checks code X Y ≡ a → RightInverseBy X Y a (a >>= λ s. judged s (worked_ticks s X Y))
  by_checks (answered s) e =
      let h = inverse_passed code s X Y e in
      (worked_ticks s X Y, refl, ticks_near s (system_millionths code s h.0) X Y h.1)
  by_checks (refused n) e = refl
  by_checks (crossed_at pair) e = refl

  -- every answer of the worked inverse is right
  pub inverse_right : RightInverse code X Y (worked_inverse code X Y)
  unfolding worked_inverse
  inverse_right = by_checks (inverse_checks code X Y) refl
