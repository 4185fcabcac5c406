-- 02 (ii): on the central meridian the scale answered is m0 itself, in every code and on every latitude that is taken: by the worked value and by the definition. Assumes
-- nothing.
use Rattle.std.specs.Prelude.{false, ◌≡◌, ℕ, ◌*◌, ◌^◌, ◌≤◌, ℤ, pos, nat_abs, ◌*ℤ◌}
use Rattle.std.proofs.Common.{sym, ◌∙◌, ap, subst, le_of_eq, arith}
use Rattle.rules.specs.Units.{units_in_scale}
use Rattle.rules.specs.Refusals.{Answer, answered}
use Rattle.rules.specs.Systems.{System, system}
use Rattle.rules.specs.Scaled.{unit}
use Rattle.rules.specs.Rounding.{nearest, Within}
use Rattle.rules.specs.Projection as Unrounded
use Rattle.rules.specs.Points.{Point, latitude_bad, longitude_bad, forward_checks, forward, m0_answered, ScaleOnTheMeridian, RightForward, RightForwardBy}
use Rattle.rules.proofs.Laws.Checks.{longitude_exact, forward_passes}
use Rattle.rules.proofs.Laws.Meridian.{none_left}
use Rattle.rules.proofs.Laws.OwnAnswers.{alone, nearest_within, forward_is_right}
use Rattle.meridian.proofs.Laws.Scale.{m0_whole, scale_near_m0}
use Rattle.projection_worked.specs.Worked.{millionths_of, worked_forward}
use Rattle.projection_worked.proofs.Laws.Taken.{latitude_taken}
use Rattle.projection_worked.proofs.Laws.InverseBox.{system_millionths}
use Rattle.projection_worked.proofs.Laws.Point.{forward_right}

-- m0 is a whole number of the answer's units, so it is answered as it is
whole : (s : System) (M : ℕ) → s.m0 ≡ pos (M * 10 ^ 18) → pos (1000 * M) ≡ m0_answered s
unfolding m0_answered
whole s M e = alone (pos (1000 * M)) (nearest (pos units_in_scale *ℤ s.m0)) (pos units_in_scale *ℤ s.m0) (subst (λ m. Within 0 (pos (1000 * M)) (pos units_in_scale *ℤ m)) (sym e) exact) (nearest_within (pos units_in_scale *ℤ s.m0)) tt
  where
    exact : Within 0 (pos (1000 * M)) (pos units_in_scale *ℤ pos (M * 10 ^ 18))
    exact = subst (Within 0 (pos (1000 * M))) (sym (m0_whole M)) (record { bound = le_of_eq (ap (λ z. 100 * nat_abs z) (none_left (pos (1000 * M) *ℤ pos unit))) })

module _ (code : ℕ) (s : System) (B : ℤ) (e : system code ≡ answered s) (h : latitude_bad B ≡ false) where
  abbrev Answered : Answer Point → Type 0
  Answered r = (p : Point) × (r ≡ answered p) × (p.scale ≡ m0_answered s)

  not_outside : longitude_bad s s.L0 ≡ false
  not_outside = (longitude_exact s s.L0).1 (subst (λ z. nat_abs z ≤ s.half_width) (sym (none_left s.L0)) (none s.half_width))
    where
      none : (n : ℕ) → 0 ≤ n
      none n = omega arith

  taken : forward_checks code B s.L0 ≡ answered s
  taken = forward_passes code s B s.L0 e h not_outside

  near_m0 : Within 2 (pos (1000 * millionths_of s)) (Unrounded.forward s B s.L0).scale
  near_m0 =
      let m = system_millionths code s e in
      let b = latitude_taken B h in
      subst (λ x. Within 2 (pos (1000 * millionths_of s)) (Unrounded.forward s x s.L0).scale) (sym b.0) (scale_near_m0 s (millionths_of s) m.is m.high (nat_abs B) b.1)

  -- what is right there has m0 for its scale
  right_there : (r : Answer Point) → RightForward code B s.L0 r → Answered r
  right_there r right = go (subst (λ a. RightForwardBy B s.L0 a r) taken right)
    where
      go : RightForwardBy B s.L0 (answered s) r → Answered r
      go a = (a.0, a.1, alone a.0.scale (pos (1000 * millionths_of s)) _ a.2.scale near_m0 tt ∙ whole s (millionths_of s) (system_millionths code s e).is)

pub worked_meridian : ScaleOnTheMeridian worked_forward
worked_meridian code s B e h = right_there code s B e h (worked_forward code B s.L0) (forward_right code B s.L0)

pub defined_meridian : ScaleOnTheMeridian forward
defined_meridian code s B e h = right_there code s B e h (forward code B s.L0) (forward_is_right code B s.L0)
