-- 02 (xi), of what the calls answer: two points equally far from the central meridian, one on either side, are refused alike or answered alike, to the last unit; so is the way
-- back; and on the meridian itself Y is y0, the convergence 0, and y0 gives L0. Assumes nothing.
use Rattle.std.specs.Prelude.{Bool, true, ◌≡◌, ℕ, ◌≤◌, ℤ, pos, neg_ℤ, nat_abs, ◌-ℤ◌}
use Rattle.std.proofs.Math.Bool.{false}
use Rattle.std.proofs.Math.Path.{refl, subst}
use Rattle.std.proofs.Common.{sym, ◌∙◌, ap, arith}
use Rattle.rules.specs.Units.{◌°◌'◌''}
use Rattle.rules.specs.Refusals.{Answer, answered, refused, crossed_at, ◌>>=◌, ◌>>◌, ◌if◌, plane_outside}
use Rattle.rules.specs.Systems.{System, system}
use Rattle.rules.specs.Projection as Unrounded
use Rattle.rules.specs.Points.{Ticks, offset_Y, latitude_bad, plane_bad, forward_checks, judged, NearForward, NearInverse}
use Rattle.rules.specs.EastWest.{EitherSide, Alike, Both, EastAndWestAlike, AlikeBack, BackAlike, OnTheMeridian, BackOnTheMeridian}
use Rattle.rules.proofs.Laws.Checks.{forward_passed}
use Rattle.rules.proofs.Laws.Meridian.{none_left}
use Rattle.rules.proofs.Laws.EastWest.{turned_about, its_own, at_middle, alike_turned, alike_back_turned, longitude_alike, plane_alike, judged_alike, no_side, no_side_back, on_the_meridian, back_on_the_meridian}
use Rattle.projection_worked.specs.Worked.{worked_point, worked_forward}
use Rattle.projection_worked.specs.Inverse.{worked_pair, worked_ticks, worked_inverse, in_system}
use Rattle.projection_worked.proofs.Laws.InverseBox.{system_millionths}
use Rattle.projection_worked.proofs.Laws.InverseChecked.{worked_known}
use Rattle.projection_worked.proofs.Laws.Inverse.{ticks_near}
use Rattle.projection_worked.proofs.Laws.MirrorParts.{point_mirrored, ticks_at, ticks_mirrored, both_sides}
use Rattle.projection_worked.proofs.Laws.Point.{point_near}
use Rattle.projection_worked.proofs.Laws.Right.{right}

-- ---- the meridian itself
pub worked_on_the_meridian : OnTheMeridian worked_forward
worked_on_the_meridian = on_the_meridian right

pub worked_back_on_the_meridian : BackOnTheMeridian worked_inverse
worked_back_on_the_meridian = back_on_the_meridian right

-- ---- forward
module _ (code : ℕ) (s : System) (B L M : ℤ) (e : system code ≡ answered s) (h : EitherSide s.L0 L M) where
  same_checks : forward_checks code B L ≡ forward_checks code B M
  unfolding forward_checks
  same_checks = rw (e, longitude_alike s L M h) refl

  points_alike : latitude_bad B ≡ false → Alike s (worked_point s B (L -ℤ s.L0)) (worked_point s B (M -ℤ s.L0))
  points_alike b =
      subst (λ d. Alike s (worked_point s B (L -ℤ s.L0)) (worked_point s B d)) (sym (turned_about s.L0 L M h))
      (both_sides (Alike s) (worked_point s B) (point_mirrored s B) (alike_turned s) (L -ℤ s.L0) (λ z. middle))
    where
      reach : (d : ℤ) → d ≡ pos 0 → nat_abs d ≤ 5 ° 30 ' 0 ''
      reach d z = rw z (omega arith)

      near : NearForward s (Unrounded.forward s B s.L0) (worked_point s B (pos 0))
      near = subst (λ d. NearForward s (Unrounded.forward s B s.L0) (worked_point s B d)) (none_left s.L0) (point_near s (system_millionths code s e) B s.L0 b (reach _ (none_left s.L0)))

      middle : Alike s (worked_point s B (pos 0)) (worked_point s B (pos 0))
      middle = let n = no_side s B (worked_point s B (pos 0)) near in record { X = refl; Y = its_own (offset_Y s) (worked_point s B (pos 0)).Y n.0; scale = refl; convergence = n.1 ∙ sym (ap neg_ℤ n.1) }

  by_checks : (a : Answer System) → forward_checks code B L ≡ a
      → Both (Alike s) (a >>= λ t. answered (worked_point t B (L -ℤ t.L0))) (a >>= λ t. answered (worked_point t B (M -ℤ t.L0)))
  by_checks (answered t) c =
      let passed = forward_passed code t B L c in
      let known = passed.0 in
      let same : s ≡ t = cc in
      (worked_point t B (M -ℤ t.L0), refl, subst (λ t. Alike s (worked_point t B (L -ℤ t.L0)) (worked_point t B (M -ℤ t.L0))) same (points_alike passed.1))
  by_checks (refused n) c = refl
  by_checks (crossed_at pair) c = refl

pub east_and_west_alike : EastAndWestAlike worked_forward
unfolding worked_forward
east_and_west_alike code s B L M e h =
    subst (λ a. Both (Alike s) (worked_forward code B L) (a >>= λ t. answered (worked_point t B (M -ℤ t.L0)))) (same_checks code s B L M e h)
    (by_checks code s B L M e h (forward_checks code B L) refl)

-- ---- inverse
module _ (code : ℕ) (s : System) (X Y Z : ℤ) (e : system code ≡ answered s) (h : EitherSide (offset_Y s) Y Z) where
  ticks_alike : plane_bad s X Y ≡ false → AlikeBack s (worked_ticks s X Y) (worked_ticks s X Z)
  unfolding worked_ticks worked_pair
  ticks_alike p =
      subst (λ b. AlikeBack s (ticks_at s X (Y -ℤ offset_Y s)) (ticks_at s X b)) (sym (turned_about (offset_Y s) Y Z h))
      (both_sides (AlikeBack s) (ticks_at s X) (ticks_mirrored s X) (alike_back_turned s) (Y -ℤ offset_Y s) (λ z. middle (subst (λ y. plane_bad s X y ≡ false) (at_middle (offset_Y s) Y z) p)))
    where
      middle : plane_bad s X (offset_Y s) ≡ false → AlikeBack s (ticks_at s X (pos 0)) (ticks_at s X (pos 0))
      middle p =
          let near = subst (λ b. NearInverse s (Unrounded.inverse s X (offset_Y s)) (ticks_at s X b)) (none_left (offset_Y s)) (ticks_near s (system_millionths code s e) X (offset_Y s) p) in
          record { B = refl; L = its_own s.L0 (ticks_at s X (pos 0)).L (no_side_back s X (ticks_at s X (pos 0)) near) }

  abbrev by_test : Bool → ℤ → Answer Ticks
  by_test b y = plane_outside if b >> judged s (worked_ticks s X y)

  tested : (b : Bool) → plane_bad s X Y ≡ b → Both (AlikeBack s) (by_test b Y) (by_test b Z)
  tested true p = refl
  tested false p = judged_alike s (worked_ticks s X Y) (worked_ticks s X Z) (ticks_alike p)

  systems_alike : Both (AlikeBack s) (in_system s X Y) (in_system s X Z)
  systems_alike = subst (Both (AlikeBack s) (in_system s X Y)) (ap (λ b. by_test b Z) (plane_alike s X Y Z h)) (tested (plane_bad s X Y) refl)

pub back_alike : BackAlike worked_inverse
back_alike code s X Y Z e h =
    subst (λ a. Both (AlikeBack s) a (worked_inverse code X Z)) (sym (worked_known code s X Y e))
    (subst (Both (AlikeBack s) (in_system s X Y)) (sym (worked_known code s X Z e)) (systems_alike code s X Y Z e h))
