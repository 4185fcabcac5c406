-- Two rings whose boxes have no point in common: no edges meet, and neither is inside the other. Assumes nothing.
use Rattle.std.specs.Prelude.{◌≡◌, true, ◌&&◌, ◌⊎◌, List, ℕ, ◌+◌, ◌-◌, ◌<◌, ℤ, pos, ◌<ℤ◌}
use Rattle.std.proofs.Common.{◌∙◌, ap, arith}
use Rattle.std.proofs.Math.Bool.{false}
use Rattle.std.proofs.Math.Logic.{inl, inr, ⊎_elim}
use Rattle.std.proofs.Math.ListN.{length, get_or}
use Rattle.std.specs.Int.Signed.{lt_z, <ℤ-≤ℤ_trans}
use Rattle.arith.specs.Laws.Order.{≤ℤ-<ℤ_trans}
use Rattle.rules.specs.Rings.{Corner, ◌to◌, origin, edges, turning_number, is_zero}
use Rattle.rules.specs.Placing.{meets_one, rings_meet, first_outside, entangled}
use Rattle.rules.proofs.Laws.Checks.{lt_z_true, or_true}
use Rattle.rules.proofs.Laws.Outside.{below_x, above_x, below_y, above_y}
use Rattle.ring_boxes.specs.Boxes.{Inside, Holds, Spans}
use Rattle.ring_boxes.specs.declared.reach.Reach.{Reach}
use Rattle.ring_pairs.specs.Crossings.{outside, away}
use Rattle.ring_pairs.specs.Laws.Search.{Unmet}
use Rattle.ring_pairs.specs.Laws.Runs.{both, away_inside}
use Rattle.ring_placing.specs.Around.{Around, Apart}
use Rattle.ring_placing.specs.Laws.Meeting.{any_is, found_last, unmet_ring}
use Rattle.ring_placing.specs.Laws.Placing.{first_at, not_tangled}

-- ---- of one axis, one above the other or below it
abbrev Clear : ℤ → ℤ → ℤ → ℤ → Type 0
Clear low high c d = (high <ℤ c) ⊎ (d <ℤ low)

clear_of : (low high c d : ℤ) → outside low high c d ≡ true → Clear low high c d
unfolding outside
clear_of low high c d e = ⊎_elim
    (λ t. inl ((lt_z_true high c).0 (both (lt_z high c) (lt_z high d) t).0))
    (λ t. inr ((lt_z_true d low).0 (both (lt_z c low) (lt_z d low) t).1))
    ((or_true (lt_z high c && lt_z high d) (lt_z c low && lt_z d low)).0 e)

turned_about : {low high c d : ℤ} → Clear low high c d → Clear c d low high
turned_about h = ⊎_elim (λ a. inr a) (λ a. inl a) h

-- ---- a point of a box that is clear of a ring's box has turning number 0 there
zero_outside : {r : List Corner} {last : ℕ} {b : Reach} {c d p : Corner} → Spans r 0 last b → last + 1 ≡ length r → Inside c d p
    → (Clear c.x d.x b.low.x b.high.x ⊎ Clear c.y d.y b.low.y b.high.y) → turning_number r p ≡ pos 0
zero_outside {r} {last} {b} {c} {d} {p} s count i h = ⊎_elim
    (λ x. ⊎_elim
    (λ a. below_x r p (λ j k. <ℤ-≤ℤ_trans (≤ℤ-<ℤ_trans i.below_x a) (at j k).above_x))
    (λ a. above_x r p (λ j k. <ℤ-≤ℤ_trans (≤ℤ-<ℤ_trans (at j k).below_x a) i.above_x))
    x)
    (λ y. ⊎_elim
    (λ a. below_y r p b.low.x (λ j k. (at j k).above_x) (λ j k. <ℤ-≤ℤ_trans (≤ℤ-<ℤ_trans i.below_y a) (at j k).above_y))
    (λ a. above_y r p b.low.x (λ j k. (at j k).above_x) (λ j k. <ℤ-≤ℤ_trans (≤ℤ-<ℤ_trans (at j k).below_y a) i.above_y))
    y)
    h
  where
    at : (j : ℕ) → j < length r → Holds b (get_or r j origin)
    at j k = s.inside j (omega arith) (omega arith)

-- ---- the two rings
module _ (r s : List Corner) (own around : Reach) (some_r : 0 < length r) (some_s : 0 < length s) (of_r : Around r own) (of_s : Around s around) (e : Apart around own ≡ true) where
  none_meet : rings_meet r s ≡ false
  unfolding rings_meet
  none_meet = any_is (edges r) (edges s) ∙ found_last none (omega arith) (omega arith) ∙ no (length r - 1) 0 (omega arith) (omega arith)
    where
      no : (i j : ℕ) → i < length r → j < length r → meets_one (get_or r i origin to get_or r j origin) (edges s) ≡ false
      no i j h k =
          unmet_ring of_s (omega arith) (get_or r i origin) (get_or r j origin)
          (away_inside _ _ _ _ (get_or r i origin) (get_or r j origin) e (of_r.inside i (omega arith) (omega arith)) (of_r.inside j (omega arith) (omega arith)))

      none : Unmet (λ f. meets_one f (edges s)) r 0 (length r - 1) (length r - 1)
      none = record { low = omega arith; high = omega arith; none_met = λ j h k. no j (j + 1) (omega arith) (omega arith) }

  clear : Clear around.low.x around.high.x own.low.x own.high.x ⊎ Clear around.low.y around.high.y own.low.y own.high.y
  unfolding away
  clear = ⊎_elim (λ h. inl (clear_of _ _ _ _ h)) (λ h. inr (clear_of _ _ _ _ h)) ((or_true _ _).0 e)

  second_outside : first_outside r s ≡ true
  second_outside = first_at r s some_s ∙ ap is_zero (zero_outside of_r (omega arith) (of_s.inside 0 (omega arith) (omega arith)) clear)

  first_is_outside : first_outside s r ≡ true
  first_is_outside =
      first_at s r some_r
      ∙ ap is_zero (zero_outside of_s (omega arith) (of_r.inside 0 (omega arith) (omega arith)) (⊎_elim (λ h. inl (turned_about h)) (λ h. inr (turned_about h)) clear))

  pub apart_not_tangled : entangled r s ≡ false
  apart_not_tangled = not_tangled r s some_r some_s none_meet second_outside first_is_outside
