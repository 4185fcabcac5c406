-- The checks of an inner ring's numbers, by those of any ring: they differ in how many corners there may be, and in the seventeenth. Assumes nothing.
use Rattle.std.specs.Prelude.{◌≡◌, Bool, true, ◌||◌, ◌⊎◌, List, ℕ, ◌+◌, ◌*◌, ◌<◌, ◌≤◌, ltb, ℤ, length}
use Rattle.std.proofs.Math.Path.{refl}
use Rattle.std.proofs.Common.{sym, ◌∙◌, ap, inl, inr, ⊎_elim, arith, le-leb, lt-ltb, le-ltb}
use Rattle.std.proofs.Math.Decide.{dec_lt}
use Rattle.std.proofs.lemmas.Bool.{lt-leb}
use Rattle.rules.specs.Refusals.{refused, too_many_rings, corner_count}
use Rattle.rules.specs.Rings.{Corner}
use Rattle.rules.specs.RingAnswers.{count_bad, ring_checks}
use Rattle.rules.specs.FieldAnswers.{inner_count_bad, inner_checks}
use Rattle.rules.proofs.Laws.Checks.{or_true}
use Rattle.ring_corners.specs.Corners.{pairs}
use Rattle.ring_corners.specs.Laws.Flat.{count_of, corners_even, corners_odd}

-- a list of numbers is even or odd
parity : (l : List ℤ) → (length l ≡ 2 * length (pairs l)) ⊎ (length l ≡ 2 * length (pairs l) + 1)
parity l = let c = count_of l in elim (dec_lt (2 * length (pairs l)) (length l)) [ yes g ↦ inr (omega arith) | no g ↦ inl (omega arith) ]

many_bad : (r : List Corner) → 128 < length r → inner_count_bad r ≡ true
unfolding inner_count_bad
many_bad r h = (or_true (ltb (length r) 3) (ltb 128 (length r))).1 (inr (lt-ltb 128 (length r) h))

few_alike : (r : List Corner) → length r ≤ 128 → inner_count_bad r ≡ count_bad r
unfolding inner_count_bad count_bad
few_alike r h = ap (λ (b : Bool). ltb (length r) 3 || b) (le-ltb 128 (length r) h ∙ sym (le-ltb 1024 (length r) (omega arith)))

module _ (before : ℕ) (l : List ℤ) where
  pub seventeenth : 16 ≤ before → inner_checks before l ≡ refused too_many_rings
  unfolding inner_checks
  seventeenth h = rw (le-leb 16 before h) refl

  pub too_long : before < 16 → 256 < length l → inner_checks before l ≡ refused corner_count
  unfolding inner_checks
  too_long b h = rw (lt-leb 16 before b) (⊎_elim
      (λ e. rw (corners_even l e) (rw (many_bad (pairs l) (omega arith)) refl))
      (λ e. rw (corners_odd l e) refl)
      (parity l))

  pub not_long : before < 16 → length l ≤ 256 → inner_checks before l ≡ ring_checks l
  unfolding inner_checks ring_checks
  not_long b h = rw (lt-leb 16 before b) (⊎_elim
      (λ e. rw (corners_even l e) (rw (few_alike (pairs l) (omega arith)) refl))
      (λ e. rw (corners_odd l e) refl)
      (parity l))
