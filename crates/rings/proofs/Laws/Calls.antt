-- What a call answers, once the checks 6, 7 and 8 are made: a refusal is the answer of each call, and an accepted list is asked for its corners. Assumes nothing.
use Rattle.std.specs.Prelude.{◌≡◌, refl, List, ℕ, ◌<◌, ◌≤◌, ℤ}
use Rattle.std.proofs.Common.{sym, ◌∙◌, ap, subst, arith}
use Rattle.rules.specs.Refusals.{Answer, answered, refused, crossed_at, ◌>>=◌, ◌>>◌}
use Rattle.rules.specs.Rings.{Corner}
use Rattle.rules.specs.RingAnswers.{nozzle, ring_checks, not_crossed, crossing_answer, nozzle_answer}
use Rattle.rings.specs.Answers.{position_answer}
use Rattle.ring_checks.specs.Refusal.{refusal_of}
use Rattle.ring_corners.specs.Corners.{pairs, Accepted}
use Rattle.ring_checks.proofs.Laws.Accept.{none_refused, not_accepted}

-- n is what the checks found to refuse, and f what is asked of the corners
module _ (l : List ℤ) {n : ℕ} (e : n ≡ refusal_of (ring_checks l)) where
  pub refuses : {A : Type 0} (f : List Corner → Answer A) → 0 < n → refused n ≡ ring_checks l >>= f
  refuses f h = ap refused e ∙ sym (ap (λ (a : Answer (List Corner)). a >>= f) (not_accepted l (subst (λ (k : ℕ). 0 < k) e h)))

  passes : n ≤ 0 → refusal_of (ring_checks l) ≡ 0
  passes h = omega arith

  pub answers : {A : Type 0} (f : List Corner → Answer A) → n ≤ 0 → f (pairs l) ≡ ring_checks l >>= f
  answers f h = sym (ap (λ (a : Answer (List Corner)). a >>= f) (none_refused l (passes h)).0)

  pub accepts : n ≤ 0 → Accepted l
  accepts h = (none_refused l (passes h)).1

-- `position` answers what `nozzle` answers, for a ring that the crossing test lets pass
pub position_is_nozzle : (l : List ℤ) (p : Corner) (looked : ℕ) → crossing_answer l ≡ answered looked → position_answer l p ≡ nozzle_answer l p
unfolding crossing_answer position_answer nozzle_answer
position_is_nozzle l p looked = go (ring_checks l)
  where
    go : (a : Answer (List Corner)) → a >>= not_crossed ≡ answered looked → (a >>= λ r. answered (nozzle r p)) ≡ (a >>= λ r. not_crossed r >> answered (nozzle r p))
    go (answered r) e = sym (ap (λ (b : Answer ℕ). b >> answered (nozzle r p)) e)
    go (refused n) e = refl
    go (crossed_at pair) e = refl
