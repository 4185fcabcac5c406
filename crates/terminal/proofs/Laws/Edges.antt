-- What refusal 9 carries fits an i64: its edges are numbers of the ring's own edges, and the pairs looked at are no more than those of 1,024 edges. So does the count of a
-- clean ring. Assumes nothing.
use Rattle.std.proofs.Math.Path.{◌≡◌}
use Rattle.std.proofs.Common.{sym, ap, ◌∙◌, arith}
use Rattle.std.proofs.Math.Logic.{⊎_elim}
use mathlib.Core.List.{List}
use Rattle.std.specs.Prelude.{ℕ, ◌<◌, ◌≤◌, ℤ, length}
use Rattle.rules.specs.Refusals.{CrossedPair, Answer, answered, refused, crossed_at, ◌>>=◌, ◌>>◌}
use Rattle.rules.specs.Rings.{Corner, edge_pairs}
use Rattle.rules.specs.RingAnswers.{ring_checks, not_crossed, crossing_answer, nozzle, nozzle_answer}
use Rattle.terms.specs.declared.refusals.Refusal.{Refusal}
use Rattle.terms.specs.declared.refusals.Refusal.TheVariants as refusal-case
use Rattle.terms.specs.Papers.{refusal_paper}
use Rattle.terminal.specs.Lent.{Held}
-- a number below a million as an i64
pub use Rattle.terminal_fields.proofs.Laws.Nine.{small_is}
use Rattle.rules.proofs.Laws.Looked.{half, few, place_most}
use Rattle.rules.proofs.Laws.RingChecks.{nine, clean}
use Rattle.rings.specs.Corners.{pairs}
use Rattle.rings.specs.Laws.Accept.{judgement}

pub record NineNumbers (pair : CrossedPair) : Type 0 where
  pub low : pair.low < 1_000_000
  pub high : pair.high < 1_000_000
  pub looked_at : pair.looked_at < 1_000_000

module _ (numbers : List ℤ) where
  -- the crossing test's answer is that of an accepted ring, or no answer of the test itself
  by_test : {P : Type 0} (a : Answer ℕ) → ((n : ℕ) → refused n ≡ a → P) → ((r : List Corner) → length r ≤ 1024 → not_crossed r ≡ a → P) → crossing_answer numbers ≡ a → P
  unfolding crossing_answer
  by_test a none some e =
      ⊎_elim
      (λ h. some (pairs numbers) h.1.at_most (sym (ap (λ c. c >>= not_crossed) h.0) ∙ e))
      (λ h. none h.0 (sym (ap (λ c. c >>= not_crossed) h.1) ∙ e))
      (judgement numbers)

  pub clean_small : (looked : ℕ) → crossing_answer numbers ≡ answered looked → looked < 1_000_000
  clean_small looked = by_test (answered looked) (λ n e. absurd (let z : ◌≡◌ {A = ℕ} 0 1 = cc e in omega arith)) λ r most e.
      let count : looked ≡ length (edge_pairs (length r)) = (clean r looked e).counted ∙ sym (half (length r)) in
      let all = few (length r) most in
      omega arith

  module _ (pair : CrossedPair) where
    pub crossing_nine : crossing_answer numbers ≡ crossed_at pair → NineNumbers pair
    crossing_nine = by_test (crossed_at pair) (λ n e. absurd (let z : ◌≡◌ {A = ℕ} 0 1 = cc e in omega arith)) λ r most e.
        let f = nine r pair e in
        let order = f.first.order in
        let inside = f.first.inside in
        let count = f.counted in
        let place = place_most (length r) pair.low pair.high order inside in
        let all = few (length r) most in
        record { low = omega arith; high = omega arith; looked_at = omega arith }

    -- a nozzle's refusal 9 is the crossing test's
    pub nozzle_nine : (p : Corner) → nozzle_answer numbers p ≡ crossed_at pair → NineNumbers pair
    unfolding crossing_answer nozzle_answer
    nozzle_nine p e = crossing_nine (go (ring_checks numbers) e)
      where
        after : (r : List Corner) (a : Answer ℕ) → (a >> answered (nozzle r p)) ≡ crossed_at pair → a ≡ crossed_at pair
        after r (answered x) f = absurd (let z : ◌≡◌ {A = ℕ} 0 1 = cc in omega arith)
        after r (refused n) f = absurd (let z : ◌≡◌ {A = ℕ} 0 1 = cc in omega arith)
        after r (crossed_at other) f = cc

        go : (a : Answer (List Corner)) → (a >>= λ r. not_crossed r >> answered (nozzle r p)) ≡ crossed_at pair → (a >>= not_crossed) ≡ crossed_at pair
        go (answered r) f = after r (not_crossed r) f
        go (refused n) f = absurd (let z : ◌≡◌ {A = ℕ} 0 1 = cc in omega arith)
        go (crossed_at other) f = cc

-- what a refusal writes on 9 fits, where it is the answer's and the numbers of that are small
pub held : {A : Type 0} (r : Refusal) (a : Answer A) → ((pair : CrossedPair) → a ≡ crossed_at pair → NineNumbers pair) → refusal_paper r ≡ a → Held r
held refusal-case.CodeUnknown a small e = tt
held refusal-case.LatitudeOutside a small e = tt
held refusal-case.LongitudeOutside a small e = tt
held refusal-case.PlaneOutside a small e = tt
held refusal-case.EllipsoidsDiffer a small e = tt
held refusal-case.CornerCount a small e = tt
held refusal-case.CornerNumber a small e = tt
held refusal-case.SpanTooLarge a small e = tt
held (refusal-case.RingCrossed pair) a small e = let s = small _ (sym e) in (s.low, s.high, s.looked_at)
held refusal-case.KindUnknown a small e = tt
held refusal-case.BodyCutOff a small e = tt
held refusal-case.OutOfPlace a small e = tt
held refusal-case.OutputTooShort a small e = tt
held refusal-case.BadlyPlaced a small e = tt
held refusal-case.TooManyRings a small e = tt
