-- A field's acceptance, by what the crossing test says of its outer ring. Assumes nothing.
use Rattle.std.proofs.Math.Path.{◌≡◌, refl, sym, ap}
use Rattle.std.proofs.Common.{◌∙◌, arith}
use Rattle.std.specs.Prelude.{true, false, ℕ, ◌*◌, ◌<◌, ℤ, take, drop, get_or}
use Rattle.std.proofs.Math.Logic.{⊎_elim}
use mathlib.Core.List.{List, ◌∷◌}
use Rattle.std.proofs.Math.ListN.{length}
use Rattle.rules.specs.Refusals.{Answer, answered, refused, CrossedPair, crossed_at, Passed, passed, ◌>>=◌, ◌>>◌, corner_count}
use Rattle.rules.specs.Rings.{Corner}
use Rattle.rules.specs.RingAnswers.{ring_checks, not_crossed, crossing_answer}
use Rattle.rules.specs.FieldAnswers.{alone, summed, cut, uneven, outer_accepted, inner_accepted, rings_accepted, field_accepted, accept_answer}
use Rattle.ring_corners.specs.Corners.{pairs, Accepted}
use Rattle.ring_checks.proofs.Laws.Accept.{judgement}
use Rattle.fields.specs.Placed.{as_field, the_rest}
use Rattle.fields.specs.Laws.Cut.{cut_at}
use Rattle.fields.specs.Laws.Calls.{accept_even}
use Rattle.fields.specs.Laws.Joining.{never_refused}
use Rattle.ring_checks.proofs.Laws.Steps.{refused_bind, refused_then}
use Rattle.terms.specs.declared.refusals.Refusal.{Refusal}
use Rattle.terms.specs.Papers.{refusal_paper}

module _ (counts : List ℕ) (numbers : List ℤ) where
  pub accept_uneven : uneven counts numbers ≡ true → refused corner_count ≡ accept_answer counts numbers
  unfolding accept_answer field_accepted
  accept_uneven e = rw e refl

  module _ (fits : uneven counts numbers ≡ false) where
    module _ (h : 0 < length counts) where
      abbrev first : List ℤ
      first = take (2 * get_or counts 0 0) numbers

      abbrev rest : List (List ℤ)
      rest = drop 1 (cut counts numbers)

      cut_one : cut counts numbers ≡ (first ∷ rest)
      unfolding summed
      cut_one = cut_at counts numbers 0 h

      abbrev then : Answer (List Corner) → Answer Passed
      then a = ((a >>= λ r. not_crossed r >> answered (alone r)) >>= λ f. inner_accepted f rest) >> answered passed

      by_first : accept_answer counts numbers ≡ then (ring_checks first)
      unfolding rings_accepted outer_accepted
      by_first = sym (accept_even counts numbers fits) ∙ ap (λ (l : List (List ℤ)). rings_accepted l >> answered passed) cut_one

      pub outer_refused : (r : Refusal) → refusal_paper r ≡ crossing_answer first → refusal_paper r ≡ accept_answer counts numbers
      unfolding crossing_answer
      outer_refused r e = go (ring_checks first) e ∙ sym by_first
        where
          go : (a : Answer (List Corner)) → refusal_paper r ≡ (a >>= not_crossed) → refusal_paper r ≡ then a
          go (answered c) e = refused_then r _ (refused_bind r _ (refused_then r _ e))
          go (refused n) e = refused_bind r (λ _. refused n) e
          go (crossed_at pair) e = refused_bind r (λ _. refused 0) e

      -- a refusal by its number or its pair of edges
      pub outer_number : (n : ℕ) → refused n ≡ crossing_answer first → refused n ≡ accept_answer counts numbers
      unfolding crossing_answer
      outer_number n e = go (ring_checks first) e ∙ sym by_first
        where
          go : (a : Answer (List Corner)) → refused n ≡ (a >>= not_crossed) → refused n ≡ then a
          go (answered r) e = absurd (never_refused r n e)
          go (refused m) e = cc e
          go (crossed_at pair) e = cc e

      pub outer_crossed : (pair : CrossedPair) → crossed_at pair ≡ crossing_answer first → crossed_at pair ≡ accept_answer counts numbers
      unfolding crossing_answer
      outer_crossed pair e = go (ring_checks first) e ∙ sym by_first
        where
          last : (r : List Corner) (a : Answer ℕ) → crossed_at pair ≡ a → crossed_at pair ≡ (((a >> answered (alone r)) >>= λ f. inner_accepted f rest) >> answered passed)
          last r (answered n) e = absurd (let z : ◌≡◌ {A = ℕ} 0 1 = cc e in omega arith)
          last r (refused n) e = absurd (let z : ◌≡◌ {A = ℕ} 0 1 = cc e in omega arith)
          last r (crossed_at other) e = cc e

          go : (a : Answer (List Corner)) → crossed_at pair ≡ (a >>= not_crossed) → crossed_at pair ≡ then a
          go (answered r) e = last r (not_crossed r) e
          go (refused n) e = absurd (let z : ◌≡◌ {A = ℕ} 0 1 = cc e in omega arith)
          go (crossed_at other) e = cc e

      module _ (looked : ℕ) (e : answered looked ≡ crossing_answer first) where
        passes : (ring_checks first ≡ answered (pairs first)) × Accepted first
        unfolding crossing_answer
        passes = ⊎_elim (λ j. j) (λ j. absurd (let z : ◌≡◌ {A = ℕ} 0 1 = cc (e ∙ ap (λ (a : Answer (List Corner)). a >>= not_crossed) j.1) in omega arith)) (judgement first)

        pub outer_accepts : Accepted first
        outer_accepts = passes.1

        clear : answered looked ≡ not_crossed (pairs first)
        unfolding crossing_answer
        clear = e ∙ ap (λ (a : Answer (List Corner)). a >>= not_crossed) passes.0

        pub outer_clean : the_rest (take 1 (cut counts numbers)) rest ≡ accept_answer counts numbers
        unfolding the_rest as_field
        outer_clean =
            ap (λ (l : List (List ℤ)). the_rest (take 1 l) rest) cut_one
            ∙ sym (by_first ∙ ap then passes.0 ∙ ap (λ (a : Answer ℕ). ((a >> answered (alone (pairs first))) >>= λ f. inner_accepted f rest) >> answered passed) (sym clear))
