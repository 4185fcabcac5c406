-- One inner ring more, by what the crossing test says of it and by where it lies. Assumes nothing.
use Rattle.std.proofs.Math.Path.{◌≡◌, sym, ap}
use Rattle.std.specs.Prelude.{refl, Bool, true, false, List, ℤ, length}
use Rattle.std.proofs.Common.{◌∙◌}
use Rattle.std.proofs.Math.Logic.{⊎_elim}
use Rattle.std.proofs.Math.Option.{Option, none, some}
use Prim.Native.Nat.{ℕ, suc, ◌-◌, ◌<◌, ◌≤◌}
use native.Mathlib.Omega.{arith}
use Rattle.rules.specs.Refusals.{Answer, answered, refused, CrossedPair, crossed_at, Passed, passed, ◌>>=◌, ◌>>◌, ◌if◌, in_ring, badly_placed, too_many_rings, corner_count}
use Rattle.rules.specs.Rings.{Corner, EdgePair}
use Rattle.rules.specs.Crossing.{crossed}
use Rattle.rules.specs.RingAnswers.{ring_checks, looked_through, not_crossed, crossing_answer}
use Rattle.rules.specs.Placing.{misplaced}
use Rattle.rules.specs.FieldAnswers.{with_ring, inner_checks, placed}
use Rattle.ring_corners.specs.Corners.{pairs, Accepted}
use Rattle.ring_checks.proofs.Laws.Accept.{judgement}
use Rattle.ring_checks.proofs.Laws.Steps.{refused_bind, refused_then}
use Rattle.terms.specs.declared.refusals.Refusal.{Refusal}
use Rattle.terms.specs.Papers.{refusal_paper}
use Rattle.fields.specs.OfRing.{ring_refusal}
use Rattle.fields.specs.Laws.OfRing.{ring_refusal_is}
use Rattle.fields.specs.Placed.{as_field, one_more, passed_one}
use Rattle.fields.specs.Laws.Inner.{seventeenth, too_long, not_long}
use Rattle.fields.specs.Laws.Placed.{inner_rings_of}

-- the pair as one of ring k
abbrev of_ring : ℕ → CrossedPair → CrossedPair
of_ring k pair = record { ring = k; low = pair.low; high = pair.high; looked_at = pair.looked_at }

-- the crossing test by itself refuses nothing
pub never_refused : (r : List Corner) (n : ℕ) → refused n ≡ not_crossed r → ⊥
unfolding not_crossed
never_refused r n = go (crossed r)
  where
    go : (t : Option EdgePair) → refused n ≡ looked_through (length r) t → ⊥
    go none e = let z : ◌≡◌ {A = ℕ} 0 1 = cc e in omega arith
    go (some t) e = let z : ◌≡◌ {A = ℕ} 0 1 = cc e in omega arith

module _ (rings : List (List ℤ)) (numbers : List ℤ) where
  abbrev then : Answer (List Corner) → Answer Passed
  then a = (a >>= placed (as_field rings)) >> answered passed

  -- 16 and 6 by its place and its length
  pub place_refused : (r : Refusal) (before : ℕ) → before ≡ length rings - 1 → refusal_paper r ≡ inner_checks before numbers → refusal_paper r ≡ passed_one rings numbers
  unfolding passed_one one_more
  place_refused r before same e = refused_then r _ (refused_bind r (placed (as_field rings)) (e ∙ ap (λ (n : ℕ). inner_checks n numbers) same))

  pub seventeenth_ring : 16 ≤ length rings - 1 → refused too_many_rings ≡ passed_one rings numbers
  unfolding passed_one one_more
  seventeenth_ring h = sym (ap then (seventeenth (length rings - 1) numbers h))

  module _ (few : length rings - 1 < 16) where
    pub too_long_ring : 256 < length numbers → refused corner_count ≡ passed_one rings numbers
    unfolding passed_one one_more
    too_long_ring h = sym (ap then (too_long (length rings - 1) numbers few h))

    module _ (short : length numbers ≤ 256) where
      as_ring : passed_one rings numbers ≡ then (ring_checks numbers)
      unfolding passed_one one_more
      as_ring = ap then (not_long (length rings - 1) numbers few short)

      -- 6, 7 and 8, and 9 of this ring, whose number is how many there are before it
      pub join_refused : 1 ≤ length rings → (r : Refusal) (s : Refusal) → refusal_paper r ≡ crossing_answer numbers → s ≡ ring_refusal (length rings) r → refusal_paper s ≡ passed_one rings numbers
      unfolding crossing_answer placed
      join_refused h r s e f =
          go (ring_checks numbers) (judged (ring_checks numbers) refl) e ∙ sym as_ring
        where
          number : (n : ℕ) → 1 ≤ n → n ≡ suc (n - 1)
          number n h = omega arith

          -- this ring's number
          k : ℕ
          k = suc (length (as_field rings).inner_rings)

          said : {A : Type 0} {a : Answer A} → refusal_paper r ≡ a → refusal_paper s ≡ in_ring k a
          said e =
              ap refusal_paper (f ∙ ap (λ (n : ℕ). ring_refusal n r) (number (length rings) h ∙ ap suc (sym (inner_rings_of rings)))) ∙ ring_refusal_is k r ∙ ap (in_ring k) e

          -- the checks of the numbers make no pair
          Judged : Answer (List Corner) → Type 0
          Judged (answered r) = Unit
          Judged (refused n) = Unit
          Judged (crossed_at pair) = ⊥

          judged : (a : Answer (List Corner)) → ring_checks numbers ≡ a → Judged a
          judged (answered r) e = tt
          judged (refused n) e = tt
          judged (crossed_at pair) e = ⊎_elim (λ j. let z : ◌≡◌ {A = ℕ} 0 1 = cc (e, j.0) in omega arith) (λ j. let z : ◌≡◌ {A = ℕ} 0 1 = cc (e, j.1) in omega arith) (judgement numbers)

          go : (a : Answer (List Corner)) → Judged a → refusal_paper r ≡ (a >>= not_crossed) → refusal_paper s ≡ then a
          go (answered c) j e = refused_then s _ (refused_then s _ (said e))
          go (refused n) j e = refused_bind s (λ _. refused 0) (said e)
          go (crossed_at other) j e = absurd j

      -- a refusal by its number: the crossing test makes none of its own
      pub join_number : (n : ℕ) → refused n ≡ crossing_answer numbers → refused n ≡ passed_one rings numbers
      unfolding crossing_answer
      join_number n e = go (ring_checks numbers) e ∙ sym as_ring
        where
          go : (a : Answer (List Corner)) → refused n ≡ (a >>= not_crossed) → refused n ≡ then a
          go (answered r) e = absurd (never_refused r n e)
          go (refused m) e = cc e
          go (crossed_at pair) e = cc e

      -- 9 of this ring, whose number is how many there are before it
      pub join_crossed : 1 ≤ length rings → (pair : CrossedPair) → crossed_at pair ≡ crossing_answer numbers → crossed_at (of_ring (length rings) pair) ≡ passed_one rings numbers
      unfolding crossing_answer placed
      join_crossed h pair e =
          ap (λ (k : ℕ). crossed_at (of_ring k pair)) (number (length rings) h ∙ ap suc (sym (inner_rings_of rings))) ∙ go (ring_checks numbers) (judged (ring_checks numbers) refl) e ∙ sym as_ring
        where
          number : (n : ℕ) → 1 ≤ n → n ≡ suc (n - 1)
          number n h = omega arith

          -- the checks of the numbers make no pair
          Judged : Answer (List Corner) → Type 0
          Judged (answered r) = Unit
          Judged (refused n) = Unit
          Judged (crossed_at pair) = ⊥

          judged : (a : Answer (List Corner)) → ring_checks numbers ≡ a → Judged a
          judged (answered r) e = tt
          judged (refused n) e = tt
          judged (crossed_at pair) e = ⊎_elim (λ j. let z : ◌≡◌ {A = ℕ} 0 1 = cc (e, j.0) in omega arith) (λ j. let z : ◌≡◌ {A = ℕ} 0 1 = cc (e, j.1) in omega arith) (judgement numbers)

          last : (r : List Corner) (a : Answer ℕ) → crossed_at pair ≡ a → crossed_at (of_ring (suc (length (as_field rings).inner_rings)) pair)
              ≡ ((in_ring (suc (length (as_field rings).inner_rings)) a >> (badly_placed if misplaced (as_field rings) r >> answered (with_ring (as_field rings) r))) >> answered passed)
          last r (answered n) e = absurd (let z : ◌≡◌ {A = ℕ} 0 1 = cc e in omega arith)
          last r (refused n) e = absurd (let z : ◌≡◌ {A = ℕ} 0 1 = cc e in omega arith)
          last r (crossed_at other) e = let p : pair ≡ other = cc e in ap (λ (t : CrossedPair). crossed_at (of_ring (suc (length (as_field rings).inner_rings)) t)) p

          go : (a : Answer (List Corner)) → Judged a → crossed_at pair ≡ (a >>= not_crossed) → crossed_at (of_ring (suc (length (as_field rings).inner_rings)) pair) ≡ then a
          go (answered r) j e = last r (not_crossed r) e
          go (refused n) j e = absurd (let z : ◌≡◌ {A = ℕ} 0 1 = cc e in omega arith)
          go (crossed_at other) j e = absurd j

      -- a ring that is not crossed: where it lies
      module _ (looked : ℕ) (e : answered looked ≡ crossing_answer numbers) where
        passes : (ring_checks numbers ≡ answered (pairs numbers)) × Accepted numbers
        unfolding crossing_answer
        passes = ⊎_elim (λ j. j) (λ j. absurd (let z : ◌≡◌ {A = ℕ} 0 1 = cc (e ∙ ap (λ (a : Answer (List Corner)). a >>= not_crossed) j.1) in omega arith)) (judgement numbers)

        pub join_accepted : Accepted numbers
        join_accepted = passes.1

        clear : answered looked ≡ not_crossed (pairs numbers)
        unfolding crossing_answer
        clear = e ∙ ap (λ (a : Answer (List Corner)). a >>= not_crossed) passes.0

        by_place : passed_one rings numbers ≡ ((badly_placed if misplaced (as_field rings) (pairs numbers) >> answered (with_ring (as_field rings) (pairs numbers))) >> answered passed)
        unfolding placed
        by_place =
            as_ring ∙ ap then passes.0
            ∙ ap (λ (a : Answer ℕ). (in_ring (suc (length (as_field rings).inner_rings)) a >> (badly_placed if misplaced (as_field rings) (pairs numbers) >> answered (with_ring (as_field rings) (pairs numbers)))) >> answered passed) (sym clear)

        pub join_misplaced : true ≡ misplaced (as_field rings) (pairs numbers) → refused badly_placed ≡ passed_one rings numbers
        join_misplaced h = sym (by_place ∙ ap (λ (b : Bool). (badly_placed if b >> answered (with_ring (as_field rings) (pairs numbers))) >> answered passed) (sym h))

        pub join_placed : false ≡ misplaced (as_field rings) (pairs numbers) → answered passed ≡ passed_one rings numbers
        join_placed h = sym (by_place ∙ ap (λ (b : Bool). (badly_placed if b >> answered (with_ring (as_field rings) (pairs numbers))) >> answered passed) (sym h))
