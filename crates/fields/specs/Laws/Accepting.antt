-- What the loop over a field's rings keeps while it accepts them. Assumes nothing.
use Rattle.std.specs.Prelude.{◌≡◌, refl, ℤ, length, take, drop, get_or}
use Rattle.std.proofs.Math.Path.{sym, ap, subst}
use Rattle.std.proofs.Common.{◌∙◌, add-one, drop_of_length-le, length-take-le, drop-cons}
use mathlib.Core.List.{List, [], ◌∷◌}
use Prim.Native.Nat.{ℕ, zero, suc, ◌+◌, ◌*◌, ◌<◌, ◌≤◌}
use native.Mathlib.Omega.{arith}
use Rattle.std.proofs.Math.Decide.{dec_lt}
use Rattle.rules.specs.Refusals.{Answer, answered, refused, CrossedPair, crossed_at, passed, ◌>>◌}
use Rattle.rules.specs.Fields.{Field}
use Rattle.rules.specs.FieldAnswers.{with_ring, summed, cut, inner_accepted}
use Rattle.ring_corners.specs.Corners.{pairs, Accepted}
use Rattle.ring_checks.proofs.Laws.Steps.{refused_then, refused_passed}
use Rattle.terms.specs.declared.refusals.Refusal.{Refusal}
use Rattle.terms.specs.Papers.{refusal_paper}
use Rattle.ring_boxes.specs.Boxes.{Boxed}
use Rattle.ring_boxes.specs.declared.reach.Reach.{Reach}
use Rattle.fields.specs.Placed.{as_field, one_more, the_rest, Checked, Outer, OuterBoxed}
use Rattle.fields.specs.Laws.Cut.{summed_more, summed_most, cut_at, length_cut}
use Rattle.fields.specs.Laws.Placed.{cut_first, more_field, rest_of, rest_next, one_passed}

-- before ring k, whose numbers start at `at`
pub record Accepting (counts : List ℕ) (numbers : List ℤ) (at k : ℕ) : Type 0 where
  pub start : at ≡ 2 * summed (take k counts)
  pub some : 1 ≤ k
  pub most : k ≤ length counts
  pub good : (i : ℕ) → i < k → Accepted (get_or (cut counts numbers) i [])
  pub answer : the_rest (take 1 (cut counts numbers)) (drop 1 (cut counts numbers)) ≡ the_rest (take k (cut counts numbers)) (drop k (cut counts numbers))

get_d_take : (rings : List (List ℤ)) (k i : ℕ) → i < k → get_or (take k rings) i [] ≡ get_or rings i []
get_d_take rings zero i h = absurd (omega arith)
get_d_take [] (suc k) i h = refl
get_d_take (r ∷ rings) (suc k) zero h = refl
get_d_take (r ∷ rings) (suc k) (suc i) h = get_d_take rings k i (omega arith)

take_counts : (counts : List ℕ) (k : ℕ) → k ≤ length counts → length (take k counts) ≡ k
take_counts counts k h = length-take-le k counts h

-- the numbers of ring k
abbrev pub ring : List ℕ → List ℤ → ℕ → ℕ → List ℤ
ring counts numbers at k = take (2 * get_or counts k 0) (drop at numbers)

pub ring_is : (counts : List ℕ) (numbers : List ℤ) (k : ℕ) → k < length counts → get_or (cut counts numbers) k [] ≡ ring counts numbers (2 * summed (take k counts)) k
ring_is counts numbers k h =
    let e = length_cut counts numbers in
    ap (λ (l : List (List ℤ)). get_or l 0 []) (sym (drop-cons (cut counts numbers) k [] (omega arith)) ∙ cut_at counts numbers k h)

-- a refusal of the rings so far is the answer, by its number or its pair of edges
stop_refused : (a : Answer Field) (rest : List (List ℤ)) (n : ℕ) → (a >> answered passed) ≡ refused n → rest_of rest a ≡ refused n
stop_refused (answered g) rest n e = absurd (let z : ◌≡◌ {A = ℕ} 0 1 = cc e in omega arith)
stop_refused (refused m) rest n e = e
stop_refused (crossed_at pair) rest n e = e

stop_crossed : (a : Answer Field) (rest : List (List ℤ)) (pair : CrossedPair) → (a >> answered passed) ≡ crossed_at pair → rest_of rest a ≡ crossed_at pair
stop_crossed (answered g) rest pair e = absurd (let z : ◌≡◌ {A = ℕ} 0 1 = cc e in omega arith)
stop_crossed (refused m) rest pair e = e
stop_crossed (crossed_at other) rest pair e = e

module _ (counts : List ℕ) (numbers : List ℤ) where
  pub accepting_start : 0 < length counts → Accepted (ring counts numbers 0 0) → Accepting counts numbers (2 * get_or counts 0 0) 1
  unfolding summed
  accepting_start h a = record {
    start = let e = summed_more counts 0 h in omega arith;
    some = omega arith;
    most = h;
    good = λ i j. first i j;
    answer = refl;
  }
    where
      first : (i : ℕ) → i < 1 → Accepted (get_or (cut counts numbers) i [])
      first zero j = subst Accepted (sym (ring_is counts numbers 0 h)) a
      first (suc i) j = absurd (omega arith)

  -- by the outer ring as it was handed on
  pub accepting_first : 0 < length counts → (first : List ℤ) → Outer counts numbers first → Accepted first → Accepting counts numbers (2 * get_or counts 0 0) 1
  unfolding summed
  accepting_first h first e a = accepting_start h (subst Accepted (e ∙ ring_is counts numbers 0 h) a)

  module _ {at k : ℕ} (g : Accepting counts numbers at k) where
    pub accepting_end : length counts ≤ k → answered passed ≡ the_rest (take 1 (cut counts numbers)) (drop 1 (cut counts numbers))
    unfolding the_rest inner_accepted
    accepting_end h =
        sym (g.answer ∙ ap (the_rest (take k (cut counts numbers))) (drop_of_length-le (cut counts numbers) (past (length_cut counts numbers) h)))
      where
        past : {m n : ℕ} → m ≡ n → n ≤ k → m ≤ k
        past e h = omega arith

    module _ (even : 2 * summed counts ≡ length numbers) where
      before_inside : at ≤ length numbers
      before_inside = let s = g.start in let t = summed_most counts k in omega arith

      -- the rings before it, by their own counts and numbers
      pub first_rings : cut (take k counts) (take at numbers) ≡ take k (cut counts numbers)
      first_rings = ap (λ (n : ℕ). cut (take k counts) (take n numbers)) g.start ∙ cut_first counts numbers k

      pub first_checked : Checked (take k counts) (take at numbers)
      first_checked =
          let n = take_counts counts k g.most in
          record {
            some = let o = g.some in omega arith;
            even = let l = length-take-le at numbers before_inside in let s = g.start in omega arith;
            good = λ i h. subst Accepted (sym (ap (λ (l : List (List ℤ)). get_or l i []) first_rings ∙ get_d_take (cut counts numbers) k i (omega arith))) (g.good i (omega arith));
          }

      pub first_outer : (first : List ℤ) → Outer counts numbers first → Outer (take k counts) (take at numbers) first
      first_outer first e = e ∙ sym (ap (λ (l : List (List ℤ)). get_or l 0 []) first_rings ∙ get_d_take (cut counts numbers) k 0 g.some)

      pub first_boxed : (boxes : List Reach) → OuterBoxed counts numbers boxes → OuterBoxed (take k counts) (take at numbers) boxes
      first_boxed boxes b = subst (λ (l : List ℤ). Boxed (pairs l) boxes) (sym (ap (λ (l : List (List ℤ)). get_or l 0 []) first_rings ∙ get_d_take (cut counts numbers) k 0 g.some)) b

      module _ (h : k < length counts) where
        next : drop k (cut counts numbers) ≡ (ring counts numbers at k ∷ drop (suc k) (cut counts numbers))
        next = cut_at counts numbers k h ∙ ap (λ (n : ℕ). take (2 * get_or counts k 0) (drop n numbers) ∷ drop (suc k) (cut counts numbers)) (sym g.start)

        -- the answer, by what is said of ring k
        abbrev said : Answer Field
        said = one_more (cut (take k counts) (take at numbers)) (ring counts numbers at k)

        by_next : the_rest (take 1 (cut counts numbers)) (drop 1 (cut counts numbers)) ≡ rest_of (drop (suc k) (cut counts numbers)) said
        by_next =
            g.answer ∙ ap (the_rest (take k (cut counts numbers))) next ∙ rest_next (take k (cut counts numbers)) (ring counts numbers at k) (drop (suc k) (cut counts numbers))
            ∙ ap (λ (l : List (List ℤ)). rest_of (drop (suc k) (cut counts numbers)) (one_more l (ring counts numbers at k))) (sym first_rings)

        pub accepting_refused : (r : Refusal) → refusal_paper r ≡ (said >> answered passed) → refusal_paper r ≡ the_rest (take 1 (cut counts numbers)) (drop 1 (cut counts numbers))
        accepting_refused r e = refused_then r _ (refused_passed said r (λ g. inner_accepted g (drop (suc k) (cut counts numbers))) e) ∙ sym by_next

        -- by its number or its pair of edges
        pub accepting_number : (n : ℕ) → refused n ≡ (said >> answered passed) → refused n ≡ the_rest (take 1 (cut counts numbers)) (drop 1 (cut counts numbers))
        accepting_number n e = sym (by_next ∙ stop_refused said (drop (suc k) (cut counts numbers)) n (sym e))

        pub accepting_crossed : (pair : CrossedPair) → crossed_at pair ≡ (said >> answered passed) → crossed_at pair ≡ the_rest (take 1 (cut counts numbers)) (drop 1 (cut counts numbers))
        accepting_crossed pair e = sym (by_next ∙ stop_crossed said (drop (suc k) (cut counts numbers)) pair (sym e))

        pub accepting_on : answered passed ≡ (said >> answered passed) → Accepting counts numbers (at + 2 * get_or counts k 0) (k + 1)
        unfolding the_rest
        accepting_on e = record {
          start = let s = g.start in let f = ap (λ (i : ℕ). summed (take i counts)) (add-one k) ∙ summed_more counts k h in omega arith;
          some = omega arith;
          most = omega arith;
          good = λ i j. elim (dec_lt i k) [ yes l ↦ g.good i l | no l ↦ subst (λ (i : ℕ). Accepted (get_or (cut counts numbers) i [])) (same i j (λ m. l m)) here ];
          answer =
              by_next
              ∙ ap (rest_of (drop (suc k) (cut counts numbers))) p.0
              ∙ ap (λ (l : List (List ℤ)). inner_accepted (with_ring (as_field l) (pairs (ring counts numbers at k))) (drop (suc k) (cut counts numbers)) >> answered passed) first_rings
              ∙ ap (λ (l : List ℤ). inner_accepted (with_ring (as_field (take k (cut counts numbers))) (pairs l)) (drop (suc k) (cut counts numbers)) >> answered passed) (sym now_ring)
              ∙ ap (λ (f : Field). inner_accepted f (drop (suc k) (cut counts numbers)) >> answered passed) (sym (more_field (cut counts numbers) k g.some (let n = length_cut counts numbers in omega arith)))
              ∙ ap (λ (i : ℕ). the_rest (take i (cut counts numbers)) (drop i (cut counts numbers))) (sym (add-one k));
        }
          where
            p : (said ≡ answered (with_ring (as_field (cut (take k counts) (take at numbers))) (pairs (ring counts numbers at k)))) × Accepted (ring counts numbers at k)
            p = one_passed (cut (take k counts) (take at numbers)) (ring counts numbers at k) (sym e)

            now_ring : get_or (cut counts numbers) k [] ≡ ring counts numbers at k
            now_ring = ring_is counts numbers k h ∙ ap (λ (n : ℕ). ring counts numbers n k) (sym g.start)

            here : Accepted (get_or (cut counts numbers) k [])
            here = subst Accepted (sym now_ring) p.1

            same : (i : ℕ) → i < k + 1 → (i < k → ⊥) → k ≡ i
            same i j l = omega (arith, l)

        -- ring k's numbers are all there
        pub ring_inside : at + 2 * get_or counts k 0 ≤ length numbers
        ring_inside = let s = g.start in let m = summed_more counts k h in let t = summed_most counts (suc k) in omega arith
