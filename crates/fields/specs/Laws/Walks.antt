-- The walk over a field's rings gives the rules' answer. Assumes nothing.
use Rattle.std.specs.Prelude.{◌≡◌, refl, ℤ, length, take, drop, get_or}
use Rattle.std.proofs.Math.Path.{sym, ap, subst}
use Rattle.std.proofs.Common.{◌∙◌, add-one, length-append, drop_of_length-le, le-leb}
use mathlib.Core.List.{List, [], ◌∷◌}
use Prim.Native.Nat.{ℕ, suc, ◌+◌, ◌*◌, ◌-◌, ◌<◌, ◌≤◌}
use native.Mathlib.Omega.{arith}
use Rattle.rules.specs.Refusals.{Answer, answered, refused, CrossedPair, crossed_at, ◌>>=◌, too_many_rings}
use Rattle.rules.specs.Rings.{Corner}
use Rattle.rules.specs.RingAnswers.{Nozzle, nozzle, ring_checks}
use Rattle.rules.specs.Fields.{Field, field_nozzle}
use Rattle.rules.specs.FieldAnswers.{alone, with_ring, summed, cut, inner_checks, inner_read, rings_read}
use Rattle.rules.specs.Laws.Fields.{beside}
use Rattle.rules.proofs.Laws.Fields.{alone_nozzle, more_nozzle}
use Rattle.rings.specs.Answers.{position_answer}
use Rattle.terms.specs.declared.refusals.Refusal.{Refusal}
use Rattle.terms.specs.Papers.{refusal_paper}
use Rattle.terms.proofs.Refused.{refused_first}
use Rattle.ring_checks.proofs.Laws.Steps.{refused_bind}
use Rattle.fields.specs.Laws.Cut.{summed_more, summed_most, cut_at, length_cut}
use Rattle.fields.specs.Walks.{rings_position, inner_position, both_answers, walked}

-- a refusal stays
pub walked_refused : (n before : ℕ) (rest : List (List ℤ)) (p : Corner) → walked (refused n) before rest p ≡ refused n
unfolding walked both_answers
walked_refused n before [] p = refl
walked_refused n before (numbers ∷ rest) p = walked_refused n (suc before) rest p

walked_crossed : (pair : CrossedPair) (before : ℕ) (rest : List (List ℤ)) (p : Corner) → walked (crossed_at pair) before rest p ≡ crossed_at pair
unfolding walked both_answers
walked_crossed pair before [] p = refl
walked_crossed pair before (numbers ∷ rest) p = walked_crossed pair (suc before) rest p

-- one inner ring more
more_rings : (f : Field) (r : List Corner) → length (with_ring f r).inner_rings ≡ suc (length f.inner_rings)
more_rings f r = length-append f.inner_rings (r ∷ []) ∙ add-one (length f.inner_rings)

-- from the rings of f on
abbrev From : Field → List (List ℤ) → Corner → Type 0
From f rest p = (inner_read f rest >>= λ g. answered (field_nozzle g p)) ≡ walked (answered (field_nozzle f p)) (length f.inner_rings) rest p

walk_one : (f : Field) (numbers : List ℤ) (rest : List (List ℤ)) (p : Corner) → ((r : List Corner) → From (with_ring f r) rest p) → From f (numbers ∷ rest) p
unfolding inner_read walked both_answers inner_position
walk_one f numbers rest p h = go (inner_checks (length f.inner_rings) numbers)
  where
    go : (a : Answer (List Corner)) → ((a >>= λ r. inner_read (with_ring f r) rest) >>= λ g. answered (field_nozzle g p))
        ≡ walked ((a >>= λ r. answered (nozzle r p)) >>= λ y. answered (beside (field_nozzle f p) y)) (suc (length f.inner_rings)) rest p
    go (answered r) =
        h r
        ∙ ap (λ (x : Nozzle). walked (answered x) (length (with_ring f r).inner_rings) rest p) (more_nozzle f r p)
        ∙ ap (λ (n : ℕ). walked (answered (beside (field_nozzle f p) (nozzle r p))) n rest p) (more_rings f r)
    go (refused n) = sym (walked_refused n (suc (length f.inner_rings)) rest p)
    go (crossed_at pair) = sym (walked_crossed pair (suc (length f.inner_rings)) rest p)

walk_read : (f : Field) (rest : List (List ℤ)) (p : Corner) → From f rest p
unfolding inner_read walked
walk_read f [] p = refl
walk_read f (numbers ∷ rest) p = walk_one f numbers rest p (λ r. walk_read (with_ring f r) rest p)

-- from the first ring on
pub walk_rings : (numbers : List ℤ) (rest : List (List ℤ)) (p : Corner) → rings_position (numbers ∷ rest) p ≡ walked (position_answer numbers p) 0 rest p
unfolding rings_position rings_read position_answer
walk_rings numbers rest p = go (ring_checks numbers)
  where
    go : (a : Answer (List Corner)) → ((a >>= λ r. inner_read (alone r) rest) >>= λ g. answered (field_nozzle g p)) ≡ walked (a >>= λ r. answered (nozzle r p)) 0 rest p
    go (answered r) = walk_read (alone r) rest p ∙ ap (λ (x : Nozzle). walked (answered x) 0 rest p) (alone_nozzle r p)
    go (refused n) = sym (walked_refused n 0 rest p)
    go (crossed_at pair) = sym (walked_crossed pair 0 rest p)

-- a refusal of the rings so far is the answer
walked_refusal : (r : Refusal) (before : ℕ) (rest : List (List ℤ)) (p : Corner) → walked (refusal_paper r) before rest p ≡ refusal_paper r
unfolding walked both_answers
walked_refusal r before [] p = refl
walked_refusal r before (numbers ∷ rest) p =
    ap (λ (a : Answer Nozzle). walked a (suc before) rest p) (refused_first r _) ∙ walked_refusal r (suc before) rest p

-- the seventeenth inner ring ends the walk
pub too_many : (a : Answer Nozzle) (before : ℕ) (numbers : List ℤ) (rest : List (List ℤ)) (p : Corner) → 16 ≤ before
    → walked a before (numbers ∷ rest) p ≡ both_answers a (refused too_many_rings)
unfolding walked both_answers inner_position inner_checks
too_many a before numbers rest p h = rw (le-leb 16 before h) (go a)
  where
    go : (a : Answer Nozzle) → walked (a >>= λ x. refused too_many_rings) (suc before) rest p ≡ (a >>= λ x. refused too_many_rings)
    go (answered x) = walked_refused too_many_rings (suc before) rest p
    go (refused n) = walked_refused n (suc before) rest p
    go (crossed_at pair) = walked_crossed pair (suc before) rest p

-- ---- what the loop over the rings keeps: before ring k, whose numbers start at `at`
pub record Going (counts : List ℕ) (numbers : List ℤ) (p : Corner) (at : ℕ) (a : Answer Nozzle) (k : ℕ) : Type 0 where
  pub start : at ≡ 2 * summed (take k counts)
  pub some : 1 ≤ k
  pub most : k ≤ length counts
  pub answer : rings_position (cut counts numbers) p ≡ walked a (k - 1) (drop k (cut counts numbers)) p

-- the numbers of ring k
abbrev pub ring_at : List ℕ → List ℤ → ℕ → ℕ → List ℤ
ring_at counts numbers at k = take (2 * get_or counts k 0) (drop at numbers)

module _ (counts : List ℕ) (numbers : List ℤ) (p : Corner) where
  pub going_start : 0 < length counts → Going counts numbers p (2 * get_or counts 0 0) (position_answer (ring_at counts numbers 0 0) p) 1
  unfolding summed
  going_start h = record {
    start = let e = summed_more counts 0 h in omega arith;
    some = omega arith;
    most = h;
    answer = ap (λ (l : List (List ℤ)). rings_position l p) (cut_at counts numbers 0 h) ∙ walk_rings (ring_at counts numbers 0 0) (drop 1 (cut counts numbers)) p;
  }

  module _ {at : ℕ} {a : Answer Nozzle} {k : ℕ} (g : Going counts numbers p at a k) where
    pub going_end : length counts ≤ k → a ≡ rings_position (cut counts numbers) p
    unfolding walked
    going_end h =
        sym (g.answer ∙ ap (λ (l : List (List ℤ)). walked a (k - 1) l p) (drop_of_length-le (cut counts numbers) (past (length_cut counts numbers) h)))
      where
        past : {m n : ℕ} → m ≡ n → n ≤ k → m ≤ k
        past e h = omega arith

    pub going_refused : (r : Refusal) → refusal_paper r ≡ a → refusal_paper r ≡ rings_position (cut counts numbers) p
    going_refused r e = sym (g.answer ∙ ap (λ (a : Answer Nozzle). walked a (k - 1) (drop k (cut counts numbers)) p) (sym e) ∙ walked_refusal r (k - 1) (drop k (cut counts numbers)) p)

    module _ (h : k < length counts) where
      next : drop k (cut counts numbers) ≡ (ring_at counts numbers at k ∷ drop (suc k) (cut counts numbers))
      next = cut_at counts numbers k h ∙ ap (λ (n : ℕ). take (2 * get_or counts k 0) (drop n numbers) ∷ drop (suc k) (cut counts numbers)) (sym g.start)

      pub going_many : 16 < k → both_answers a (refused too_many_rings) ≡ rings_position (cut counts numbers) p
      going_many l =
          sym (g.answer ∙ ap (λ (l : List (List ℤ)). walked a (k - 1) l p) next
          ∙ too_many a (k - 1) (ring_at counts numbers at k) (drop (suc k) (cut counts numbers)) p (omega arith))

      pub going_on : Going counts numbers p (at + 2 * get_or counts k 0) (both_answers a (inner_position (k - 1) (ring_at counts numbers at k) p)) (k + 1)
      unfolding walked
      going_on = record {
        start = let e = g.start in let f = ap (λ (i : ℕ). summed (take i counts)) (add-one k) ∙ summed_more counts k h in omega arith;
        some = omega arith;
        most = omega arith;
        answer =
            g.answer ∙ ap (λ (l : List (List ℤ)). walked a (k - 1) l p) next
            ∙ ap (λ (n : ℕ). walked (both_answers a (inner_position (k - 1) (ring_at counts numbers at k) p)) n (drop (suc k) (cut counts numbers)) p) (before k g.some)
            ∙ ap (λ (n : ℕ). walked (both_answers a (inner_position (k - 1) (ring_at counts numbers at k) p)) ((k + 1) - 1) (drop n (cut counts numbers)) p) (sym (add-one k));
      }
        where
          before : (k : ℕ) → 1 ≤ k → suc (k - 1) ≡ (k + 1) - 1
          before k h = omega arith

      -- ring k's numbers are all there
      pub inside : 2 * summed counts ≡ length numbers → at + 2 * get_or counts k 0 ≤ length numbers
      inside e = let s = g.start in let m = summed_more counts k h in let t = summed_most counts (suc k) in omega arith

-- ---- by what the calls answered
module _ (counts : List ℕ) (numbers : List ℤ) (p : Corner) where
  pub first_refused : 0 < length counts → (r : Refusal) → refusal_paper r ≡ position_answer (ring_at counts numbers 0 0) p → refusal_paper r ≡ rings_position (cut counts numbers) p
  first_refused h r e = going_refused counts numbers p (going_start counts numbers p h) r e

  pub first_stands : 0 < length counts → {x : Nozzle} → answered x ≡ position_answer (ring_at counts numbers 0 0) p → Going counts numbers p (2 * get_or counts 0 0) (answered x) 1
  first_stands h e = subst (λ (a : Answer Nozzle). Going counts numbers p (2 * get_or counts 0 0) a 1) (sym e) (going_start counts numbers p h)

  module _ {at k : ℕ} {x : Nozzle} (g : Going counts numbers p at (answered x) k) (h : k < length counts) where
    pub next_refused : (r : Refusal) → refusal_paper r ≡ inner_position (k - 1) (ring_at counts numbers at k) p → refusal_paper r ≡ rings_position (cut counts numbers) p
    unfolding both_answers
    next_refused r e = going_refused counts numbers p (going_on counts numbers p g h) r (refused_bind r (λ y. answered (beside x y)) e)

    pub next_stands : {y z : Nozzle} → answered y ≡ inner_position (k - 1) (ring_at counts numbers at k) p → z ≡ beside x y → Going counts numbers p (at + 2 * get_or counts k 0) (answered z) (k + 1)
    unfolding both_answers
    next_stands {y} {z} e f =
        subst (λ (a : Answer Nozzle). Going counts numbers p (at + 2 * get_or counts k 0) a (k + 1))
        (ap (λ (b : Answer Nozzle). b >>= λ y. answered (beside x y)) (sym e) ∙ ap answered (sym f))
        (going_on counts numbers p g h)
