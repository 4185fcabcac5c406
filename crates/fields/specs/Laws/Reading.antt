-- A field that was accepted before is read ring by ring: where no ring is refused, it is the field of its rings. Assumes nothing.
use Rattle.std.specs.Prelude.{◌≡◌, Bool, ℤ, take, drop, get_or}
use Rattle.std.proofs.Math.Path.{refl, sym, ap, subst}
use Rattle.std.proofs.Common.{◌∙◌, add-one, le_refl, drop_of_length-le, take_all, length-take-le}
use Rattle.std.proofs.Math.Bool.{true, false}
use Rattle.std.proofs.Math.Logic.{⊎_elim}
use mathlib.Core.List.{List, [], ◌∷◌}
use Prim.Native.Nat.{ℕ, zero, suc, ◌+◌, ◌*◌, ◌-◌, ◌<◌, ◌≤◌}
use native.Mathlib.Omega.{arith}
use Rattle.std.proofs.Math.Decide.{dec_lt}
use Rattle.std.proofs.Math.ListN.{length}
use Rattle.rules.specs.Refusals.{Answer, answered, refused, crossed_at, ◌>>=◌, ◌>>◌, ◌if◌, Passed, passed, corner_count}
use Rattle.rules.specs.Rings.{Corner}
use Rattle.rules.specs.RingAnswers.{ring_checks}
use Rattle.rules.specs.Fields.{Field}
use Rattle.rules.specs.FieldAnswers.{alone, with_ring, inner_checks, placed, summed, cut, uneven, inner_read, rings_read, field_read, join_answer}
use Rattle.ring_corners.specs.Corners.{pairs, Accepted}
use Rattle.ring_checks.specs.Refusal.{refusal_of}
use Rattle.ring_checks.specs.Checks.{checked}
use Rattle.ring_checks.proofs.Laws.Accept.{judgement, accepted, none_refused, refuses}
use Rattle.ring_checks.proofs.Laws.Steps.{refused_then, refused_passed}
use Rattle.terms.specs.declared.refusals.Refusal.{Refusal}
use Rattle.terms.specs.Papers.{refusal_paper}
use Rattle.fields.specs.Placed.{as_field, one_more, passed_one, Checked}
use Rattle.fields.specs.Laws.Cut.{summed_more, summed_most, cut_at, length_cut}
use Rattle.fields.specs.Laws.Placed.{more_field, inner_rings_of, inner_judged, inner_accepts}
use Rattle.fields.specs.Laws.Calls.{even, Unfit, read_none, read_unfit, read_even}
use Rattle.fields.specs.Laws.Accepting.{ring, ring_is}

-- ---- what the loop keeps: before ring k, whose numbers start at `at`, none was refused
pub record Reading (counts : List ℕ) (numbers : List ℤ) (at k : ℕ) : Type 0 where
  pub start : at ≡ 2 * summed (take k counts)
  pub some : 1 ≤ k
  pub most : k ≤ length counts
  pub good : (i : ℕ) → i < k → Accepted (get_or (cut counts numbers) i [])
  pub answer : rings_read (cut counts numbers) ≡ inner_read (as_field (take k (cut counts numbers))) (drop k (cut counts numbers))

-- what passes with what comes after it, passes by itself
passed_first : {A B : Type 0} (a : Answer A) (f : A → Answer B) → answered passed ≡ ((a >>= f) >> answered passed) → answered passed ≡ (a >> answered passed)
passed_first (answered x) f e = refl
passed_first (refused n) f e = e
passed_first (crossed_at pair) f e = e

module _ (counts : List ℕ) (numbers : List ℤ) where
  cut_one : 0 < length counts → cut counts numbers ≡ (ring counts numbers 0 0 ∷ drop 1 (cut counts numbers))
  unfolding summed
  cut_one h = cut_at counts numbers 0 h

  pub reading_refused_first : 0 < length counts → (r : Refusal) → refusal_paper r ≡ checked (ring counts numbers 0 0) → refusal_paper r ≡ (rings_read (cut counts numbers) >> answered passed)
  unfolding rings_read
  reading_refused_first h r e = refused_then r _ (refuses (ring counts numbers 0 0) r (λ c. inner_read (alone c) (drop 1 (cut counts numbers))) e ∙ sym (ap rings_read (cut_one h)))

  pub reading_start : 0 < length counts → answered passed ≡ checked (ring counts numbers 0 0) → Reading counts numbers (2 * get_or counts 0 0) 1
  unfolding summed rings_read as_field
  reading_start h e =
      let j = accepted (ring counts numbers 0 0) e in
      record {
        start = let f = summed_more counts 0 h in omega arith;
        some = omega arith;
        most = h;
        good = λ i l. first i l j.1;
        answer =
            ap rings_read (cut_one h) ∙ ap (λ (a : Answer (List Corner)). a >>= λ r. inner_read (alone r) (drop 1 (cut counts numbers))) j.0
            ∙ ap (λ (l : List (List ℤ)). inner_read (as_field (take 1 l)) (drop 1 (cut counts numbers))) (sym (cut_one h));
      }
    where
      first : (i : ℕ) → i < 1 → Accepted (ring counts numbers 0 0) → Accepted (get_or (cut counts numbers) i [])
      first zero l a = subst Accepted (sym (ring_is counts numbers 0 h)) a
      first (suc i) l a = absurd (omega arith)

  module _ {at k : ℕ} (g : Reading counts numbers at k) where
    pub reading_end : length counts ≤ k → rings_read (cut counts numbers) ≡ answered (as_field (cut counts numbers))
    unfolding inner_read
    reading_end h =
        g.answer ∙ ap (inner_read (as_field (take k (cut counts numbers)))) (drop_of_length-le (cut counts numbers) (past (length_cut counts numbers) h))
        ∙ ap (λ (l : List (List ℤ)). answered (as_field l)) (take_all k (cut counts numbers) (past (length_cut counts numbers) h))
      where
        past : {m n : ℕ} → m ≡ n → n ≤ k → m ≤ k
        past e h = omega arith

    module _ (h : k < length counts) where
      next : drop k (cut counts numbers) ≡ (ring counts numbers at k ∷ drop (suc k) (cut counts numbers))
      next = cut_at counts numbers k h ∙ ap (λ (n : ℕ). ring counts numbers n k ∷ drop (suc k) (cut counts numbers)) (sym g.start)

      before : length (as_field (take k (cut counts numbers))).inner_rings ≡ k - 1
      before = inner_rings_of (take k (cut counts numbers)) ∙ ap (λ (n : ℕ). n - 1) (length-take-le k (cut counts numbers) (let n = length_cut counts numbers in let m = g.most in omega arith))

      by_next : rings_read (cut counts numbers)
          ≡ (inner_checks (k - 1) (ring counts numbers at k) >>= λ r. inner_read (with_ring (as_field (take k (cut counts numbers))) r) (drop (suc k) (cut counts numbers)))
      unfolding inner_read
      by_next =
          g.answer ∙ ap (inner_read (as_field (take k (cut counts numbers)))) next
          ∙ ap (λ (n : ℕ). inner_checks n (ring counts numbers at k) >>= λ r. inner_read (with_ring (as_field (take k (cut counts numbers))) r) (drop (suc k) (cut counts numbers))) before

      pub reading_refused : (r : Refusal) → refusal_paper r ≡ (inner_checks (k - 1) (ring counts numbers at k) >> answered passed) → refusal_paper r ≡ (rings_read (cut counts numbers) >> answered passed)
      reading_refused r e =
          refused_then r _ (refused_passed (inner_checks (k - 1) (ring counts numbers at k)) r (λ c. inner_read (with_ring (as_field (take k (cut counts numbers))) c) (drop (suc k) (cut counts numbers))) e ∙ sym by_next)

      now_ring : get_or (cut counts numbers) k [] ≡ ring counts numbers at k
      now_ring = ring_is counts numbers k h ∙ ap (λ (n : ℕ). ring counts numbers n k) (sym g.start)

      pub reading_on : answered passed ≡ (inner_checks (k - 1) (ring counts numbers at k) >> answered passed) → Reading counts numbers (at + 2 * get_or counts k 0) (k + 1)
      reading_on e =
          let j = inner_accepts (k - 1) (ring counts numbers at k) e in
          record {
            start = let s = g.start in let f = ap (λ (i : ℕ). summed (take i counts)) (add-one k) ∙ summed_more counts k h in omega arith;
            some = omega arith;
            most = omega arith;
            good = λ i l. elim (dec_lt i k) [ yes m ↦ g.good i m | no m ↦ subst (λ (i : ℕ). Accepted (get_or (cut counts numbers) i [])) (same i l (λ o. m o)) (subst Accepted (sym now_ring) j.1) ];
            answer =
                by_next ∙ ap (λ (a : Answer (List Corner)). a >>= λ r. inner_read (with_ring (as_field (take k (cut counts numbers))) r) (drop (suc k) (cut counts numbers))) j.0
                ∙ ap (λ (l : List ℤ). inner_read (with_ring (as_field (take k (cut counts numbers))) (pairs l)) (drop (suc k) (cut counts numbers))) (sym now_ring)
                ∙ ap (λ (f : Field). inner_read f (drop (suc k) (cut counts numbers))) (sym (more_field (cut counts numbers) k g.some (let n = length_cut counts numbers in omega arith)))
                ∙ ap (λ (i : ℕ). inner_read (as_field (take i (cut counts numbers))) (drop i (cut counts numbers))) (sym (add-one k));
          }
        where
          same : (i : ℕ) → i < k + 1 → (i < k → ⊥) → k ≡ i
          same i j l = omega (arith, l)

      pub reading_inside : 2 * summed counts ≡ length numbers → at + 2 * get_or counts k 0 ≤ length numbers
      reading_inside e = let s = g.start in let m = summed_more counts k h in let t = summed_most counts (suc k) in omega arith

-- ---- a field that is read at all
module _ (counts : List ℕ) (numbers : List ℤ) where
  read_all : (n at k : ℕ) → Reading counts numbers at k → n + k ≡ length counts → answered passed ≡ (rings_read (cut counts numbers) >> answered passed) → (last : ℕ) × Reading counts numbers last (length counts)
  read_all zero at k g e z = (at, subst (Reading counts numbers at) (let f : k ≡ length counts = omega arith in f) g)
  read_all (suc n) at k g e z =
      let h : k < length counts = omega arith in
      read_all n (at + 2 * get_or counts k 0) (k + 1) (reading_on counts numbers g h (passed_first (inner_checks (k - 1) (ring counts numbers at k)) _ (z ∙ ap (λ (a : Answer Field). a >> answered passed) (by_next counts numbers g h)))) (omega arith) z

  pub read_checked : 0 < length counts → 2 * summed counts ≡ length numbers → answered passed ≡ (rings_read (cut counts numbers) >> answered passed)
      → Checked counts numbers × (rings_read (cut counts numbers) ≡ answered (as_field (cut counts numbers)))
  unfolding rings_read
  read_checked h e z =
      let o = passed_first (ring_checks (ring counts numbers 0 0)) _ (z ∙ ap (λ (l : List (List ℤ)). rings_read l >> answered passed) (cut_one counts numbers h)) in
      let g = read_all (length counts - 1) (2 * get_or counts 0 0) 1 (reading_start counts numbers h o) (omega arith) z in
      (record { some = h; even = e; good = g.1.good }, reading_end counts numbers g.1 (le_refl (length counts)))

  -- ---- a ring that joins it
  module _ (ring : List ℤ) where
    pub join_unfit : Unfit counts numbers → refused corner_count ≡ join_answer counts numbers ring
    unfolding join_answer
    join_unfit h = ap (λ (a : Answer Field). a >>= λ f. inner_checks (length f.inner_rings) ring >>= λ r. placed f r >> answered passed) (read_unfit counts numbers h)

    pub join_unread : uneven counts numbers ≡ false → (r : Refusal) → refusal_paper r ≡ (rings_read (cut counts numbers) >> answered passed) → refusal_paper r ≡ join_answer counts numbers ring
    unfolding join_answer
    join_unread e r h =
        refused_passed (rings_read (cut counts numbers)) r _ h ∙ ap (λ (a : Answer Field). a >>= λ f. inner_checks (length f.inner_rings) ring >>= λ r. placed f r >> answered passed) (read_even counts numbers e)

    pub join_read : uneven counts numbers ≡ false → rings_read (cut counts numbers) ≡ answered (as_field (cut counts numbers)) → passed_one (cut counts numbers) ring ≡ join_answer counts numbers ring
    unfolding join_answer passed_one one_more
    join_read e z =
        apart (inner_checks (length (cut counts numbers) - 1) ring)
        ∙ ap (λ (n : ℕ). inner_checks n ring >>= λ r. placed (as_field (cut counts numbers)) r >> answered passed) (sym (inner_rings_of (cut counts numbers)))
        ∙ sym (ap (λ (a : Answer Field). a >>= λ f. inner_checks (length f.inner_rings) ring >>= λ r. placed f r >> answered passed) (sym (read_even counts numbers e) ∙ z))
      where
        apart : (a : Answer (List Corner)) → ((a >>= placed (as_field (cut counts numbers))) >> answered passed) ≡ (a >>= λ r. placed (as_field (cut counts numbers)) r >> answered passed)
        apart (answered r) = refl
        apart (refused n) = refl
        apart (crossed_at pair) = refl

-- ---- reading refuses with a number, and never with a pair of edges
abbrev Plain : {A : Type 0} → Answer A → Type 0
Plain (answered a) = Unit
Plain (refused n) = Unit
Plain (crossed_at pair) = ⊥

plain_bind : {A B : Type 0} (a : Answer A) (f : A → Answer B) → Plain a → ((x : A) → Plain (f x)) → Plain (a >>= f)
plain_bind (answered x) f h k = k x
plain_bind (refused n) f h k = tt
plain_bind (crossed_at pair) f h k = h

inner_plain : (f : Field) (rest : List (List ℤ)) → Plain (inner_read f rest)
unfolding inner_read
inner_plain f [] = tt
inner_plain f (numbers ∷ rest) =
    plain_bind (inner_checks (length f.inner_rings) numbers) _
    (⊎_elim (λ j. subst Plain (sym j.0) tt) (λ j. subst Plain (sym j.1) tt) (inner_judged (length f.inner_rings) numbers)) (λ r. inner_plain (with_ring f r) rest)

rings_plain : (rings : List (List ℤ)) → Plain (rings_read rings)
unfolding rings_read
rings_plain [] = tt
rings_plain (numbers ∷ rest) =
    plain_bind (ring_checks numbers) _ (⊎_elim (λ j. subst Plain (sym j.0) tt) (λ j. subst Plain (sym j.1) tt) (judgement numbers)) (λ r. inner_plain (alone r) rest)

as_refused : {A : Type 0} (a : Answer A) → Plain a → 0 < refusal_of a → a ≡ refused (refusal_of a)
as_refused (answered x) h p = absurd (omega arith)
as_refused (refused n) h p = refl
as_refused (crossed_at pair) h p = absurd h

module _ (counts : List ℕ) (numbers : List ℤ) where
  pub read_uneven : uneven counts numbers ≡ true → 6 ≡ refusal_of (field_read counts numbers)
  unfolding field_read
  read_uneven e = rw e refl

  read_plain : Plain (field_read counts numbers)
  unfolding field_read
  read_plain = go (uneven counts numbers)
    where
      go : (b : Bool) → Plain (corner_count if b >> rings_read (cut counts numbers))
      go true = tt
      go false = rings_plain (cut counts numbers)

  -- a field that no check refuses is that of its rings
  pub field_checked : answered passed ≡ (field_read counts numbers >> answered passed) → Checked counts numbers × (field_read counts numbers ≡ answered (as_field (cut counts numbers)))
  unfolding field_read
  field_checked = go (uneven counts numbers) refl
    where
      clash : ◌≡◌ {A = Answer Passed} (answered passed) (refused corner_count) → ⊥
      clash f = let w : ◌≡◌ {A = ℕ} 0 1 = cc f in omega arith

      some : answered passed ≡ (rings_read (cut counts numbers) >> answered passed) → 0 < length counts
      some z = elim (dec_lt 0 (length counts)) [ yes p ↦ p | no p ↦ absurd (clash (z ∙ ap (λ (a : Answer Field). a >> answered passed) (sym (read_none counts numbers (omega (arith, p)))))) ]

      go : (b : Bool) → uneven counts numbers ≡ b → answered passed ≡ ((corner_count if b >> rings_read (cut counts numbers)) >> answered passed)
          → Checked counts numbers × ((corner_count if b >> rings_read (cut counts numbers)) ≡ answered (as_field (cut counts numbers)))
      go true e z = absurd (clash z)
      go false e z = read_checked counts numbers (some z) (even counts numbers e) z

-- ---- the same by the number of a refusal, which is 0 where nothing is refused
module _ (counts : List ℕ) (numbers : List ℤ) where
  pub first_number_refused : 0 < length counts → (n : ℕ) → n ≡ refusal_of (ring_checks (ring counts numbers 0 0)) → 0 < n → n ≡ refusal_of (rings_read (cut counts numbers))
  unfolding rings_read
  first_number_refused h n e p =
      ⊎_elim (λ j. absurd (let f = ap refusal_of j.0 in omega arith))
      (λ j. e ∙ ap refusal_of j.1 ∙ sym (ap refusal_of (ap rings_read (cut_one counts numbers h) ∙ ap (λ (a : Answer (List Corner)). a >>= λ r. inner_read (alone r) (drop 1 (cut counts numbers))) j.1)))
      (judgement (ring counts numbers 0 0))

  pub start_by_number : 0 < length counts → refusal_of (ring_checks (ring counts numbers 0 0)) ≡ 0 → Reading counts numbers (2 * get_or counts 0 0) 1
  start_by_number h e = reading_start counts numbers h (sym (ap (λ (a : Answer (List Corner)). a >> answered passed) (none_refused (ring counts numbers 0 0) e).0))

  module _ {at k : ℕ} (g : Reading counts numbers at k) (h : k < length counts) where
    pub number_refused : (n : ℕ) → n ≡ refusal_of (inner_checks (k - 1) (ring counts numbers at k)) → 0 < n → n ≡ refusal_of (rings_read (cut counts numbers))
    number_refused n e p = ⊎_elim
        (λ j. absurd (let f = ap refusal_of j.0 in omega arith))
        (λ j. e ∙ ap refusal_of j.1 ∙ sym (ap refusal_of (by_next counts numbers g h ∙ ap (λ (a : Answer (List Corner)). a >>= λ r. inner_read (with_ring (as_field (take k (cut counts numbers))) r) (drop (suc k) (cut counts numbers))) j.1)))
        (inner_judged (k - 1) (ring counts numbers at k))

    pub on_by_number : refusal_of (inner_checks (k - 1) (ring counts numbers at k)) ≡ 0 → Reading counts numbers (at + 2 * get_or counts k 0) (k + 1)
    on_by_number e = ⊎_elim
        (λ j. reading_on counts numbers g h (sym (ap (λ (a : Answer (List Corner)). a >> answered passed) j.0)))
        (λ j. absurd (let f = sym (ap refusal_of j.1) ∙ e in let p = j.2 in omega arith))
        (inner_judged (k - 1) (ring counts numbers at k))

  all_by_number : (n at k : ℕ) → Reading counts numbers at k → n + k ≡ length counts → refusal_of (rings_read (cut counts numbers)) ≡ 0 → (last : ℕ) × Reading counts numbers last (length counts)
  all_by_number zero at k g e z = (at, subst (Reading counts numbers at) (let f : k ≡ length counts = omega arith in f) g)
  all_by_number (suc n) at k g e z =
      let h : k < length counts = omega arith in
      ⊎_elim
      (λ j. all_by_number n (at + 2 * get_or counts k 0) (k + 1) (on_by_number g h (ap refusal_of j.0)) (omega arith) z)
      (λ j. absurd (let f = number_refused g h j.0 (sym (ap refusal_of j.1)) j.2 in let p = j.2 in omega arith))
      (inner_judged (k - 1) (ring counts numbers at k))

  rings_by_number : 0 < length counts → 2 * summed counts ≡ length numbers → refusal_of (rings_read (cut counts numbers)) ≡ 0
      → Checked counts numbers × (rings_read (cut counts numbers) ≡ answered (as_field (cut counts numbers)))
  rings_by_number h e z =
      let o : refusal_of (ring_checks (ring counts numbers 0 0)) ≡ 0 =
      elim (dec_lt 0 (refusal_of (ring_checks (ring counts numbers 0 0)))) [
        | yes p ↦ absurd (let f = first_number_refused h (refusal_of (ring_checks (ring counts numbers 0 0))) refl p in omega arith)
        | no p ↦ omega arith
      ] in
      let g = all_by_number (length counts - 1) (2 * get_or counts 0 0) 1 (start_by_number h o) (omega arith) z in
      (record { some = h; even = e; good = g.1.good }, reading_end counts numbers g.1 (le_refl (length counts)))

  pub checked_by_number : refusal_of (field_read counts numbers) ≡ 0 → Checked counts numbers × (field_read counts numbers ≡ answered (as_field (cut counts numbers)))
  unfolding field_read
  checked_by_number = go (uneven counts numbers) refl
    where
      some : refusal_of (rings_read (cut counts numbers)) ≡ 0 → 0 < length counts
      some z = elim (dec_lt 0 (length counts)) [ yes p ↦ p | no p ↦ absurd (let f = ap refusal_of (read_none counts numbers (omega (arith, p))) in omega arith) ]

      go : (b : Bool) → uneven counts numbers ≡ b → refusal_of (corner_count if b >> rings_read (cut counts numbers)) ≡ 0
          → Checked counts numbers × ((corner_count if b >> rings_read (cut counts numbers)) ≡ answered (as_field (cut counts numbers)))
      go true e z = absurd (omega arith)
      go false e z = rings_by_number (some z) (even counts numbers e) z

  module _ (ring : List ℤ) where
    pub unread_number : (n : ℕ) → n ≡ refusal_of (field_read counts numbers) → 0 < n → refused n ≡ join_answer counts numbers ring
    unfolding join_answer
    unread_number n e p =
        ap refused e
        ∙ sym (ap (λ (a : Answer Field). a >>= λ f. inner_checks (length f.inner_rings) ring >>= λ r. placed f r >> answered passed)
        (as_refused (field_read counts numbers) (read_plain counts numbers) (subst (λ (k : ℕ). 0 < k) e p)))

    pub read_by_number : refusal_of (field_read counts numbers) ≡ 0 → passed_one (cut counts numbers) ring ≡ join_answer counts numbers ring
    unfolding join_answer passed_one one_more
    read_by_number e =
        apart (inner_checks (length (cut counts numbers) - 1) ring)
        ∙ ap (λ (n : ℕ). inner_checks n ring >>= λ r. placed (as_field (cut counts numbers)) r >> answered passed) (sym (inner_rings_of (cut counts numbers)))
        ∙ sym (ap (λ (a : Answer Field). a >>= λ f. inner_checks (length f.inner_rings) ring >>= λ r. placed f r >> answered passed) (checked_by_number e).1)
      where
        apart : (a : Answer (List Corner)) → ((a >>= placed (as_field (cut counts numbers))) >> answered passed) ≡ (a >>= λ r. placed (as_field (cut counts numbers)) r >> answered passed)
        apart (answered r) = refl
        apart (refused n) = refl
        apart (crossed_at pair) = refl
