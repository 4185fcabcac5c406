-- What the loop over a field's inner rings keeps while it holds another ring against them. Assumes nothing.
use Rattle.std.specs.Prelude.{◌≡◌, refl, Bool, true, false, ◌||◌, ℕ, suc, ◌+◌, ◌*◌, ◌<◌, ◌≤◌, ℤ, length, take, get_or}
use Rattle.std.proofs.Math.Path.{sym, ap}
use Rattle.std.proofs.Common.{◌∙◌, ◌-◌, subst, add-one, drop_of_length-le, take_all, length-take-le}
use Rattle.std.proofs.lemmas.Grind.{get_or_after_one}
use Rattle.std.proofs.lemmas.List.{length-drop}
use mathlib.Core.List.{List, [], ◌∷◌, map}
use native.Mathlib.Omega.{arith}
use Rattle.std.proofs.Math.ListN.{drop}
use Rattle.rules.specs.Rings.{Corner}
use Rattle.rules.specs.Placing.{rings_meet, first_outside, entangled, entangled_any, misplaced}
use Rattle.rules.specs.FieldAnswers.{summed, cut}
use Rattle.ring_corners.specs.Corners.{pairs, Accepted}
use Rattle.fields.specs.Placed.{as_field, Checked, Outer}
use Rattle.fields.specs.Laws.Cut.{summed_more, summed_most, cut_at, length_cut}
use Rattle.fields.specs.Laws.Accepting.{ring, ring_is}

-- before ring k, whose numbers start at `at`: none of those before it is entangled with s
pub record Tangling (counts : List ℕ) (numbers : List ℤ) (s : List Corner) (at k : ℕ) : Type 0 where
  pub start : at ≡ 2 * summed (take k counts)
  pub some : 1 ≤ k
  pub most : k ≤ length counts
  pub answer : entangled_any (as_field (cut counts numbers)).inner_rings s ≡ entangled_any (map pairs (drop k (cut counts numbers))) s

inner_of : (rings : List (List ℤ)) → 0 < length rings → (as_field rings).inner_rings ≡ map pairs (drop 1 rings)
unfolding as_field
inner_of [] h = absurd (omega arith)
inner_of (o ∷ rest) h = refl

-- the counts after the outer ring's, as the loop reads them
later_is : (counts : List ℕ) → take (length counts - 1) (drop 1 counts) ≡ drop 1 counts
later_is [] = refl
later_is (n ∷ rest) = take_all (length (n ∷ rest) - 1) rest (omega arith)

pub later_at : (counts : List ℕ) (i : ℕ) → get_or (take (length counts - 1) (drop 1 counts)) i 0 ≡ get_or counts (i + 1) 0
later_at counts i =
    ap (λ (l : List ℕ). get_or l i 0) (later_is counts) ∙ get_or_after_one counts i 0 ∙ ap (λ (k : ℕ). get_or counts k 0) (omega arith)

later_many : (counts : List ℕ) → length (take (length counts - 1) (drop 1 counts)) ≡ length counts - 1
later_many counts = ap length (later_is counts) ∙ length-drop 1 counts

pub later_in : (counts : List ℕ) {i : ℕ} → i < length (take (length counts - 1) (drop 1 counts)) → i + 1 < length counts
later_in counts h = let e = later_many counts in omega arith

pub later_past : (counts : List ℕ) {i : ℕ} → length (take (length counts - 1) (drop 1 counts)) ≤ i → length counts ≤ i + 1
later_past counts h = let e = later_many counts in omega arith

module _ (counts : List ℕ) (numbers : List ℤ) (s : List Corner) (c : Checked counts numbers) where
  pub tangling_start : Tangling counts numbers s (2 * get_or counts 0 0) 1
  unfolding summed
  tangling_start = record {
    start = let h = c.some in let e = summed_more counts 0 h in omega arith;
    some = omega arith;
    most = c.some;
    answer = ap (λ (l : List (List Corner)). entangled_any l s) (inner_of (cut counts numbers) (let n = length_cut counts numbers in let h = c.some in omega arith));
  }

  module _ {at k : ℕ} (g : Tangling counts numbers s at k) where
    pub tangling_end : length counts ≤ k → false ≡ entangled_any (as_field (cut counts numbers)).inner_rings s
    unfolding entangled_any
    tangling_end h = sym (g.answer ∙ ap (λ (l : List (List ℤ)). entangled_any (map pairs l) s) (drop_of_length-le (cut counts numbers) (past (length_cut counts numbers) h)))
      where
        past : {m n : ℕ} → m ≡ n → n ≤ k → m ≤ k
        past e h = omega arith

    module _ (h : k < length counts) where
      by_next : entangled_any (as_field (cut counts numbers)).inner_rings s ≡ (entangled (pairs (ring counts numbers at k)) s || entangled_any (map pairs (drop (suc k) (cut counts numbers))) s)
      unfolding entangled_any
      by_next =
          g.answer ∙ ap (λ (l : List (List ℤ)). entangled_any (map pairs l) s)
          (cut_at counts numbers k h ∙ ap (λ (n : ℕ). ring counts numbers n k ∷ drop (suc k) (cut counts numbers)) (sym g.start))

      pub tangling_met : true ≡ entangled (pairs (ring counts numbers at k)) s → true ≡ entangled_any (as_field (cut counts numbers)).inner_rings s
      tangling_met e = sym (by_next ∙ ap (λ (b : Bool). b || entangled_any (map pairs (drop (suc k) (cut counts numbers))) s) (sym e))

      pub tangling_on : false ≡ entangled (pairs (ring counts numbers at k)) s → Tangling counts numbers s (at + 2 * get_or counts k 0) (k + 1)
      tangling_on e = record {
        start = let t = g.start in let f = ap (λ (i : ℕ). summed (take i counts)) (add-one k) ∙ summed_more counts k h in omega arith;
        some = omega arith;
        most = omega arith;
        answer =
            by_next ∙ ap (λ (b : Bool). b || entangled_any (map pairs (drop (suc k) (cut counts numbers))) s) (sym e)
            ∙ ap (λ (n : ℕ). entangled_any (map pairs (drop n (cut counts numbers))) s) (sym (add-one k));
      }

      pub tangling_inside : at + 2 * get_or counts k 0 ≤ length numbers
      tangling_inside = let t = g.start in let m = summed_more counts k h in let o = summed_most counts (suc k) in let e = c.even in omega arith

      pub tangling_accepted : Accepted (ring counts numbers at k)
      tangling_accepted = subst Accepted (ring_is counts numbers k h ∙ ap (λ (n : ℕ). ring counts numbers n k) (sym g.start)) (c.good k h)

  pub later_inside : {at i : ℕ} → Tangling counts numbers s at (i + 1) → i < length (take (length counts - 1) (drop 1 counts))
      → at + 2 * get_or (take (length counts - 1) (drop 1 counts)) i 0 ≤ length numbers
  later_inside {i = i} g h = rw (later_at counts i) (tangling_inside g (later_in counts h))

-- ---- the outer ring, and then the inner ones
pub first_ring : (counts : List ℕ) (numbers : List ℤ) → 0 < length counts → get_or (cut counts numbers) 0 [] ≡ take (2 * get_or counts 0 0) numbers
unfolding summed
first_ring counts numbers h = ring_is counts numbers 0 h

pub first_accepted : (counts : List ℕ) (numbers first : List ℤ) → Checked counts numbers → first ≡ take (2 * get_or counts 0 0) numbers → Accepted first
first_accepted counts numbers first c e = subst Accepted (first_ring counts numbers c.some ∙ sym e) (c.good 0 c.some)

-- as many corners as are counted
pub first_many : (counts : List ℕ) (numbers : List ℤ) → 2 * get_or counts 0 0 ≤ length numbers → Accepted (take (2 * get_or counts 0 0) numbers) → length (pairs (take (2 * get_or counts 0 0) numbers)) ≡ get_or counts 0 0
first_many counts numbers h a = let e = a.even in let l = length-take-le (2 * get_or counts 0 0) numbers h in omega arith

outer_of : (rings : List (List ℤ)) → 0 < length rings → (as_field rings).outer_ring ≡ pairs (get_or rings 0 [])
unfolding as_field
outer_of [] h = absurd (omega arith)
outer_of (o ∷ rest) h = refl

module _ (counts : List ℕ) (numbers : List ℤ) (s : List Corner) (h : 0 < length counts) (first : List ℤ) (e : Outer counts numbers first) where
  abbrev outer : List Corner
  outer = pairs first

  pub outer_is : (as_field (cut counts numbers)).outer_ring ≡ outer
  outer_is = outer_of (cut counts numbers) (let n = length_cut counts numbers in omega arith) ∙ ap pairs (sym e)

  by_outer : misplaced (as_field (cut counts numbers)) s ≡ ((rings_meet outer s || first_outside outer s) || entangled_any (as_field (cut counts numbers)).inner_rings s)
  unfolding misplaced
  by_outer = ap (λ (o : List Corner). (rings_meet o s || first_outside o s) || entangled_any (as_field (cut counts numbers)).inner_rings s) outer_is

  pub misplaced_outer : true ≡ (rings_meet outer s || first_outside outer s) → true ≡ misplaced (as_field (cut counts numbers)) s
  misplaced_outer e = sym (by_outer ∙ ap (λ (b : Bool). b || entangled_any (as_field (cut counts numbers)).inner_rings s) (sym e))

  pub misplaced_inner : false ≡ (rings_meet outer s || first_outside outer s) → entangled_any (as_field (cut counts numbers)).inner_rings s ≡ misplaced (as_field (cut counts numbers)) s
  misplaced_inner e = sym (by_outer ∙ ap (λ (b : Bool). b || entangled_any (as_field (cut counts numbers)).inner_rings s) (sym e))
