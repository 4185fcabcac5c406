-- An inner ring that is closed, by the rules' answers to the flat lists. Assumes nothing.
use mathlib.Core.Path.{◌≡◌, refl, sym, ap, ◌∙◌}
use mathlib.Core.Bool.{Bool, true, false, ◌||◌}
use mathlib.Core.List.{List, [], ◌∷◌}
use Prim.Native.Nat.{ℕ, ◌+◌, ◌*◌, ◌≤◌, ◌<◌}
use native.Mathlib.Omega.{arith}
use borrow.Author.Tests.{lt-leb, le-ltb}
use lib.Dec.{ltb}
use lib.IntN.{ℤ}
use lib.ListN.{length, take, drop, length-drop}
use lib.Seq.{length-take-le}
use Rattle.rules.specs.Rings.{Corner, line, edges, total, turning_number, area2}
use Rattle.rules.specs.Refusals.{Answer, answered, refused, crossed_at, passed, ◌>>=◌, ◌>>◌, ◌if◌, in_ring, corner_count, span_too_large, badly_placed}
use Rattle.rules.specs.RingAnswers.{count_bad, any_bad, span_bad, not_crossed, area_answer, crossing_answer}
use Rattle.rules.specs.Fields.{Field}
use Rattle.rules.specs.Placing.{any_meet, rings_meet, first_outside, entangled_any, misplaced}
use Rattle.rules.specs.FieldAnswers.{alone, with_ring, inner_count_bad, inner_checks, placed, field_read, join_answer}
use Rattle.terms.specs.declared.corners.Corner as code
use Rattle.terms.specs.declared.refusals.Refusal.{Refusal}
use Rattle.terms.specs.Papers.{refusal_paper}
use Rattle.ring_checks.proofs.Laws.Steps.{not_answered, refused_then}
use Rattle.fields.specs.Checks.{field_checked}
use Rattle.fields.specs.OfRing.{ring_refusal}
use Rattle.fields.specs.Laws.OfRing.{ring_refusal_is}
use Rattle.job_state.specs.Gathered.{ring_of, ring_from, flat, inner_judged, joined_flat, apart_flat, beside_by, beside_flat, field_or_none}
use Rattle.job_state.proofs.Flat.{corners_flat, checks_by, checks_flat, ring_within, first_part, second_part}
use Rattle.job_state.proofs.Limits.{ring_length}
use Rattle.job_state.proofs.Fields.{read_size}

clash : {A : Type 0} {a : A} {n : ℕ} → ◌≡◌ {A = Answer A} (answered a) (refused n) → ⊥
clash e = let z : ◌≡◌ {A = ℕ} 0 1 = cc e in omega arith

-- ---- a ring of at most 128 corners, whose numbers are within their limits
module _ (r : List Corner) (good : any_bad r ≡ false) (few : length r ≤ 128) where
  count_alike : inner_count_bad r ≡ count_bad r
  unfolding inner_count_bad count_bad
  count_alike = ap (λ (b : Bool). ltb (length r) 3 || b) (le-ltb 128 (length r) few ∙ sym (le-ltb 1024 (length r) (omega arith)))

  inner_flat : (before : ℕ) → before < 16 → inner_checks before (flat r) ≡ checks_by r good (count_bad r) (span_bad r)
  unfolding inner_checks checks_by
  inner_flat before h = rw (lt-leb 16 before h) (rw (corners_flat r) (rw (count_alike, good) refl))

  judged_alike : (f : Field) → inner_judged f r ≡ ((corner_count if count_bad r) >> ((span_too_large if span_bad r) >> (placed f r >> answered (area2 r))))
  unfolding inner_judged
  judged_alike f = ap (λ (b : Bool). (corner_count if b) >> ((span_too_large if span_bad r) >> (placed f r >> answered (area2 r)))) count_alike

  -- beside a field, that is accepted or not
  joined_by_flat : (counts : List ℕ) (numbers : List ℤ) (f : Field) → field_read counts numbers ≡ answered f → length f.inner_rings < 16
      → joined_flat counts numbers (flat r) ≡ inner_judged f r
  unfolding joined_flat join_answer area_answer checks_by
  joined_by_flat counts numbers f e h =
      rw e (rw (inner_flat (length f.inner_rings) h, checks_flat r good) (go (count_bad r) (span_bad r) ∙ sym (judged_alike f)))
    where
      last : (x : Answer Field) → ((x >> answered passed) >> answered (area2 r)) ≡ (x >> answered (area2 r))
      last (answered g) = refl
      last (refused n) = refl
      last (crossed_at pair) = refl

      go : (a b : Bool) → ((checks_by r good a b >>= λ s. placed f s >> answered passed) >> (checks_by r good a b >>= λ s. answered (area2 s)))
          ≡ ((corner_count if a) >> ((span_too_large if b) >> (placed f r >> answered (area2 r))))
      go true b = refl
      go false true = refl
      go false false = last (placed f r)

misplaced_none : (c : Corner) (s : List Corner) → misplaced (alone []) (c ∷ s) ≡ true
unfolding misplaced rings_meet any_meet first_outside turning_number edges line total entangled_any
misplaced_none c s = refl

-- beside none
module _ (r : List Corner) (good : any_bad r ≡ false) (few : length r ≤ 128) where
  apart_by_flat : apart_flat (flat r) ≡ inner_judged (alone []) r
  unfolding apart_flat crossing_answer checks_by placed count_bad
  apart_by_flat = rw (checks_flat r good) (go (count_bad r) (span_bad r) refl ∙ sym (judged_alike r good few (alone [])))
    where
      placed_none : (a : Answer ℕ) (b : Bool) → b ≡ true
          → (in_ring 1 a >> refused badly_placed) ≡ ((in_ring 1 a >> ((badly_placed if b) >> answered (with_ring (alone []) r))) >> answered (area2 r))
      placed_none (answered n) b e = rw e refl
      placed_none (refused n) b e = refl
      placed_none (crossed_at pair) b e = refl

      is_misplaced : (r : List Corner) → count_bad r ≡ false → misplaced (alone []) r ≡ true
      is_misplaced [] e = absurd (let z : ◌≡◌ {A = ℕ} 0 1 = cc e in omega arith)
      is_misplaced (c ∷ s) e = misplaced_none c s

      go : (a b : Bool) → count_bad r ≡ a → (in_ring 1 (checks_by r good a b >>= not_crossed) >> refused badly_placed)
          ≡ ((corner_count if a) >> ((span_too_large if b) >> (placed (alone []) r >> answered (area2 r))))
      go true b e = refl
      go false true e = refl
      go false false e = placed_none (not_crossed r) (misplaced (alone []) r) (is_misplaced r e)

  never_apart : (k : ℤ) → answered k ≡ inner_judged (alone []) r → ⊥
  unfolding apart_flat
  never_apart k e = go (in_ring 1 (crossing_answer (flat r))) (e ∙ sym apart_by_flat)
    where
      go : (a : Answer ℕ) → answered k ≡ (a >> refused badly_placed) → ⊥
      go (answered n) e = clash e
      go (refused n) e = clash e
      go (crossed_at pair) e = let z : ◌≡◌ {A = ℕ} 0 1 = cc e in omega arith

  -- beside the rings that the counts cut from the numbers
  module _ (counts : List ℕ) (numbers : List ℤ) (short : length counts ≤ 16) where
    pub judged_beside : beside_flat counts numbers (flat r) ≡ inner_judged (field_or_none (field_read counts numbers)) r
    unfolding beside_flat
    judged_beside = go (field_read counts numbers) refl
      where
        go : (a : Answer Field) → field_read counts numbers ≡ a → beside_by a counts numbers (flat r) ≡ inner_judged (field_or_none a) r
        go (answered f) e = joined_by_flat r good few counts numbers f e (let s = (read_size counts numbers f e).0 in omega arith)
        go (refused n) e = apart_by_flat
        go (crossed_at pair) e = apart_by_flat

    -- a ring that is judged by its area comes to a field
    pub record Joined (f : Field) : Type 0 where
      pub read : field_read counts numbers ≡ answered f
      pub checked : inner_checks (length f.inner_rings) (flat r) ≡ answered r

    pub judged_joins : (k : ℤ) → answered k ≡ inner_judged (field_or_none (field_read counts numbers)) r → Joined (field_or_none (field_read counts numbers))
    unfolding checks_by
    judged_joins k e = go (field_read counts numbers) refl e
      where
        passes : (f : Field) (a b : Bool) → answered k ≡ ((corner_count if a) >> ((span_too_large if b) >> (placed f r >> answered (area2 r)))) → checks_by r good a b ≡ answered r
        passes f true b e = absurd (clash e)
        passes f false true e = absurd (clash e)
        passes f false false e = refl

        go : (a : Answer Field) → field_read counts numbers ≡ a → answered k ≡ inner_judged (field_or_none a) r → Joined (field_or_none a)
        go (answered f) x e = record {
          read = x;
          checked = inner_flat r good few (length f.inner_rings) (let s = (read_size counts numbers f x).0 in omega arith) ∙ passes f (count_bad r) (span_bad r) (e ∙ judged_alike r good few f);
        }
        go (refused n) x e = absurd (never_apart k e)
        go (crossed_at pair) x e = absurd (never_apart k e)

-- ---- the code's cases
module _ (counts : List ℕ) (numbers ring : List ℤ) where
  pub beside_apart : (r : Refusal) → refusal_paper r ≡ field_checked counts numbers → apart_flat ring ≡ beside_flat counts numbers ring
  unfolding beside_flat
  beside_apart r h = go (field_read counts numbers) h
    where
      go : (a : Answer Field) → refusal_paper r ≡ (a >> answered passed) → apart_flat ring ≡ beside_by a counts numbers ring
      go (answered f) h = absurd (not_answered r passed h)
      go (refused n) h = refl
      go (crossed_at pair) h = refl

  pub beside_joined : answered passed ≡ field_checked counts numbers → joined_flat counts numbers ring ≡ beside_flat counts numbers ring
  unfolding beside_flat
  beside_joined h = go (field_read counts numbers) h
    where
      go : (a : Answer Field) → answered passed ≡ (a >> answered passed) → joined_flat counts numbers ring ≡ beside_by a counts numbers ring
      go (answered f) h = refl
      go (refused n) h = absurd (clash h)
      go (crossed_at pair) h = absurd (let z : ◌≡◌ {A = ℕ} 0 1 = cc h in omega arith)

module _ (ring : List ℤ) where
  pub clean_apart : {looked : ℕ} → answered looked ≡ crossing_answer ring → refused badly_placed ≡ apart_flat ring
  unfolding apart_flat
  clean_apart e = ap (λ (x : Answer ℕ). in_ring 1 x >> refused badly_placed) e

  pub refused_apart : (r : Refusal) {s : Refusal} → refusal_paper r ≡ crossing_answer ring → s ≡ ring_refusal 1 r → refusal_paper s ≡ apart_flat ring
  unfolding apart_flat
  refused_apart r e f = rw f (refused_then (ring_refusal 1 r) (refused badly_placed) (ring_refusal_is 1 r ∙ ap (in_ring 1) e))

-- ---- the corners of the field and of the ring, laid out one after the other
module _ (cs : List code.Corner) (counts : List ℕ) (rings start n : ℕ) (numbers : List ℤ) (long : length cs ≡ 3072) (held : length counts ≡ 17) (few_rings : rings ≤ 16) (room : start ≤ 2944) (few : n ≤ 128)
    (laid : take (2 * (start + n)) numbers ≡ flat (ring_of (start + n) cs)) where
  pub judged_laid : beside_flat (take rings counts) (take (2 * start) (take (2 * (start + n)) numbers)) (drop (2 * start) (take (2 * (start + n)) numbers))
      ≡ inner_judged (field_or_none (field_read (take rings counts) (flat (ring_of start cs)))) (ring_from start n cs)
  judged_laid =
      let d = length-drop start cs in
      let l = length-take-le rings counts (omega arith) in
      let r = ring_length (drop start cs) n (omega arith) in
      let s = ring_length cs start (omega arith) in
      ap (λ (w : List ℤ). beside_flat (take rings counts) (take (2 * start) w) (drop (2 * start) w)) laid
      ∙ ap (λ (a : List ℤ). beside_flat (take rings counts) a (drop (2 * start) (flat (ring_of (start + n) cs)))) (first_part start n cs s)
      ∙ ap (beside_flat (take rings counts) (flat (ring_of start cs))) (second_part start n cs s)
      ∙ judged_beside (ring_from start n cs) (ring_within n (drop start cs)) (omega arith) (take rings counts) (flat (ring_of start cs)) (omega arith)
