-- Refusal 9 of a field: the ring is one of seventeen, its edges have numbers below 1,024, and there are 523,776 pairs at most. So an i64 holds each. Assumes nothing.
use Rattle.std.specs.Prelude.{◌≡◌, refl, Bool, true, false, List, [], ◌∷◌, ℕ, suc, ◌<◌, ◌≤◌, ℤ, pos, length}
use Rattle.std.proofs.Common.{sym, ◌∙◌, ap, subst, ⊎_elim, arith, to_z}
use Rattle.std.proofs.Math.Option.{Option, none, some}
use Rattle.std.proofs.Math.Decide.{dec_lt}
use Rattle.std.proofs.Math.Facts.{to_z_pos}
use Rattle.std.specs.Int.{w64}
use Rattle.rules.specs.Refusals.{Answer, answered, refused, CrossedPair, crossed_at, passed, ◌>>=◌, ◌>>◌, ◌if◌, in_ring, badly_placed, corner_count}
use Rattle.rules.specs.Rings.{Corner, EdgePair}
use Rattle.rules.specs.Crossing.{crossed}
use Rattle.rules.specs.RingAnswers.{looked_through, not_crossed}
use Rattle.rules.specs.Fields.{Field, field_nozzle}
use Rattle.rules.specs.Placing.{misplaced}
use Rattle.rules.specs.FieldAnswers.{alone, with_ring, inner_checks, placed, outer_accepted, inner_accepted, rings_accepted, uneven, cut, field_accepted, accept_answer, field_nozzle_answer}
use Rattle.rules.proofs.Laws.Looked.{few, place_most}
use Rattle.rules.proofs.Laws.RingChecks.{nine}
use Rattle.ring_corners.specs.Corners.{pairs}
use Rattle.ring_checks.proofs.Laws.Accept.{judgement}
use Rattle.fields.specs.Laws.Inner.{seventeenth}
use Rattle.fields.specs.Laws.Placed.{inner_judged}

pub small_is : {n : ℕ} → n < 1_000_000 → to_z w64 n ≡ pos n
small_is h = to_z_pos w64 (omega arith)

pub record Small (pair : CrossedPair) : Type 0 where
  pub ring : pair.ring < 1_000_000
  pub low : pair.low < 1_000_000
  pub high : pair.high < 1_000_000
  pub looked_at : pair.looked_at < 1_000_000

clash : {A : Type 0} {a : A} {pair : CrossedPair} → ◌≡◌ {A = Answer A} (answered a) (crossed_at pair) → ⊥
clash e = let z : ◌≡◌ {A = ℕ} 0 1 = cc e in omega arith

clash_refused : {A : Type 0} {n : ℕ} {pair : CrossedPair} → ◌≡◌ {A = Answer A} (refused n) (crossed_at pair) → ⊥
clash_refused e = let z : ◌≡◌ {A = ℕ} 0 1 = cc e in omega arith

-- ---- of one ring
ring_small : (r : List Corner) (k : ℕ) → length r ≤ 1024 → k ≤ 16 → (pair : CrossedPair) → in_ring k (not_crossed r) ≡ crossed_at pair → Small pair
ring_small r k most h pair e = go (not_crossed r) refl e
  where
    go : (a : Answer ℕ) → not_crossed r ≡ a → in_ring k a ≡ crossed_at pair → Small pair
    go (answered n) x e = absurd (clash e)
    go (refused n) x e = absurd (clash_refused e)
    go (crossed_at t) x e =
        let f = nine r t x in
        let order = f.first.order in
        let inside = f.first.inside in
        let count = f.counted in
        let place = place_most (length r) t.low t.high order inside in
        let all = few (length r) most in
        let p : ◌≡◌ {A = CrossedPair} (record { ring = k; low = t.low; high = t.high; looked_at = t.looked_at }) pair = cc e in
        subst Small p (record { ring = omega arith; low = omega arith; high = omega arith; looked_at = omega arith })

-- a ring by itself is number 0
alone_ring : (r : List Corner) → not_crossed r ≡ in_ring 0 (not_crossed r)
unfolding not_crossed
alone_ring r = go (crossed r)
  where
    go : (t : Option EdgePair) → looked_through (length r) t ≡ in_ring 0 (looked_through (length r) t)
    go none = refl
    go (some t) = refl

-- ---- of the inner rings that are left
placed_small : (f : Field) (r : List Corner) → length r ≤ 1024 → length f.inner_rings < 16 → (pair : CrossedPair) → placed f r ≡ crossed_at pair → Small pair
unfolding placed
placed_small f r most h pair e = ring_small r (suc (length f.inner_rings)) most (omega arith) pair (go (in_ring (suc (length f.inner_rings)) (not_crossed r)) (misplaced f r) e)
  where
    go : (a : Answer ℕ) (b : Bool) → (a >> (badly_placed if b >> answered (with_ring f r))) ≡ crossed_at pair → a ≡ crossed_at pair
    go (answered n) true e = absurd (clash_refused e)
    go (answered n) false e = absurd (clash e)
    go (refused n) b e = absurd (clash_refused e)
    go (crossed_at t) b e = cc e

-- one ring, and the rest
ring_and_rest : (f : Field) (numbers : List ℤ) (rest : List (List ℤ)) (pair : CrossedPair) → ((g : Field) → inner_accepted g rest ≡ crossed_at pair → Small pair)
    → (inner_checks (length f.inner_rings) numbers >>= λ r. placed f r >>= λ g. inner_accepted g rest) ≡ crossed_at pair → Small pair
ring_and_rest f numbers rest pair k e = ⊎_elim
    (λ j. go (pairs numbers) j.1.at_most (room j.0) (placed f (pairs numbers)) refl (sym (ap (λ (a : Answer (List Corner)). a >>= λ r. placed f r >>= λ g. inner_accepted g rest) j.0) ∙ e))
    (λ j. absurd (clash_refused (sym (ap (λ (a : Answer (List Corner)). a >>= λ r. placed f r >>= λ g. inner_accepted g rest) j.1) ∙ e)))
    (inner_judged (length f.inner_rings) numbers)
  where
    room : {r : List Corner} → inner_checks (length f.inner_rings) numbers ≡ answered r → length f.inner_rings < 16
    room x = elim (dec_lt (length f.inner_rings) 16) [ yes h ↦ h | no h ↦ absurd (let z : ◌≡◌ {A = ℕ} 0 1 = cc (x, seventeenth (length f.inner_rings) numbers (omega arith)) in omega arith) ]

    go : (r : List Corner) → length r ≤ 1024 → length f.inner_rings < 16 → (a : Answer Field) → placed f r ≡ a → (a >>= λ g. inner_accepted g rest) ≡ crossed_at pair → Small pair
    go r most h (answered g) x e = k g e
    go r most h (refused n) x e = absurd (clash_refused e)
    go r most h (crossed_at t) x e = let p : t ≡ pair = cc e in subst Small p (placed_small f r most h t x)

inner_small : (f : Field) (rest : List (List ℤ)) (pair : CrossedPair) → inner_accepted f rest ≡ crossed_at pair → Small pair
unfolding inner_accepted
inner_small f [] pair e = absurd (clash e)
inner_small f (numbers ∷ rest) pair e = ring_and_rest f numbers rest pair (λ g. inner_small g rest pair) e

-- ---- of the field
no_ring : rings_accepted [] ≡ refused corner_count
unfolding rings_accepted
no_ring = refl

outer_small : (numbers : List ℤ) (rest : List (List ℤ)) (pair : CrossedPair) → rings_accepted (numbers ∷ rest) ≡ crossed_at pair → Small pair
unfolding rings_accepted outer_accepted
outer_small numbers rest pair e = ⊎_elim
    (λ j. go (pairs numbers) j.1.at_most (not_crossed (pairs numbers)) refl (sym (ap then j.0) ∙ e))
    (λ j. absurd (clash_refused (sym (ap then j.1) ∙ e)))
    (judgement numbers)
  where
    then : Answer (List Corner) → Answer Field
    then a = (a >>= λ r. not_crossed r >> answered (alone r)) >>= λ f. inner_accepted f rest

    go : (r : List Corner) → length r ≤ 1024 → (a : Answer ℕ) → not_crossed r ≡ a → ((a >> answered (alone r)) >>= λ f. inner_accepted f rest) ≡ crossed_at pair → Small pair
    go r most (answered n) x e = inner_small (alone r) rest pair e
    go r most (refused n) x e = absurd (clash_refused e)
    go r most (crossed_at t) x e = ring_small r 0 most (omega arith) pair (sym (alone_ring r) ∙ x ∙ cc e)

field_small : (counts : List ℕ) (numbers : List ℤ) (pair : CrossedPair) → field_accepted counts numbers ≡ crossed_at pair → Small pair
unfolding field_accepted
field_small counts numbers pair = go (uneven counts numbers) (cut counts numbers)
  where
    go : (b : Bool) (rings : List (List ℤ)) → (corner_count if b >> rings_accepted rings) ≡ crossed_at pair → Small pair
    go true rings e = absurd (clash_refused e)
    go false [] e = absurd (clash_refused (sym no_ring ∙ e))
    go false (first ∷ rest) e = outer_small first rest pair e

module _ (counts : List ℕ) (numbers : List ℤ) (pair : CrossedPair) where
  pub accept_small : accept_answer counts numbers ≡ crossed_at pair → Small pair
  unfolding accept_answer
  accept_small e = field_small counts numbers pair (go (field_accepted counts numbers) e)
    where
      go : (a : Answer Field) → (a >> answered passed) ≡ crossed_at pair → a ≡ crossed_at pair
      go (answered f) e = absurd (clash e)
      go (refused n) e = absurd (clash_refused e)
      go (crossed_at t) e = cc e

  pub nozzle_small : (p : Corner) → field_nozzle_answer counts numbers p ≡ crossed_at pair → Small pair
  unfolding field_nozzle_answer
  nozzle_small p e = field_small counts numbers pair (go (field_accepted counts numbers) e)
    where
      go : (a : Answer Field) → (a >>= λ f. answered (field_nozzle f p)) ≡ crossed_at pair → a ≡ crossed_at pair
      go (answered f) e = absurd (clash e)
      go (refused n) e = absurd (clash_refused e)
      go (crossed_at t) e = cc e
