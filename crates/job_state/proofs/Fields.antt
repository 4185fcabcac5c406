-- A field that is read: how many rings and corners it has, and one ring more behind the others. Assumes nothing.
use mathlib.Core.Path.{◌≡◌, refl, sym, ap, ap₂, ◌∙◌}
use mathlib.Core.Bool.{Bool, true, false, not}
use mathlib.Core.Logic.{⊎_elim}
use mathlib.Core.List.{List, [], ◌∷◌, ◌++◌}
use Prim.Native.Nat.{ℕ, suc, ◌+◌, ◌*◌, ◌≤◌}
use native.Mathlib.Omega.{arith}
use native.Mathlib.Decide.{dec_lt}
use borrow.Author.Tests.{eq-eqb, eqb-true}
use lib.Dec.{eqb}
use lib.IntN.{ℤ}
use lib.ListN.{length, take, drop, length-append, length-drop}
use lib.Seq.{take_all, length-take-le, take-append-le, drop-append-le}
use Rattle.rules.specs.Refusals.{Answer, answered, refused, crossed_at, ◌>>=◌, ◌>>◌, ◌if◌, corner_count}
use Rattle.rules.specs.Rings.{Corner}
use Rattle.rules.specs.Fields.{Field}
use Rattle.rules.specs.RingAnswers.{ring_checks}
use Rattle.rules.specs.FieldAnswers.{alone, with_ring, inner_checks, summed, cut, uneven, inner_read, rings_read, field_read}
use Rattle.ring_checks.proofs.Laws.Accept.{judgement}
use Rattle.fields.specs.Laws.Inner.{seventeenth, too_long}

clash : {A : Type 0} {a : A} {n : ℕ} → ◌≡◌ {A = Answer A} (refused n) (answered a) → ⊥
clash e = let z : ◌≡◌ {A = ℕ} 0 1 = cc e in omega arith

clash_crossed : {A : Type 0} {a : A} {pair : Rattle.rules.specs.Refusals.CrossedPair} → ◌≡◌ {A = Answer A} (crossed_at pair) (answered a) → ⊥
clash_crossed e = let z : ◌≡◌ {A = ℕ} 0 1 = cc e in omega arith

-- ---- the numbers of a ring that passes its checks
inner_short : (before : ℕ) (l : List ℤ) {r : List Corner} → inner_checks before l ≡ answered r → length l ≤ 256
inner_short before l e =
    elim (dec_lt before 16) [
      | no g ↦ absurd (clash (sym (seventeenth before l (omega arith)) ∙ e))
      | yes g ↦ elim (dec_lt 256 (length l)) [ yes h ↦ absurd (clash (sym (too_long before l g h) ∙ e)) | no h ↦ omega arith ]
    ]

outer_short : (l : List ℤ) {r : List Corner} → ring_checks l ≡ answered r → length l ≤ 2048
outer_short l e = ⊎_elim (λ j. let a = j.1.even in let b = j.1.at_most in omega arith) (λ j. absurd (clash (sym j.1 ∙ e))) (judgement l)

-- ---- the inner rings
inner_rings : (f : Field) (counts : List ℕ) (numbers : List ℤ) (g : Field) → inner_read f (cut counts numbers) ≡ answered g → length numbers ≡ 2 * summed counts
    → (length g.inner_rings ≡ length f.inner_rings + length counts) × (summed counts ≤ 128 * length counts)
unfolding inner_read cut summed
inner_rings f [] numbers g e h = (ap (λ (f : Field). length f.inner_rings) (same e) ∙ none (length f.inner_rings), omega arith)
  where
    same : answered f ≡ answered g → g ≡ f
    same e = cc e

    none : (n : ℕ) → n ≡ n + 0
    none n = omega arith
inner_rings f (n ∷ counts) numbers g e h =
    go (inner_checks (length f.inner_rings) (take (2 * n) numbers)) refl e (λ r. inner_rings (with_ring f r) counts (drop (2 * n) numbers) g)
  where
    go : (a : Answer (List Corner)) → inner_checks (length f.inner_rings) (take (2 * n) numbers) ≡ a
        → (a >>= λ r. inner_read (with_ring f r) (cut counts (drop (2 * n) numbers))) ≡ answered g
        → ((r : List Corner) → inner_read (with_ring f r) (cut counts (drop (2 * n) numbers)) ≡ answered g → length (drop (2 * n) numbers) ≡ 2 * summed counts
        → (length g.inner_rings ≡ length (with_ring f r).inner_rings + length counts) × (summed counts ≤ 128 * length counts))
        → (length g.inner_rings ≡ length f.inner_rings + suc (length counts)) × (n + summed counts ≤ 128 * suc (length counts))
    go (answered r) x e next =
        let s = inner_short (length f.inner_rings) (take (2 * n) numbers) x in
        let t = length-take-le (2 * n) numbers (omega arith) in
        let d = length-drop (2 * n) numbers in
        let i = next r e (omega arith) in
        let l = length-append f.inner_rings (r ∷ []) in
        let a = i.0 in
        let b = i.1 in
        (omega arith, omega arith)
    go (refused m) x e next = absurd (clash e)
    go (crossed_at pair) x e next = absurd (clash_crossed e)

-- ---- counts that fit
even : (counts : List ℕ) (numbers : List ℤ) {a : Answer Field} {f : Field} → (corner_count if uneven counts numbers >> a) ≡ answered f → (2 * summed counts ≡ length numbers) × (a ≡ answered f)
even counts numbers {a} {f} e = go (eqb (2 * summed counts) (length numbers)) refl e
  where
    go : (b : Bool) → eqb (2 * summed counts) (length numbers) ≡ b → (corner_count if not b >> a) ≡ answered f → (2 * summed counts ≡ length numbers) × (a ≡ answered f)
    go true x e = (eqb-true (2 * summed counts) (length numbers) x, e)
    go false x e = absurd (clash e)

module _ (counts : List ℕ) (numbers : List ℤ) (f : Field) (read : field_read counts numbers ≡ answered f) where
  pub read_even : 2 * summed counts ≡ length numbers
  unfolding field_read
  read_even = (even counts numbers read).0

  read_cut : rings_read (cut counts numbers) ≡ answered f
  unfolding field_read
  read_cut = (even counts numbers read).1

  pub read_size : (length counts ≡ suc (length f.inner_rings)) × (length numbers ≤ 2 * (1024 + 128 * length f.inner_rings))
  unfolding rings_read cut summed
  read_size = go counts read_even read_cut
    where
      by : (n : ℕ) (counts : List ℕ) (a : Answer (List Corner)) → ring_checks (take (2 * n) numbers) ≡ a → 2 * (n + summed counts) ≡ length numbers
          → (a >>= λ r. inner_read (alone r) (cut counts (drop (2 * n) numbers))) ≡ answered f
          → (suc (length counts) ≡ suc (length f.inner_rings)) × (length numbers ≤ 2 * (1024 + 128 * length f.inner_rings))
      by n counts (answered r) x h e =
          let s = outer_short (take (2 * n) numbers) x in
          let t = length-take-le (2 * n) numbers (omega arith) in
          let d = length-drop (2 * n) numbers in
          let i = inner_rings (alone r) counts (drop (2 * n) numbers) f e (omega arith) in
          let a = i.0 in
          let b = i.1 in
          (omega arith, omega arith)
      by n counts (refused m) x h e = absurd (clash e)
      by n counts (crossed_at pair) x h e = absurd (clash_crossed e)

      go : (counts : List ℕ) → 2 * summed counts ≡ length numbers → rings_read (cut counts numbers) ≡ answered f
          → (length counts ≡ suc (length f.inner_rings)) × (length numbers ≤ 2 * (1024 + 128 * length f.inner_rings))
      go [] h e = absurd (clash e)
      go (n ∷ counts) h e = by n counts (ring_checks (take (2 * n) numbers)) refl h e

-- ---- one ring more
summed_more : (counts : List ℕ) (n : ℕ) → summed (counts ++ (n ∷ [])) ≡ summed counts + n
unfolding summed
summed_more [] n = omega arith
summed_more (m ∷ counts) n = let e = summed_more counts n in omega arith

cut_more : (counts : List ℕ) (numbers ring : List ℤ) (n : ℕ) → 2 * summed counts ≡ length numbers → length ring ≡ 2 * n → cut (counts ++ (n ∷ [])) (numbers ++ ring) ≡ cut counts numbers ++ (ring ∷ [])
unfolding cut summed
cut_more [] [] ring n h e = ap (λ (l : List ℤ). l ∷ []) (take_all (2 * n) ring (omega arith))
cut_more [] (x ∷ numbers) ring n h e = absurd (omega arith)
cut_more (m ∷ counts) numbers ring n h e =
    ap₂ {C = List (List ℤ)} (λ a b. a ∷ b) (take-append-le (2 * m) numbers ring (omega arith))
    (ap (cut (counts ++ (n ∷ []))) (drop-append-le (2 * m) numbers ring (omega arith)) ∙ cut_more counts (drop (2 * m) numbers) ring n (let d = length-drop (2 * m) numbers in omega arith) e)

inner_more : (f : Field) (rest : List (List ℤ)) (ring : List ℤ) (g : Field) → inner_read f rest ≡ answered g → inner_read f (rest ++ (ring ∷ [])) ≡ inner_read g (ring ∷ [])
unfolding inner_read
inner_more f [] ring g e = ap (λ (h : Field). inner_read h (ring ∷ [])) (same e)
  where
    same : answered f ≡ answered g → f ≡ g
    same e = cc e
inner_more f (numbers ∷ rest) ring g e = go (inner_checks (length f.inner_rings) numbers) (λ r. inner_more (with_ring f r) rest ring g) e
  where
    go : (a : Answer (List Corner)) → ((r : List Corner) → inner_read (with_ring f r) rest ≡ answered g → inner_read (with_ring f r) (rest ++ (ring ∷ [])) ≡ inner_read g (ring ∷ []))
        → (a >>= λ r. inner_read (with_ring f r) rest) ≡ answered g → (a >>= λ r. inner_read (with_ring f r) (rest ++ (ring ∷ []))) ≡ inner_read g (ring ∷ [])
    go (answered r) next e = next r e
    go (refused n) next e = absurd (clash e)
    go (crossed_at pair) next e = absurd (clash_crossed e)

rings_more : (rings : List (List ℤ)) (ring : List ℤ) (g : Field) → rings_read rings ≡ answered g → rings_read (rings ++ (ring ∷ [])) ≡ inner_read g (ring ∷ [])
unfolding rings_read
rings_more [] ring g e = absurd (clash e)
rings_more (numbers ∷ rest) ring g e = go (ring_checks numbers) e
  where
    go : (a : Answer (List Corner)) → (a >>= λ r. inner_read (alone r) rest) ≡ answered g → (a >>= λ r. inner_read (alone r) (rest ++ (ring ∷ []))) ≡ inner_read g (ring ∷ [])
    go (answered r) e = inner_more (alone r) rest ring g e
    go (refused n) e = absurd (clash e)
    go (crossed_at pair) e = absurd (clash_crossed e)

fits : (counts : List ℕ) (numbers : List ℤ) → 2 * summed counts ≡ length numbers → field_read counts numbers ≡ rings_read (cut counts numbers)
unfolding field_read
fits counts numbers h = rw (eq-eqb (2 * summed counts) (length numbers) h) refl

pub read_more : (counts : List ℕ) (numbers : List ℤ) (f : Field) (n : ℕ) (ring : List ℤ) (r : List Corner) → field_read counts numbers ≡ answered f → length ring ≡ 2 * n
    → inner_checks (length f.inner_rings) ring ≡ answered r → field_read (counts ++ (n ∷ [])) (numbers ++ ring) ≡ answered (with_ring f r)
unfolding inner_read
read_more counts numbers f n ring r e h x =
    let s = summed_more counts n in
    let h' = read_even counts numbers f e in
    let l = length-append numbers ring in
    fits (counts ++ (n ∷ [])) (numbers ++ ring) (omega arith)
    ∙ ap rings_read (cut_more counts numbers ring n h' h) ∙ rings_more (cut counts numbers) ring f (read_cut counts numbers f e)
    ∙ ap (λ (a : Answer (List Corner)). a >>= λ r. answered (with_ring f r)) x

pub read_one : (n : ℕ) (ring : List ℤ) (r : List Corner) → length ring ≡ 2 * n → ring_checks ring ≡ answered r → field_read (n ∷ []) ring ≡ answered (alone r)
unfolding rings_read inner_read cut summed
read_one n ring r h x =
    fits (n ∷ []) ring (omega arith) ∙ ap (λ (l : List ℤ). rings_read (l ∷ [])) (take_all (2 * n) ring (omega arith)) ∙ ap (λ (a : Answer (List Corner)). a >>= λ r. answered (alone r)) x
