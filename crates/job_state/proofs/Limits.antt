-- A corner's numbers and the count of corners, as the code tests them. Assumes nothing.
use mathlib.Core.Path.{◌≡◌, refl, sym, ap, ◌∙◌}
use mathlib.Core.Bool.{Bool, true, false}
use mathlib.Core.List.{List, [], ◌∷◌, ◌++◌, map}
use Prim.Native.Nat.{ℕ, suc, ◌+◌, ◌*◌, ◌^◌, ◌≤◌, ◌<◌}
use native.Mathlib.Numerals.{add-one}
use native.Mathlib.Omega.{arith}
use borrow.Author.Tests.{lt-ltb, le-ltb, ltb-true, ltb-false, le-leb}
use lib.Dec.{ltb, leb}
use lib.IntN.{ℤ, pos, negsuc, neg_ℤ}
use lib.ListN.{length, take, drop, set, length-map, length-drop}
use lib.Seq.{take_all, length-take-le, take-suc-set, take-set-le, drop-set-add}
use lib.Signed.{lt_z}
use mir.Syntax.{w64}
use mir.Val.{to_z, of_z, SFits}
use mir.Facts.{to_z-of_z}
use Rattle.rules.specs.Points.{above}
use Rattle.rules.specs.RingAnswers.{number_bad}
use Rattle.terms.specs.declared.corners.Corner as code
use Rattle.job_state.specs.Gathered.{chosen, within, at, corner_of, ring_of, ring_from, at_most}
use Rattle.std.proofs.lemmas.List.{map-append}

-- ---- "a corner number outside ±10^10"
limit : (n : ℕ) → ltb 9_999_999_999 n ≡ ltb (10 ^ 10) (suc n)
limit n = go (ltb 9_999_999_999 n) refl
  where
    go : (t : Bool) → ltb 9_999_999_999 n ≡ t → t ≡ ltb (10 ^ 10) (suc n)
    go true e = let h = ltb-true 9_999_999_999 n e in sym (lt-ltb (10 ^ 10) (suc n) (omega arith))
    go false e = let h = ltb-false 9_999_999_999 n e in sym (le-ltb (10 ^ 10) (suc n) (omega arith))

module _ (z : ℤ) (f : SFits w64 z) where
  pub high : lt_z (pos (10 ^ 10)) (to_z w64 (of_z w64 z)) ≡ true → true ≡ number_bad z
  unfolding number_bad above
  high h = go z (ap (λ (y : ℤ). lt_z (pos (10 ^ 10)) y) (sym (to_z-of_z f)) ∙ h)
    where
      go : (z : ℤ) → lt_z (pos (10 ^ 10)) z ≡ true → true ≡ number_bad z
      go (pos n) h = sym h
      go (negsuc n) h = absurd (never h)
        where
          never : false ≡ true → ⊥
          never e = let z : ◌≡◌ {A = ℕ} 0 1 = cc in omega arith

  pub other : lt_z (pos (10 ^ 10)) (to_z w64 (of_z w64 z)) ≡ false → lt_z (to_z w64 (of_z w64 z)) (neg_ℤ (pos (10 ^ 10))) ≡ number_bad z
  unfolding number_bad above
  other h = ap (λ (y : ℤ). lt_z y (neg_ℤ (pos (10 ^ 10)))) (to_z-of_z f) ∙ go z (ap (λ (y : ℤ). lt_z (pos (10 ^ 10)) y) (sym (to_z-of_z f)) ∙ h)
    where
      go : (z : ℤ) → lt_z (pos (10 ^ 10)) z ≡ false → lt_z z (neg_ℤ (pos (10 ^ 10))) ≡ number_bad z
      go (pos n) h = sym h
      go (negsuc n) h = limit n

-- a number that check 7 lets pass is read as it is
pub kept : (z : ℤ) → number_bad z ≡ false → within z ≡ z
unfolding number_bad above within
kept (pos n) h = rw h refl
kept (negsuc n) h = rw (limit n ∙ h) refl

-- ---- a count
pub few : (most n : ℕ) → at_most most n ≤ most
few most n = go (ltb most n) refl
  where
    go : (t : Bool) → ltb most n ≡ t → chosen t most n ≤ most
    go true e = omega arith
    go false e = ltb-false most n e

pub count_kept : (most n : ℕ) → n ≤ most → at_most most n ≡ n
count_kept most n h = rw (le-ltb most n h) refl

pub no_room : (most n : ℕ) → leb most (at_most most n) ≡ leb most n
no_room most n = go (ltb most n) refl
  where
    go : (t : Bool) → ltb most n ≡ t → leb most (chosen t most n) ≡ leb most n
    go true e = let h = ltb-true most n e in le-leb most most (omega arith) ∙ sym (le-leb most n (omega arith))
    go false e = refl

pub below : (most n k : ℕ) → at_most most n ≤ k → k < most → n ≤ k
below most n k h g = go (ltb most n) refl h
  where
    go : (t : Bool) → ltb most n ≡ t → chosen t most n ≤ k → n ≤ k
    go true e h = absurd (omega arith)
    go false e h = h

-- the first of a list, as many as it has
pub same_take : {A : Type 0} (l : List A) (most n : ℕ) → length l ≡ most → take (at_most most n) l ≡ take n l
same_take l most n long = go (ltb most n) refl
  where
    go : (t : Bool) → ltb most n ≡ t → take (chosen t most n) l ≡ take n l
    go true e = let h = ltb-true most n e in take_all most l (omega arith) ∙ sym (take_all n l (omega arith))
    go false e = refl

pub take_length : {A : Type 0} (l : List A) (most n : ℕ) → length l ≡ most → length (take n l) ≡ at_most most n
take_length l most n long = ap length (sym (same_take l most n long)) ∙ length-take-le (at_most most n) l (let h = few most n in omega arith)

pub same_ring : (cs : List code.Corner) (most n : ℕ) → length cs ≡ most → ring_of (at_most most n) cs ≡ ring_of n cs
unfolding ring_of
same_ring cs most n long = ap (map corner_of) (same_take cs most n long)

pub ring_length : (cs : List code.Corner) (n : ℕ) → n ≤ length cs → length (ring_of n cs) ≡ n
unfolding ring_of
ring_length cs n h = length-map (take n cs) corner_of ∙ length-take-le n cs h

-- parts of the arrays from their starts on, as they are lent
pub counts_part : (l : List ℕ) (k rings : ℕ) → length l ≡ 17 → k ≡ at_most 17 rings → take k l ≡ take rings l
counts_part l k rings held e = ap (λ (n : ℕ). take n l) e ∙ same_take l 17 rings held

pub numbers_part : (l : List ℤ) (end total : ℕ) {r : List ℤ} → end ≡ 2 * at_most 3072 total → take (2 * at_most 3072 total) l ≡ r → take end l ≡ r
numbers_part l end total e h = ap (λ (n : ℕ). take n l) e ∙ h

-- ---- one corner more, stored behind the others
one_corner_more : (cs : List code.Corner) (n : ℕ) (c : code.Corner) → n < length cs → number_bad c.x ≡ false → number_bad c.y ≡ false
    → ring_of (n + 1) (set cs n c) ≡ ring_of n cs ++ (at c.x c.y ∷ [])
unfolding ring_of
one_corner_more cs n c h hx hy =
    ap (λ (k : ℕ). map corner_of (take k (set cs n c))) (add-one n) ∙ ap (map corner_of) (take-suc-set cs n c h) ∙ map-append corner_of (take n cs) (c ∷ [])
    ∙ ap (λ (X : ℤ). map corner_of (take n cs) ++ (at X (within c.y) ∷ [])) (kept c.x hx)
    ∙ ap (λ (Y : ℤ). map corner_of (take n cs) ++ (at c.x Y ∷ [])) (kept c.y hy)

module _ (cs : List code.Corner) (start n : ℕ) (c : code.Corner) where
  pub ring_more : start + n < length cs → number_bad c.x ≡ false → number_bad c.y ≡ false
      → ring_from start (n + 1) (set cs (start + n) c) ≡ ring_from start n cs ++ (at c.x c.y ∷ [])
  ring_more h hx hy =
      ap (ring_of (n + 1)) (drop-set-add start cs n c) ∙ one_corner_more (drop start cs) n c (let d = length-drop start cs in omega arith) hx hy

  -- the rings before it stay
  pub rings_stay : ring_of start (set cs (start + n) c) ≡ ring_of start cs
  unfolding ring_of
  rings_stay = ap (map corner_of) (take-set-le start cs (start + n) c (omega arith))

-- the length of an array of structs, from that of their values
pub unmapped : {A B : Type 0} (f : A → B) (l : List A) {n : ℕ} → length (map f l) ≡ n → length l ≡ n
unmapped f l e = sym (length-map l f) ∙ e
