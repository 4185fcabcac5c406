-- The gathered corners laid out flat: the loop that does it, and the rules' checks of the flat list. Assumes nothing.
use Rattle.std.proofs.lemmas.List.{map-append}
use mathlib.Core.Path.{◌≡◌, refl, sym, ap, ◌∙◌}
use mathlib.Core.Bool.{Bool, true, false}
use mathlib.Core.List.{List, [], ◌∷◌, ◌++◌, map, append_assoc}
use Prim.Native.Nat.{ℕ, zero, suc, ◌+◌, ◌-◌, ◌*◌, ◌^◌, ◌≤◌, ◌<◌}
use native.Mathlib.Numerals.{add-one}
use native.Mathlib.Omega.{arith}
use borrow.Author.Tests.{le-ltb, ltb-false}
use lib.IntN.{ℤ, pos, negsuc, neg_ℤ}
use lib.ListN.{length, take, drop, get_or, set, length-set, length-drop}
use lib.Seq.{take-suc, take-suc-set, take_all, take-nil, take_at, drop_at}
use lib.Signed.{lt_z, mag}
use Rattle.std.specs.Int.{int_min, int_max}
use mir.Syntax.{w64}
use mir.Val.{to_z, of_z, SFits}
use mir.Facts.{to_z-of_z}
use Rattle.rules.specs.Rings.{Corner, area2}
use Rattle.rules.specs.Points.{above}
use Rattle.rules.specs.Refusals.{Answer, answered, ◌>>=◌, ◌>>◌, ◌if◌, corner_count, span_too_large}
use Rattle.rules.specs.RingAnswers.{corners, count_bad, number_bad, corner_bad, any_bad, span_bad, not_crossed, ring_checks, area_answer, crossing_answer}
use Rattle.terms.specs.declared.corners.Corner as code
use Rattle.job_state.specs.Gathered.{chosen, within, corner_of, ring_of, flat, ring_from, judged, judged_flat}

-- ---- a number within the limits
-- as the code limits it
clamped : (z : ℤ) → int_max (negsuc 9_999_999_999) (int_min z (pos (10 ^ 10))) ≡ within z
unfolding within
clamped z = go (lt_z (pos (10 ^ 10)) z) refl (lt_z z (negsuc 9_999_999_999)) refl
  where
    go : (s : Bool) → lt_z (pos (10 ^ 10)) z ≡ s → (t : Bool) → lt_z z (negsuc 9_999_999_999) ≡ t
        → int_max (negsuc 9_999_999_999) (int_min z (pos (10 ^ 10))) ≡ chosen s (pos (10 ^ 10)) (chosen t (negsuc 9_999_999_999) z)
    go true e t f = rw e refl
    go false e true f = rw e (rw f refl)
    go false e false f = rw e (rw f refl)

pub clamped_back : {z y : ℤ} → mag y < 2 ^ 63 → SFits w64 z → y ≡ int_max (negsuc 9_999_999_999) (int_min (to_z w64 (of_z w64 z)) (pos (10 ^ 10))) → to_z w64 (of_z w64 y) ≡ within z
clamped_back {z} h f e = to_z-of_z {w = w64} (record { sfits = h }) ∙ e ∙ clamped (to_z w64 (of_z w64 z)) ∙ ap within (to_z-of_z f)

-- ---- the loop
pub flat_append : (a b : List Corner) → flat (a ++ b) ≡ flat a ++ flat b
unfolding flat
flat_append [] b = refl
flat_append (c ∷ a) b = ap (λ (l : List ℤ). c.x ∷ c.y ∷ l) (flat_append a b)

pub ring_more : (cs : List code.Corner) (i : ℕ) (d : code.Corner) → i < length cs → ring_of (i + 1) cs ≡ ring_of i cs ++ (corner_of (get_or cs i d) ∷ [])
unfolding ring_of
ring_more cs i d h =
    ap (λ (k : ℕ). map corner_of (take k cs)) (add-one i) ∙ ap (map corner_of) (take-suc cs i d h) ∙ map-append corner_of (take i cs) (get_or cs i d ∷ [])

pub record Flattening (cs : List code.Corner) (numbers : List ℤ) (i : ℕ) : Type 0 where
  pub long : length numbers ≡ 6144
  pub has : take (2 * i) numbers ≡ flat (ring_of i cs)

pub starts : (cs : List code.Corner) (numbers : List ℤ) → length numbers ≡ 6144 → Flattening cs numbers 0
unfolding flat ring_of
starts cs numbers e = record { long = e; has = refl }

two_more : (l : List ℤ) (n : ℕ) (a b : ℤ) → n + 1 < length l → take (suc (suc n)) (set (set l n a) (n + 1) b) ≡ take n l ++ (a ∷ b ∷ [])
two_more l n a b h =
    ap (λ (k : ℕ). take (suc (suc n)) (set (set l n a) k b)) (add-one n)
    ∙ take-suc-set (set l n a) (suc n) b (rw (length-set l n a) (omega arith))
    ∙ ap (λ (t : List ℤ). t ++ (b ∷ [])) (take-suc-set l n a (omega arith))
    ∙ append_assoc (take n l) (a ∷ []) (b ∷ [])

pub turned : {cs : List code.Corner} {numbers : List ℤ} {i : ℕ} (d : code.Corner) (x y : ℤ) → Flattening cs numbers i → i < 3072 → length cs ≡ 3072
    → x ≡ within (get_or cs i d).x → y ≡ within (get_or cs i d).y → Flattening cs (set (set numbers (2 * i) x) (2 * i + 1) y) (i + 1)
unfolding flat
turned {cs} {numbers} {i} d x y g h e ex ey = record {
  long = length-set (set numbers (2 * i) x) (2 * i + 1) y ∙ length-set numbers (2 * i) x ∙ g.long;
  has =
      ap (λ (k : ℕ). take k (set (set numbers (2 * i) x) (2 * i + 1) y)) (twice i)
      ∙ two_more numbers (2 * i) x y (let l = g.long in omega arith)
      ∙ ap (λ (l : List ℤ). l ++ (x ∷ y ∷ [])) g.has
      ∙ ap (λ (a : ℤ). flat (ring_of i cs) ++ (a ∷ y ∷ [])) ex
      ∙ ap (λ (b : ℤ). flat (ring_of i cs) ++ (within (get_or cs i d).x ∷ b ∷ [])) ey
      ∙ sym (ap flat (ring_more cs i d (omega arith)) ∙ flat_append (ring_of i cs) (corner_of (get_or cs i d) ∷ []));
}
  where
    twice : (i : ℕ) → 2 * (i + 1) ≡ suc (suc (2 * i))
    twice i = omega arith

-- a callee's signed result, read back from its bits as its argument was
pub limited_back : {z : ℤ} (y : ℤ) → mag z < 2 ^ 63 → mag y < 2 ^ 63 → z ≡ within (to_z w64 (of_z w64 y)) → to_z w64 (of_z w64 z) ≡ within y
limited_back y h g e = to_z-of_z {w = w64} (record { sfits = h }) ∙ e ∙ ap within (to_z-of_z {w = w64} (record { sfits = g }))

-- ---- the rules' checks of the flat list, of a ring whose numbers are within their limits
pub corners_flat : (r : List Corner) → corners (flat r) ≡ answered r
unfolding corners flat
corners_flat [] = refl
corners_flat (c ∷ r) = rw (corners_flat r) refl

no_bad_number : (z : ℤ) → number_bad (within z) ≡ false
unfolding number_bad above within
no_bad_number z = go (lt_z (pos (10 ^ 10)) z) refl (lt_z z (neg_ℤ (pos (10 ^ 10)))) refl
  where
    go : (s : Bool) → lt_z (pos (10 ^ 10)) z ≡ s → (t : Bool) → lt_z z (neg_ℤ (pos (10 ^ 10))) ≡ t
        → number_bad (chosen s (pos (10 ^ 10)) (chosen t (neg_ℤ (pos (10 ^ 10))) z)) ≡ false
    go true e t f = refl
    go false e true f = refl
    go false e false f = still z e f
      where
        still : (z : ℤ) → lt_z (pos (10 ^ 10)) z ≡ false → lt_z z (neg_ℤ (pos (10 ^ 10))) ≡ false → number_bad z ≡ false
        still (pos n) e f = e
        still (negsuc n) e f = let h = ltb-false 9_999_999_999 n f in le-ltb (10 ^ 10) (suc n) (omega arith)

no_bad_corner : (c : code.Corner) → corner_bad (corner_of c) ≡ false
unfolding corner_bad
no_bad_corner c = rw (no_bad_number c.x, no_bad_number c.y) refl

none_bad : (cs : List code.Corner) → any_bad (map corner_of cs) ≡ false
unfolding any_bad
none_bad [] = refl
none_bad (c ∷ cs) = rw (no_bad_corner c, none_bad cs) refl

pub ring_within : (n : ℕ) (cs : List code.Corner) → any_bad (ring_of n cs) ≡ false
unfolding ring_of
ring_within n cs = none_bad (take n cs)

module _ (r : List Corner) (good : any_bad r ≡ false) where
  unfoldable pub checks_by : Bool → Bool → Answer (List Corner)
  checks_by a b = do
    corner_count if a
    span_too_large if b
    answered r

  pub checks_flat : ring_checks (flat r) ≡ checks_by (count_bad r) (span_bad r)
  unfolding ring_checks checks_by
  checks_flat = rw (corners_flat r) (rw good refl)

  pub judged_by_flat : judged_flat (flat r) ≡ judged r
  unfolding judged_flat crossing_answer area_answer judged checks_by
  judged_by_flat = rw checks_flat (go (count_bad r) (span_bad r))
    where
      go : (a b : Bool)
          → ((checks_by a b >>= not_crossed) >> (checks_by a b >>= λ s. answered (area2 s))) ≡ ((corner_count if a) >> ((span_too_large if b) >> (not_crossed r >> answered (area2 r))))
      go true b = refl
      go false true = refl
      go false false = refl

  -- a ring that is judged by its area passed the checks
  pub judged_passes : (k : ℤ) → answered k ≡ judged r → ring_checks (flat r) ≡ answered r
  unfolding judged checks_by
  judged_passes k e = rw checks_flat (go (count_bad r) (span_bad r) e)
    where
      go : (a b : Bool) → answered k ≡ ((corner_count if a) >> ((span_too_large if b) >> (not_crossed r >> answered (area2 r)))) → checks_by a b ≡ answered r
      go true b e = absurd (let z : ◌≡◌ {A = ℕ} 0 1 = cc e in omega arith)
      go false true e = absurd (let z : ◌≡◌ {A = ℕ} 0 1 = cc e in omega arith)
      go false false e = refl

-- ---- parts of the array, one after the other
pub rest : (n : ℕ) (l : List ℤ) → n ≤ length l → take (length l - n) (drop n l) ≡ drop n l
rest n l h = let d = length-drop n l in take_all (length l - n) (drop n l) (omega arith)

take_plus : {A : Type 0} (m n : ℕ) (l : List A) → take (m + n) l ≡ take m l ++ take n (drop m l)
take_plus zero n l = ap (λ (k : ℕ). take k l) (same n)
  where
    same : (n : ℕ) → 0 + n ≡ n
    same n = omega arith
take_plus (suc m) n [] = take-nil (suc m + n) ∙ sym (take-nil n)
take_plus (suc m) n (x ∷ l) = ap (λ (k : ℕ). take k (x ∷ l)) (next m n) ∙ ap (λ t. x ∷ t) (take_plus m n l)
  where
    next : (m n : ℕ) → suc m + n ≡ suc (m + n)
    next m n = omega arith

pub ring_split : (start n : ℕ) (cs : List code.Corner) → ring_of (start + n) cs ≡ ring_of start cs ++ ring_from start n cs
unfolding ring_of
ring_split start n cs = ap (map corner_of) (take_plus start n cs) ∙ map-append corner_of (take start cs) (take n (drop start cs))

pub flat_length : (r : List Corner) → length (flat r) ≡ 2 * length r
unfolding flat
flat_length [] = refl
flat_length (c ∷ r) = let e = flat_length r in omega arith

module _ (start n : ℕ) (cs : List code.Corner) (fits : length (ring_of start cs) ≡ start) where
  first_long : length (flat (ring_of start cs)) ≡ 2 * start
  first_long = flat_length (ring_of start cs) ∙ ap (λ (k : ℕ). 2 * k) fits

  both : flat (ring_of (start + n) cs) ≡ flat (ring_of start cs) ++ flat (ring_from start n cs)
  both = ap flat (ring_split start n cs) ∙ flat_append (ring_of start cs) (ring_from start n cs)

  pub first_part : take (2 * start) (flat (ring_of (start + n) cs)) ≡ flat (ring_of start cs)
  first_part = ap (take (2 * start)) both ∙ take_at (flat (ring_of start cs)) (flat (ring_from start n cs)) (2 * start) first_long

  pub second_part : drop (2 * start) (flat (ring_of (start + n) cs)) ≡ flat (ring_from start n cs)
  second_part = ap (drop (2 * start)) both ∙ drop_at (flat (ring_of start cs)) (flat (ring_from start n cs)) (2 * start) first_long
