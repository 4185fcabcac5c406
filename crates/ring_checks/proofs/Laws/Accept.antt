-- The checks 6, 7 and 8 as the code makes them, and what an accepted list has. Assumes nothing.
use Rattle.std.specs.Prelude.{◌≡◌, refl, Bool, true, false, cond, ◌⊎◌, ℕ, zero, suc, ◌+◌, ◌*◌, ◌%◌, ◌<◌, ◌≤◌, ℤ, pos, nat_abs, ◌-ℤ◌, length, get_or, ◌≤ℤ◌}
use Rattle.std.proofs.Common.{sym, ◌∙◌, arith}
use Rattle.std.proofs.Math.Path.{ap}
use Rattle.std.proofs.Math.Logic.{inl, inr, ⊎_elim}
use mathlib.Core.List.{List, [], ◌∷◌, map, Memᴰ}
use Rattle.std.proofs.Math.Decide.{dec_lt}
use Rattle.arith.specs.Laws.Diff.{Z·abs, lin}
use Rattle.rules.specs.Refusals.{Answer, answered, refused, Passed, passed, ◌>>=◌, ◌>>◌, ◌if◌}
use Rattle.rules.specs.Rings.{Corner, origin}
use Rattle.rules.specs.RingAnswers.{count_bad, any_bad, span_bad, span, ring_checks}
use Rattle.rules.proofs.Laws.Checks.{or_true, count_exact, ltb_true, span_exact, span_bad_exact}
use Rattle.ring_checks.specs.Refusal.{refusal_of}
use Rattle.ring_checks.specs.Reach.{corners_refusal}
use Rattle.ring_checks.specs.Checks.{checked, numbers_checked}
use Rattle.ring_corners.specs.Corners.{pairs, Accepted}
use Rattle.terms.specs.declared.refusals.Refusal.{Refusal}
use Rattle.ring_checks.proofs.Laws.Steps.{refused_passed}
use Rattle.terms.specs.Papers.{refusal_paper}
use Rattle.ring_corners.specs.Laws.Flat.{count_of, corners_even, corners_odd}

-- the checks of the corners
unfoldable judged : Bool → Bool → Bool → List Corner → Answer (List Corner)
judged c n s r = 6 if c >> (7 if n >> (8 if s >> answered r))

checks_even : (l : List ℤ) → length l ≡ 2 * length (pairs l) → ring_checks l ≡ judged (count_bad (pairs l)) (any_bad (pairs l)) (span_bad (pairs l)) (pairs l)
unfolding ring_checks judged
checks_even l e = rw (corners_even l e) refl

checks_odd : (l : List ℤ) → length l ≡ 2 * length (pairs l) + 1 → ring_checks l ≡ refused 6
unfolding ring_checks
checks_odd l e = rw (corners_odd l e) refl

judged_numbers : (n s : Bool) (r : List Corner) → (judged false n s r >> answered passed) ≡ 7 if n >> (8 if s)
unfolding judged
judged_numbers true s r = refl
judged_numbers false true r = refl
judged_numbers false false r = refl

count_met : (r : List Corner) → (length r < 3) ⊎ (1024 < length r) → count_bad r ≡ true
unfolding count_bad
count_met r h = (or_true _ _).1 (⊎_elim (λ k. inl ((ltb_true (length r) 3).1 k)) (λ k. inr ((ltb_true 1024 (length r)).1 k)) h)

-- ---- as the code asks
module _ (l : List ℤ) where
  pub odd_refused : length l % 2 ≡ 1 → checked l ≡ refused 6
  odd_refused h = let c = count_of l in ap (λ (a : Answer (List Corner)). a >> answered passed) (checks_odd l (omega arith))

  module _ (even : length l % 2 ≡ 1 → ⊥) where
    halves : length l ≡ 2 * length (pairs l)
    halves = let c = count_of l in omega (arith, even)

    by_tests : {c : Bool} → count_bad (pairs l) ≡ c → checked l ≡ (judged c (any_bad (pairs l)) (span_bad (pairs l)) (pairs l) >> answered passed)
    by_tests e = ap (λ (a : Answer (List Corner)). a >> answered passed) (checks_even l halves ∙ ap (λ (b : Bool). judged b (any_bad (pairs l)) (span_bad (pairs l)) (pairs l)) e)

    pub count_refused : (length l < 6) ⊎ (2048 < length l) → checked l ≡ refused 6
    unfolding judged
    count_refused h = by_tests (count_met (pairs l) (let e = halves in ⊎_elim (λ k. inl (omega arith)) (λ k. inr (omega arith)) h))

    pub counted : 6 ≤ length l → length l ≤ 2048 → count_bad (pairs l) ≡ false
    counted h k = let e = halves in (count_exact (pairs l)).1 (omega arith)

    pub numbers_decide : 6 ≤ length l → length l ≤ 2048 → checked l ≡ numbers_checked (pairs l)
    unfolding numbers_checked
    numbers_decide h k = by_tests (counted h k) ∙ judged_numbers (any_bad (pairs l)) (span_bad (pairs l)) (pairs l)

    pub some : 6 ≤ length l → 0 < length (pairs l)
    some h = let e = halves in omega arith

-- ---- what an accepted list has
at_index : (f : Corner → ℤ) (r : List Corner) (i : ℕ) → i < length r → Memᴰ (f (get_or r i origin)) (map f r)
at_index f [] i h = absurd (omega arith)
at_index f (c ∷ r) zero h = Memᴰ.head refl
at_index f (c ∷ r) (suc i) h = Memᴰ.tail (at_index f r i (omega arith))

size_of : (y z : ℤ) (n : ℕ) → (y -ℤ z) ≤ℤ pos n → (z -ℤ y) ≤ℤ pos n → nat_abs (y -ℤ z) ≤ n
size_of y z n = lin (y ∷ z ∷ []) λ u v e1 e2. simp (Z·abs, e1, e2) (omega arith)

along : (f : Corner → ℤ) (r : List Corner) → span (map f r) ≤ℤ pos 20_000_000 → (i j : ℕ) → i < length r → j < length r
    → nat_abs (f (get_or r i origin) -ℤ f (get_or r j origin)) ≤ 20_000_000
along f r s i j h k =
    let y = f (get_or r i origin) in
    let z = f (get_or r j origin) in
    let m = at_index f r i h in
    let n = at_index f r j k in
    let o = (span_exact (map f r) 20_000_000).0 s in
    size_of y z 20_000_000 (o y z m n) (o z y n m)

-- a list is accepted, with its corners, or refused
abbrev pub Judgement : List ℤ → Type 0
Judgement l = ((ring_checks l ≡ answered (pairs l)) × Accepted l) ⊎ ((n : ℕ) × (ring_checks l ≡ refused n) × (0 < n))

pub judgement : (l : List ℤ) → Judgement l
unfolding judged
judgement l = parity (count_of l)
  where
    passed : length l ≡ 2 * length (pairs l) → count_bad (pairs l) ≡ false → span_bad (pairs l) ≡ false → Accepted l
    passed e c s =
        let n = (count_exact (pairs l)).0 c in
        let o = (span_bad_exact (pairs l)).0 s in
        record {
          even = e;
          at_least = n.0;
          at_most = n.1;
          near = λ i j h k. record { x_near = along (λ (c : Corner). c.x) (pairs l) o.0 i j h k; y_near = along (λ (c : Corner). c.y) (pairs l) o.1 i j h k };
        }

    cases : length l ≡ 2 * length (pairs l) → (c n s : Bool) → count_bad (pairs l) ≡ c → any_bad (pairs l) ≡ n → span_bad (pairs l) ≡ s
        → ring_checks l ≡ judged c n s (pairs l) → Judgement l
    cases e true n s x y z h = inr (6, h, omega arith)
    cases e false true s x y z h = inr (7, h, omega arith)
    cases e false false true x y z h = inr (8, h, omega arith)
    cases e false false false x y z h = inl (h, passed e x z)

    parity : (2 * length (pairs l) ≤ length l) × (length l ≤ 2 * length (pairs l) + 1) → Judgement l
    parity c = ⊎_elim
        (λ e. cases e (count_bad (pairs l)) (any_bad (pairs l)) (span_bad (pairs l)) refl refl refl (checks_even l e))
        (λ e. inr (6, checks_odd l e, omega arith))
        (either_way (length (pairs l)) (length l) c.0 c.1)
      where
        either_way : (n m : ℕ) → 2 * n ≤ m → m ≤ 2 * n + 1 → (m ≡ 2 * n) ⊎ (m ≡ 2 * n + 1)
        either_way n m h k = elim (dec_lt (2 * n) m) [ yes g ↦ inr (omega arith) | no g ↦ inl (omega arith) ]

-- ---- by what `check` answers
module _ (l : List ℤ) where
  pub accepted : answered passed ≡ checked l → (ring_checks l ≡ answered (pairs l)) × Accepted l
  accepted e = ⊎_elim (λ h. h) (λ h. absurd (let f = e ∙ ap (λ (a : Answer (List Corner)). a >> answered passed) h.1 in clash h.0 f)) (judgement l)
    where
      clash : (n : ℕ) → ◌≡◌ {A = Answer Passed} (answered passed) (refused n) → ⊥
      clash n f = let w : ◌≡◌ {A = ℕ} 0 1 = cc f in omega arith

  -- a refusal is the answer of each call, whatever is asked of the corners
  pub refuses : {A : Type 0} (r : Refusal) (f : List Corner → Answer A) → refusal_paper r ≡ checked l → refusal_paper r ≡ ring_checks l >>= f
  refuses r f e = refused_passed (ring_checks l) r f e

-- ---- by the number of a refusal
judged_number : (n s : Bool) (r : List Corner) → refusal_of (judged false n s r) ≡ cond n 7 (cond s 8 0)
unfolding judged
judged_number true s r = refl
judged_number false true r = refl
judged_number false false r = refl

pub numbers_refuse : (l : List ℤ) → (length l % 2 ≡ 1 → ⊥) → 6 ≤ length l → length l ≤ 2048 → refusal_of (ring_checks l) ≡ corners_refusal (pairs l)
unfolding corners_refusal
numbers_refuse l even h k =
    ap refusal_of (checks_even l (halves l even) ∙ ap (λ (b : Bool). judged b (any_bad (pairs l)) (span_bad (pairs l)) (pairs l)) (counted l even h k))
    ∙ judged_number (any_bad (pairs l)) (span_bad (pairs l)) (pairs l)

pub none_refused : (l : List ℤ) → refusal_of (ring_checks l) ≡ 0 → (ring_checks l ≡ answered (pairs l)) × Accepted l
none_refused l e = ⊎_elim (λ h. h) (λ h. absurd (let f = sym (ap refusal_of h.1) ∙ e in let k = h.2 in omega arith)) (judgement l)

pub not_accepted : (l : List ℤ) → 0 < refusal_of (ring_checks l) → ring_checks l ≡ refused (refusal_of (ring_checks l))
not_accepted l k = ⊎_elim
    (λ h. absurd (let f = ap refusal_of h.0 in omega arith))
    (λ h. h.1 ∙ ap refused (sym (ap refusal_of h.1)))
    (judgement l)
