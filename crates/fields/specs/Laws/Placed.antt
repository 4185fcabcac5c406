-- A field's rings, one more at a time: the rings before it are a field, and what is left is asked of it. Assumes nothing.
use Rattle.std.specs.Prelude.{◌≡◌, refl, ◌⊎◌, List, [], ◌∷◌, ◌++◌, map, ℕ, zero, suc, ◌+◌, ◌*◌, ◌-◌, ◌<◌, ◌≤◌, ℤ, length, take, drop, get_or}
use Rattle.std.proofs.Common.{sym, ◌∙◌, ap, ap₂, inl, inr, ⊎_elim, arith, take-take}
use Rattle.std.proofs.Math.Decide.{dec_lt}
use Rattle.std.proofs.Math.Seq.{take-nil}
use Rattle.rules.specs.Refusals.{Answer, answered, refused, crossed_at, Passed, passed, ◌>>=◌, ◌>>◌}
use Rattle.rules.specs.Rings.{Corner}
use Rattle.rules.specs.Fields.{Field}
use Rattle.rules.specs.FieldAnswers.{with_ring, inner_checks, placed, summed, cut, inner_accepted}
use Rattle.rules.proofs.Laws.AcceptedFields.{placed_is}
use Rattle.ring_corners.specs.Corners.{pairs, Accepted}
use Rattle.ring_checks.proofs.Laws.Accept.{judgement}
use Rattle.fields.specs.Placed.{as_field, one_more, the_rest}
use Rattle.fields.specs.Laws.Inner.{seventeenth, too_long, not_long}

drop_take : (m n k : ℕ) (l : List ℤ) → k ≡ m + n → drop m (take k l) ≡ take n (drop m l)
drop_take zero n k l e = ap (λ (i : ℕ). take i l) (let f : k ≡ n = omega arith in f)
drop_take (suc m) n zero l e = absurd (omega arith)
drop_take (suc m) n (suc k) [] e = sym (take-nil n)
drop_take (suc m) n (suc k) (x ∷ l) e = drop_take m n k l (omega arith)

-- ---- the first rings of a field
-- by their own counts and numbers
pub cut_first : (counts : List ℕ) (numbers : List ℤ) (k : ℕ) → cut (take k counts) (take (2 * summed (take k counts)) numbers) ≡ take k (cut counts numbers)
unfolding cut summed
cut_first counts numbers zero = refl
cut_first [] numbers (suc k) = refl
cut_first (n ∷ counts) numbers (suc k) =
    ap₂ {C = List (List ℤ)} (λ l r. l ∷ r)
    (take-take (2 * n) (2 * (n + summed (take k counts))) numbers (omega arith))
    (ap (cut (take k counts)) (drop_of_take n (summed (take k counts))) ∙ cut_first counts (drop (2 * n) numbers) k)
  where
    drop_of_take : (a b : ℕ) → drop (2 * a) (take (2 * (a + b)) numbers) ≡ take (2 * b) (drop (2 * a) numbers)
    drop_of_take a b = drop_take (2 * a) (2 * b) (2 * (a + b)) numbers (omega arith)

pub more_field : (rings : List (List ℤ)) (k : ℕ) → 1 ≤ k → k < length rings → as_field (take (suc k) rings) ≡ with_ring (as_field (take k rings)) (pairs (get_or rings k []))
unfolding as_field
more_field [] k h g = absurd (omega arith)
more_field (o ∷ rest) zero h g = absurd (omega arith)
more_field (o ∷ rest) (suc k) h g = ap (λ (l : List (List Corner)). record { outer_ring = pairs o; inner_rings = l }) (go rest k (omega arith))
  where
    go : (rest : List (List ℤ)) (k : ℕ) → k < length rest → map pairs (take (suc k) rest) ≡ map pairs (take k rest) ++ (pairs (get_or rest k []) ∷ [])
    go [] k h = absurd (omega arith)
    go (r ∷ rest) zero h = refl
    go (r ∷ rest) (suc k) h = ap (λ (l : List (List Corner)). pairs r ∷ l) (go rest k (omega arith))

pub inner_rings_of : (rings : List (List ℤ)) → length (as_field rings).inner_rings ≡ length rings - 1
unfolding as_field
inner_rings_of [] = refl
inner_rings_of (o ∷ rest) = go rest ∙ less (length rest)
  where
    go : (rest : List (List ℤ)) → length (map pairs rest) ≡ length rest
    go [] = refl
    go (r ∷ rest) = ap suc (go rest)

    less : (n : ℕ) → n ≡ suc n - 1
    less n = omega arith

-- ---- one ring more
clash : {A : Type 0} {a : A} {n : ℕ} → ◌≡◌ {A = Answer A} (refused n) (answered a) → ⊥
clash e = let z : ◌≡◌ {A = ℕ} 0 1 = cc e in omega arith

together : {A B C : Type 0} (a : Answer A) (f : A → Answer B) (k : B → Answer C) → (a >>= λ x. f x >>= k) ≡ ((a >>= f) >>= k)
together (answered x) f k = refl
together (refused n) f k = refl
together (crossed_at pair) f k = refl

-- what is left, by what is said of the next ring
abbrev pub rest_of : List (List ℤ) → Answer Field → Answer Passed
rest_of rest a = (a >>= λ g. inner_accepted g rest) >> answered passed

pub rest_next : (rings : List (List ℤ)) (numbers : List ℤ) (rest : List (List ℤ)) → the_rest rings (numbers ∷ rest) ≡ rest_of rest (one_more rings numbers)
unfolding one_more the_rest inner_accepted
rest_next rings numbers rest =
    rw (inner_rings_of rings) (ap (λ (a : Answer Field). a >> answered passed) (together (inner_checks (length rings - 1) numbers) (placed (as_field rings)) (λ g. inner_accepted g rest)))

-- numbers that pass the checks of an inner ring
pub inner_judged : (before : ℕ) (numbers : List ℤ) → ((inner_checks before numbers ≡ answered (pairs numbers)) × Accepted numbers) ⊎ ((n : ℕ) × (inner_checks before numbers ≡ refused n) × (0 < n))
inner_judged before numbers =
    elim (dec_lt before 16) [
      | no g ↦ inr (16, seventeenth before numbers (omega arith), omega arith)
      | yes g ↦
          elim (dec_lt 256 (length numbers)) [
            | yes h ↦ inr (6, too_long before numbers g h, omega arith)
            | no h ↦ ⊎_elim (λ j. inl (not_long before numbers g (omega arith) ∙ j.0, j.1)) (λ j. inr (j.0, not_long before numbers g (omega arith) ∙ j.1, j.2)) (judgement numbers)
          ]
    ]

pub inner_accepts : (before : ℕ) (numbers : List ℤ) → answered passed ≡ (inner_checks before numbers >> answered passed) → (inner_checks before numbers ≡ answered (pairs numbers)) × Accepted numbers
inner_accepts before numbers e = ⊎_elim (λ j. j) (λ j. absurd (clash (sym (e ∙ ap (λ (a : Answer (List Corner)). a >> answered passed) j.1)))) (inner_judged before numbers)

ring_passed : (before : ℕ) (numbers : List ℤ) (r : List Corner) → inner_checks before numbers ≡ answered r → (r ≡ pairs numbers) × Accepted numbers
ring_passed before numbers r e = ⊎_elim (λ j. (cc (j.0, e), j.1)) (λ j. absurd (clash (sym j.1 ∙ e))) (inner_judged before numbers)

pub one_passed : (rings : List (List ℤ)) (numbers : List ℤ) → (one_more rings numbers >> answered passed) ≡ answered passed
    → (one_more rings numbers ≡ answered (with_ring (as_field rings) (pairs numbers))) × Accepted numbers
unfolding one_more
one_passed rings numbers e = go (inner_checks (length rings - 1) numbers) refl e
  where
    last : (r : List Corner) (a : Answer Field) → placed (as_field rings) r ≡ a → (a >> answered passed) ≡ answered passed → placed (as_field rings) r ≡ answered (with_ring (as_field rings) r)
    last r (answered g) e h = e ∙ ap answered (placed_is (as_field rings) r g e)
    last r (refused n) e h = absurd (clash h)
    last r (crossed_at pair) e h = absurd (let z : ◌≡◌ {A = ℕ} 0 1 = cc h in omega arith)

    go : (a : Answer (List Corner)) → inner_checks (length rings - 1) numbers ≡ a → ((a >>= placed (as_field rings)) >> answered passed) ≡ answered passed
        → ((a >>= placed (as_field rings)) ≡ answered (with_ring (as_field rings) (pairs numbers))) × Accepted numbers
    go (answered r) e h =
        let p = ring_passed (length rings - 1) numbers r e in
        (last r (placed (as_field rings) r) refl h ∙ ap (λ (s : List Corner). answered (with_ring (as_field rings) s)) p.0, p.1)
    go (refused n) e h = absurd (clash h)
    go (crossed_at pair) e h = absurd (let z : ◌≡◌ {A = ℕ} 0 1 = cc h in omega arith)
