-- The numbers of each ring, by the counts of the rings before it. Assumes nothing.
use Rattle.std.specs.Prelude.{◌≡◌, refl, List, [], ◌∷◌, true, not, ℕ, zero, suc, ◌+◌, ◌*◌, ◌-◌, ◌/◌, ◌<◌, ◌≤◌, eqb, ltb, ℤ, length, take, drop, get_or}
use Rattle.std.proofs.Common.{sym, ◌∙◌, ap, arith, drop-drop, eq-eqb, ne_eqb, lt-ltb, le-ltb}
use Rattle.std.proofs.Math.Decide.{dec_lt}
use Rattle.rules.specs.FieldAnswers.{summed, cut}

-- ---- the counts, one more
pub summed_more : (counts : List ℕ) (k : ℕ) → k < length counts → summed (take (suc k) counts) ≡ summed (take k counts) + get_or counts k 0
unfolding summed
summed_more [] k h = absurd (omega arith)
summed_more (n ∷ counts) zero h = omega arith
summed_more (n ∷ counts) (suc k) h = let e = summed_more counts k (omega arith) in omega arith

pub summed_most : (counts : List ℕ) (k : ℕ) → summed (take k counts) ≤ summed counts
unfolding summed
summed_most [] zero = omega arith
summed_most [] (suc k) = omega arith
summed_most (n ∷ counts) zero = omega arith
summed_most (n ∷ counts) (suc k) = let h = summed_most counts k in omega arith

pub summed_all : (counts : List ℕ) (k : ℕ) → length counts ≤ k → summed (take k counts) ≡ summed counts
unfolding summed
summed_all [] zero h = refl
summed_all [] (suc k) h = refl
summed_all (n ∷ counts) zero h = absurd (omega arith)
summed_all (n ∷ counts) (suc k) h = ap (λ (m : ℕ). n + m) (summed_all counts k (omega arith))

-- ---- the counts against the numbers, of which so many are left
-- a ring that has more
pub too_few : (counts : List ℕ) (k left numbers : ℕ) → left + 2 * summed (take k counts) ≡ numbers → k < length counts → left / 2 < get_or counts k 0 → true ≡ not (eqb (2 * summed counts) numbers)
too_few counts k left numbers e h g =
    let more = summed_more counts k h in
    let most = summed_most counts (suc k) in
    sym (ap not (ne_eqb (2 * summed counts) numbers (λ f. omega arith)))

-- after the last ring
pub left_over : (counts : List ℕ) (k left numbers : ℕ) → left + 2 * summed (take k counts) ≡ numbers → length counts ≤ k → ltb 0 left ≡ not (eqb (2 * summed counts) numbers)
left_over counts k left numbers e h =
    let all = summed_all counts k h in
    elim (dec_lt 0 left) [
      | yes g ↦ lt-ltb 0 left g ∙ sym (ap not (ne_eqb (2 * summed counts) numbers (λ f. omega arith)))
      | no g ↦ le-ltb 0 left (omega arith) ∙ sym (ap not (eq-eqb (2 * summed counts) numbers (omega arith)))
    ]

-- the first ring's numbers are all there
pub first_inside : (counts : List ℕ) (numbers : List ℤ) → 0 < length counts → 2 * summed counts ≡ length numbers → 2 * get_or counts 0 0 ≤ length numbers
unfolding summed
first_inside counts numbers h e = let m = summed_more counts 0 h in let t = summed_most counts 1 in omega arith

-- ---- a part from a start to an end
pub less_none : (n : ℕ) → n - 0 ≡ n
less_none n = omega arith

pub less_start : (a n : ℕ) → (a + n) - a ≡ n
less_start a n = omega arith

-- ---- where ring k's numbers start
pub cut_at : (counts : List ℕ) (numbers : List ℤ) (k : ℕ) → k < length counts
    → drop k (cut counts numbers) ≡ (take (2 * get_or counts k 0) (drop (2 * summed (take k counts)) numbers) ∷ drop (suc k) (cut counts numbers))
unfolding cut summed
cut_at [] numbers k h = absurd (omega arith)
cut_at (n ∷ counts) numbers zero h = refl
cut_at (n ∷ counts) numbers (suc k) h =
    cut_at counts (drop (2 * n) numbers) k (omega arith)
    ∙ ap (λ (l : List ℤ). take (2 * get_or counts k 0) l ∷ drop (suc k) (cut counts (drop (2 * n) numbers)))
    (drop-drop (2 * summed (take k counts)) (2 * n) numbers ∙ ap (λ (m : ℕ). drop m numbers) (sum n (summed (take k counts))))
  where
    sum : (a b : ℕ) → 2 * a + 2 * b ≡ 2 * (a + b)
    sum a b = omega arith

pub length_cut : (counts : List ℕ) (numbers : List ℤ) → length (cut counts numbers) ≡ length counts
unfolding cut
length_cut [] numbers = refl
length_cut (n ∷ counts) numbers = ap suc (length_cut counts (drop (2 * n) numbers))
