-- The loop that spells a number's digits from the last to the first: its invariant, its turns and its end. Assumes nothing.
use mathlib.Core.Path.{◌≡◌, refl, sym, ap, ◌∙◌}
use mathlib.Core.List.{List, [], ◌∷◌, ◌++◌, append_assoc}
use mathlib.Core.Bool.{Bool, true, false}
use Prim.Native.Nat.{ℕ, zero, suc, ◌+◌, ◌-◌, ◌/◌, ◌%◌, ◌^◌, ◌≤◌, ◌<◌}
use native.Mathlib.Nat.{pow-suc, div-lt_iff_lt-mul}
use native.Mathlib.Omega.{arith}
use borrow.Author.Tests.{ltb-true, ltb-false}
use lib.Dec.{ltb}
use lib.ListN.{length, set, drop, length-set}
use lib.Seq.{drop-cons, drop-set-lt, get_or-set_same, drop-length}
use Rattle.rules.specs.JobFile.{decimal}
use Rattle.rules.proofs.Laws.Job.{decimal_one, decimal_more}

-- the digits in front of those that stand already: none once nothing is left of the number
abbrev pub front : ℕ → List ℕ
front zero = []
front (suc n) = decimal (suc n)

one_more : (n : ℕ) → decimal n ≡ front (n / 10) ++ ((48 + n % 10) ∷ [])
one_more n = go (ltb n 10) refl
  where
    small : n < 10 → decimal n ≡ front (n / 10) ++ ((48 + n % 10) ∷ [])
    small h =
        let z : n / 10 ≡ 0 = omega arith in let m : n % 10 ≡ n = omega arith in
        decimal_one n h ∙ ap (λ (d : ℕ). (48 + d) ∷ []) (sym m) ∙ ap (λ (q : ℕ). front q ++ ((48 + n % 10) ∷ [])) (sym z)

    some : (q : ℕ) → 1 ≤ q → decimal q ≡ front q
    some zero h = absurd (omega arith)
    some (suc q) h = refl

    large : 10 ≤ n → decimal n ≡ front (n / 10) ++ ((48 + n % 10) ∷ [])
    large h = decimal_more n h ∙ ap (λ (l : List ℕ). l ++ ((48 + n % 10) ∷ [])) (some (n / 10) (omega arith))

    go : (t : Bool) → ltb n 10 ≡ t → decimal n ≡ front (n / 10) ++ ((48 + n % 10) ∷ [])
    go true e = small (ltb-true n 10 e)
    go false e = large (ltb-false n 10 e)

front_more : (n : ℕ) → 0 < n → front n ≡ front (n / 10) ++ ((48 + n % 10) ∷ [])
front_more zero h = absurd (omega arith)
front_more (suc n) h = one_more (suc n)

-- `at` places are left for what is left of the number, and the rest of the digits stand behind them
pub record Spelling (n : ℕ) (b : List ℕ) (rest at : ℕ) : Type 0 where
  pub low : at < 20
  pub fits : rest < 10 ^ at
  pub long : length b ≡ 20
  pub done : front rest ++ drop at b ≡ decimal n

store : (b : List ℕ) (j d : ℕ) → j < length b → drop j (set b j d) ≡ d ∷ drop (suc j) b
store b j d h =
    drop-cons (set b j d) j 0 (rw (length-set b j d) h)
    ∙ ap (λ (v : ℕ). v ∷ drop (suc j) (set b j d)) (get_or-set_same b j d 0 h)
    ∙ ap (λ (l : List ℕ). d ∷ l) (drop-set-lt (suc j) b j d (omega arith))

pub starts : (n : ℕ) (b : List ℕ) → n < 2 ^ 64 → length b ≡ 20 → Spelling n (set b 19 (48 + n % 10)) (n / 10) 19
starts n b h e = record {
  low = omega arith;
  fits = omega arith;
  long = length-set b 19 (48 + n % 10) ∙ e;
  done = ap (λ (l : List ℕ). front (n / 10) ++ l) (store b 19 (48 + n % 10) (omega arith) ∙ ap (λ (l : List ℕ). (48 + n % 10) ∷ l) (none b e)) ∙ sym (one_more n);
}
  where
    none : (b : List ℕ) → length b ≡ 20 → drop 20 b ≡ []
    none b e = ap (λ (k : ℕ). drop k b) (sym e) ∙ drop-length b

pub above : {n : ℕ} {b : List ℕ} {rest at : ℕ} → Spelling n b rest at → 0 < rest → 0 < at
above {at = zero} s h = let f : _ < 10 ^ 0 = s.fits in omega arith
above {at = suc j} s h = omega arith

pub turned : {n : ℕ} {b : List ℕ} {rest : ℕ} (at : ℕ) → Spelling n b rest at → 0 < rest → Spelling n (set b (at - 1) (48 + rest % 10)) (rest / 10) (at - 1)
turned zero s h = let f : _ < 10 ^ 0 = s.fits in absurd (zero_no f h)
  where
    zero_no : {r : ℕ} → r < 1 → 0 < r → ⊥
    zero_no f h = omega arith
turned {n} {b} {rest} (suc j) s h = rw (less j) (at_j s.low s.fits s.long s.done)
  where
    less : (j : ℕ) → suc j - 1 ≡ j
    less j = omega arith

    at_j : suc j < 20 → rest < 10 ^ suc j → length b ≡ 20 → front rest ++ drop (suc j) b ≡ decimal n → Spelling n (set b j (48 + rest % 10)) (rest / 10) j
    at_j l f e d = record {
      low = omega arith;
      fits = (div-lt_iff_lt-mul {k = 10} (omega arith)).1 (rw pow-suc at f);
      long = length-set b j (48 + rest % 10) ∙ e;
      done =
          ap (λ (r : List ℕ). front (rest / 10) ++ r) (store b j (48 + rest % 10) (omega arith))
          ∙ sym (append_assoc (front (rest / 10)) ((48 + rest % 10) ∷ []) (drop (suc j) b))
          ∙ ap (λ (r : List ℕ). r ++ drop (suc j) b) (sym (front_more rest h))
          ∙ d;
    }

pub ended : {n : ℕ} {b : List ℕ} {rest : ℕ} (at : ℕ) → Spelling n b rest at → rest ≤ 0 → drop at b ≡ decimal n
ended {n} {b} {rest} at s h = sym (ap (λ (l : List ℕ). l ++ drop at b) (gone rest h)) ∙ s.done
  where
    gone : (rest : ℕ) → rest ≤ 0 → front rest ≡ []
    gone zero h = refl
    gone (suc r) h = absurd (omega arith)
