-- The loop of `polynomial`, which takes the coefficients from the end. Assumes nothing.
use Rattle.std.specs.Prelude.{◌≡◌, refl, List, [], ◌∷◌, ◌++◌, ℕ, zero, suc, ◌-◌, ◌<◌, length, take, drop, get_or, Float}
use Rattle.std.specs.Float.{nan}
use Rattle.std.proofs.Common.{sym, ap, ◌∙◌, arith, append_assoc, take-append-drop, drop-cons}
use Rattle.std.proofs.Math.Seq.{drop-length}
use Rattle.double.specs.declared.Pair.{Pair}
use Rattle.double.specs.Complex.{real, step, horner}

-- the sum is the polynomial of those that are taken, one at least, and the others are left
pub record Taken (c rest : List Float) (z sum : Pair) : Type 0 where
  pub last : Float
  pub done : List Float
  pub splits : rest ++ last ∷ done ≡ c
  pub is : sum ≡ horner (last ∷ done) z

pub taken_none : (c rest : List Float) (z : Pair) → 0 < length c → rest ≡ take (length c - 1) c → Taken c rest z (real (get_or c (length c - 1) nan))
unfolding horner
taken_none c rest z h e = record { last = get_or c (length c - 1) nan; done = []; splits = ap (λ l. l ++ get_or c (length c - 1) nan ∷ []) e ∙ ap (λ l. take (length c - 1) c ++ l) (sym end) ∙ take-append-drop (length c - 1) c; is = refl }
  where
    up : (n : ℕ) → 0 < n → suc (n - 1) ≡ n
    up n h = omega arith

    end : drop (length c - 1) c ≡ get_or c (length c - 1) nan ∷ []
    end = drop-cons c (length c - 1) nan (omega arith) ∙ ap (λ n. get_or c (length c - 1) nan ∷ drop n c) (up (length c) h) ∙ ap (λ l. get_or c (length c - 1) nan ∷ l) (drop-length c)

pub taken_all : {c rest : List Float} {z sum : Pair} → Taken c rest z sum → length rest ≡ 0 → sum ≡ horner c z
taken_all {rest = []} {z} t e = t.is ∙ ap (λ l. horner l z) t.splits
taken_all {rest = k ∷ rest} t e = absurd (omega arith)

-- one turn, with the next coefficient k
pub turn : {c rest : List Float} {z sum next : Pair} (t : Taken c rest z sum) (left : List Float) (k : Float) → rest ≡ left ++ k ∷ [] → next ≡ step sum z k → Taken c left z next
unfolding horner
turn {z} t left k e h = record {
  last = k;
  done = t.last ∷ t.done;
  splits = sym (append_assoc left (k ∷ []) (t.last ∷ t.done)) ∙ ap (λ l. l ++ t.last ∷ t.done) (sym e) ∙ t.splits;
  is = h ∙ ap (λ p. step p z k) t.is;
}
