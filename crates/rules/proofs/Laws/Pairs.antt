-- `crossed` answers the first crossed pair, in order of the lower number and then of the higher; or none, where none is crossed. Assumes nothing.
use Rattle.std.specs.Prelude.{◌≡◌, Bool, true, false, not, ◌&&◌, ◌⊎◌, ◌↔◌, ℕ, zero, suc, ◌+◌, ◌<◌, ◌≤◌, T, eqb, pos, length, get_or}
use Rattle.std.proofs.Math.Path.{refl}
use Rattle.std.proofs.Common.{sym, ◌∙◌, ap, ap₂, subst, inr, ⊎_elim, T_not, eqb→eq}
use Rattle.std.proofs.Math.Logic.{inl}
use Rattle.std.proofs.Math.Option.{Option, none, some}
use mathlib.Core.List.{List, [], ◌∷◌}
use native.Mathlib.Omega.{arith}
use Rattle.std.proofs.Math.Decide.{dec_lt}
use Rattle.rules.specs.Rings.{Corner, Edge, ◌to◌, origin, edge, First, EdgePair, Share, ShareOff, Folded, Crossing, edges}
use Rattle.rules.specs.Crossing.{meets, folds, bad, first_with, first_of, crossed}
use Rattle.rules.proofs.Laws.Meeting.{meets_share, T_and}
use Rattle.rules.proofs.Laws.Folding.{folds_rule}
use Rattle.rules.proofs.Laws.Edges.{length_edges, edge_at, edge_last}

-- ---- one pair: the test and the rule
folds_edges : (e f : Edge) → e.head ≡ f.tail → T (folds e f) ↔ Folded e f
folds_edges e f h = subst (λ (t : Corner). T (folds e (t to f.head)) ↔ Folded e f) h (folds_rule e.tail e.head f.head)

bad_rule : (n k l : ℕ) (e f : Edge) → (l ≡ suc k → e.head ≡ f.tail) → (k ≡ 0 → suc l ≡ n → f.head ≡ e.tail) → T (bad n k l e f) ↔ Crossing n k l e f
unfolding bad
bad_rule n k l e f h g = go (eqb l (suc k)) (eqb k 0 && eqb (suc l) n) refl refl
  where
    go : (b c : Bool) → eqb l (suc k) ≡ b → (eqb k 0 && eqb (suc l) n) ≡ c → T (bad n k l e f) ↔ Crossing n k l e f
    go true c x y = rw x (folds_edges e f (h (eqb→eq l (suc k) (rw x tt))))
    go false true x y = rw (x, y) (let t = T_and (eqb k 0) (eqb (suc l) n) (rw y tt) in folds_edges f e (g (eqb→eq k 0 t.0) (eqb→eq (suc l) n t.1)))
    go false false x y = rw (x, y) (meets_share e f)

-- ---- the search: what is known of one edge e, number k, and the edges fs from number l on
module _ (n : ℕ) (d : Edge) where
  -- the first of fs that makes a pair with e, or none
  Scan : ℕ → Edge → ℕ → List Edge → Type 0
  Scan k e l fs =
      ((first_with n k e l fs ≡ none) × ((j : ℕ) → j < length fs → T (not (bad n k (l + j) e (get_or fs j d)))))
      ⊎ ((j : ℕ) × (first_with n k e l fs ≡ some (record { low = k; high = l + j })) × (j < length fs) × T (bad n k (l + j) e (get_or fs j d))
      × ((i : ℕ) → i < j → T (not (bad n k (l + i) e (get_or fs i d)))))

  scan : (k : ℕ) (e : Edge) (l : ℕ) (fs : List Edge) → Scan k e l fs
  unfolding Scan first_with
  scan k e l [] = inl (refl, λ j h. absurd (omega arith))
  scan k e l (f ∷ fs) = go (bad n k l e f) refl (scan k e (suc l) fs)
    where
      zero_on : l + 0 ≡ l
      zero_on = omega arith

      on : (j : ℕ) → suc l + j ≡ l + suc j
      on j = omega arith

      pick : Bool → Option EdgePair
      pick b = elim b [ true ↦ some (record { low = k; high = l }) | false ↦ first_with n k e (suc l) fs ]

      one_more : bad n k l e f ≡ false → (m : ℕ) → ((j : ℕ) → j < m → T (not (bad n k (suc l + j) e (get_or fs j d))))
          → (j : ℕ) → j < suc m → T (not (bad n k (l + j) e (get_or (f ∷ fs) j d)))
      one_more x m h zero g = rw (zero_on, x) tt
      one_more x m h (suc j) g = rw (← on j) (h j (omega arith))

      go : (b : Bool) → bad n k l e f ≡ b → Scan k e (suc l) fs → Scan k e l (f ∷ fs)
      go true x s = inr (0, ap pick x ∙ ap (λ t. some (record { low = k; high = t })) (sym zero_on), omega arith, rw (zero_on, x) tt, λ i h. absurd (omega arith))
      go false x (inl s) = inl (ap pick x ∙ s.0, one_more x (length fs) s.1)
      go false x (inr s) = inr (
        suc s.0,
        ap pick x ∙ s.1 ∙ ap (λ t. some (record { low = k; high = t })) (on s.0),
        omega (arith, s.2),
        rw (← on s.0) s.3,
        one_more x s.0 s.4,
      )

  -- the first pair among the edges es from number k on, or none
  Search : ℕ → List Edge → Type 0
  Search k es =
      ((first_of n k es ≡ none) × ((i j : ℕ) → i < j → j < length es → T (not (bad n (k + i) (k + j) (get_or es i d) (get_or es j d)))))
      ⊎ ((i : ℕ) × (j : ℕ) × (first_of n k es ≡ some (record { low = k + i; high = k + j })) × (i < j) × (j < length es) × T (bad n (k + i) (k + j) (get_or es i d) (get_or es j d))
      × ((g h : ℕ) → g < h → h < length es → ((g < i) ⊎ ((g ≡ i) × (h < j))) → T (not (bad n (k + g) (k + h) (get_or es g d) (get_or es h d)))))

  find : (k : ℕ) (es : List Edge) → Search k es
  unfolding Search Scan first_of
  find k [] = inl (refl, λ i j h g. absurd (omega arith))
  find k (e ∷ es) = go (scan k e (suc k) es) (find (suc k) es)
    where
      zero_on : k + 0 ≡ k
      zero_on = omega arith

      on : (j : ℕ) → suc k + j ≡ k + suc j
      on j = omega arith

      pick : Option EdgePair → Option EdgePair
      pick o = elim o [ some t ↦ some t | none ↦ first_of n (suc k) es ]

      -- e makes no pair with the edges before number j of es
      none_with : (m : ℕ) → ((j : ℕ) → j < m → T (not (bad n k (suc k + j) e (get_or es j d)))) → (j : ℕ) → 0 < j → j < suc m
          → T (not (bad n (k + 0) (k + j) e (get_or (e ∷ es) j d)))
      none_with m h zero a b = absurd (omega arith)
      none_with m h (suc j) a b = rw (zero_on, ← on j) (h j (omega arith))

      pair : ℕ → ℕ → Option EdgePair
      pair a b = some (record { low = a; high = b })

      -- two edges of es
      later : (i j : ℕ) → T (not (bad n (suc k + i) (suc k + j) (get_or es i d) (get_or es j d))) → T (not (bad n (k + suc i) (k + suc j) (get_or es i d) (get_or es j d)))
      later i j t = rw (← on i, ← on j) t

      before_0 : (m : ℕ) → ((j : ℕ) → j < m → T (not (bad n k (suc k + j) e (get_or es j d)))) → (g h : ℕ) → g < h → ((g < 0) ⊎ ((g ≡ 0) × (h < suc m)))
          → T (not (bad n (k + g) (k + h) (get_or (e ∷ es) g d) (get_or (e ∷ es) h d)))
      before_0 m f zero h a (inl x) = absurd (omega arith)
      before_0 m f zero h a (inr x) = none_with m f h a x.1
      before_0 m f (suc g) h a (inl x) = absurd (omega arith)
      before_0 m f (suc g) h a (inr x) = absurd (omega (arith, x.0))

      all : ((j : ℕ) → j < length es → T (not (bad n k (suc k + j) e (get_or es j d))))
          → ((i j : ℕ) → i < j → j < length es → T (not (bad n (suc k + i) (suc k + j) (get_or es i d) (get_or es j d))))
          → (i j : ℕ) → i < j → j < suc (length es) → T (not (bad n (k + i) (k + j) (get_or (e ∷ es) i d) (get_or (e ∷ es) j d)))
      all f t zero j a b = none_with (length es) f j a b
      all f t (suc i) zero a b = absurd (omega arith)
      all f t (suc i) (suc j) a b = later i j (t i j (omega arith) (omega arith))

      before : (i j : ℕ) → ((j : ℕ) → j < length es → T (not (bad n k (suc k + j) e (get_or es j d))))
          → ((g h : ℕ) → g < h → h < length es → ((g < i) ⊎ ((g ≡ i) × (h < j))) → T (not (bad n (suc k + g) (suc k + h) (get_or es g d) (get_or es h d))))
          → (g h : ℕ) → g < h → h < suc (length es) → ((g < suc i) ⊎ ((g ≡ suc i) × (h < suc j))) → T (not (bad n (k + g) (k + h) (get_or (e ∷ es) g d) (get_or (e ∷ es) h d)))
      before i j f t zero h a b c = none_with (length es) f h a b
      before i j f t (suc g) zero a b c = absurd (omega arith)
      before i j f t (suc g) (suc h) a b (inl c) = later g h (t g h (omega arith) (omega arith) (inl (omega arith)))
      before i j f t (suc g) (suc h) a b (inr c) = later g h (t g h (omega arith) (omega arith) (inr (omega (arith, c.0), omega (arith, c.1))))

      go : Scan k e (suc k) es → Search (suc k) es → Search k (e ∷ es)
      go (inr s) t = inr (
        0,
        suc s.0,
        ap pick s.1 ∙ ap₂ pair (sym zero_on) (on s.0),
        omega arith,
        omega (arith, s.2),
        rw (zero_on, ← on s.0) s.3,
        λ g h a b c. before_0 s.0 s.4 g h a c,
      )
      go (inl s) (inl t) = inl (ap pick s.0 ∙ t.0, all s.1 t.1)
      go (inl s) (inr t) = inr (
        suc t.0,
        suc t.1,
        ap pick s.0 ∙ t.2 ∙ ap₂ pair (on t.0) (on t.1),
        omega (arith, t.3),
        omega (arith, t.4),
        rw (← on t.0, ← on t.1) t.5,
        before t.0 t.1 s.1 t.6,
      )

-- ---- of a ring
edge_tail : (r : List Corner) (k : ℕ) → k < length r → (edge r k).tail ≡ get_or r k origin
unfolding edge
edge_tail r k h = ⊎_elim (λ e. ap (λ e. e.tail) (edge_at (origin to origin) origin r k e)) (λ e. ap (λ e. e.tail) (edge_last (origin to origin) origin r k e)) (last k (length r) h)
  where
    last : (k n : ℕ) → k < n → (suc k < n) ⊎ (suc k ≡ n)
    last k n h = elim (dec_lt (suc k) n) [ yes g ↦ inl g | no g ↦ inr (omega arith) ]

bad_edges : (r : List Corner) (k l : ℕ) → k < l → l < length r → T (bad (length r) k l (edge r k) (edge r l)) ↔ Crossing (length r) k l (edge r k) (edge r l)
unfolding edge
bad_edges r k l h g = bad_rule (length r) k l (edge r k) (edge r l)
    (λ e. head_next k (omega arith) ∙ ap (λ t. get_or r t origin) (sym e) ∙ sym (edge_tail r l g))
    (λ z e. head_last l e ∙ ap (λ t. get_or r t origin) (sym z) ∙ sym (edge_tail r k (omega arith)))
  where
    head_next : (k : ℕ) → suc k < length r → (edge r k).head ≡ get_or r (suc k) origin
    head_next k h = ap (λ e. e.head) (edge_at (origin to origin) origin r k h)

    head_last : (k : ℕ) → suc k ≡ length r → (edge r k).head ≡ get_or r 0 origin
    head_last k h = ap (λ e. e.head) (edge_last (origin to origin) origin r k h)

-- a pair of which the test fails is not crossed
not_crossing : (r : List Corner) (k l : ℕ) → k < l → l < length r → T (not (bad (length r) k l (edge r k) (edge r l))) → ¬ Crossing (length r) k l (edge r k) (edge r l)
not_crossing r k l h g t c = T_not (bad (length r) k l (edge r k) (edge r l)) t ((bad_edges r k l h g).1 c)

zero_add : (k : ℕ) → 0 + k ≡ k
zero_add k = omega arith

same_length : (r : List Corner) (k : ℕ) → (k < length r) ↔ (k < length (edges r))
same_length r k = let e = length_edges r in (λ h. omega arith, λ h. omega arith)

-- the test at numbers counted from 0
from_0 : (r : List Corner) (k l : ℕ) → T (not (bad (length r) (0 + k) (0 + l) (edge r k) (edge r l))) → T (not (bad (length r) k l (edge r k) (edge r l)))
from_0 r k l t = rw (zero_add k, zero_add l) at t

from_0⁺ : (r : List Corner) (k l : ℕ) → T (bad (length r) (0 + k) (0 + l) (edge r k) (edge r l)) → T (bad (length r) k l (edge r k) (edge r l))
from_0⁺ r k l t = rw (zero_add k, zero_add l) at t

pub crossed_none : (r : List Corner) → crossed r ≡ none → (k l : ℕ) → k < l → l < length r → ¬ Crossing (length r) k l (edge r k) (edge r l)
unfolding crossed Search edge
crossed_none r e k l h g = go (find (length r) (origin to origin) 0 (edges r))
  where
    go : Search (length r) (origin to origin) 0 (edges r) → ¬ Crossing (length r) k l (edge r k) (edge r l)
    go (inl s) = not_crossing r k l h g (from_0 r k l (s.1 k l h ((same_length r l).0 g)))
    go (inr s) = absurd (let z : ◌≡◌ {A = ℕ} 0 1 = cc (e, s.2) in omega arith)

pub crossed_some : (r : List Corner) (t : EdgePair) → crossed r ≡ some t → First r t
unfolding crossed Search edge
crossed_some r t e = go (find (length r) (origin to origin) 0 (edges r))
  where
    go : Search (length r) (origin to origin) 0 (edges r) → First r t
    go (inl s) = absurd (let z : ◌≡◌ {A = ℕ} 0 1 = cc (e, s.0) in omega arith)
    go (inr s) =
        let i : ℕ = s.0 in
        let j : ℕ = s.1 in
        let l : j < length r = (same_length r j).1 s.4 in
        let found : First r (record { low = i; high = j }) = record {
          order = s.3;
          inside = l;
          here = (bad_edges r i j s.3 l).0 (from_0⁺ r i j s.5);
          not_before = λ g h a b c. not_crossing r g h a b (from_0 r g h (s.6 g h a ((same_length r h).0 b) c));
        } in
        let p : ◌≡◌ {A = EdgePair} (record { low = 0 + i; high = 0 + j }) t = cc (e, s.2) in
        subst (First r) (ap₂ {C = EdgePair} (λ a b. record { low = a; high = b }) (sym (zero_add i)) (sym (zero_add j)) ∙ p) found
