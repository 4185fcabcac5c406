-- 02 (vii), the pairs of edges in their order: there are n(n-1)/2 of n edges (`half`); the place of each (`place_at`); and that the places follow the order of 01, by
-- the lower edge and then by the higher (`in_order`, `only_in_order`). Assumes nothing.
use Rattle.std.specs.Prelude.{◌≡◌, refl, ◌⊎◌, List, ◌++◌, ℕ, zero, suc, ◌+◌, ◌*◌, ◌-◌, ◌/◌, ◌<◌, ◌≤◌, length}
use Rattle.std.proofs.Common.{sym, ◌∙◌, ap, ap₂, subst, inl, inr, zero-add, le_refl, add-mul, mul_comm, arith, length-append, eq-eqb, ne_eqb}
use Rattle.std.proofs.Math.Nat.{mul-div_cancel_left}
use Rattle.std.proofs.Math.Decide.{dec_lt}
use Rattle.rules.specs.Rings.{EdgePair, pairs_with, pairs_from, edge_pairs, place}

abbrev pub pair_of : ℕ → ℕ → EdgePair
pair_of k l = record { low = k; high = l }

none_more : (m : ℕ) → m + 0 ≡ m
none_more m = omega arith

one_on : (m d : ℕ) → m + suc d ≡ suc (m + d)
one_on m d = omega arith

one_up : (m d : ℕ) → m + suc d ≡ suc m + d
one_up m d = omega arith

-- ---- how many
length_with : (k l m : ℕ) → length (pairs_with k l m) ≡ m
unfolding pairs_with
length_with k l zero = refl
length_with k l (suc m) = ap suc (length_with k (suc l) m)

length_from : (a b m : ℕ) → length (pairs_from a m) ≡ length (pairs_from b m)
unfolding pairs_from
length_from a b zero = refl
length_from a b (suc m) =
    length-append (pairs_with a (suc a) m) (pairs_from (suc a) m)
    ∙ ap₂ ◌+◌ (length_with a (suc a) m ∙ sym (length_with b (suc b) m)) (length_from (suc a) (suc b) m)
    ∙ sym (length-append (pairs_with b (suc b) m) (pairs_from (suc b) m))

more_from : (a m : ℕ) → length (pairs_from a (suc m)) ≡ m + length (pairs_from (suc a) m)
unfolding pairs_from
more_from a m = length-append (pairs_with a (suc a) m) (pairs_from (suc a) m) ∙ ap (λ (t : ℕ). t + length (pairs_from (suc a) m)) (length_with a (suc a) m)

-- a further edge makes a pair with each that there was
pub one_more : (m : ℕ) → length (edge_pairs (suc m)) ≡ m + length (edge_pairs m)
unfolding edge_pairs
one_more m = more_from 0 m ∙ ap (λ (t : ℕ). m + t) (length_from 1 0 m)

twice : (m : ℕ) → 2 * length (edge_pairs (suc m)) ≡ suc m * m
unfolding edge_pairs pairs_from pairs_with
twice zero = refl
twice (suc m) =
    let e = one_more (suc m) in
    let i = twice m in
    let p : suc (suc m) * suc m ≡ 2 * suc m + m * suc m = ap (λ (t : ℕ). t * suc m) (two_more m) ∙ add-mul 2 m (suc m) in
    let q = mul_comm (suc m) m in
    omega arith
  where
    two_more : (m : ℕ) → suc (suc m) ≡ 2 + m
    two_more m = omega arith

-- "For a clean ring of n corners it is n(n-1)/2"
pub half : (n : ℕ) → length (edge_pairs n) ≡ n * (n - 1) / 2
unfolding edge_pairs pairs_from
half zero = refl
half (suc m) = sym (mul-div_cancel_left (length (edge_pairs (suc m))) (omega arith)) ∙ ap (λ (t : ℕ). t / 2) (twice m ∙ ap (λ (t : ℕ). suc m * t) (one_less m))
  where
    one_less : (m : ℕ) → m ≡ suc m - 1
    one_less m = omega arith

-- more edges make no fewer pairs
pub grows : (m d : ℕ) → length (edge_pairs m) ≤ length (edge_pairs (m + d))
grows m zero = subst (λ (t : ℕ). length (edge_pairs m) ≤ length (edge_pairs t)) (sym (none_more m)) (le_refl (length (edge_pairs m)))
grows m (suc d) =
    let e = one_more (m + d) in
    let i = grows m d in
    subst (λ (t : ℕ). length (edge_pairs m) ≤ length (edge_pairs t)) (sym (one_on m d)) (omega arith)

-- at most 1,024 corners
pub few : (n : ℕ) → n ≤ 1024 → length (edge_pairs n) ≤ 523_776
few n h =
    let g = grows n (1024 - n) in
    let e : n + (1024 - n) ≡ 1024 = omega arith in
    let f : length (edge_pairs (n + (1024 - n))) ≡ 523_776 = ap (λ (t : ℕ). length (edge_pairs t)) e ∙ half 1024 in
    omega arith

-- ---- the place of a pair
-- among the pairs of its own lower edge
place_with : (k l m j : ℕ) (rest : List EdgePair) → j < m → place (pair_of k (l + j)) (pairs_with k l m ++ rest) ≡ suc j
unfolding pairs_with place
place_with k l zero j rest h = absurd (omega arith)
place_with k l (suc m) zero rest h = rw (eq-eqb k k refl, eq-eqb (l + 0) l (omega arith)) refl
place_with k l (suc m) (suc j) rest h =
    rw (eq-eqb k k refl, ne_eqb (l + suc j) l (λ e. omega arith))
    (ap suc (ap (λ (t : ℕ). place (pair_of k t) (pairs_with k (suc l) m ++ rest)) (one_up l j) ∙ place_with k (suc l) m j rest (omega arith)))

-- past the pairs of another lower edge
place_past : (i k l m h : ℕ) (rest : List EdgePair) → (i ≡ k → ⊥) → place (pair_of i h) (pairs_with k l m ++ rest) ≡ m + place (pair_of i h) rest
unfolding pairs_with place
place_past i k l zero h rest e = sym (zero-add (place (pair_of i h) rest))
place_past i k l (suc m) h rest e = rw (ne_eqb i k e) (let p = place_past i k (suc l) m h rest e in omega arith)

place_from : (a m i j : ℕ) → i < j → j < m → place (pair_of (a + i) (a + j)) (pairs_from a m) + length (pairs_from (a + i) (m - i)) ≡ length (pairs_from a m) + (j - i)
unfolding pairs_from
place_from a zero i j h g = absurd (omega arith)
place_from a (suc m) zero zero h g = absurd (omega arith)
place_from a (suc m) zero (suc j) h g =
    let p : place (pair_of (a + 0) (a + suc j)) (pairs_from a (suc m)) ≡ suc j = ap₂ (λ (x y : ℕ). place (pair_of x y) (pairs_from a (suc m))) (none_more a) (one_up a j)
    ∙ place_with a (suc a) m j (pairs_from (suc a) m) (omega arith) in
    let q : length (pairs_from (a + 0) (suc m - 0)) ≡ length (pairs_from a (suc m)) = ap₂ (λ (x y : ℕ). length (pairs_from x y)) (none_more a) (whole m) in
    omega arith
  where
    whole : (m : ℕ) → suc m - 0 ≡ suc m
    whole m = omega arith
place_from a (suc m) (suc i) zero h g = absurd (omega arith)
place_from a (suc m) (suc i) (suc j) h g =
    let p : place (pair_of (a + suc i) (a + suc j)) (pairs_from a (suc m)) ≡ m + place (pair_of (suc a + i) (suc a + j)) (pairs_from (suc a) m)
    = place_past (a + suc i) a (suc a) m (a + suc j) (pairs_from (suc a) m) (λ e. omega arith)
    ∙ ap₂ (λ (x y : ℕ). m + place (pair_of x y) (pairs_from (suc a) m)) (one_up a i) (one_up a j) in
    let q : length (pairs_from (a + suc i) (suc m - suc i)) ≡ length (pairs_from (suc a + i) (m - i)) = ap₂ (λ (x y : ℕ). length (pairs_from x y)) (one_up a i) (less m i) in
    let r = more_from a m in
    let s = place_from (suc a) m i j (omega arith) (omega arith) in
    omega arith
  where
    less : (m i : ℕ) → suc m - suc i ≡ m - i
    less m i = omega arith

-- where no pair of the edges before edge k is left to be looked at, those of edge k follow, in the order of their higher edges
pub place_at : (n k l : ℕ) → k < l → l < n → place (pair_of k l) (edge_pairs n) + length (edge_pairs (n - k)) ≡ length (edge_pairs n) + (l - k)
unfolding edge_pairs
place_at n k l h g =
    let p = ap₂ (λ (x y : ℕ). place (pair_of x y) (pairs_from 0 n)) (zero-add k) (zero-add l) in
    let q = length_from (0 + k) 0 (n - k) in
    let s = place_from 0 n k l h g in
    omega arith

pub place_most : (n k l : ℕ) → k < l → l < n → place (pair_of k l) (edge_pairs n) ≤ length (edge_pairs n)
place_most n k l h g =
    let p = place_at n k l h g in
    let o = one_more (n - k - 1) in
    let e : length (edge_pairs (suc (n - k - 1))) ≡ length (edge_pairs (n - k)) = ap (λ (t : ℕ). length (edge_pairs t)) (omega arith) in
    omega arith

-- ---- the order of the places
module _ (n k l i j : ℕ) (h : k < l) (g : l < n) (f : i < j) (e : j < n) where
  pub in_order : ((k < i) ⊎ ((k ≡ i) × (l < j))) → place (pair_of k l) (edge_pairs n) < place (pair_of i j) (edge_pairs n)
  in_order (inl a) =
      let p = place_at n k l h g in
      let q = place_at n i j f e in
      let m = grows (n - i) (i - k - 1) in
      let o = one_more (n - i + (i - k - 1)) in
      let s : length (edge_pairs (suc (n - i + (i - k - 1)))) ≡ length (edge_pairs (n - k)) = ap (λ (t : ℕ). length (edge_pairs t)) (omega arith) in
      omega arith
  in_order (inr a) =
      let p = place_at n k l h g in
      let q = place_at n i j f e in
      let s : length (edge_pairs (n - k)) ≡ length (edge_pairs (n - i)) = ap (λ (t : ℕ). length (edge_pairs (n - t))) a.0 in
      omega (arith, a.0, a.1)

pub only_in_order : (n k l i j : ℕ) → k < l → l < n → i < j → j < n → place (pair_of k l) (edge_pairs n) < place (pair_of i j) (edge_pairs n) → (k < i) ⊎ ((k ≡ i) × (l < j))
only_in_order n k l i j h g f e p =
    elim (dec_lt k i) [
      | yes a ↦ inl a
      | no a ↦ inr (same (omega arith), elim (dec_lt l j) [ yes b ↦ b | no b ↦ absurd (not_after (same (omega arith)) (omega arith)) ])
    ]
  where
    same : i ≤ k → k ≡ i
    same a = elim (dec_lt i k) [ yes b ↦ absurd (let q = in_order n i j k l f e h g (inl b) in omega arith) | no b ↦ omega arith ]

    places : k ≡ i → l ≡ j → place (pair_of k l) (edge_pairs n) ≡ place (pair_of i j) (edge_pairs n)
    places a b = ap₂ (λ (x y : ℕ). place (pair_of x y) (edge_pairs n)) a b

    not_after : k ≡ i → j ≤ l → ⊥
    not_after a b =
        elim (dec_lt j l) [
          | yes c ↦ (let q = in_order n i j k l f e h g (inr (sym a, c)) in omega arith)
          | no c ↦ (let q = places a (omega arith) in omega arith)
        ]
