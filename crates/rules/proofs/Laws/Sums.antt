-- Sums round a ring, for what changes sign with the edge's direction: cut and reversal. Assumes nothing.
use Rattle.std.specs.Prelude.{◌≡◌, Bool, true, false, ◌&&◌, ℕ, zero, suc, ◌+◌, ◌-◌, ◌<◌, ◌≤◌, ℤ, pos, negsuc, ◌-ℤ◌, ◌*ℤ◌, neg_ℤ, length, take, drop, get_or}
use Rattle.std.proofs.Math.Path.{refl, sym, ap, ap₂}
use Rattle.std.proofs.Common.{◌∙◌, arith, take-suc, drop-cons}
use mathlib.Core.List.{List, [], ◌∷◌, ◌++◌, append_assoc, append-nil, reverse, reverse-cons, reverse-append, reverse_aux-eq}
use Rattle.std.proofs.Math.IntN.{◌+ℤ◌, +ℤ_idl, +ℤ_idr, +ℤ_comm, +ℤ_assoc}
use Rattle.std.proofs.Math.Dec.{leb-zero, leb-suc-zero, leb-suc-suc}
use Rattle.std.specs.Int.Signed.{le_z, lt_z}
use Rattle.std.proofs.Math.Seq.{split_at}
use Rattle.arith.specs.Laws.Diff.{Z·ℕ, lin}
use Rattle.arith.specs.Laws.Ring.{ring, Z·ring, by_ring}
use Rattle.rules.specs.Rings.{Corner, Edge, ◌to◌, onward, line, edges, total, area_term, area2, D, turn, turning_number, inner, outer, bit}

-- two lines that meet end to start
join : (f : Edge → ℤ) (l : List Corner) (b : Corner) (m : List Corner)
    → total f (line (l ++ b ∷ m)) ≡ total f (line (l ++ b ∷ [])) +ℤ total f (line (b ∷ m))
unfolding total line onward
join f [] b m = sym (+ℤ_idl (total f (onward b m)))
join f (a ∷ l) b m = go a l
  where
    go : (a : Corner) (l : List Corner) → total f (onward a (l ++ b ∷ m)) ≡ total f (onward a (l ++ b ∷ [])) +ℤ total f (onward b m)
    go a [] = ap (λ z. z +ℤ total f (onward b m)) (sym (+ℤ_idr (f (a to b))))
    go a (c ∷ l) = ap (λ z. f (a to c) +ℤ z) (go c l) ∙ sym (+ℤ_assoc (f (a to c)) (total f (onward c (l ++ b ∷ []))) (total f (onward b m)))

abbrev Turns : (Edge → ℤ) → Type 0
Turns f = (a b : Corner) → f (b to a) ≡ neg_ℤ (f (a to b))

first_of : (xs : List Corner) (x : Corner) (m : List Corner) → take 1 (xs ++ x ∷ m) ≡ take 1 (xs ++ x ∷ [])
first_of [] x m = refl
first_of (a ∷ xs) x m = refl

two : (f : Edge → ℤ) (a b : Corner) (m : List Corner) → total f (line (a ∷ b ∷ m)) ≡ f (a to b) +ℤ total f (line (b ∷ m))
unfolding total line onward
two f a b m = refl

one : (f : Edge → ℤ) (a : Corner) → total f (line (a ∷ [])) ≡ pos 0
unfolding total line onward
one f a = refl

sum_cut : (a b c e : ℤ) → a +ℤ (b +ℤ c) ≡ (b +ℤ (neg_ℤ e +ℤ pos 0)) +ℤ (a +ℤ (e +ℤ c))
sum_cut a b c e = lin (a ∷ b ∷ c ∷ e ∷ []) λ u v ea eb ec ee. simp (Z·ℕ, ea, eb, ec, ee) (omega arith)

-- a ring cut from x to y is its two parts
module _ (f : Edge → ℤ) (turns : Turns f) (xs : List Corner) (x : Corner) (ys : List Corner) (y : Corner) (zs : List Corner) where
  c : List Corner
  c = take 1 (xs ++ x ∷ [])

  whole : total f (edges (xs ++ x ∷ (ys ++ y ∷ zs))) ≡ total f (line (xs ++ x ∷ [])) +ℤ (total f (line (x ∷ ys ++ y ∷ [])) +ℤ total f (line (y ∷ (zs ++ c))))
  unfolding edges c
  whole = rw (first_of, append_assoc, append_assoc) (join f xs x (ys ++ y ∷ (zs ++ c)) ∙ ap (λ z. total f (line (xs ++ x ∷ [])) +ℤ z) (join f (x ∷ ys) y (zs ++ c)))

  within : total f (edges (x ∷ (ys ++ y ∷ []))) ≡ total f (line (x ∷ ys ++ y ∷ [])) +ℤ (neg_ℤ (f (x to y)) +ℤ pos 0)
  unfolding edges
  within = rw append_assoc (join f (x ∷ ys) y (x ∷ []) ∙ ap (λ z. total f (line (x ∷ ys ++ y ∷ [])) +ℤ z) (two f y x [] ∙ ap₂ ◌+ℤ◌ (turns x y) (one f x)))

  without : total f (edges (xs ++ x ∷ y ∷ zs)) ≡ total f (line (xs ++ x ∷ [])) +ℤ (f (x to y) +ℤ total f (line (y ∷ (zs ++ c))))
  unfolding edges c
  without = rw (first_of, append_assoc) (join f xs x (y ∷ (zs ++ c)) ∙ ap (λ z. total f (line (xs ++ x ∷ [])) +ℤ z) (two f x y (zs ++ c)))

  pub cut : total f (edges (xs ++ x ∷ (ys ++ y ∷ zs))) ≡ total f (edges (x ∷ (ys ++ y ∷ []))) +ℤ total f (edges (xs ++ x ∷ y ∷ zs))
  cut = rw (whole, within, without)
      (sum_cut (total f (line (xs ++ x ∷ []))) (total f (line (x ∷ ys ++ y ∷ []))) (total f (line (y ∷ (zs ++ c)))) (f (x to y)))

-- ---- the same by numbers of corners
-- a ring around its corners i and j
parts_of : (d : Corner) (i j : ℕ) (r : List Corner) → i < j → j < length r
    → r ≡ take i r ++ get_or r i d ∷ (drop (suc i) (take j r) ++ get_or r j d ∷ drop (suc j) r)
parts_of d zero zero (a ∷ r) h k = absurd (omega arith)
parts_of d i j [] h k = absurd (omega arith)
parts_of d (suc i) zero (a ∷ r) h k = absurd (omega arith)
parts_of d zero (suc j) (a ∷ r) h k = ap (λ (l : List Corner). a ∷ l) (split_at r j d (omega arith))
parts_of d (suc i) (suc j) (a ∷ r) h k = ap (λ (l : List Corner). a ∷ l) (parts_of d i j r (omega arith) (omega arith))

inner_is : (d : Corner) (i j : ℕ) (r : List Corner) → i < j → j < length r
    → drop i (take (suc j) r) ≡ get_or r i d ∷ (drop (suc i) (take j r) ++ get_or r j d ∷ [])
inner_is d zero zero (a ∷ r) h k = absurd (omega arith)
inner_is d i j [] h k = absurd (omega arith)
inner_is d (suc i) zero (a ∷ r) h k = absurd (omega arith)
inner_is d zero (suc j) (a ∷ r) h k = ap (λ (l : List Corner). a ∷ l) (take-suc r j d (omega arith))
inner_is d (suc i) (suc j) (a ∷ r) h k = inner_is d i j r (omega arith) (omega arith)

outer_is : (d : Corner) (i j : ℕ) (r : List Corner) → i < j → j < length r
    → take (suc i) r ++ drop j r ≡ take i r ++ get_or r i d ∷ get_or r j d ∷ drop (suc j) r
outer_is d i j r h k = rw (take-suc r i d (omega arith), drop-cons r j d k) (append_assoc (take i r) (get_or r i d ∷ []) (get_or r j d ∷ drop (suc j) r))

pub cut_at : (f : Edge → ℤ) → Turns f → (i j : ℕ) (r : List Corner) → i < j → j < length r
    → total f (edges r) ≡ total f (edges (inner i j r)) +ℤ total f (edges (outer i j r))
unfolding inner outer
cut_at f turns i j r h k =
    ap (λ l. total f (edges l)) (parts_of d i j r h k)
    ∙ cut f turns (take i r) (get_or r i d) (drop (suc i) (take j r)) (get_or r j d) (drop (suc j) r)
    ∙ sym (ap₂ (λ l m. total f (edges l) +ℤ total f (edges m)) (inner_is d i j r h k) (outer_is d i j r h k))
  where
    d : Corner
    d = record { x = pos 0; y = pos 0 }

-- ---- a ring run the other way
sum_back : (e t : ℤ) → neg_ℤ t +ℤ (neg_ℤ e +ℤ pos 0) ≡ neg_ℤ (e +ℤ t)
sum_back e t = lin (e ∷ t ∷ []) λ u v ee et. simp (Z·ℕ, ee, et) (omega arith)

sum_turn : (e t : ℤ) → t +ℤ (e +ℤ pos 0) ≡ e +ℤ t
sum_turn e t = lin (e ∷ t ∷ []) λ u v ee et. simp (Z·ℕ, ee, et) (omega arith)

module _ (f : Edge → ℤ) (turns : Turns f) where
  line_back : (a : Corner) (l : List Corner) → total f (line (reverse (a ∷ l))) ≡ neg_ℤ (total f (line (a ∷ l)))
  unfolding total line onward
  line_back a [] = refl
  line_back a (b ∷ l) =
      ap (λ (l : List Corner). total f (line l)) (reverse_aux-eq l (b ∷ a ∷ []))
      ∙ join f (reverse l) b (a ∷ [])
      ∙ ap₂ ◌+ℤ◌ (ap (λ (l : List Corner). total f (line l)) (sym (reverse-cons b l)) ∙ line_back b l) (ap₂ ◌+ℤ◌ (turns a b) (one f a))
      ∙ sum_back (f (a to b)) (total f (line (b ∷ l)))

  rotate : (m : List Corner) (a : Corner) → total f (edges (m ++ a ∷ [])) ≡ total f (edges (a ∷ m))
  unfolding edges
  rotate [] a = refl
  rotate (b ∷ m) a =
      ap (λ (l : List Corner). total f (line l)) (append_assoc (b ∷ m) (a ∷ []) (b ∷ []))
      ∙ join f (b ∷ m) a (b ∷ [])
      ∙ ap (λ z. total f (line (b ∷ m ++ a ∷ [])) +ℤ z) (two f a b [] ∙ ap (λ z. f (a to b) +ℤ z) (one f b))
      ∙ sum_turn (f (a to b)) (total f (line (b ∷ m ++ a ∷ [])))
      ∙ sym (two f a b (m ++ a ∷ []))

  pub ring_back : (r : List Corner) → total f (edges (reverse r)) ≡ neg_ℤ (total f (edges r))
  unfolding edges line total
  ring_back [] = refl
  ring_back (a ∷ l) =
      ap (λ (l : List Corner). total f (edges l)) (reverse-cons a l)
      ∙ rotate (reverse l) a
      ∙ ap (λ (l : List Corner). total f (line l)) (sym (reverse-append (a ∷ l) (a ∷ []) ∙ ap (λ (l : List Corner). a ∷ l) (reverse-cons a l)))
      ∙ line_back a (l ++ a ∷ [])

-- ---- doubled area and turning number are such sums
products : (s t : ℤ) → s -ℤ t ≡ neg_ℤ (t -ℤ s)
products s t = lin (s ∷ t ∷ []) λ u v es et. simp (Z·ℕ, es, et) (omega arith)

pub cross_turns : Turns area_term
unfolding area_term
cross_turns a b = products (b.x *ℤ a.y) (a.x *ℤ b.y)

side_back' : (ax ay bx by px py : ℤ)
    → (ax -ℤ bx) *ℤ (py -ℤ by) -ℤ (px -ℤ bx) *ℤ (ay -ℤ by) ≡ neg_ℤ ((bx -ℤ ax) *ℤ (py -ℤ ay) -ℤ (px -ℤ ax) *ℤ (by -ℤ ay))
side_back' ax ay bx by px py =
    ring (ax ∷ ay ∷ bx ∷ by ∷ px ∷ py ∷ []) λ ρ e1 e2 e3 e4 e5 e6. simp (Z·ring, e1, e2, e3, e4, e5, e6) (by_ring _ _ _ refl)

pub side_back : (a b p : Corner) → D b a p ≡ neg_ℤ (D a b p)
unfolding D
side_back a b p = side_back' a.x a.y b.x b.y p.x p.y

below_neg : (z : ℤ) → lt_z (pos 0) (neg_ℤ z) ≡ lt_z z (pos 0)
below_neg (pos zero) = refl
below_neg (pos (suc n)) = sym (leb-suc-zero (suc n))
below_neg (negsuc n) = leb-suc-suc 0 n ∙ leb-zero n

above_neg : (z : ℤ) → lt_z (neg_ℤ z) (pos 0) ≡ lt_z (pos 0) z
above_neg (pos zero) = refl
above_neg (pos (suc n)) = sym (leb-suc-suc 0 n ∙ leb-zero n)
above_neg (negsuc n) = leb-suc-zero (suc n)

pub turn_turns : (p : Corner) → Turns (turn p)
unfolding turn
turn_turns p a b =
    rw (side_back a b p, below_neg (D a b p), above_neg (D a b p))
    (products
    (bit (le_z b.x p.x && (lt_z p.x a.x && lt_z (D a b p) (pos 0))))
    (bit (le_z a.x p.x && (lt_z p.x b.x && lt_z (pos 0) (D a b p)))))

-- ---- what is demanded: the ring cut from corner i to corner j, and the ring reversed
pub turning_cut : (i j : ℕ) (r : List Corner) (p : Corner) → i < j → j < length r → turning_number r p ≡ turning_number (inner i j r) p +ℤ turning_number (outer i j r) p
unfolding turning_number
turning_cut i j r p h k = cut_at (turn p) (turn_turns p) i j r h k

pub area2_cut : (i j : ℕ) (r : List Corner) → i < j → j < length r → area2 r ≡ area2 (inner i j r) +ℤ area2 (outer i j r)
unfolding area2
area2_cut i j r h k = cut_at area_term cross_turns i j r h k

pub turning_reverse : (r : List Corner) (p : Corner) → turning_number (reverse r) p ≡ neg_ℤ (turning_number r p)
unfolding turning_number
turning_reverse r p = ring_back (turn p) (turn_turns p) r

pub area2_reverse : (r : List Corner) → area2 (reverse r) ≡ neg_ℤ (area2 r)
unfolding area2
area2_reverse r = ring_back area_term cross_turns r
