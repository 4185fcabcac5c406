-- The corners of a flat list, by index. Assumes nothing.
use Rattle.std.specs.Prelude.{◌≡◌, refl, Bool, true, false, List, [], ◌∷◌, ℕ, zero, suc, ◌+◌, ◌*◌, ◌/◌, ◌<◌, ◌≤◌, ℤ, pos, length, get_or}
use Rattle.std.proofs.Common.{sym, ◌∙◌, ap, arith, lt-ltb, le-ltb, to_z-of_z, SFits, to_z, of_z}
use Rattle.std.proofs.Math.Decide.{dec_lt}
use Rattle.std.specs.Int.{w64}
use Rattle.rules.specs.Refusals.{answered, refused}
use Rattle.rules.specs.RingAnswers.{corners}
use Rattle.rules.specs.Rings.{origin}
use Rattle.ring_corners.specs.Corners.{corner, pairs, Accepted, next_of}

twice : (i : ℕ) → 2 * suc i ≡ suc (suc (2 * i))
twice i = omega arith

twice_one : (i : ℕ) → 2 * suc i + 1 ≡ suc (suc (2 * i + 1))
twice_one i = omega arith

pub x_of : (l : List ℤ) (i : ℕ) → i < length (pairs l) → (get_or (pairs l) i origin).x ≡ get_or l (2 * i) (pos 0)
unfolding pairs
x_of [] i h = absurd (omega arith)
x_of (a ∷ []) i h = absurd (omega arith)
x_of (a ∷ b ∷ l) zero h = refl
x_of (a ∷ b ∷ l) (suc i) h = x_of l i (omega arith) ∙ sym (ap (λ (k : ℕ). get_or (a ∷ b ∷ l) k (pos 0)) (twice i))

pub y_of : (l : List ℤ) (i : ℕ) → i < length (pairs l) → (get_or (pairs l) i origin).y ≡ get_or l (2 * i + 1) (pos 0)
unfolding pairs
y_of [] i h = absurd (omega arith)
y_of (a ∷ []) i h = absurd (omega arith)
y_of (a ∷ b ∷ l) zero h = refl
y_of (a ∷ b ∷ l) (suc i) h = y_of l i (omega arith) ∙ sym (ap (λ (k : ℕ). get_or (a ∷ b ∷ l) k (pos 0)) (twice_one i))

-- two numbers a corner, and perhaps one over
pub count_of : (l : List ℤ) → (2 * length (pairs l) ≤ length l) × (length l ≤ 2 * length (pairs l) + 1)
unfolding pairs
count_of [] = omega arith
count_of (a ∷ []) = omega arith
count_of (a ∷ b ∷ l) = omega (arith, count_of l)

pub corner_is : (l : List ℤ) (i : ℕ) → i < length (pairs l) → corner (get_or l (2 * i) (pos 0)) (get_or l (2 * i + 1) (pos 0)) ≡ get_or (pairs l) i origin
corner_is l i h = λ k. corner (sym (x_of l i h) k) (sym (y_of l i h) k)

-- a list of even length is its corners; one of odd length is refused
pub corners_even : (l : List ℤ) → length l ≡ 2 * length (pairs l) → corners l ≡ answered (pairs l)
unfolding pairs corners
corners_even [] h = refl
corners_even (a ∷ []) h = absurd (omega arith)
corners_even (a ∷ b ∷ l) h = rw (corners_even l (omega arith)) refl

pub corners_odd : (l : List ℤ) → length l ≡ 2 * length (pairs l) + 1 → corners l ≡ refused 6
unfolding pairs corners
corners_odd [] h = absurd (omega arith)
corners_odd (a ∷ []) h = refl
corners_odd (a ∷ b ∷ l) h = rw (corners_odd l (omega arith)) refl

-- ---- a number that the code read
pub x_read : (l : List ℤ) (i : ℕ) → SFits w64 (get_or l (2 * i) (pos 0)) → i < length (pairs l) → to_z w64 (of_z w64 (get_or l (2 * i) (pos 0))) ≡ (get_or (pairs l) i origin).x
x_read l i f h = to_z-of_z f ∙ sym (x_of l i h)

pub y_read : (l : List ℤ) (i : ℕ) → SFits w64 (get_or l (2 * i + 1) (pos 0)) → i < length (pairs l) → to_z w64 (of_z w64 (get_or l (2 * i + 1) (pos 0))) ≡ (get_or (pairs l) i origin).y
y_read l i f h = to_z-of_z f ∙ sym (y_of l i h)

pub first_in : {l : List ℤ} → Accepted l → 0 < length (pairs l)
first_in a = omega (arith, a.at_least)

-- the code's count of corners
pub count_half : (l : List ℤ) → length l / 2 ≡ length (pairs l)
count_half l = let n = count_of l in omega arith

pub half : {l : List ℤ} → Accepted l → length l / 2 ≡ length (pairs l)
half {l} a = count_half l

-- ---- the next corner
abbrev other : ℕ → Bool → ℕ
other i b = elim b [ true ↦ i + 1 | false ↦ 0 ]

pub next_is : (i n : ℕ) → i + 1 < n → next_of i n ≡ i + 1
unfolding next_of
next_is i n h = ap (other i) (lt-ltb (i + 1) n h)

pub next_none : (i n : ℕ) → n ≤ i + 1 → next_of i n ≡ 0
unfolding next_of
next_none i n h = ap (other i) (le-ltb (i + 1) n h)

pub next_inside : (i n : ℕ) → i < n → next_of i n < n
next_inside i n h = elim (dec_lt (i + 1) n) [ yes g ↦ rw (next_is i n g) g | no g ↦ rw (next_none i n (omega arith)) (omega arith) ]
