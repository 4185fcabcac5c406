-- The crossing test of two edges, by the tests that the code makes. Assumes nothing.
use Rattle.std.specs.Prelude.{◌≡◌, Bool, true, ◌&&◌, ◌||◌, [], ◌∷◌, T, ℤ, pos, ◌-ℤ◌, ◌*ℤ◌, ◌≤ℤ◌, ◌<ℤ◌}
use Rattle.std.proofs.Math.Path.{refl, ap}
use Rattle.std.proofs.Common.{sym, ◌∙◌, ap₂, subst, inl, inr, ⊎_elim, arith}
use Rattle.std.proofs.Math.Bool.{false, not}
use Rattle.std.proofs.lemmas.Bool.{false≢true}
use Rattle.std.specs.Bool.{Decides}
use Rattle.std.proofs.lemmas.Bool.Decides.{Decides-int_eq}
use Rattle.std.specs.Ordering.{int_eq, is_eq}
use Rattle.std.specs.Int.{int_min, int_max}
use Rattle.std.specs.Int.Signed.{le_z, lt_z, <ℤ-≤ℤ_trans}
use Rattle.arith.specs.Laws.Diff.{Z·ℕ, lin}
use Rattle.arith.specs.Laws.Order.{≤ℤ-<ℤ_trans, <ℤ_trans, <ℤ→≤ℤ, ≤ℤ_of_eq, tricho}
use Rattle.rules.specs.Rings.{Corner, ◌to◌, D, is_zero}
use Rattle.rules.specs.RingAnswers.{smaller, larger}
use Rattle.rules.specs.Crossing.{before, overlap, aside, meets, folds}
use Rattle.rules.proofs.Laws.Checks.{lt_z_true, lt_z_false, or_true, or_false}
use Rattle.rules.proofs.Laws.Meeting.{T_and}
use Rattle.rules.proofs.Laws.Folding.{T_zero}
use Rattle.ring_boxes.specs.Boxes.{lower, upper}
use Rattle.ring_corners.specs.Laws.Extremes.{min_is, max_is}
use Rattle.ring_pairs.specs.Crossings.{outside, away, straddle, ahead, no_length}
use Rattle.ring_corners.specs.Laws.Sides.{le_z_true, le_z_false}
use Rattle.ring_corners.specs.Laws.Tests.{and_true, and_left, and_right, zero_is}
use Rattle.ring_corners.specs.Sides.{sign_of}
use Rattle.std.specs.declared.cmp.Ordering.{Ordering}
use Rattle.std.specs.declared.cmp.Ordering.TheVariants.{Equal}

-- ---- boxes, by the smaller and the larger end
implied : (x y : Bool) → (x ≡ true → y ≡ true) → x ≡ (x && y)
implied true y h = sym (h refl)
implied false y h = refl

implied' : (x y : Bool) → (x ≡ true → y ≡ true) → x ≡ (y && x)
implied' true y h = sym (and_true (h refl) refl)
implied' false y h = sym (and_right y refl)

pub larger_below : (a b c : ℤ) → lt_z (larger a b) c ≡ (lt_z a c && lt_z b c)
unfolding larger
larger_below a b c = go (lt_z a b) refl
  where
    go : (t : Bool) → lt_z a b ≡ t → lt_z (elim t [ true ↦ b | false ↦ a ]) c ≡ (lt_z a c && lt_z b c)
    go true e = implied' (lt_z b c) (lt_z a c) (λ h. (lt_z_true a c).1 (<ℤ_trans ((lt_z_true a b).0 e) ((lt_z_true b c).0 h)))
    go false e = implied (lt_z a c) (lt_z b c) (λ h. (lt_z_true b c).1 (≤ℤ-<ℤ_trans ((lt_z_false a b).0 e) ((lt_z_true a c).0 h)))

pub smaller_above : (a b c : ℤ) → lt_z c (smaller a b) ≡ (lt_z c a && lt_z c b)
unfolding smaller
smaller_above a b c = go (lt_z b a) refl
  where
    go : (t : Bool) → lt_z b a ≡ t → lt_z c (elim t [ true ↦ b | false ↦ a ]) ≡ (lt_z c a && lt_z c b)
    go true e = implied' (lt_z c b) (lt_z c a) (λ h. (lt_z_true c a).1 (<ℤ_trans ((lt_z_true c b).0 h) ((lt_z_true b a).0 e)))
    go false e = implied (lt_z c a) (lt_z c b) (λ h. (lt_z_true c b).1 (<ℤ-≤ℤ_trans ((lt_z_true c a).0 h) ((lt_z_false b a).0 e)))

and_four : (a b c d : Bool) → ((a && b) && (c && d)) ≡ ((a && c) && (b && d))
and_four true true c d = refl
and_four true false true d = refl
and_four true false false d = refl
and_four false b c d = refl

neither : (x y : Bool) → not (not x && not y) ≡ (x || y)
neither true y = refl
neither false true = refl
neither false false = refl

apart_is : (a b c d : ℤ) → outside (smaller a b) (larger a b) c d ≡ not (overlap a b c d)
unfolding outside overlap before
apart_is a b c d =
    ap₂ ◌||◌
    (ap₂ ◌&&◌ (larger_below a b c) (larger_below a b d) ∙ and_four (lt_z a c) (lt_z b c) (lt_z a d) (lt_z b d))
    (ap₂ ◌&&◌ (smaller_above a b c) (smaller_above a b d))
    ∙ sym (neither ((lt_z a c && lt_z a d) && (lt_z b c && lt_z b d)) ((lt_z c a && lt_z c b) && (lt_z d a && lt_z d b)))

pub outside_is : (low high c d : ℤ) → (lt_z high (smaller c d) || lt_z (larger c d) low) ≡ outside low high c d
unfolding outside
outside_is low high c d = ap₂ ◌||◌ (smaller_above c d high) (larger_below c d low)

-- as the code tests it: m and n are the lesser and the greater of c and d
module _ (low high c d m : ℤ) (lesser : m ≡ int_min c d) where
  at : m ≡ smaller c d
  at = lesser ∙ min_is c d

  pub over_high : high <ℤ m → lt_z high m ≡ outside low high c d
  over_high h = (lt_z_true high m).1 h ∙ sym ((or_true _ _).1 (inl (ap (lt_z high) (sym at) ∙ (lt_z_true high m).1 h))) ∙ outside_is low high c d

  pub under_low : (n : ℤ) → n ≡ int_max c d → m ≤ℤ high → lt_z n low ≡ outside low high c d
  under_low n greater h =
      ap (λ (z : ℤ). lt_z z low) (greater ∙ max_is c d)
      ∙ ap (λ (t : Bool). t || lt_z (larger c d) low) (sym ((lt_z_false high m).1 h) ∙ ap (lt_z high) at)
      ∙ outside_is low high c d

-- one test after the other
module _ (low high c d : ℤ) where
  pub clear_above : high <ℤ c → (lt_z high c || lt_z d low) ≡ true
  clear_above h = (or_true (lt_z high c) (lt_z d low)).1 (inl ((lt_z_true high c).1 h))

  pub clear_below : d <ℤ low → (lt_z high c || lt_z d low) ≡ true
  clear_below h = (or_true (lt_z high c) (lt_z d low)).1 (inr ((lt_z_true d low).1 h))

  pub not_clear : c ≤ℤ high → low ≤ℤ d → (lt_z high c || lt_z d low) ≡ false
  not_clear h k = (or_false (lt_z high c) (lt_z d low)).1 ((lt_z_false high c).1 h, (lt_z_false d low).1 k)

-- ---- signs
module _ (s t : ℤ) where
  pub aside_positive : pos 0 <ℤ s → pos 0 <ℤ t → aside s t ≡ true
  unfolding aside
  aside_positive h k = (or_true _ _).1 (inl (and_true ((lt_z_true (pos 0) s).1 h) ((lt_z_true (pos 0) t).1 k)))

  pub not_positive : pos 0 <ℤ s → t ≤ℤ pos 0 → aside s t ≡ false
  unfolding aside
  not_positive h k = (or_false _ _).1 (and_right (lt_z (pos 0) s) ((lt_z_false (pos 0) t).1 k), and_left _ ((lt_z_false s (pos 0)).1 (<ℤ→≤ℤ h)))

  pub aside_negative : s <ℤ pos 0 → t <ℤ pos 0 → aside s t ≡ true
  unfolding aside
  aside_negative h k = (or_true (lt_z (pos 0) s && lt_z (pos 0) t) _).1 (inr (and_true ((lt_z_true s (pos 0)).1 h) ((lt_z_true t (pos 0)).1 k)))

  pub not_negative : s <ℤ pos 0 → pos 0 ≤ℤ t → aside s t ≡ false
  unfolding aside
  not_negative h k = (or_false _ _).1 (and_left _ ((lt_z_false (pos 0) s).1 (<ℤ→≤ℤ h)), and_right (lt_z s (pos 0)) ((lt_z_false t (pos 0)).1 k))

  pub not_aside : s ≤ℤ pos 0 → pos 0 ≤ℤ s → aside s t ≡ false
  unfolding aside
  not_aside h k = (or_false _ _).1 (and_left _ ((lt_z_false (pos 0) s).1 h), and_left _ ((lt_z_false s (pos 0)).1 k))

module _ (a b c d : Corner) where
  pub aside_first : aside (D a b c) (D a b d) ≡ true → straddle a b c d ≡ false
  unfolding straddle
  aside_first e = and_left _ (ap not e)

  pub aside_second : aside (D c d a) (D c d b) ≡ true → straddle a b c d ≡ false
  unfolding straddle
  aside_second e = and_right (not (aside (D a b c) (D a b d))) (ap not e)

  pub aside_neither : aside (D a b c) (D a b d) ≡ false → aside (D c d a) (D c d b) ≡ false → straddle a b c d ≡ true
  unfolding straddle
  aside_neither e f = and_true (ap not e) (ap not f)

not_yes : (x : Bool) → not x ≡ true → x ≡ false
not_yes true e = sym e
not_yes false e = refl

not_no : (x : Bool) → not x ≡ false → x ≡ true
not_no true e = refl
not_no false e = sym e

module _ (a b c d : Corner) where
  -- two edges, by their boxes and then by the sides
  abbrev over_x : Bool
  over_x = overlap a.x b.x c.x d.x

  abbrev over_y : Bool
  over_y = overlap a.y b.y c.y d.y

  meets_is : meets (a to b) (c to d) ≡ ((over_x && over_y) && straddle a b c d)
  unfolding meets straddle
  meets_is = refl

  apart_in_x : not over_x ≡ true → meets (a to b) (c to d) ≡ false
  apart_in_x e = meets_is ∙ and_left (straddle a b c d) (and_left over_y (not_yes over_x e))

  apart_in_y : not over_y ≡ true → meets (a to b) (c to d) ≡ false
  apart_in_y e = meets_is ∙ and_left (straddle a b c d) (and_right over_x (not_yes over_y e))

  by_sides : not over_x ≡ false → not over_y ≡ false → meets (a to b) (c to d) ≡ straddle a b c d
  by_sides e f = meets_is ∙ ap (λ (t : Bool). t && straddle a b c d) (and_true (not_no over_x e) (not_no over_y f))

-- ---- an edge and the one after it
same_zero : (a b : ℤ) → a ≤ℤ b → b ≤ℤ a → is_zero (b -ℤ a) ≡ true
same_zero a b h k = and_true ((le_z_true (b -ℤ a) (pos 0)).1 (up a b k)) ((le_z_true (pos 0) (b -ℤ a)).1 (down a b h))
  where
    up : (a b : ℤ) → b ≤ℤ a → (b -ℤ a) ≤ℤ pos 0
    up a b = lin (a ∷ b ∷ []) λ u v e1 e2. simp (Z·ℕ, e1, e2) (omega arith)

    down : (a b : ℤ) → a ≤ℤ b → pos 0 ≤ℤ (b -ℤ a)
    down a b = lin (a ∷ b ∷ []) λ u v e1 e2. simp (Z·ℕ, e1, e2) (omega arith)

above_zero : (a b : ℤ) → a <ℤ b → is_zero (b -ℤ a) ≡ false
above_zero a b h = and_left _ ((le_z_false (b -ℤ a) (pos 0)).1 (up a b h))
  where
    up : (a b : ℤ) → a <ℤ b → pos 0 <ℤ (b -ℤ a)
    up a b = lin (a ∷ b ∷ []) λ u v e1 e2. simp (Z·ℕ, e1, e2) (omega arith)

below_zero : (a b : ℤ) → b <ℤ a → is_zero (b -ℤ a) ≡ false
below_zero a b h = and_right (le_z (b -ℤ a) (pos 0)) ((le_z_false (pos 0) (b -ℤ a)).1 (down a b h))
  where
    down : (a b : ℤ) → b <ℤ a → (b -ℤ a) <ℤ pos 0
    down a b = lin (a ∷ b ∷ []) λ u v e1 e2. simp (Z·ℕ, e1, e2) (omega arith)

-- an edge by the order of its ends
module _ (a b : Corner) where
  pub north : a.x <ℤ b.x → no_length a b ≡ false
  unfolding no_length
  north h = and_left _ (above_zero a.x b.x h)

  pub south : b.x <ℤ a.x → no_length a b ≡ false
  unfolding no_length
  south h = and_left _ (below_zero a.x b.x h)

  pub east : a.y <ℤ b.y → no_length a b ≡ false
  unfolding no_length
  east h = and_right (is_zero (b.x -ℤ a.x)) (above_zero a.y b.y h)

  pub west : b.y <ℤ a.y → no_length a b ≡ false
  unfolding no_length
  west h = and_right (is_zero (b.x -ℤ a.x)) (below_zero a.y b.y h)

  pub none : a.x ≤ℤ b.x → b.x ≤ℤ a.x → a.y ≤ℤ b.y → b.y ≤ℤ a.y → no_length a b ≡ true
  unfolding no_length
  none h k l m = and_true (same_zero a.x b.x h k) (same_zero a.y b.y l m)

equal_is : (a b : ℤ) → int_eq a b ≡ is_zero (b -ℤ a)
equal_is a b = go (int_eq a b) refl
  where
    d : Decides (int_eq a b) (a ≡ b)
    d = Decides-int_eq a b

    go : (t : Bool) → int_eq a b ≡ t → int_eq a b ≡ is_zero (b -ℤ a)
    go true e = let h = d.0 e in e ∙ sym (same_zero a b (≤ℤ_of_eq h) (≤ℤ_of_eq (sym h)))
    go false e = ⊎_elim
        (λ h. e ∙ sym (above_zero a b h))
        (λ k. ⊎_elim (λ h. absurd (false≢true (sym e ∙ d.1 h))) (λ h. e ∙ sym (below_zero a b h)) k)
        (tricho a b)

-- equality of two corners, as it is derived
pub same_is : (a b : Corner) → (int_eq a.x b.x && int_eq a.y b.y) ≡ no_length a b
unfolding no_length
same_is a b = ap₂ ◌&&◌ (equal_is a.x b.x) (equal_is a.y b.y)

-- an edge of no length is on one line with every corner
level : (a b c : Corner) → no_length a b ≡ true → D a b c ≡ pos 0
unfolding no_length D
level a b c e =
    let t = T_and (is_zero (b.x -ℤ a.x)) (is_zero (b.y -ℤ a.y)) (subst T (sym e) tt) in
    ap₂ (λ (u v : ℤ). u *ℤ (c.y -ℤ a.y) -ℤ (c.x -ℤ a.x) *ℤ v) (T_zero (b.x -ℤ a.x) t.0) (T_zero (b.y -ℤ a.y) t.1) ∙ nothing (c.y -ℤ a.y) (c.x -ℤ a.x)
  where
    nothing : (u v : ℤ) → pos 0 *ℤ u -ℤ v *ℤ pos 0 ≡ pos 0
    nothing u v = lin (u ∷ v ∷ []) λ i j e1 e2. simp (Z·ℕ, e1, e2) (omega arith)

module _ (a b c : Corner) where
  pub straight_none : no_length a b ≡ true → (lt_z (ahead a b c) (pos 0) || no_length a b) ≡ true
  straight_none e = (or_true (lt_z (ahead a b c) (pos 0)) _).1 (inr e)

  pub straight_back : no_length a b ≡ false → (lt_z (ahead a b c) (pos 0) || no_length a b) ≡ lt_z (ahead a b c) (pos 0)
  straight_back e = ap (λ (t : Bool). lt_z (ahead a b c) (pos 0) || t) e ∙ or_none (lt_z (ahead a b c) (pos 0))
    where
      or_none : (x : Bool) → (x || false) ≡ x
      or_none true = refl
      or_none false = refl

  -- on one line or not
  pub folds_straight : is_zero (D a b c) ≡ true → folds (a to b) (b to c) ≡ (lt_z (ahead a b c) (pos 0) || no_length a b)
  unfolding folds no_length ahead
  folds_straight e = rw e refl

  pub folds_bent : is_zero (D a b c) ≡ false → folds (a to b) (b to c) ≡ false
  unfolding folds no_length ahead
  folds_bent bent = (or_false _ _).1 (and_left _ bent, some_length (no_length a b) refl)
    where
      some_length : (t : Bool) → no_length a b ≡ t → t ≡ false
      some_length true g = absurd (subst T (sym (ap is_zero (level a b c g)) ∙ bent) tt)
      some_length false g = refl

  pub folds_level : sign_of (D a b c) ≡ Equal → folds (a to b) (b to c) ≡ (lt_z (ahead a b c) (pos 0) || no_length a b)
  folds_level e = folds_straight (zero_is (D a b c) ∙ ap is_eq e)

  pub folds_aside : (s : Ordering) → sign_of (D a b c) ≡ s → is_eq s ≡ false → folds (a to b) (b to c) ≡ false
  folds_aside s e f = folds_bent (zero_is (D a b c) ∙ ap is_eq e ∙ f)

-- ---- boxes that are away
pub away_x : (low high c d : Corner) → outside low.x high.x c.x d.x ≡ true → away low high c d ≡ true
unfolding away
away_x low high c d e = (or_true _ _).1 (inl e)

pub away_y : (low high c d : Corner) → outside low.x high.x c.x d.x ≡ false → away low high c d ≡ outside low.y high.y c.y d.y
unfolding away
away_y low high c d e = rw e refl

-- an edge whose box is away does not meet
pub away_apart : (a b c d : Corner) → away (lower a b) (upper a b) c d ≡ true → meets (a to b) (c to d) ≡ false
unfolding away
away_apart a b c d e = ⊎_elim
    (λ f. apart_in_x a b c d (sym (apart_is a.x b.x c.x d.x) ∙ f))
    (λ f. apart_in_y a b c d (sym (apart_is a.y b.y c.y d.y) ∙ f))
    ((or_true _ _).0 e)

-- and of one that is not away the sides decide
pub near_sides : (a b c d : Corner) → away (lower a b) (upper a b) c d ≡ false → meets (a to b) (c to d) ≡ straddle a b c d
unfolding away
near_sides a b c d e =
    let f = (or_false _ _).0 e in
    by_sides a b c d (sym (apart_is a.x b.x c.x d.x) ∙ f.0) (sym (apart_is a.y b.y c.y d.y) ∙ f.1)
