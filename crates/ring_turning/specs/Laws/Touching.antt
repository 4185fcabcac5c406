-- Whether a point lies on an edge, and what the edge adds otherwise, by the sign of D. Assumes nothing.
use Rattle.std.specs.Prelude.{◌≡◌, refl, Bool, true, false, ◌&&◌, ◌⊎◌, zero, suc, T, ℤ, pos, negsuc, neg_ℤ, ◌-ℤ◌, ◌≤ℤ◌, ◌<ℤ◌, Option, Some, None}
use Rattle.std.proofs.Common.{sym, ◌∙◌, subst, inl, inr, ⊎_elim}
use Rattle.std.proofs.Math.Path.{ap}
use Rattle.std.proofs.Math.Dec.{leb-suc-zero}
use Rattle.std.specs.Int.Signed.{le_z, lt_z}
use Rattle.arith.specs.Laws.Order.{≤ℤ_or-<ℤ, <ℤ→≤ℤ}
use Rattle.rules.specs.Rings.{Corner, Edge, D, turn, bit, ◌to◌, is_zero, between, on}
use Rattle.rules.proofs.Laws.Checks.{or_true, or_false}
use Rattle.rules.proofs.Laws.Folding.{T_zero}
use Rattle.rules.proofs.Laws.Sums.{side_back}
use Rattle.ring_corners.specs.Corners.{Near}
use Rattle.ring_corners.specs.Sides.{sign_of, rise_of, fall_of}
use Rattle.ring_turning.specs.Touching.{touch_of, touch_by}
use Rattle.ring_corners.specs.Laws.Tests.{and_true, and_left, and_right, zero_is}
use Rattle.ring_corners.specs.Laws.Sides.{turn_north, le_z_true, le_z_false, Amid, sign_positive, sign_negative, above_both, below_both, near_between, turn_rises, turn_falls}
use Rattle.std.specs.declared.cmp.Ordering.{Ordering}
use Rattle.std.specs.declared.cmp.Ordering.TheVariants.{Less, Equal, Greater}
use Rattle.std.specs.Ordering.{is_eq}
use Rattle.std.specs.Option.{unwrap_or}

-- ---- between
pub between_yes : (a b z : ℤ) → Amid a b z → between a b z ≡ true
unfolding between
between_yes a b z h = (or_true _ _).1 (⊎_elim
    (λ k. inl (and_true ((le_z_true a z).1 k.0) ((le_z_true z b).1 k.1)))
    (λ k. inr (and_true ((le_z_true b z).1 k.0) ((le_z_true z a).1 k.1)))
    h)

pub between_below : (a b z : ℤ) → z <ℤ a → z <ℤ b → between a b z ≡ false
unfolding between
between_below a b z h k = (or_false _ _).1 (and_left _ ((le_z_false a z).1 h), and_left _ ((le_z_false b z).1 k))

pub between_above : (a b z : ℤ) → a <ℤ z → b <ℤ z → between a b z ≡ false
unfolding between
between_above a b z h k = (or_false _ _).1 (and_right (le_z a z) ((le_z_false z b).1 k), and_right (le_z b z) ((le_z_false z a).1 h))

amid_or : (a b z : ℤ) → Amid a b z ⊎ (((z <ℤ a) × (z <ℤ b)) ⊎ ((a <ℤ z) × (b <ℤ z)))
amid_or a b z = ⊎_elim
    (λ h. ⊎_elim (λ k. inl (inl (h, k))) (λ k. over h k (≤ℤ_or-<ℤ z a)) (≤ℤ_or-<ℤ z b))
    (λ h. ⊎_elim (λ k. inl (inr (k, <ℤ→≤ℤ h))) (λ k. inr (inl (h, k))) (≤ℤ_or-<ℤ b z))
    (≤ℤ_or-<ℤ a z)
  where
    over : a ≤ℤ z → b <ℤ z → (z ≤ℤ a) ⊎ (a <ℤ z) → Amid a b z ⊎ (((z <ℤ a) × (z <ℤ b)) ⊎ ((a <ℤ z) × (b <ℤ z)))
    over h k (inl l) = inl (inr (<ℤ→≤ℤ k, l))
    over h k (inr l) = inr (inr (l, k))

pub between_amid : (a b z : ℤ) → between a b z ≡ true → Amid a b z
between_amid a b z e = ⊎_elim (λ h. h)
    (λ h. absurd (⊎_elim (λ k. subst T (sym e ∙ between_below a b z k.0 k.1) tt) (λ k. subst T (sym e ∙ between_above a b z k.0 k.1) tt) h))
    (amid_or a b z)

-- ---- zero
zero_neg : (z : ℤ) → is_zero (neg_ℤ z) ≡ is_zero z
zero_neg (pos zero) = refl
zero_neg (pos (suc n)) = rw (leb-suc-zero n) refl
zero_neg (negsuc n) = rw (leb-suc-zero n) refl

-- ---- on an edge, or not
pick : Option ℤ → Bool → Option ℤ
pick t b = elim b [ true ↦ None | false ↦ t ]

module _ (a b p : Corner) where
  on_edge : is_zero (D a b p) ≡ true → between a.x b.x p.x ≡ true → between a.y b.y p.y ≡ true → touch_of p (a to b) ≡ None
  unfolding touch_of on pick
  on_edge d x y = ap (pick (Some (turn p (a to b)))) (and_true d (and_true x y))

  off_line : is_zero (D a b p) ≡ false → touch_of p (a to b) ≡ Some (turn p (a to b))
  unfolding touch_of on pick
  off_line d = ap (pick (Some (turn p (a to b)))) (and_left _ d)

  off_x : between a.x b.x p.x ≡ false → touch_of p (a to b) ≡ Some (turn p (a to b))
  unfolding touch_of on pick
  off_x e = ap (pick (Some (turn p (a to b)))) (and_right (is_zero (D a b p)) (and_left _ e))

  off_y : between a.y b.y p.y ≡ false → touch_of p (a to b) ≡ Some (turn p (a to b))
  unfolding touch_of on pick
  off_y e = ap (pick (Some (turn p (a to b)))) (and_right (is_zero (D a b p)) (and_right (between a.x b.x p.x) e))

-- where D = 0 on an edge that passes the point, the point lies between its ends in Y
amid_zero : (a b p : Corner) → a.x ≤ℤ p.x → p.x <ℤ b.x → sign_of (D a b p) ≡ Equal → Amid a.y b.y p.y
amid_zero a b p h k e = ⊎_elim (λ m. m)
    (λ m. absurd (⊎_elim
    (λ n. no (subst (λ (s : Ordering). is_eq s ≡ true) (sym e ∙ sign_negative (D a b p) (below_both a b p h k n.0 n.1)) refl))
    (λ n. no (subst (λ (s : Ordering). is_eq s ≡ true) (sym e ∙ sign_positive (D a b p) (above_both a b p h k n.0 n.1)) refl))
    m))
    (amid_or a.y b.y p.y)
  where
    no : false ≡ true → ⊥
    no f = subst T (sym f) tt

swap : {a b z : ℤ} → Amid a b z → Amid b a z
swap h = ⊎_elim (λ k. inr k) (λ k. inl k) h

module _ (a b p : Corner) where
  pub touch_rises : a.x ≤ℤ p.x → p.x <ℤ b.x → touch_of p (a to b) ≡ touch_by (pos 1) (sign_of (D a b p))
  touch_rises h k = go (sign_of (D a b p)) refl
    where
      go : (s : Ordering) → sign_of (D a b p) ≡ s → touch_of p (a to b) ≡ touch_by (pos 1) s
      go Greater e = off_line a b p (zero_is (D a b p) ∙ ap is_eq e) ∙ ap Some (turn_rises a b p h k ∙ ap rise_of e)
      go Equal e =
          on_edge a b p (zero_is (D a b p) ∙ ap is_eq e) (between_yes a.x b.x p.x (inl (h, <ℤ→≤ℤ k)))
          (between_yes a.y b.y p.y (amid_zero a b p h k e))
      go Less e = off_line a b p (zero_is (D a b p) ∙ ap is_eq e) ∙ ap Some (turn_rises a b p h k ∙ ap rise_of e)

  pub touch_falls : b.x ≤ℤ p.x → p.x <ℤ a.x → touch_of p (a to b) ≡ touch_by (negsuc 0) (sign_of (D b a p))
  touch_falls h k = go (sign_of (D b a p)) refl
    where
      zero_as : (s : Ordering) → sign_of (D b a p) ≡ s → is_zero (D a b p) ≡ is_eq s
      zero_as s e = ap is_zero (side_back b a p) ∙ zero_neg (D b a p) ∙ zero_is (D b a p) ∙ ap is_eq e

      go : (s : Ordering) → sign_of (D b a p) ≡ s → touch_of p (a to b) ≡ touch_by (negsuc 0) s
      go Greater e = off_line a b p (zero_as Greater e) ∙ ap Some (turn_falls a b p h k ∙ ap fall_of e)
      go Equal e =
          on_edge a b p (zero_as Equal e) (between_yes a.x b.x p.x (inr (h, <ℤ→≤ℤ k)))
          (between_yes a.y b.y p.y (swap (amid_zero b a p h k e)))
      go Less e = off_line a b p (zero_as Less e) ∙ ap Some (turn_falls a b p h k ∙ ap fall_of e)

  pub touch_north : p.x <ℤ a.x → p.x <ℤ b.x → touch_of p (a to b) ≡ Some (pos 0)
  touch_north h k = off_x a b p (between_below a.x b.x p.x h k) ∙ ap Some (turn_north a b p h k)

  -- an edge that adds nothing
  module _ (none : turn p (a to b) ≡ pos 0) where
    pub touch_off_x : between a.x b.x p.x ≡ false → touch_of p (a to b) ≡ Some (pos 0)
    touch_off_x e = off_x a b p e ∙ ap Some none

    pub touch_off_y : between a.y b.y p.y ≡ false → touch_of p (a to b) ≡ Some (pos 0)
    touch_off_y e = off_y a b p e ∙ ap Some none

    pub touch_off_line : is_eq (sign_of (D a b p)) ≡ false → touch_of p (a to b) ≡ Some (pos 0)
    touch_off_line e = off_line a b p (zero_is (D a b p) ∙ e) ∙ ap Some none

    -- by the sign of D
    pub touch_flats : between a.x b.x p.x ≡ true → between a.y b.y p.y ≡ true → touch_of p (a to b) ≡ touch_by (pos 0) (sign_of (D a b p))
    touch_flats x y = go (sign_of (D a b p)) refl
      where
        go : (s : Ordering) → sign_of (D a b p) ≡ s → touch_of p (a to b) ≡ touch_by (pos 0) s
        go Greater e = off_line a b p (zero_is (D a b p) ∙ ap is_eq e) ∙ ap Some none
        go Equal e = on_edge a b p (zero_is (D a b p) ∙ ap is_eq e) x y
        go Less e = off_line a b p (zero_is (D a b p) ∙ ap is_eq e) ∙ ap Some none

  pub touch_on : between a.x b.x p.x ≡ true → between a.y b.y p.y ≡ true → is_eq (sign_of (D a b p)) ≡ true → touch_of p (a to b) ≡ None
  touch_on x y e = on_edge a b p (zero_is (D a b p) ∙ e) x y

pub near_inside : (a b p : Corner) → Near b a → between a.x b.x p.x ≡ true → between a.y b.y p.y ≡ true → Near p a
near_inside a b p h x y = near_between a b p h (between_amid a.x b.x p.x x) (between_amid a.y b.y p.y y)

-- ---- what an edge adds, by what it tells: nothing where the point lies on it
idle : (a b c d : Bool) → bit (a && (b && false)) -ℤ bit (c && (d && false)) ≡ pos 0
idle a b c d = rw (and_right a (and_right b refl), and_right c (and_right d refl)) refl

turn_on : (p : Corner) (e : Edge) → is_zero (D e.tail e.head p) ≡ true → turn p e ≡ pos 0
unfolding turn
turn_on p e h =
    ap (λ (z : ℤ). bit (le_z e.tail.x p.x && (lt_z p.x e.head.x && lt_z (pos 0) z)) -ℤ bit (le_z e.head.x p.x && (lt_z p.x e.tail.x && lt_z z (pos 0)))) (T_zero (D e.tail e.head p) (subst T (sym h) tt))
    ∙ idle (le_z e.tail.x p.x) (lt_z p.x e.head.x) (le_z e.head.x p.x) (lt_z p.x e.tail.x)

and_first : (a b : Bool) → (a && b) ≡ true → a ≡ true
and_first true b h = refl
and_first false b h = h

pub turn_of_touch : (p : Corner) (e : Edge) → unwrap_or (touch_of p e) (pos 0) ≡ turn p e
unfolding touch_of on pick
turn_of_touch p e = go (on p e) refl
  where
    go : (b : Bool) → on p e ≡ b → unwrap_or (pick (Some (turn p e)) b) (pos 0) ≡ turn p e
    go true h = sym (turn_on p e (and_first (is_zero (D e.tail e.head p)) (between e.tail.x e.head.x p.x && between e.tail.y e.head.y p.y) h))
    go false h = refl

-- the same of an edge that passes the point in X
module _ (a b p : Corner) where
  pub turn_rise_told : a.x ≤ℤ p.x → p.x <ℤ b.x → unwrap_or (touch_by (pos 1) (sign_of (D a b p))) (pos 0) ≡ turn p (a to b)
  turn_rise_told h k = ap (λ (t : Option ℤ). unwrap_or t (pos 0)) (sym (touch_rises a b p h k)) ∙ turn_of_touch p (a to b)

  pub turn_fall_told : b.x ≤ℤ p.x → p.x <ℤ a.x → unwrap_or (touch_by (negsuc 0) (sign_of (D b a p))) (pos 0) ≡ turn p (a to b)
  turn_fall_told h k = ap (λ (t : Option ℤ). unwrap_or t (pos 0)) (sym (touch_falls a b p h k)) ∙ turn_of_touch p (a to b)
