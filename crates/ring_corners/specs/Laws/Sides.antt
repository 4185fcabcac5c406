-- The sign of D by cases: a point beyond both ends in Y, and one between them. Assumes nothing.
use Rattle.std.specs.Prelude.{◌≡◌, Bool, true, false, ◌&&◌, ◌↔◌, ◌⊎◌, [], ◌∷◌, ℕ, zero, suc, ◌≤◌, T, ℤ, negsuc, nat_abs, neg_ℤ, ◌+ℤ◌, ◌-ℤ◌, ◌*ℤ◌, ◌≤ℤ◌, ◌<ℤ◌}
use Rattle.std.proofs.Math.Path.{refl, subst}
use Rattle.std.proofs.Common.{sym, ◌∙◌, ap, ap₂, ⊎_elim, arith}
use Rattle.std.proofs.Math.Dec.{leb-zero, leb-suc-zero, leb-suc-suc}
use Rattle.std.proofs.Math.IntN.{pos}
use Rattle.std.specs.Ordering.{int_cmp, MatchOrdering}
use Rattle.std.specs.Cmp.{int_ranks}
use Rattle.std.specs.Int.Signed.{le_z, lt_z, le_z_yes, clash_ℤ, ≤ℤ_refl}
use Rattle.arith.specs.Laws.Diff.{Z·ℕ, Z·abs, lin}
use Rattle.arith.specs.Laws.Order.{≤ℤ_or-<ℤ, ≤ℤ_antisym, <ℤ→≤ℤ, mul_nonneg, mul_pos_pos, sub_nonneg, sub_pos, +ℤ_mono-<}
use Rattle.arith.specs.Laws.Ring.{ring, Z·ring, by_ring}
use Rattle.rules.specs.Rings.{Corner, Edge, D, area_term, turn, bit, ◌to◌}
use Rattle.rules.proofs.Laws.Checks.{lt_z_true, lt_z_false}
use Rattle.rules.proofs.Laws.Sums.{side_back}
use Rattle.ring_corners.specs.Corners.{seen_from, Small, Apart, Near, Wide}
use Rattle.ring_corners.specs.Sides.{sign_of, rise_of, fall_of}
use Rattle.std.specs.declared.cmp.Ordering.{Ordering}
use Rattle.std.specs.declared.cmp.Ordering.TheVariants.{Less, Equal, Greater}

-- ---- tests
pub le_z_true : (a b : ℤ) → (le_z a b ≡ true) ↔ (a ≤ℤ b)
le_z_true a b = (λ e. le_z_yes (rw e tt), λ h. go (le_z a b) h.le)
  where
    go : (x : Bool) → T x → x ≡ true
    go true t = refl
    go false t = absurd t

pub le_z_false : (a b : ℤ) → (le_z a b ≡ false) ↔ (b <ℤ a)
le_z_false a b = (λ e. ⊎_elim (λ h. absurd (subst T e h.le)) (λ h. h) (≤ℤ_or-<ℤ a b), λ h. go (le_z a b) refl h)
  where
    go : (x : Bool) → le_z a b ≡ x → b <ℤ a → x ≡ false
    go true e h = absurd (clash_ℤ h ((le_z_true a b).0 e))
    go false e h = refl

-- ---- signs
pub sign_positive : (z : ℤ) → pos 0 <ℤ z → sign_of z ≡ Greater
unfolding sign_of
sign_positive (pos zero) h = absurd (clash_ℤ h (≤ℤ_refl (pos 0)))
sign_positive (pos (suc n)) h = refl
sign_positive (negsuc n) h = absurd h.lt

pub sign_negative : (z : ℤ) → z <ℤ pos 0 → sign_of z ≡ Less
unfolding sign_of
sign_negative (pos n) h = absurd (clash_ℤ h (record { le = subst T (sym (leb-zero n)) tt }))
sign_negative (negsuc n) h = refl

zero_sign_of : sign_of (pos 0) ≡ Equal
unfolding sign_of
zero_sign_of = refl

-- as std compares a number with 0
pub sign_is : (z : ℤ) → int_cmp z (pos 0) ≡ sign_of z
sign_is z = go (int_cmp z (pos 0)) (int_ranks z (pos 0))
  where
    go : (o : Ordering) → MatchOrdering o (z <ℤ pos 0) (z ≡ pos 0) (pos 0 <ℤ z) → o ≡ sign_of z
    go Less h = sym (sign_negative z h)
    go Equal h = sym (ap sign_of h ∙ zero_sign_of)
    go Greater h = sym (sign_positive z h)

-- ---- D, seen from the edge's start
pub seen_small : {w : ℕ} (a b c : Corner) → Apart w b a → c ≡ seen_from a b → Small w c
seen_small a b c h e = rw e (h.x_near, h.y_near)

pub side_is : {z : ℤ} (a b p u v : Corner) → z ≡ area_term (u to v) → u ≡ seen_from a b → v ≡ seen_from a p → z ≡ D a b p
unfolding D area_term
side_is a b p u v e f g = e ∙ ap₂ (λ (s t : Corner). area_term (s to t)) f g

pub sign_zero : (z : ℤ) → z ≤ℤ pos 0 → pos 0 ≤ℤ z → sign_of z ≡ Equal
unfolding sign_of
sign_zero z h k = ap sign_of (≤ℤ_antisym h k)

-- ---- D, by how far p lies from the ends
parts : (ax ay bx by px py : ℤ) → (bx -ℤ ax) *ℤ (py -ℤ ay) -ℤ (px -ℤ ax) *ℤ (by -ℤ ay) ≡ (bx -ℤ px) *ℤ (py -ℤ ay) +ℤ (px -ℤ ax) *ℤ (py -ℤ by)
parts ax ay bx by px py =
    ring (ax ∷ ay ∷ bx ∷ by ∷ px ∷ py ∷ []) λ ρ e1 e2 e3 e4 e5 e6. simp (Z·ring, e1, e2, e3, e4, e5, e6) (by_ring _ _ _ refl)

parts_below : (ax ay bx by px py : ℤ)
    → neg_ℤ ((bx -ℤ ax) *ℤ (py -ℤ ay) -ℤ (px -ℤ ax) *ℤ (by -ℤ ay)) ≡ (bx -ℤ px) *ℤ (ay -ℤ py) +ℤ (px -ℤ ax) *ℤ (by -ℤ py)
parts_below ax ay bx by px py =
    ring (ax ∷ ay ∷ bx ∷ by ∷ px ∷ py ∷ []) λ ρ e1 e2 e3 e4 e5 e6. simp (Z·ring, e1, e2, e3, e4, e5, e6) (by_ring _ _ _ refl)

neg_pos : (z : ℤ) → pos 0 <ℤ neg_ℤ z → z <ℤ pos 0
neg_pos z = lin (z ∷ []) λ u v e. simp (Z·ℕ, e) (omega arith)

module _ (a b p : Corner) (start : a.x ≤ℤ p.x) (stop : p.x <ℤ b.x) where
  pub above_both : a.y <ℤ p.y → b.y <ℤ p.y → pos 0 <ℤ D a b p
  unfolding D
  above_both h k = subst (λ (z : ℤ). pos 0 <ℤ z) (sym (parts a.x a.y b.x b.y p.x p.y))
      (+ℤ_mono-< (mul_pos_pos ((sub_pos p.x b.x).1 stop) ((sub_pos a.y p.y).1 h)) (mul_nonneg ((sub_nonneg a.x p.x).1 start) ((sub_nonneg b.y p.y).1 (<ℤ→≤ℤ k))))

  pub below_both : p.y <ℤ a.y → p.y <ℤ b.y → D a b p <ℤ pos 0
  unfolding D
  below_both h k = neg_pos _ (subst (λ (z : ℤ). pos 0 <ℤ z) (sym (parts_below a.x a.y b.x b.y p.x p.y))
      (+ℤ_mono-< (mul_pos_pos ((sub_pos p.x b.x).1 stop) ((sub_pos p.y a.y).1 h)) (mul_nonneg ((sub_nonneg a.x p.x).1 start) ((sub_nonneg p.y b.y).1 (<ℤ→≤ℤ k)))))

  pub sign_above : a.y <ℤ p.y → b.y <ℤ p.y → sign_of (D a b p) ≡ Greater
  sign_above h k = sign_positive (D a b p) (above_both h k)

  pub sign_below : p.y <ℤ a.y → p.y <ℤ b.y → sign_of (D a b p) ≡ Less
  sign_below h k = sign_negative (D a b p) (below_both h k)

-- ---- a point between the ends is as near as they are
between_up : (a b z : ℤ) (n : ℕ) → nat_abs (b -ℤ a) ≤ n → a ≤ℤ z → z ≤ℤ b → nat_abs (z -ℤ a) ≤ n
between_up a b z n = lin (a ∷ b ∷ z ∷ []) λ u v e1 e2 e3. simp (Z·abs, e1, e2, e3) (omega arith)

between_down : (a b z : ℤ) (n : ℕ) → nat_abs (b -ℤ a) ≤ n → b ≤ℤ z → z ≤ℤ a → nat_abs (z -ℤ a) ≤ n
between_down a b z n = lin (a ∷ b ∷ z ∷ []) λ u v e1 e2 e3. simp (Z·abs, e1, e2, e3) (omega arith)

-- z lies between a and b, in either order
abbrev pub Amid : ℤ → ℤ → ℤ → Type 0
Amid a b z = ((a ≤ℤ z) × (z ≤ℤ b)) ⊎ ((b ≤ℤ z) × (z ≤ℤ a))

amid_near : (a b z : ℤ) (n : ℕ) → nat_abs (b -ℤ a) ≤ n → Amid a b z → nat_abs (z -ℤ a) ≤ n
amid_near a b z n h k = ⊎_elim (λ k. between_up a b z n h k.0 k.1) (λ k. between_down a b z n h k.0 k.1) k

pub near_between : {w : ℕ} (a b p : Corner) → Apart w b a → Amid a.x b.x p.x → Amid a.y b.y p.y → Apart w p a
near_between {w} a b p h k l = record {
  x_near = amid_near a.x b.x p.x w h.x_near k;
  y_near = amid_near a.y b.y p.y w h.y_near l;
}

pub near_wide : {a b : Corner} → Near a b → Wide a b
near_wide h = let x = h.x_near in let y = h.y_near in record { x_near = omega arith; y_near = omega arith }

-- ---- what an edge adds to the turning number, by X alone and then by the sign of D
rise_bit : (z : ℤ) → bit (lt_z (pos 0) z) -ℤ pos 0 ≡ rise_of (sign_of z)
unfolding sign_of
rise_bit (pos zero) = refl
rise_bit (pos (suc n)) = rw (leb-suc-suc 0 n, leb-zero n) refl
rise_bit (negsuc n) = refl

fall_bit : (z : ℤ) → pos 0 -ℤ bit (lt_z (neg_ℤ z) (pos 0)) ≡ fall_of (sign_of z)
unfolding sign_of
fall_bit (pos zero) = refl
fall_bit (pos (suc n)) = refl
fall_bit (negsuc n) = rw (leb-suc-zero (suc n)) refl

abbrev counts : Bool → Bool → Bool → Bool → Bool → Bool → ℤ
counts a b c d e f = bit (a && (b && c)) -ℤ bit (d && (e && f))

and_false : (a c : Bool) → (a && (false && c)) ≡ false
and_false true c = refl
and_false false c = refl

module _ (a b p : Corner) where
  turn_is : turn p (a to b) ≡ counts (le_z a.x p.x) (lt_z p.x b.x) (lt_z (pos 0) (D a b p)) (le_z b.x p.x) (lt_z p.x a.x) (lt_z (D a b p) (pos 0))
  unfolding turn
  turn_is = refl

  pub turn_rises : a.x ≤ℤ p.x → p.x <ℤ b.x → turn p (a to b) ≡ rise_of (sign_of (D a b p))
  turn_rises h k = turn_is ∙ rw ((le_z_true a.x p.x).1 h, (lt_z_true p.x b.x).1 k, (le_z_false b.x p.x).1 k) (rise_bit (D a b p))

  pub turn_falls : b.x ≤ℤ p.x → p.x <ℤ a.x → turn p (a to b) ≡ fall_of (sign_of (D b a p))
  turn_falls h k =
      turn_is
      ∙ rw ((le_z_false a.x p.x).1 k, (le_z_true b.x p.x).1 h, (lt_z_true p.x a.x).1 k)
      (ap (λ (z : ℤ). pos 0 -ℤ bit (lt_z z (pos 0))) (side_back b a p) ∙ fall_bit (D b a p))

  pub turn_south : a.x ≤ℤ p.x → b.x ≤ℤ p.x → turn p (a to b) ≡ pos 0
  turn_south h k = turn_is ∙ rw ((lt_z_false p.x b.x).1 k, (lt_z_false p.x a.x).1 h, and_false (le_z a.x p.x), and_false (le_z b.x p.x)) refl

  pub turn_north : p.x <ℤ a.x → p.x <ℤ b.x → turn p (a to b) ≡ pos 0
  turn_north h k = turn_is ∙ rw ((le_z_false a.x p.x).1 h, (le_z_false b.x p.x).1 k) refl

pub turn_size : (p : Corner) (e : Edge) → nat_abs (turn p e) ≤ 1
unfolding turn
turn_size p e = go
    (le_z e.tail.x p.x && (lt_z p.x e.head.x && lt_z (pos 0) (D e.tail e.head p)))
    (le_z e.head.x p.x && (lt_z p.x e.tail.x && lt_z (D e.tail e.head p) (pos 0)))
  where
    go : (s t : Bool) → nat_abs (bit s -ℤ bit t) ≤ 1
    go true true = omega arith
    go true false = omega arith
    go false true = omega arith
    go false false = omega arith
