-- Corners are near one another as the tests of a pair ask it: those of an accepted ring, and those of two edges of different rings whose boxes touch. Assumes nothing.
use Rattle.std.specs.Prelude.{◌≡◌, refl, Bool, true, false, ◌&&◌, ◌⊎◌, List, [], ◌∷◌, ℕ, ◌+◌, ◌<◌, ◌≤◌, ℤ, nat_abs, ◌-ℤ◌, length, get_or, ◌≤ℤ◌}
use Rattle.std.proofs.Common.{inl, inr, ⊎_elim, arith}
use Rattle.std.specs.Int.Signed.{lt_z}
use Rattle.arith.specs.Laws.Diff.{Z·abs, lin}
use Rattle.arith.specs.Laws.Order.{abs_sub_comm}
use Rattle.rules.specs.Rings.{Corner, origin}
use Rattle.rules.specs.RingAnswers.{smaller, larger}
use Rattle.rules.proofs.Laws.Checks.{lt_z_false, or_false}
use Rattle.ring_corners.specs.Corners.{pairs, Apart, Near, Accepted}
use Rattle.ring_corners.specs.Laws.Sides.{near_wide}
use Rattle.ring_boxes.specs.Boxes.{lower, upper, Inside}
use Rattle.ring_boxes.specs.Laws.Spans.{ends_inside}
use Rattle.ring_pairs.specs.Crossings.{outside, away, AllNear, RowNear}

pub all_near : {l : List ℤ} → Accepted l → {i j k m : ℕ} → i < length (pairs l) → j < length (pairs l) → k < length (pairs l) → m < length (pairs l)
    → AllNear (get_or (pairs l) i origin) (get_or (pairs l) j origin) (get_or (pairs l) k origin) (get_or (pairs l) m origin)
all_near a {i} {j} {k} {m} h g f e = record {
  b_a = near_wide (a.near j i g h);
  c_a = near_wide (a.near k i f h);
  d_a = near_wide (a.near m i e h);
  d_c = near_wide (a.near m k e f);
  a_c = near_wide (a.near i k h f);
  b_c = near_wide (a.near j k g f);
}

pub row_near : {l : List ℤ} → Accepted l → {i j k : ℕ} → i < length (pairs l) → j < length (pairs l) → k < length (pairs l)
    → RowNear (get_or (pairs l) i origin) (get_or (pairs l) j origin) (get_or (pairs l) k origin)
row_near a {i} {j} {k} h g f = record { b_a = a.near j i g h; c_a = a.near k i f h; c_b = a.near k j f g }

-- ---- two edges whose boxes touch. Of one axis: c and d do not lie both above high, nor both below low
not_outside : (low high c d : ℤ) → outside low high c d ≡ false → ((c ≤ℤ high) ⊎ (d ≤ℤ high)) × ((low ≤ℤ c) ⊎ (low ≤ℤ d))
unfolding outside
not_outside low high c d e =
    let f = (or_false (lt_z high c && lt_z high d) (lt_z c low && lt_z d low)).0 e in (
      ⊎_elim (λ g. inl ((lt_z_false high c).0 g)) (λ g. inr ((lt_z_false high d).0 g)) (either (lt_z high c) (lt_z high d) f.0),
      ⊎_elim (λ g. inl ((lt_z_false c low).0 g)) (λ g. inr ((lt_z_false d low).0 g)) (either (lt_z c low) (lt_z d low) f.1),
    )
  where
    either : (x y : Bool) → (x && y) ≡ false → (x ≡ false) ⊎ (y ≡ false)
    either true y e = inr e
    either false y e = inl refl

none : (a : ℤ) (n : ℕ) → nat_abs (a -ℤ a) ≤ n
none a n = lin (a ∷ []) λ u v e1. simp (Z·abs, e1) (omega arith)

-- a box is as wide as its edge
spread : (a b : ℤ) (n : ℕ) → nat_abs (b -ℤ a) ≤ n → nat_abs (larger a b -ℤ smaller a b) ≤ n
unfolding larger smaller
spread a b n h = go (lt_z a b) (lt_z b a)
  where
    go : (s t : Bool) → nat_abs (elim s [ true ↦ b | false ↦ a ] -ℤ elim t [ true ↦ b | false ↦ a ]) ≤ n
    go true true = none b n
    go true false = h
    go false true = rw (abs_sub_comm a b) h
    go false false = none a n

-- s and t, which lie within n of q, are not above high and not below low; p lies from low to high
reach : (low high p q s t : ℤ) (n : ℕ) → nat_abs (high -ℤ low) ≤ n → low ≤ℤ p → p ≤ℤ high → nat_abs (s -ℤ q) ≤ n → s ≤ℤ high → nat_abs (t -ℤ q) ≤ n → low ≤ℤ t → nat_abs (q -ℤ p) ≤ n + n
reach low high p q s t n = lin (low ∷ high ∷ p ∷ q ∷ s ∷ t ∷ []) λ u v e1 e2 e3 e4 e5 e6. simp (Z·abs, e1, e2, e3, e4, e5, e6) (omega arith)

-- p lies in the box of a and b, and q is c or d, or lies as near to both of them
within : (a b c d p q : ℤ) (n : ℕ) → nat_abs (b -ℤ a) ≤ n → outside (smaller a b) (larger a b) c d ≡ false → smaller a b ≤ℤ p → p ≤ℤ larger a b → nat_abs (c -ℤ q) ≤ n → nat_abs (d -ℤ q) ≤ n
    → nat_abs (q -ℤ p) ≤ n + n
within a b c d p q n ab e k l f g =
    let o = not_outside (smaller a b) (larger a b) c d e in
    let top : (s : ℤ) × (nat_abs (s -ℤ q) ≤ n) × (s ≤ℤ larger a b) = ⊎_elim (λ h. (c, f, h)) (λ h. (d, g, h)) o.0 in
    let foot : (t : ℤ) × (nat_abs (t -ℤ q) ≤ n) × (smaller a b ≤ℤ t) = ⊎_elim (λ h. (c, f, h)) (λ h. (d, g, h)) o.1 in
    reach (smaller a b) (larger a b) p q top.0 foot.0 n (spread a b n ab) k l top.1 top.2 foot.1 foot.2

apart_back : {w : ℕ} {a b : Corner} → Apart w a b → Apart w b a
apart_back {a} {b} h = record { x_near = rw (abs_sub_comm b.x a.x) h.x_near; y_near = rw (abs_sub_comm b.y a.y) h.y_near }

apart_self : (w : ℕ) (a : Corner) → Apart w a a
apart_self w a = record { x_near = none a.x w; y_near = none a.y w }

module _ {w : ℕ} (a b c d : Corner) (ab : Apart w b a) (e : away (lower a b) (upper a b) c d ≡ false) where
  across : (p q : Corner) → Inside (lower a b) (upper a b) p → Apart w c q → Apart w d q → Apart (w + w) q p
  unfolding away
  across p q h f g = let o = (or_false _ _).0 e in record {
    x_near = within a.x b.x c.x d.x p.x q.x w ab.x_near o.0 h.above_x h.below_x f.x_near g.x_near;
    y_near = within a.y b.y c.y d.y p.y q.y w ab.y_near o.1 h.above_y h.below_y f.y_near g.y_near;
  }

  from_tail : (q : Corner) → Apart w c q → Apart w d q → Apart (w + w) q a
  from_tail q = across a q (ends_inside a b).0

  from_head : (q : Corner) → Apart w c q → Apart w d q → Apart (w + w) q b
  from_head q = across b q (ends_inside a b).1

-- the corners of two edges, each within the span in itself, whose boxes touch
pub touching_near : (a b c d : Corner) → Near b a → Near d c → away (lower a b) (upper a b) c d ≡ false → AllNear a b c d
touching_near a b c d ab cd e = record {
  b_a = near_wide ab;
  c_a = from_tail a b c d ab e c (apart_self 20_000_000 c) cd;
  d_a = from_tail a b c d ab e d (apart_back cd) (apart_self 20_000_000 d);
  d_c = near_wide cd;
  a_c = apart_back (from_tail a b c d ab e c (apart_self 20_000_000 c) cd);
  b_c = apart_back (from_head a b c d ab e c (apart_self 20_000_000 c) cd);
}

-- the other way round
pub near_back : {a b c d : Corner} → AllNear a b c d → AllNear c d a b
near_back n = record { b_a = n.d_c; c_a = n.a_c; d_a = n.b_c; d_c = n.b_a; a_c = n.c_a; b_c = n.d_a }
