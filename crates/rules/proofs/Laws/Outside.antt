-- A point beyond all corners of a ring, on one axis, has turning number 0 there. Assumes nothing.
--
-- Beyond them in X, every edge adds nothing. Beyond them in Y, the line to a point that is beyond them in X too, and has the same Y, meets no edge.
use Rattle.std.specs.Prelude.{◌≡◌, refl, Bool, true, false, not, ◌&&◌, ℕ, suc, ◌+◌, ◌*◌, ◌-◌, ◌<◌, ℤ, pos, ◌+ℤ◌, ◌-ℤ◌, ◌*ℤ◌, length, get_or, ◌≤ℤ◌, ◌<ℤ◌}
use Rattle.std.proofs.Common.{sym, ◌∙◌, ap, ap₂, subst, ⊎_elim, arith}
use mathlib.Core.List.Memᴰ
use mathlib.Core.List.{List, [], ◌∷◌, Memᴰ}
use Rattle.std.proofs.Math.Decide.{dec_lt}
use Rattle.std.specs.Int.Signed.{le_z, lt_z, <ℤ-≤ℤ_trans}
use Rattle.arith.specs.Laws.Diff.{Z·ℕ, lin}
use Rattle.arith.specs.Laws.Order.{<ℤ→≤ℤ, <ℤ_iff_suc, *ℤ_mono_left, nn_num}
use Rattle.rules.specs.Rings.{Corner, Edge, ◌to◌, origin, edges, total, turn, turning_number, Share}
use Rattle.rules.proofs.Laws.Checks.{lt_z_true, lt_z_false}
use Rattle.rules.proofs.Laws.Edges.{length_edges, edge_at, edge_last}
use Rattle.rules.proofs.Laws.SameTurning.{le_is, same_turning}

-- ---- both ends of every edge are corners
every : (P : Edge → Type 0) (d : Edge) (l : List Edge) → ((k : ℕ) → k < length l → P (get_or l k d)) → (e : Edge) → Memᴰ e l → P e
every P d [] h e m = absurd (Memᴰ.not-nil m)
every P d (f ∷ l) h e m = ⊎_elim (λ p. subst P (sym p) (h 0 (omega arith))) (λ n. every P d l (λ k i. h (suc k) (omega arith)) e n) (Memᴰ.cases_cons m)

abbrev All : (Corner → Type 0) → List Corner → Type 0
All P r = (j : ℕ) → j < length r → P (get_or r j origin)

ends : (P : Corner → Type 0) (r : List Corner) → All P r → (e : Edge) → Memᴰ e (edges r) → P e.tail × P e.head
ends P r h = every Both (origin to origin) (edges r) (λ k i. at k (let n = length_edges r in omega arith))
  where
    Both : Edge → Type 0
    Both e = P e.tail × P e.head

    at : (k : ℕ) → k < length r → Both (get_or (edges r) k (origin to origin))
    at k i = elim (dec_lt (suc k) (length r)) [
      | yes g ↦ subst Both (sym (edge_at (origin to origin) origin r k g)) (h k i, h (suc k) g)
      | no g ↦ subst Both (sym (edge_last (origin to origin) origin r k (omega arith))) (h k i, h 0 (omega arith))
    ]

-- ---- beyond in X
and_none : (t : Bool) → (t && false) ≡ false
and_none true = refl
and_none false = refl

no_turn_below : (p : Corner) (e : Edge) → p.x <ℤ e.tail.x → p.x <ℤ e.head.x → turn p e ≡ pos 0
unfolding turn
no_turn_below p e h k =
    rw (le_is e.tail.x p.x, le_is e.head.x p.x, (lt_z_true p.x e.tail.x).1 h, (lt_z_true p.x e.head.x).1 k) refl

no_turn_above : (p : Corner) (e : Edge) → e.tail.x <ℤ p.x → e.head.x <ℤ p.x → turn p e ≡ pos 0
unfolding turn
no_turn_above p e h k =
    rw ((lt_z_false p.x e.tail.x).1 (<ℤ→≤ℤ h), (lt_z_false p.x e.head.x).1 (<ℤ→≤ℤ k), and_none (le_z e.tail.x p.x), and_none (le_z e.head.x p.x)) refl

none_turn : (p : Corner) (l : List Edge) → ((e : Edge) → Memᴰ e l → turn p e ≡ pos 0) → total (turn p) l ≡ pos 0
unfolding total
none_turn p [] h = refl
none_turn p (e ∷ l) h = ap₂ ◌+ℤ◌ (h e (Memᴰ.head refl)) (none_turn p l (λ f m. h f (Memᴰ.tail m)))

module _ (r : List Corner) (p : Corner) where
  pub below_x : All (λ c. p.x <ℤ c.x) r → turning_number r p ≡ pos 0
  unfolding turning_number
  below_x h = none_turn p (edges r) (λ e m. let b = ends (λ c. p.x <ℤ c.x) r h e m in no_turn_below p e b.0 b.1)

  pub above_x : All (λ c. c.x <ℤ p.x) r → turning_number r p ≡ pos 0
  unfolding turning_number
  above_x h = none_turn p (edges r) (λ e m. let b = ends (λ c. c.x <ℤ p.x) r h e m in no_turn_above p e b.0 b.1)

-- ---- beyond in Y: a mean of two numbers above p is not p
mean_above : (n i k j : ℕ) (a b p : ℤ) → n + i ≡ k + j → 0 < n + i → (pos n *ℤ (p +ℤ pos 1)) ≤ℤ (pos n *ℤ a) → (pos i *ℤ (p +ℤ pos 1)) ≤ℤ (pos i *ℤ b)
    → pos n *ℤ a +ℤ pos i *ℤ b ≡ pos k *ℤ p +ℤ pos j *ℤ p → ⊥
mean_above n i k j a b p e o = lin (a ∷ b ∷ p ∷ []) λ u v ea eb ep.
    simp (Z·ℕ, ea, eb, ep) (λ f g h. let f' = f in let g' = g in let h' = h in omega (arith, ap (λ q. q * u 2) e, ap (λ q. q * v 2) e))

mean_below : (n i k j : ℕ) (a b p : ℤ) → n + i ≡ k + j → 0 < n + i → (pos n *ℤ (a +ℤ pos 1)) ≤ℤ (pos n *ℤ p) → (pos i *ℤ (b +ℤ pos 1)) ≤ℤ (pos i *ℤ p)
    → pos n *ℤ a +ℤ pos i *ℤ b ≡ pos k *ℤ p +ℤ pos j *ℤ p → ⊥
mean_below n i k j a b p e o = lin (a ∷ b ∷ p ∷ []) λ u v ea eb ep.
    simp (Z·ℕ, ea, eb, ep) (λ f g h. let f' = f in let g' = g in let h' = h in omega (arith, ap (λ q. q * u 2) e, ap (λ q. q * v 2) e))

next : {a b : ℤ} → a <ℤ b → (a +ℤ pos 1) ≤ℤ b
next {a} {b} h = (<ℤ_iff_suc a b).0 h

module _ (r : List Corner) (p : Corner) (low : ℤ) (bounded : All (λ c. low ≤ℤ c.x) r) where
  abbrev far : Corner
  far = record { x = low -ℤ pos 1; y = p.y }

  far_none : turning_number r far ≡ pos 0
  far_none = below_x r far (λ j h. <ℤ-≤ℤ_trans (less low) (bounded j h))
    where
      less : (a : ℤ) → (a -ℤ pos 1) <ℤ a
      less a = lin (a ∷ []) λ u v ea. simp (Z·ℕ, ea) (omega arith)

  pub below_y : All (λ c. p.y <ℤ c.y) r → turning_number r p ≡ pos 0
  below_y h = same_turning r p far (λ e m s.
      let b = ends (λ c. p.y <ℤ c.y) r h e m in
      mean_above (s.m - s.i) s.i (s.m - s.j) s.j e.tail.y e.head.y p.y (omega (arith, s.i_in, s.j_in)) (omega (arith, s.some, s.i_in))
      (*ℤ_mono_left (pos (s.m - s.i)) (nn_num (s.m - s.i)) (next b.0)) (*ℤ_mono_left (pos s.i) (nn_num s.i) (next b.1)) s.same_y) ∙ far_none

  pub above_y : All (λ c. c.y <ℤ p.y) r → turning_number r p ≡ pos 0
  above_y h = same_turning r p far (λ e m s.
      let b = ends (λ c. c.y <ℤ p.y) r h e m in
      mean_below (s.m - s.i) s.i (s.m - s.j) s.j e.tail.y e.head.y p.y (omega (arith, s.i_in, s.j_in)) (omega (arith, s.some, s.i_in))
      (*ℤ_mono_left (pos (s.m - s.i)) (nn_num (s.m - s.i)) (next b.0)) (*ℤ_mono_left (pos s.i) (nn_num s.i) (next b.1)) s.same_y) ∙ far_none
