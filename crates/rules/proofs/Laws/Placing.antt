-- The test `misplaced` is right: it is met exactly where a ring is badly placed, and why one corner decides where no edges meet. Assumes nothing.
use Rattle.std.specs.Prelude.{◌≡◌, refl, Bool, true, false, not, ◌||◌, ◌⊎◌, ◌↔◌, T, ℤ, pos}
use Rattle.std.proofs.Common.{sym, ◌∙◌, ap, subst, inl, inr, ⊎_elim, T_not}
use mathlib.Core.List.Memᴰ
use mathlib.Core.List.{List, [], ◌∷◌, ◌++◌, Memᴰ}
use Rattle.std.proofs.Math.Dec.{not_T}
use Rattle.rules.specs.Rings.{Corner, Edge, ◌to◌, onward, line, edges, turning_number, on, border, is_zero, Share}
use Rattle.rules.specs.Crossing.{meets}
use Rattle.rules.specs.Fields.{Field, Meeting, StrictlyInside, LiesInside, Misplaced, meets_outer, not_inside, meets_inner, inside_inner, around_inner}
use Rattle.rules.specs.Placing.{meets_one, any_meet, rings_meet, first_inside, first_outside, entangled, entangled_any, misplaced, OneCornerDecides}
use Rattle.rules.proofs.Laws.Meeting.{T_or, or_T, meets_share, share_swap}
use Rattle.rules.proofs.Laws.Folding.{T_zero, zero_T}
use Rattle.rules.proofs.Laws.OnEdge.{on_at, tail_on, share_on, share_both}
use Rattle.rules.proofs.Laws.SameTurning.{same_turning}

-- ---- edges of one ring and edges of another
-- an edge of a list that meets e
meets_one_yes : (e : Edge) (fs : List Edge) → T (meets_one e fs) → (f : Edge) × Memᴰ f fs × T (meets e f)
unfolding meets_one
meets_one_yes e [] t = absurd t
meets_one_yes e (f ∷ fs) t = ⊎_elim (λ h. (f, Memᴰ.head refl, h)) (λ h. let g = meets_one_yes e fs h in (g.0, Memᴰ.tail g.1, g.2)) (T_or (meets e f) (meets_one e fs) t)

meets_one_no : (e : Edge) (fs : List Edge) (f : Edge) → Memᴰ f fs → T (meets e f) → T (meets_one e fs)
unfolding meets_one
meets_one_no e [] f m t = absurd (Memᴰ.not-nil m)
meets_one_no e (g ∷ fs) f m t = or_T (meets e g) (meets_one e fs) (⊎_elim (λ p. inl (subst (λ h. T (meets e h)) p t)) (λ n. inr (meets_one_no e fs f n t)) (Memᴰ.cases_cons m))

any_meet_yes : (es fs : List Edge) → T (any_meet es fs) → (e : Edge) × (f : Edge) × Memᴰ e es × Memᴰ f fs × T (meets e f)
unfolding any_meet
any_meet_yes [] fs t = absurd t
any_meet_yes (e ∷ es) fs t = ⊎_elim
    (λ h. let g = meets_one_yes e fs h in (e, g.0, Memᴰ.head refl, g.1, g.2))
    (λ h. let g = any_meet_yes es fs h in (g.0, g.1, Memᴰ.tail g.2, g.3, g.4))
    (T_or (meets_one e fs) (any_meet es fs) t)

any_meet_no : (es fs : List Edge) (e f : Edge) → Memᴰ e es → Memᴰ f fs → T (meets e f) → T (any_meet es fs)
unfolding any_meet
any_meet_no [] fs e f m n t = absurd (Memᴰ.not-nil m)
any_meet_no (g ∷ es) fs e f m n t = or_T (meets_one g fs) (any_meet es fs)
    (⊎_elim (λ p. inl (meets_one_no g fs f n (subst (λ h. T (meets h f)) p t))) (λ k. inr (any_meet_no es fs e f k n t)) (Memᴰ.cases_cons m))

pub rings_meet_exact : (r s : List Corner) → T (rings_meet r s) ↔ Meeting r s
unfolding rings_meet
rings_meet_exact r s = (
  λ t. let g = any_meet_yes (edges r) (edges s) t in record { e = g.0; f = g.1; e_of = g.2; f_of = g.3; shared = (meets_share g.0 g.1).0 g.4 },
  λ m. any_meet_no (edges r) (edges s) m.e m.f m.e_of m.f_of ((meets_share m.e m.f).1 m.shared),
)

meeting_back : {r s : List Corner} → Meeting s r → Meeting r s
meeting_back m = record { e = m.f; f = m.e; e_of = m.f_of; f_of = m.e_of; shared = share_swap m.shared }

-- ---- a ring's corners are the tails of its edges
tail_of : (a z : Corner) (l : List Corner) (c : Corner) → Memᴰ c (a ∷ l) → (e : Edge) × Memᴰ e (onward a (l ++ z ∷ [])) × (e.tail ≡ c)
unfolding onward
tail_of a z [] c m = ⊎_elim (λ p. (a to z, Memᴰ.head refl, sym p)) (λ n. absurd (Memᴰ.not-nil n)) (Memᴰ.cases_cons m)
tail_of a z (b ∷ l) c m = ⊎_elim (λ p. (a to b, Memᴰ.head refl, sym p))
    (λ n. let g = tail_of b z l c n in (g.0, Memᴰ.tail g.1, g.2)) (Memᴰ.cases_cons m)

corner_edge : (s : List Corner) (c : Corner) → Memᴰ c s → (e : Edge) × Memᴰ e (edges s) × (e.tail ≡ c)
unfolding edges line
corner_edge [] c m = absurd (Memᴰ.not-nil m)
corner_edge (a ∷ l) c m = tail_of a a l c m

-- the border, edge by edge
border_yes : (es : List Edge) (p : Corner) → T (border es p) → (e : Edge) × Memᴰ e es × T (on p e)
unfolding border
border_yes [] p t = absurd t
border_yes (e ∷ es) p t = ⊎_elim (λ h. (e, Memᴰ.head refl, h)) (λ h. let g = border_yes es p h in (g.0, Memᴰ.tail g.1, g.2)) (T_or (on p e) (border es p) t)

border_no : (es : List Edge) (p : Corner) (e : Edge) → Memᴰ e es → T (on p e) → T (border es p)
unfolding border
border_no [] p e m t = absurd (Memᴰ.not-nil m)
border_no (f ∷ es) p e m t = or_T (on p f) (border es p) (⊎_elim (λ q. inl (subst (λ g. T (on p g)) q t)) (λ n. inr (border_no es p e n t)) (Memᴰ.cases_cons m))

corner_border : (s : List Corner) (c : Corner) → Memᴰ c s → T (border (edges s) c)
corner_border s c m = let g = corner_edge s c m in border_no (edges s) c g.0 g.1 (subst (λ p. T (on p g.0)) g.2 (tail_on g.0))

-- ---- with no edges meeting, along the edges of s
along : (r : List Corner) (a z : Corner) (l : List Corner) → ((e : Edge) → Memᴰ e (onward a (l ++ z ∷ [])) → turning_number r e.tail ≡ turning_number r e.head)
    → (e : Edge) → Memᴰ e (onward a (l ++ z ∷ [])) → turning_number r e.tail ≡ turning_number r a
unfolding onward
along r a z [] h e m = ⊎_elim (λ p. ap (λ f. turning_number r f.tail) p) (λ n. absurd (Memᴰ.not-nil n)) (Memᴰ.cases_cons m)
along r a z (b ∷ l) h e m = ⊎_elim (λ p. ap (λ f. turning_number r f.tail) p)
    (λ n. along r b z l (λ f k. h f (Memᴰ.tail k)) e n ∙ sym (h (a to b) (Memᴰ.head refl))) (Memᴰ.cases_cons m)

from_first : (r : List Corner) (a : Corner) (l : List Corner) → ((e : Edge) → Memᴰ e (edges (a ∷ l)) → turning_number r e.tail ≡ turning_number r e.head)
    → (e : Edge) → Memᴰ e (edges (a ∷ l)) → turning_number r e.tail ≡ turning_number r a
unfolding edges line
from_first r a l = along r a a l

module _ (r s : List Corner) (apart : ¬ Meeting r s) where
  -- a point of an edge and the edge's tail
  point_tail : (e : Edge) (p : Corner) → Memᴰ e (edges s) → T (on p e) → turning_number r e.tail ≡ turning_number r p
  point_tail e p m t = same_turning r e.tail p (λ f n h. apart (record { e = f; f = e; e_of = n; f_of = m; shared = share_on (on_at p e t) h }))

  -- an edge's tail and its head
  tail_head : (e : Edge) → Memᴰ e (edges s) → turning_number r e.tail ≡ turning_number r e.head
  tail_head e m = same_turning r e.tail e.head (λ f n h. apart (record { e = f; f = e; e_of = n; f_of = m; shared = h }))

  pub off_border : (p : Corner) → T (border (edges s) p) → border (edges r) p ≡ false
  off_border p t = go (border (edges r) p) refl
    where
      go : (b : Bool) → border (edges r) p ≡ b → b ≡ false
      go false e = refl
      go true e =
          let g = border_yes (edges r) p (subst T (sym e) tt) in
          let h = border_yes (edges s) p t in
          absurd (apart (record { e = g.0; f = h.0; e_of = g.1; f_of = h.1; shared = share_both (on_at p g.0 g.2) (on_at p h.0 h.2) }))

module _ (r : List Corner) (a : Corner) (l : List Corner) (apart : ¬ Meeting r (a ∷ l)) where
  pub as_first : (p : Corner) → T (border (edges (a ∷ l)) p) → turning_number r p ≡ turning_number r a
  as_first p t =
      let g = border_yes (edges (a ∷ l)) p t in
      sym (point_tail r (a ∷ l) apart g.0 p g.1 g.2) ∙ from_first r a l (tail_head r (a ∷ l) apart) g.0 g.1

all_alike : (r s : List Corner) → ¬ Meeting r s → (p q : Corner) → T (border (edges s) p) → T (border (edges s) q) → turning_number r p ≡ turning_number r q
unfolding edges line border
all_alike r [] apart p q t u = absurd t
all_alike r (a ∷ l) apart p q t u = as_first r a l apart p t ∙ sym (as_first r a l apart q u)

pub one_corner_decides : (r s : List Corner) → ¬ Meeting r s → OneCornerDecides r s
one_corner_decides r s apart = record { alike = all_alike r s apart; off = off_border r s apart; corners = corner_border s }

-- ---- the test's parts
-- a corner of s has the first corner's turning number
corner_as_first : (r : List Corner) (a : Corner) (l : List Corner) → ¬ Meeting r (a ∷ l) → (c : Corner) → Memᴰ c (a ∷ l) → turning_number r c ≡ turning_number r a
corner_as_first r a l apart c m = as_first r a l apart c (corner_border (a ∷ l) c m)

first_inside_yes : (r s : List Corner) → T (first_inside r s) → LiesInside r s
unfolding first_inside
first_inside_yes r [] t = absurd t
first_inside_yes r (c ∷ s) t = record { corner = c; corner_of = Memᴰ.head refl; turned = λ e. T_not (is_zero (turning_number r c)) t (zero_T (turning_number r c) e) }

first_inside_no : (r s : List Corner) → ¬ Meeting r s → LiesInside r s → T (first_inside r s)
unfolding first_inside
first_inside_no r [] apart h = absurd (Memᴰ.not-nil h.corner_of)
first_inside_no r (a ∷ l) apart h = not_T (is_zero (turning_number r a)) (λ t. h.turned (corner_as_first r a l apart h.corner h.corner_of ∙ T_zero (turning_number r a) t))

first_outside_yes : (r s : List Corner) → T (first_outside r s) → (c : Corner) × Memᴰ c s × ¬ StrictlyInside r c
unfolding first_outside
first_outside_yes r [] t = absurd t
first_outside_yes r (c ∷ s) t = (c, Memᴰ.head refl, λ h. h.1 (T_zero (turning_number r c) t))

first_outside_no : (r s : List Corner) → ¬ Meeting r s → (c : Corner) → Memᴰ c s → ¬ StrictlyInside r c → T (first_outside r s)
unfolding first_outside
first_outside_no r [] apart c m h = absurd (Memᴰ.not-nil m)
first_outside_no r (a ∷ l) apart c m h = go (is_zero (turning_number r a)) refl
  where
    go : (b : Bool) → is_zero (turning_number r a) ≡ b → T b
    go true e = tt
    go false e = absurd (h (off_border r (a ∷ l) apart c (corner_border (a ∷ l) c m), λ z. subst T e (zero_T (turning_number r a) (sym (corner_as_first r a l apart c m) ∙ z))))

-- the parts in their order: a part speaks where those before it are not met
not_meeting : (r s : List Corner) → T (not (rings_meet r s)) → ¬ Meeting r s
not_meeting r s n m = T_not (rings_meet r s) n ((rings_meet_exact r s).1 m)

by : (b : Bool) {P : Type 0} → (T b → P) → (T (not b) → P) → P
by true f g = f tt
by false f g = g tt

abbrev Tangled : List Corner → List Corner → Type 0
Tangled r s = Meeting r s ⊎ (LiesInside r s ⊎ LiesInside s r)

entangled_yes : (r s : List Corner) → T (entangled r s) → Tangled r s
unfolding entangled
entangled_yes r s t = ⊎_elim
    (λ h. inl ((rings_meet_exact r s).0 h))
    (λ h. inr (⊎_elim (λ g. inl (first_inside_yes r s g)) (λ g. inr (first_inside_yes s r g)) (T_or (first_inside r s) (first_inside s r) h)))
    (T_or (rings_meet r s) (first_inside r s || first_inside s r) t)

entangled_no : (r s : List Corner) → Tangled r s → T (entangled r s)
unfolding entangled
entangled_no r s t = or_T (rings_meet r s) (first_inside r s || first_inside s r) (by (rings_meet r s) inl (λ n. inr (go (not_meeting r s n) t)))
  where
    go : ¬ Meeting r s → Tangled r s → T (first_inside r s || first_inside s r)
    go apart (inl m) = absurd (apart m)
    go apart (inr (inl h)) = or_T (first_inside r s) (first_inside s r) (inl (first_inside_no r s apart h))
    go apart (inr (inr h)) = or_T (first_inside r s) (first_inside s r) (inr (first_inside_no s r (λ m. apart (meeting_back m)) h))

entangled_any_yes : (rs : List (List Corner)) (s : List Corner) → T (entangled_any rs s) → (r : List Corner) × Memᴰ r rs × Tangled r s
unfolding entangled_any
entangled_any_yes [] s t = absurd t
entangled_any_yes (r ∷ rs) s t = ⊎_elim (λ h. (r, Memᴰ.head refl, entangled_yes r s h))
    (λ h. let g = entangled_any_yes rs s h in (g.0, Memᴰ.tail g.1, g.2)) (T_or (entangled r s) (entangled_any rs s) t)

entangled_any_no : (rs : List (List Corner)) (s r : List Corner) → Memᴰ r rs → Tangled r s → T (entangled_any rs s)
unfolding entangled_any
entangled_any_no [] s r m t = absurd (Memᴰ.not-nil m)
entangled_any_no (q ∷ rs) s r m t = or_T (entangled q s) (entangled_any rs s)
    (⊎_elim (λ p. inl (entangled_no q s (subst (λ u. Tangled u s) p t))) (λ n. inr (entangled_any_no rs s r n t)) (Memᴰ.cases_cons m))

-- ---- the test and the rule
pub misplaced_yes : (f : Field) (s : List Corner) → T (misplaced f s) → Misplaced f s
unfolding misplaced
misplaced_yes f s t = ⊎_elim
    (λ h. ⊎_elim (λ g. meets_outer ((rings_meet_exact f.outer_ring s).0 g)) (λ g. let w = first_outside_yes f.outer_ring s g in not_inside w.0 w.1 w.2)
    (T_or (rings_meet f.outer_ring s) (first_outside f.outer_ring s) h))
    (λ h. let g = entangled_any_yes f.inner_rings s h in go g.0 g.1 g.2)
    (T_or (rings_meet f.outer_ring s || first_outside f.outer_ring s) (entangled_any f.inner_rings s) t)
  where
    go : (r : List Corner) → Memᴰ r f.inner_rings → Tangled r s → Misplaced f s
    go r m (inl h) = meets_inner r m h
    go r m (inr (inl h)) = inside_inner r m h
    go r m (inr (inr h)) = around_inner r m h

pub misplaced_no : (f : Field) (s : List Corner) → Misplaced f s → T (misplaced f s)
unfolding misplaced
misplaced_no f s h = or_T (rings_meet f.outer_ring s || first_outside f.outer_ring s) (entangled_any f.inner_rings s)
    (by (rings_meet f.outer_ring s) (λ t. inl (or_T (rings_meet f.outer_ring s) (first_outside f.outer_ring s) (inl t))) (λ n. go (not_meeting f.outer_ring s n) h))
  where
    inner : (r : List Corner) → Memᴰ r f.inner_rings → Tangled r s → T (rings_meet f.outer_ring s || first_outside f.outer_ring s) ⊎ T (entangled_any f.inner_rings s)
    inner r m t = inr (entangled_any_no f.inner_rings s r m t)

    go : ¬ Meeting f.outer_ring s → Misplaced f s → T (rings_meet f.outer_ring s || first_outside f.outer_ring s) ⊎ T (entangled_any f.inner_rings s)
    go apart (meets_outer m) = absurd (apart m)
    go apart (not_inside c m k) = inl (or_T (rings_meet f.outer_ring s) (first_outside f.outer_ring s) (inr (first_outside_no f.outer_ring s apart c m k)))
    go apart (meets_inner r m k) = inner r m (inl k)
    go apart (inside_inner r m k) = inner r m (inr (inl k))
    go apart (around_inner r m k) = inner r m (inr (inr k))
