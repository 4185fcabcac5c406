-- 01, refusals 6, 7 and 9 of a ring, "given exactly when": a corner list of odd length, a corner number outside ±10^10, and a crossed pair by the rule of Rings.
-- Assumes nothing.
use Rattle.std.specs.Prelude.{◌≡◌, refl, false, ◌↔◌, ◌⊎◌, ℕ, suc, ◌+◌, ◌*◌, ◌-◌, ◌/◌, ◌^◌, ◌<◌, ◌≤◌, ℤ, nat_abs, length}
use Rattle.std.proofs.Common.{sym, ◌∙◌, ap, subst, inl, inr, ⊎_elim, arith}
use Rattle.std.proofs.Math.Option.{Option, none, some}
use mathlib.Core.List.Memᴰ
use mathlib.Core.List.{List, [], ◌∷◌, Memᴰ}
use Rattle.rules.specs.Refusals.{CrossedPair, answered, refused, crossed_at}
use Rattle.rules.specs.Rings.{Corner, EdgePair, First, Crossing, edge, edge_pairs, place}
use Rattle.rules.specs.Crossing.{crossed}
use Rattle.rules.specs.RingAnswers.{corners, number_bad, corner_bad, any_bad, looked_through, not_crossed, numbers_of}
use Rattle.rules.proofs.Laws.Checks.{or_false, number_exact}
use Rattle.rules.proofs.Laws.Looked.{pair_of, half, only_in_order}
use Rattle.rules.proofs.Laws.Pairs.{crossed_some, crossed_none}

-- ---- 9: "crossed", with the first pair
-- and with its place among all pairs: those with a smaller place are not crossed
pub record Nine (r : List Corner) (pair : CrossedPair) : Type 0 where
  pub first : First r (pair_of pair.low pair.high)
  pub counted : pair.looked_at ≡ place (pair_of pair.low pair.high) (edge_pairs (length r))
  pub others : (k l : ℕ) → k < l → l < length r → place (pair_of k l) (edge_pairs (length r)) < pair.looked_at → ¬ Crossing (length r) k l (edge r k) (edge r l)

pub nine : (r : List Corner) (pair : CrossedPair) → not_crossed r ≡ crossed_at pair → Nine r pair
unfolding not_crossed
nine r pair = go (crossed r) refl
  where
    go : (t : Option EdgePair) → crossed r ≡ t → looked_through (length r) t ≡ crossed_at pair → Nine r pair
    go none x e = absurd (let z : ◌≡◌ {A = ℕ} 0 1 = cc e in omega arith)
    go (some t) x e =
        let p : ◌≡◌ {A = CrossedPair} (record { ring = 0; low = t.low; high = t.high; looked_at = place t (edge_pairs (length r)) }) pair = cc e in
        let f = crossed_some r t x in
        subst (Nine r) p
        (record {
          first = f;
          counted = refl;
          others = λ k l h g s. f.not_before k l h g (only_in_order (length r) k l t.low t.high h g f.order f.inside s);
        })

-- a clean ring has no crossed pair, and all its pairs were looked at
pub record Clean (r : List Corner) (count : ℕ) : Type 0 where
  pub none_crossed : (k l : ℕ) → k < l → l < length r → ¬ Crossing (length r) k l (edge r k) (edge r l)
  pub counted : count ≡ length r * (length r - 1) / 2

pub clean : (r : List Corner) (count : ℕ) → not_crossed r ≡ answered count → Clean r count
unfolding not_crossed
clean r count = go (crossed r) refl
  where
    go : (t : Option EdgePair) → crossed r ≡ t → looked_through (length r) t ≡ answered count → Clean r count
    go none x e = let p : length (edge_pairs (length r)) ≡ count = cc e in record { none_crossed = crossed_none r x; counted = sym p ∙ half (length r) }
    go (some t) x e = absurd (let z : ◌≡◌ {A = ℕ} 0 1 = cc e in omega arith)

-- ---- 7: "a corner number outside ±10^10"
abbrev pub Inside : Corner → Type 0
Inside c = (nat_abs c.x ≤ 10 ^ 10) × (nat_abs c.y ≤ 10 ^ 10)

pub corner_exact : (c : Corner) → (corner_bad c ≡ false) ↔ Inside c
unfolding corner_bad
corner_exact c = (
  λ e. let o = (or_false (number_bad c.x) (number_bad c.y)).0 e in ((number_exact c.x).0 o.0, (number_exact c.y).0 o.1),
  λ h. (or_false (number_bad c.x) (number_bad c.y)).1 ((number_exact c.x).1 h.0, (number_exact c.y).1 h.1),
)

pub seven : (r : List Corner) → (any_bad r ≡ false) ↔ ((c : Corner) → Memᴰ c r → Inside c)
unfolding any_bad
seven [] = (λ e c m. absurd (Memᴰ.not-nil m), λ h. refl)
seven (a ∷ r) = (
  λ e c m.
      let o = (or_false (corner_bad a) (any_bad r)).0 e in
      ⊎_elim (λ p. subst Inside (sym p) ((corner_exact a).0 o.0)) (λ n. (seven r).0 o.1 c n) (Memᴰ.cases_cons m),
  λ h. (or_false (corner_bad a) (any_bad r)).1 ((corner_exact a).1 (h a (Memᴰ.head refl)), (seven r).1 (λ c m. h c (Memᴰ.tail m))),
)

-- ---- 6: "a corner list of odd length"; any other list is the numbers of its corners
pub corners_of : (r : List Corner) → corners (numbers_of r) ≡ answered r
unfolding corners numbers_of
corners_of [] = refl
corners_of (c ∷ r) = rw (corners_of r) refl

pub even_or_odd : (l : List ℤ) → ((r : List Corner) × (l ≡ numbers_of r)) ⊎ ((corners l ≡ refused 6) × ((n : ℕ) × (length l ≡ n + n + 1)))
unfolding corners numbers_of
even_or_odd [] = inl ([], refl)
even_or_odd (X ∷ []) = inr (refl, (0, refl))
even_or_odd (X ∷ Y ∷ l) = ⊎_elim
    (λ h. inl (record { x = X; y = Y } ∷ h.0, ap (λ (t : List ℤ). X ∷ Y ∷ t) h.1))
    (λ h. inr (rw h.0 refl, (suc h.1.0, (let e = h.1.1 in omega arith))))
    (even_or_odd l)
