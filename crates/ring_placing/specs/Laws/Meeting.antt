-- A test of each edge of a ring in turn, as the loops make it, and edges of two rings that meet. Assumes nothing.
use Rattle.std.specs.Prelude.{◌≡◌, refl, Bool, true, false, ◌&&◌, ◌||◌, List, [], ◌∷◌, ℕ, zero, suc, ◌+◌, ◌<◌, ◌≤◌, ℤ, length, get_or, ◌≤ℤ◌}
use Rattle.std.proofs.Common.{◌∙◌, inl, inr, ⊎_elim, arith}
use Rattle.std.proofs.Math.Path.{ap}
use Rattle.std.specs.Int.Signed.{lt_z, <ℤ-≤ℤ_trans}
use Rattle.arith.specs.Laws.Order.{≤ℤ-<ℤ_trans}
use Rattle.rules.specs.Rings.{Corner, Edge, ◌to◌, origin, edge, edges}
use Rattle.rules.specs.Crossing.{meets}
use Rattle.rules.specs.Placing.{meets_one, any_meet}
use Rattle.rules.specs.RingAnswers.{smaller, larger}
use Rattle.rules.proofs.Laws.Checks.{lt_z_true, or_true}
use Rattle.rules.proofs.Laws.Edges.{length_edges}
use Rattle.terms.specs.Papers.{corner_of}
use Rattle.ring_corners.specs.Laws.Tests.{and_true}
use Rattle.ring_boxes.specs.Boxes.{Inside, Spans}
use Rattle.ring_boxes.specs.declared.reach.Reach.{Reach}
use Rattle.ring_pairs.specs.Crossings.{outside, away}
use Rattle.ring_pairs.specs.Laws.Crossings.{smaller_above, larger_below, away_apart}
use Rattle.ring_pairs.specs.Laws.Search.{leg, close, leg_at, close_at, Unmet}
use Rattle.ring_pairs.specs.Laws.Runs.{both}

-- ---- an edge of a list meets the test f
unfoldable pub any_of : (Edge → Bool) → List Edge → Bool
any_of f [] = false
any_of f (e ∷ es) = f e || any_of f es

pub one_is : (e : Edge) (fs : List Edge) → meets_one e fs ≡ any_of (meets e) fs
unfolding meets_one any_of
one_is e [] = refl
one_is e (f ∷ fs) = ap (λ (t : Bool). meets e f || t) (one_is e fs)

pub any_is : (es fs : List Edge) → any_meet es fs ≡ any_of (λ e. meets_one e fs) es
unfolding any_meet any_of
any_is [] fs = refl
any_is (e ∷ es) fs = ap (λ (t : Bool). meets_one e fs || t) (any_is es fs)

any_hit : (f : Edge → Bool) (d : Edge) (es : List Edge) (k : ℕ) → k < length es → f (get_or es k d) ≡ true → any_of f es ≡ true
unfolding any_of
any_hit f d [] k h t = absurd (omega arith)
any_hit f d (e ∷ es) zero h t = (or_true (f e) (any_of f es)).1 (inl t)
any_hit f d (e ∷ es) (suc k) h t = (or_true (f e) (any_of f es)).1 (inr (any_hit f d es k (omega arith) t))

-- where none before the last meets it, the last tells
any_last : (f : Edge → Bool) (d : Edge) (es : List Edge) (k : ℕ) → suc k ≡ length es → ((j : ℕ) → j < k → f (get_or es j d) ≡ false) → any_of f es ≡ f (get_or es k d)
unfolding any_of
any_last f d [] k h n = absurd (omega arith)
any_last f d (e ∷ []) zero h n = right (f e)
  where
    right : (t : Bool) → (t || false) ≡ t
    right true = refl
    right false = refl
any_last f d (e ∷ []) (suc k) h n = absurd (omega arith)
any_last f d (e ∷ g ∷ es) zero h n = absurd (omega arith)
any_last f d (e ∷ g ∷ es) (suc k) h n = ap (λ (t : Bool). t || any_of f (g ∷ es)) (n 0 (omega arith)) ∙ any_last f d (g ∷ es) k (omega arith) (λ j a. n (suc j) (omega arith))

-- ---- the loop over the edges of a ring but the last, and the last
module _ {f : Edge → Bool} {r : List Corner} {last l : ℕ} (s : Unmet f r 0 last l) (count : last + 1 ≡ length r) where
  pub found : l < last → f (leg r l) ≡ true → any_of f (edges r) ≡ true
  unfolding edge
  found h e = any_hit f (origin to origin) (edges r) l (let n = length_edges r in omega arith) (ap f (leg_at r l (omega arith)) ∙ e)

  pub found_last : last ≤ l → any_of f (edges r) ≡ f (close r last)
  unfolding edge
  found_last h =
      any_last f (origin to origin) (edges r) last (let n = length_edges r in omega arith) (λ j a. ap f (leg_at r j (omega arith)) ∙ s.none_met j (omega arith) (omega arith))
      ∙ ap f (close_at r last count)

-- ---- an edge whose box is away from the box of all of a ring meets no edge of it. Of one axis: p and q lie from low to high
outside_ring : (low high c d p q : ℤ) → outside low high c d ≡ true → low ≤ℤ p → p ≤ℤ high → low ≤ℤ q → q ≤ℤ high → outside (smaller c d) (larger c d) p q ≡ true
unfolding outside
outside_ring low high c d p q e a b g h = ⊎_elim
    (λ t. let u = both (lt_z high c) (lt_z high d) t in (or_true (lt_z (larger c d) p && lt_z (larger c d) q) _).1 (inr (and_true (under p b u.0 u.1) (under q h u.0 u.1))))
    (λ t. let u = both (lt_z c low) (lt_z d low) t in (or_true _ _).1 (inl (and_true (over p a u.0 u.1) (over q g u.0 u.1))))
    ((or_true (lt_z high c && lt_z high d) (lt_z c low && lt_z d low)).0 e)
  where
    under : (z : ℤ) → z ≤ℤ high → lt_z high c ≡ true → lt_z high d ≡ true → lt_z z (smaller c d) ≡ true
    under z k s t = smaller_above c d z ∙ and_true ((lt_z_true z c).1 (≤ℤ-<ℤ_trans k ((lt_z_true high c).0 s))) ((lt_z_true z d).1 (≤ℤ-<ℤ_trans k ((lt_z_true high d).0 t)))

    over : (z : ℤ) → low ≤ℤ z → lt_z c low ≡ true → lt_z d low ≡ true → lt_z (larger c d) z ≡ true
    over z k s t = larger_below c d z ∙ and_true ((lt_z_true c z).1 (<ℤ-≤ℤ_trans ((lt_z_true c low).0 s) k)) ((lt_z_true d z).1 (<ℤ-≤ℤ_trans ((lt_z_true d low).0 t) k))

away_ring : (low high c d p q : Corner) → away low high c d ≡ true → Inside low high p → Inside low high q → meets (c to d) (p to q) ≡ false
unfolding away
away_ring low high c d p q e a b = away_apart c d p q (⊎_elim
    (λ f. (or_true _ _).1 (inl (outside_ring low.x high.x c.x d.x p.x q.x f a.above_x a.below_x b.above_x b.below_x)))
    (λ f. (or_true (outside (smaller c.x d.x) (larger c.x d.x) p.x q.x) _).1 (inr (outside_ring low.y high.y c.y d.y p.y q.y f a.above_y a.below_y b.above_y b.below_y)))
    ((or_true (outside low.x high.x c.x d.x) (outside low.y high.y c.y d.y)).0 e))

pub unmet_ring : {s : List Corner} {last : ℕ} {around : Reach} → Spans s 0 last around → last + 1 ≡ length s
    → (c d : Corner) → away (corner_of around.low) (corner_of around.high) c d ≡ true → meets_one (c to d) (edges s) ≡ false
unmet_ring {s} {last} {around} b count c d e = one_is (c to d) (edges s) ∙ found_last none count (omega arith) ∙ no last 0 (omega arith) (omega arith)
  where
    no : (i j : ℕ) → i ≤ last → j ≤ last → meets (c to d) (get_or s i origin to get_or s j origin) ≡ false
    no i j h k = away_ring _ _ c d (get_or s i origin) (get_or s j origin) e (b.inside i (omega arith) h) (b.inside j (omega arith) k)

    none : Unmet (meets (c to d)) s 0 last last
    none = record { low = omega arith; high = omega arith; none_met = λ j h k. no j (j + 1) (omega arith) (omega arith) }
