-- Border and turning number in one pass: what the loop keeps. Assumes nothing.
use Rattle.std.specs.Prelude.{◌≡◌, refl, Bool, true, false, ◌||◌, List, [], ◌∷◌, ℕ, zero, suc, ◌+◌, ◌<◌, ◌≤◌, ℤ, pos, ◌+ℤ◌, length, take, get_or, Option, Some, None, ◌<ℤ◌, ◌≤ℤ◌}
use Rattle.std.proofs.Common.{sym, ◌∙◌, ap, subst, add-one, arith, take_all, SFits}
use Rattle.std.specs.Int.Signed.{le_z}
use Rattle.std.specs.Int.{w64}
use Rattle.rules.specs.Rings.{Corner, Edge, ◌to◌, origin, edges, turn, turning_number, on, border}
use Rattle.rules.specs.RingAnswers.{Nozzle, open_nozzle, border_nozzle, shut_nozzle, nozzle}
use Rattle.rules.proofs.Laws.Checks.{or_false}
use Rattle.rules.proofs.Laws.Edges.{length_edges}
use Rattle.rings.specs.Standing.{settled_as}
use Rattle.ring_turning.specs.Touching.{touch_of}
use Rattle.ring_corners.specs.Laws.Sides.{le_z_true, le_z_false}
use Rattle.ring_corners.specs.Laws.Tests.{and_true, and_left, and_right}
use Rattle.ring_turning.specs.Laws.Turning.{Turning, run, run_at, turning_start, turning_step, turning_end, turning_fits}

-- ---- what an edge told
told_on : (p : Corner) (e : Edge) → touch_of p e ≡ None → on p e ≡ true
unfolding touch_of
told_on p e = go (on p e)
  where
    go : (b : Bool) → ◌≡◌ {A = Option ℤ} (elim b [ true ↦ None | false ↦ Some (turn p e) ]) None → b ≡ true
    go true h = refl
    go false h = cc h

told_adds : (p : Corner) (e : Edge) (z : ℤ) → touch_of p e ≡ Some z → (on p e ≡ false) × (z ≡ turn p e)
unfolding touch_of
told_adds p e z = go (on p e)
  where
    go : (b : Bool) → ◌≡◌ {A = Option ℤ} (elim b [ true ↦ None | false ↦ Some (turn p e) ]) (Some z) → (b ≡ false) × (z ≡ turn p e)
    go true h = absurd (cc h)
    go false h = (refl, cc h)

-- ---- border, one edge more
border_hit : (l : List Edge) (p : Corner) (d : Edge) (i : ℕ) → i < length l → on p (get_or l i d) ≡ true → border l p ≡ true
unfolding border
border_hit [] p d i h e = absurd (omega arith)
border_hit (x ∷ l) p d zero h e = rw e refl
border_hit (x ∷ l) p d (suc i) h e = or_right (on p x) (border_hit l p d i (omega arith) e)
  where
    or_right : (a : Bool) {b : Bool} → b ≡ true → (a || b) ≡ true
    or_right true e = refl
    or_right false e = e

border_more : (l : List Edge) (p : Corner) (d : Edge) (i : ℕ) → i < length l → border (take i l) p ≡ false → on p (get_or l i d) ≡ false → border (take (suc i) l) p ≡ false
unfolding border
border_more [] p d i h b e = absurd (omega arith)
border_more (x ∷ l) p d zero h b e = rw e refl
border_more (x ∷ l) p d (suc i) h b e =
    let o = (or_false (on p x) (border (take i l) p)).0 b in
    (or_false (on p x) (border (take (suc i) l) p)).1 (o.0, border_more l p d i (omega arith) o.1 e)

-- ---- the loop
pub record Passing (r : List Corner) (p : Corner) (sum : ℤ) (i : ℕ) : Type 0 where
  pub turning : Turning r p sum i
  pub clear : border (take i (edges r)) p ≡ false

pub passing_start : (r : List Corner) (p : Corner) → Passing r p (pos 0) 0
unfolding border
passing_start r p = record { turning = turning_start r p; clear = refl }

hit_nozzle : (r : List Corner) (p : Corner) → border (edges r) p ≡ true → border_nozzle ≡ nozzle r p
unfolding nozzle
hit_nozzle r p e = rw (e, nozzle) refl

clear_nozzle : (r : List Corner) (p : Corner) → border (edges r) p ≡ false → settled_as (turning_number r p) ≡ nozzle r p
unfolding nozzle settled_as
clear_nozzle r p e = rw (e, nozzle) refl

module _ {r : List Corner} {p : Corner} {sum : ℤ} {i : ℕ} (s : Passing r p sum i) where
  module _ (h : i < length r) where
    within : i < length (edges r)
    within = let n = length_edges r in omega arith

    pub hit : touch_of p (run r i) ≡ None → border_nozzle ≡ nozzle r p
    hit t = hit_nozzle r p (border_hit (edges r) p (origin to origin) i within (ap (on p) (run_at r i h) ∙ told_on p (run r i) t))

    pub passing_step : (z : ℤ) → touch_of p (run r i) ≡ Some z → Passing r p (sum +ℤ z) (i + 1)
    passing_step z t =
        let a = told_adds p (run r i) z t in
        record {
          turning = subst (λ (x : ℤ). Turning r p (sum +ℤ x) (i + 1)) (sym a.1) (turning_step s.turning h);
          clear = ap (λ (k : ℕ). border (take k (edges r)) p) (add-one i)
              ∙ border_more (edges r) p (origin to origin) i within s.clear (ap (on p) (run_at r i h) ∙ a.0);
        }

  pub passing_end : length r ≤ i → settled_as sum ≡ nozzle r p
  passing_end h =
      ap settled_as (turning_end s.turning h)
      ∙ clear_nozzle r p (ap (λ (l : List Edge). border l p) (sym (take_all i (edges r) (let n = length_edges r in omega arith))) ∙ s.clear)

-- ---- by the sign of the turning number
abbrev shutting : Bool → Nozzle
shutting b = elim b [ true ↦ shut_nozzle | false ↦ open_nozzle ]

pub open_above : (z : ℤ) → pos 0 <ℤ z → settled_as z ≡ open_nozzle
unfolding settled_as
open_above z h = ap shutting (and_left (le_z (pos 0) z) ((le_z_false z (pos 0)).1 h))

pub open_below : (z : ℤ) → z <ℤ pos 0 → settled_as z ≡ open_nozzle
unfolding settled_as
open_below z h = ap shutting (and_right (le_z z (pos 0)) ((le_z_false (pos 0) z).1 h))

pub shut_at_zero : (z : ℤ) → z ≤ℤ pos 0 → pos 0 ≤ℤ z → settled_as z ≡ shut_nozzle
unfolding settled_as
shut_at_zero z h k = ap shutting (and_true ((le_z_true z (pos 0)).1 h) ((le_z_true (pos 0) z).1 k))

-- the sum stays small
pub passing_fits : {r : List Corner} {p : Corner} {sum : ℤ} {i : ℕ} → Passing r p sum i → length r ≤ 1024 → (e : Edge) (z : ℤ) → touch_of p e ≡ Some z → SFits w64 (sum +ℤ z)
passing_fits {r} {p} {sum} {i} s m e z t = rw (told_adds p e z t).1 (turning_fits s.turning m e)
