-- Runs of edges that add nothing to the turning number of a point. Assumes nothing.
use Rattle.std.specs.Prelude.{◌≡◌, List, ℕ, zero, suc, ◌+◌, ◌-◌, ◌/◌, ◌<◌, ◌≤◌, ℤ, pos, ◌+ℤ◌, length, get_or, ◌<ℤ◌}
use Rattle.std.proofs.Common.{sym, ◌∙◌, ap, subst, ⊎_elim, arith}
use Rattle.std.proofs.Math.IntN.{+ℤ_idr}
use Rattle.std.specs.Int.Signed.{<ℤ-≤ℤ_trans}
use Rattle.arith.specs.Laws.Order.{≤ℤ_or-<ℤ, ≤ℤ-<ℤ_trans, <ℤ→≤ℤ}
use Rattle.rules.specs.Rings.{Corner, ◌to◌, origin, turn, turning_number}
use Rattle.ring_corners.specs.Sides.{rise_of, fall_of}
use Rattle.ring_corners.specs.Laws.Flat.{next_is, next_none}
use Rattle.ring_corners.specs.Laws.Sides.{sign_negative, below_both, turn_rises, turn_falls, turn_south, turn_north}
use Rattle.ring_turning.specs.Laws.Turning.{Turning, turning_step, turning_end, run}
use Rattle.ring_boxes.specs.Boxes.{Inside, Holds, nowhere, RunEnd, Boxed}
use Rattle.ring_boxes.specs.declared.reach.Reach.{Reach}
use Rattle.ring_placing.specs.Beside.{Off, Beside}

-- ---- an edge
-- both ends above p in Y
above : (a b p : Corner) → p.y <ℤ a.y → p.y <ℤ b.y → turn p (a to b) ≡ pos 0
above a b p h k = ⊎_elim
    (λ l. ⊎_elim
    (λ m. turn_south a b p l m)
    (λ m. turn_rises a b p l m ∙ ap rise_of (sign_negative _ (below_both a b p l m h k)))
    (≤ℤ_or-<ℤ b.x p.x))
    (λ l. ⊎_elim
    (λ m. turn_falls a b p m l ∙ ap fall_of (sign_negative _ (below_both b a p m l k h)))
    (λ m. turn_north a b p l m)
    (≤ℤ_or-<ℤ b.x p.x))
    (≤ℤ_or-<ℤ a.x p.x)

-- of a run
off_adds_none : {low high a b p : Corner} → Off low high p → Inside low high a → Inside low high b → turn p (a to b) ≡ pos 0
off_adds_none {low} {high} {a} {b} {p} o i j = ⊎_elim
    (λ h. turn_north a b p (<ℤ-≤ℤ_trans h i.above_x) (<ℤ-≤ℤ_trans h j.above_x))
    (λ t. ⊎_elim
    (λ h. turn_south a b p (<ℤ→≤ℤ (≤ℤ-<ℤ_trans i.below_x h)) (<ℤ→≤ℤ (≤ℤ-<ℤ_trans j.below_x h)))
    (λ h. above a b p (<ℤ-≤ℤ_trans h i.above_y) (<ℤ-≤ℤ_trans h j.above_y))
    t)
    o

-- ---- the edges of a ring but the last
leg_is : (r : List Corner) (j : ℕ) → j + 1 < length r → run r j ≡ (get_or r j origin to get_or r (j + 1) origin)
leg_is r j h = ap (λ (k : ℕ). get_or r j origin to get_or r k origin) (next_is j (length r) h)

-- and the last one
close_is : (r : List Corner) (j : ℕ) → j + 1 ≡ length r → run r j ≡ (get_or r j origin to get_or r 0 origin)
close_is r j h = ap (λ (k : ℕ). get_or r j origin to get_or r k origin) (next_none j (length r) (omega arith))

-- n edges that add nothing
pass : {r : List Corner} {p : Corner} {sum : ℤ} {k : ℕ} (n : ℕ) → Turning r p sum k → k + n < length r
    → ((j : ℕ) → k ≤ j → j < k + n → turn p (get_or r j origin to get_or r (j + 1) origin) ≡ pos 0) → Turning r p sum (k + n)
pass {r} {p} {sum} {k} zero t h f = subst (Turning r p sum) (none_more k) t
  where
    none_more : (k : ℕ) → k ≡ k + 0
    none_more k = omega arith
pass {r} {p} {sum} {k} (suc n) t h f =
    subst (Turning r p sum) (one_more k n) (pass {k = k + 1} n next (omega arith) (λ j a b. f j (omega arith) (omega arith)))
  where
    one_more : (k n : ℕ) → (k + 1) + n ≡ k + suc n
    one_more k n = omega arith

    next : Turning r p sum (k + 1)
    next =
        subst (λ (z : ℤ). Turning r p z (k + 1))
        (ap (λ (z : ℤ). sum +ℤ z) (ap (turn p) (leg_is r k (omega arith)) ∙ f k (omega arith) (omega arith)) ∙ +ℤ_idr sum)
        (turning_step t (omega arith))

module _ {r : List Corner} {p : Corner} {sum : ℤ} {k last : ℕ} (t : Turning r p sum k) (count : last + 1 ≡ length r) where
  -- a run that is beside p is passed to its end
  pub turning_pass : {boxes : List Reach} {end : ℕ} → k < last → Boxed r boxes → Beside boxes (k / 16) p → RunEnd (k / 16) last end → Turning r p sum end
  turning_pass {boxes} {end} h b o e = subst (Turning r p sum) (total k end (e.whole k (omega arith) (omega arith))) (pass (end - k) t (let g = e.in_reach in omega arith) none)
    where
      total : (k end : ℕ) → k ≤ end → k + (end - k) ≡ end
      total k end h = omega arith

      inside : (j : ℕ) → k ≤ j → j ≤ end → Holds (get_or boxes (k / 16) nowhere) (get_or r j origin)
      inside j a c = let g = e.in_reach in let i = e.in_run in b.inside (k / 16) j o.has_box (omega arith) (omega arith) (omega arith) (omega arith)

      none : (j : ℕ) → k ≤ j → j < k + (end - k) → turn p (get_or r j origin to get_or r (j + 1) origin) ≡ pos 0
      none j a c = off_adds_none o.off (inside j a (omega arith)) (inside (j + 1) (omega arith) (omega arith))

  -- one edge more
  pub turning_leg : k < last → Turning r p (sum +ℤ turn p (get_or r k origin to get_or r (k + 1) origin)) (k + 1)
  turning_leg h = subst (λ (z : ℤ). Turning r p (sum +ℤ z) (k + 1)) (ap (turn p) (leg_is r k (omega arith))) (turning_step t (omega arith))

  -- the last edge
  pub turning_close : k ≡ last → sum +ℤ turn p (get_or r last origin to get_or r 0 origin) ≡ turning_number r p
  turning_close h =
      ap (λ (z : ℤ). sum +ℤ z) (sym (ap (turn p) (close_is r last count)) ∙ ap (λ (j : ℕ). turn p (run r j)) (sym h))
      ∙ turning_end (turning_step t (omega arith)) (omega arith)
