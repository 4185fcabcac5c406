-- Runs of edges whose box is away from that of edge k are passed whole. Assumes nothing.
use Rattle.std.specs.Prelude.{◌≡◌, refl, Bool, true, false, ◌&&◌, List, ℕ, ◌+◌, ◌-◌, ◌/◌, ◌<◌, ◌≤◌, T, ℤ, length, get_or, ◌≤ℤ◌}
use Rattle.std.proofs.Common.{sym, subst, inl, inr, ⊎_elim, arith}
use Rattle.std.specs.Int.Signed.{lt_z, <ℤ-≤ℤ_trans}
use Rattle.arith.specs.Laws.Order.{≤ℤ-<ℤ_trans}
use Rattle.rules.specs.Rings.{Corner, origin}
use Rattle.rules.proofs.Laws.Checks.{lt_z_true, or_true}
use Rattle.ring_corners.specs.Laws.Tests.{and_true}
use Rattle.ring_boxes.specs.Boxes.{Inside, Holds, nowhere, RunEnd, Boxed}
use Rattle.ring_boxes.specs.declared.reach.Reach.{Reach}
use Rattle.ring_pairs.specs.Crossings.{outside, away, leg_away, run_away, Skipped}

pub both : (a b : Bool) → (a && b) ≡ true → (a ≡ true) × (b ≡ true)
both true b e = (refl, e)
both false b e = (e, absurd (subst T (sym e) tt))

-- of one axis: p and q lie from c to d
outside_inside : (low high c d p q : ℤ) → outside low high c d ≡ true → c ≤ℤ p → p ≤ℤ d → c ≤ℤ q → q ≤ℤ d → outside low high p q ≡ true
unfolding outside
outside_inside low high c d p q e cp pd cq qd = ⊎_elim
    (λ f. let h = (lt_z_true high c).0 (both (lt_z high c) (lt_z high d) f).0 in (or_true _ _).1 (inl (and_true ((lt_z_true high p).1 (<ℤ-≤ℤ_trans h cp)) ((lt_z_true high q).1 (<ℤ-≤ℤ_trans h cq)))))
    (λ f. let h = (lt_z_true d low).0 (both (lt_z c low) (lt_z d low) f).1 in (or_true (lt_z high p && lt_z high q) _).1 (inr (and_true ((lt_z_true p low).1 (≤ℤ-<ℤ_trans pd h)) ((lt_z_true q low).1 (≤ℤ-<ℤ_trans qd h)))))
    ((or_true (lt_z high c && lt_z high d) (lt_z c low && lt_z d low)).0 e)

-- an edge inside a box that is away is away
pub away_inside : (low high c d p q : Corner) → away low high c d ≡ true → Inside c d p → Inside c d q → away low high p q ≡ true
unfolding away
away_inside low high c d p q e a b = ⊎_elim
    (λ f. (or_true _ _).1 (inl (outside_inside low.x high.x c.x d.x p.x q.x f a.above_x a.below_x b.above_x b.below_x)))
    (λ f. (or_true (outside low.x high.x p.x q.x) _).1 (inr (outside_inside low.y high.y c.y d.y p.y q.y f a.above_y a.below_y b.above_y b.below_y)))
    ((or_true (outside low.x high.x c.x d.x) (outside low.y high.y c.y d.y)).0 e)

-- the runs from m to before n are away, so their edges are, from edge l of run m on
pub skip_runs : {r : List Corner} {boxes : List Reach} (low high : Corner) {l end n stop t : ℕ} → Boxed r boxes → Skipped (run_away low high boxes) (l / 16) end n → end ≤ length boxes
    → l / 16 < n → RunEnd (n - 1) stop t → l < stop → stop < length r → Skipped (leg_away low high r) l stop t
skip_runs {r} {boxes} low high {l} {end} {n} {stop} {t} b s h g e f i = record {
  low = e.whole l (omega arith) (omega arith);
  high = e.in_reach;
  skipped = λ j a c. away_inside low high _ _ (get_or r j origin) (get_or r (j + 1) origin) (run j a c) (inside j j a c (omega arith) (omega arith)) (inside j (j + 1) a c (omega arith) (omega arith));
}
  where
    run : (j : ℕ) → l ≤ j → j < t → run_away low high boxes (j / 16) ≡ true
    run j a c = s.skipped (j / 16) (omega arith) (omega (arith, e.in_run))

    inside : (j p : ℕ) → l ≤ j → j < t → j ≤ p → p ≤ j + 1 → Holds (get_or boxes (j / 16) nowhere) (get_or r p origin)
    inside j p a c u v = b.inside (j / 16) p (omega (arith, e.in_run, s.high)) (omega (arith, e.in_reach)) (omega arith) (omega arith) (omega (arith, e.in_reach))
