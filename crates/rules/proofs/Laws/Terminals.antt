-- Two answers that lie within 0.51 unit of one value are a unit apart at most, and one where the value is clear of a half; so are any two points that the rules allow.
-- Assumes nothing.
use Rattle.std.specs.Prelude.{◌≡◌, [], ◌∷◌, ℕ, ◌*◌, ◌≤◌, ◌<◌, T, leb, ℤ, pos, ◌+ℤ◌, ◌-ℤ◌, ◌*ℤ◌, nat_abs, ◌≤ℤ◌}
use Rattle.std.proofs.Common.{arith, leb→le}
use Rattle.arith.specs.Laws.Diff.{Z·ℕ, lin}
use Rattle.arith.specs.Laws.Order.{≤ℤ_antisym}
use Rattle.rules.specs.Refusals.{Answer, answered, refused, crossed_at}
use Rattle.rules.specs.Systems.{System}
use Rattle.rules.specs.Scaled.{unit}
use Rattle.rules.specs.Projection as Unrounded
use Rattle.rules.specs.Rounding.{Within}
use Rattle.rules.specs.Points.{Point, offset_X, offset_Y, forward_checks, NearForward, RightForwardBy}
use Rattle.rules.specs.Terminals.{Farther, Clear, Beside, OneFence, AlikeBy, TwoTerminals}

-- two answers within k hundredths of one value: less than two units apart, and so one at most
at_most_one : (k : ℕ) → k < 100 → (a b v : ℤ) → 100 * nat_abs (a *ℤ pos unit -ℤ v) ≤ k * unit → 100 * nat_abs (b *ℤ pos unit -ℤ v) ≤ k * unit → nat_abs (a -ℤ b) ≤ 1
at_most_one k h a b v = lin (a ∷ b ∷ v ∷ []) λ x y ea eb ev. simp (Z·ℕ, ea, eb, ev) (omega arith)

-- for k at most 51 a value that two neighbours are near lies within 0.01 of the half between them, so the second is not above the first where it lies farther from the
-- half above that
not_above : (k : ℕ) → k ≤ 51 → (a b v : ℤ) → 100 * nat_abs (a *ℤ pos unit -ℤ v) ≤ k * unit → 100 * nat_abs (b *ℤ pos unit -ℤ v) ≤ k * unit → Farther v a → b ≤ℤ a
not_above k h a b v = lin (a ∷ b ∷ v ∷ []) λ x y ea eb ev. simp (Z·ℕ, ea, eb, ev) (omega arith)

beside : {k : ℕ} {a b v : ℤ} → T (leb k 51) → Within k a v → Within k b v → Beside v a b
beside {k} {a} {b} {v} t f g =
    let h = leb→le k 51 t in
    record {
      apart = at_most_one k (omega arith) a b v f.bound g.bound;
      one = λ clear. ≤ℤ_antisym (not_above k h b a v g.bound f.bound (clear.farther b)) (not_above k h a b v f.bound g.bound (clear.farther a));
    }

-- the whole offset goes off from both
past_offset : (o a b v : ℤ) → Beside v (a -ℤ o) (b -ℤ o) → Beside v a b
past_offset o a b v h = record { apart = nearer o a b h.apart; one = λ clear. same o a b (h.one clear) }
  where
    nearer : (o a b : ℤ) → nat_abs (a -ℤ o -ℤ (b -ℤ o)) ≤ 1 → nat_abs (a -ℤ b) ≤ 1
    nearer o a b = lin (o ∷ a ∷ b ∷ []) λ x y eo ea eb. simp (Z·ℕ, eo, ea, eb) (omega arith)

    same : (o a b : ℤ) → a -ℤ o ≡ b -ℤ o → a ≡ b
    same o a b = lin (o ∷ a ∷ b ∷ []) λ x y eo ea eb. simp (Z·ℕ, eo, ea, eb) (omega arith)

one_fence : (s : System) (v : Unrounded.Forward) (p q : Point) → NearForward s v p → NearForward s v q → OneFence v p q
one_fence s v p q f g = record {
  X = past_offset (offset_X s) p.X q.X v.north (beside tt f.X g.X);
  Y = past_offset (offset_Y s) p.Y q.Y v.east (beside tt f.Y g.Y);
  scale = beside tt f.scale g.scale;
  convergence = beside tt f.convergence g.convergence;
}

pub two_terminals : TwoTerminals
two_terminals code B L a b = go (forward_checks code B L)
  where
    go : (checks : Answer System) → RightForwardBy B L checks a → RightForwardBy B L checks b → AlikeBy B L checks a b
    go (answered s) f g = (f.0, g.0, f.1, g.1, one_fence s (Unrounded.forward s B L) f.0 g.0 f.2 g.2)
    go (refused n) f g = (f, g)
    go (crossed_at pair) f g = (f, g)
