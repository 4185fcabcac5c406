-- What the loop over the corners of a run keeps. Assumes nothing.
use Rattle.std.specs.Prelude.{◌≡◌, refl, Bool, true, false, cond, List, ℕ, ◌+◌, ◌≤◌, ℤ, get_or, ◌≤ℤ◌}
use Rattle.std.proofs.Common.{sym, arith}
use Rattle.std.proofs.Math.Decide.{dec_lt}
use Rattle.std.specs.Int.{int_min, int_max}
use Rattle.std.specs.Int.Signed.{lt_z, ≤ℤ_refl}
use Rattle.arith.specs.Laws.Order.{≤ℤ_trans, <ℤ→≤ℤ, ≤ℤ_antisym}
use Rattle.rules.specs.Rings.{Corner, origin}
use Rattle.rules.specs.RingAnswers.{smaller, larger}
use Rattle.rules.proofs.Laws.Checks.{lt_z_true, lt_z_false}
use Rattle.terms.specs.Papers.{corner_of}
use Rattle.ring_boxes.specs.declared.reach.Reach.{Reach}
use Rattle.ring_boxes.specs.Boxes.{lower, upper, Inside, Holds, Spans}

pub smaller_both : (a b : ℤ) → (smaller a b ≤ℤ a) × (smaller a b ≤ℤ b)
unfolding smaller
smaller_both a b = go (lt_z b a) refl
  where
    go : (t : Bool) → lt_z b a ≡ t → (elim t [ true ↦ b | false ↦ a ] ≤ℤ a) × (elim t [ true ↦ b | false ↦ a ] ≤ℤ b)
    go true e = (<ℤ→≤ℤ ((lt_z_true b a).0 e), ≤ℤ_refl b)
    go false e = (≤ℤ_refl a, (lt_z_false b a).0 e)

pub larger_both : (a b : ℤ) → (a ≤ℤ larger a b) × (b ≤ℤ larger a b)
unfolding larger
larger_both a b = go (lt_z a b) refl
  where
    go : (t : Bool) → lt_z a b ≡ t → (a ≤ℤ elim t [ true ↦ b | false ↦ a ]) × (b ≤ℤ elim t [ true ↦ b | false ↦ a ])
    go true e = (<ℤ→≤ℤ ((lt_z_true a b).0 e), ≤ℤ_refl b)
    go false e = (≤ℤ_refl a, (lt_z_false a b).0 e)

-- both corners of a box of two lie in it
pub ends_inside : (a b : Corner) → Inside (lower a b) (upper a b) a × Inside (lower a b) (upper a b) b
ends_inside a b = (
  record { above_x = (smaller_both a.x b.x).0; below_x = (larger_both a.x b.x).0; above_y = (smaller_both a.y b.y).0; below_y = (larger_both a.y b.y).0 },
  record { above_x = (smaller_both a.x b.x).1; below_x = (larger_both a.x b.x).1; above_y = (smaller_both a.y b.y).1; below_y = (larger_both a.y b.y).1 },
)

-- a box that is grown by a corner holds it, and what it held
grown_inside : {low high c : Corner} (d : Corner) → Inside low high c → Inside (lower low d) (upper high d) c
grown_inside {low} {high} d i = record {
  above_x = ≤ℤ_trans (smaller_both low.x d.x).0 i.above_x;
  below_x = ≤ℤ_trans i.below_x (larger_both high.x d.x).0;
  above_y = ≤ℤ_trans (smaller_both low.y d.y).0 i.above_y;
  below_y = ≤ℤ_trans i.below_y (larger_both high.y d.y).0;
}

grown_by : (low high d : Corner) → Inside (lower low d) (upper high d) d
grown_by low high d = record {
  above_x = (smaller_both low.x d.x).1;
  below_x = (larger_both high.x d.x).1;
  above_y = (smaller_both low.y d.y).1;
  below_y = (larger_both high.y d.y).1;
}

-- the first corner by itself
pub spans_start : {r : List Corner} {start : ℕ} {a : Corner} {b : Reach} → a ≡ get_or r start origin
    → corner_of b.low ≡ lower a a → corner_of b.high ≡ upper a a → Spans r start start b
spans_start {r} {start} {a} {b} e l h = record { inside = λ j g k. at j (omega arith) }
  where
    at : (j : ℕ) → j ≡ start → Holds b (get_or r j origin)
    at j g = rw (g, l, h, sym e) (ends_inside a a).0

-- one corner more
pub spans_step : {r : List Corner} {start k : ℕ} {c : Corner} {b d : Reach} → Spans r start k b → c ≡ get_or r (k + 1) origin
    → corner_of d.low ≡ lower (corner_of b.low) c → corner_of d.high ≡ upper (corner_of b.high) c → Spans r start (k + 1) d
spans_step {r} {start} {k} {c} {b} {d} s e l h = record {
  inside = λ j g i. elim (dec_lt k j) [ yes m ↦ new j (omega arith) | no m ↦ old j g (omega arith) ];
}
  where
    old : (j : ℕ) → start ≤ j → j ≤ k → Holds d (get_or r j origin)
    old j g i = rw (l, h) (grown_inside c (s.inside j g i))

    new : (j : ℕ) → j ≡ k + 1 → Holds d (get_or r j origin)
    new j g = rw (g, l, h, sym e) (grown_by (corner_of b.low) (corner_of b.high) c)
