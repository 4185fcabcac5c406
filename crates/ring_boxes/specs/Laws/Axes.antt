-- What a pass over the corners of a run keeps, axis by axis. Assumes nothing.
use Rattle.std.specs.Prelude.{◌≡◌, List, ℕ, ◌+◌, ◌≤◌, ℤ, get_or, ◌≤ℤ◌}
use Rattle.std.proofs.Common.{arith}
use Rattle.std.proofs.Math.Decide.{dec_lt}
use Rattle.std.specs.Int.Signed.{≤ℤ_refl}
use Rattle.arith.specs.Laws.Order.{≤ℤ_trans}
use Rattle.rules.specs.Rings.{Corner, origin}
use Rattle.rules.specs.RingAnswers.{smaller, larger}
use Rattle.ring_boxes.specs.Boxes.{Spans}
use Rattle.ring_boxes.specs.Laws.Spans.{smaller_both, larger_both}

abbrev pub north : Corner → ℤ
north c = c.x

abbrev pub east : Corner → ℤ
east c = c.y

-- along the axis f the corners from number `start` to number k lie from low to high
pub record Reached (f : Corner → ℤ) (r : List Corner) (start k : ℕ) (low high : ℤ) : Type 0 where
  pub reached : (j : ℕ) → start ≤ j → j ≤ k → (low ≤ℤ f (get_or r j origin)) × (f (get_or r j origin) ≤ℤ high)

module _ (f : Corner → ℤ) (r : List Corner) where
  pub reached_start : (start : ℕ) → Reached f r start start (f (get_or r start origin)) (f (get_or r start origin))
  reached_start start = record { reached = λ j a b. at j (omega arith) }
    where
      at : (j : ℕ) → j ≡ start → (f (get_or r start origin) ≤ℤ f (get_or r j origin)) × (f (get_or r j origin) ≤ℤ f (get_or r start origin))
      at j e = rw e (≤ℤ_refl _, ≤ℤ_refl _)

  pub reached_step : {start k : ℕ} {low high : ℤ} → Reached f r start k low high
      → Reached f r start (k + 1) (smaller low (f (get_or r (k + 1) origin))) (larger high (f (get_or r (k + 1) origin)))
  reached_step {start} {k} {low} {high} s = record {
    reached = λ j a b. elim (dec_lt k j) [ yes g ↦ new j (omega arith) | no g ↦ old j a (omega arith) ];
  }
    where
      z : ℤ
      z = f (get_or r (k + 1) origin)

      old : (j : ℕ) → start ≤ j → j ≤ k → (smaller low z ≤ℤ f (get_or r j origin)) × (f (get_or r j origin) ≤ℤ larger high z)
      old j a b = let h = s.reached j a b in (≤ℤ_trans (smaller_both low z).0 h.0, ≤ℤ_trans h.1 (larger_both high z).0)

      new : (j : ℕ) → j ≡ k + 1 → (smaller low z ≤ℤ f (get_or r j origin)) × (f (get_or r j origin) ≤ℤ larger high z)
      new j e = rw e ((smaller_both low z).1, (larger_both high z).1)

-- both axes
pub reached_both : {r : List Corner} {start end k : ℕ} {lx hx ly hy : ℤ} → Reached north r start k lx hx → Reached east r start k ly hy → end ≤ k
    → Spans r start end (record { low = record { x = lx; y = ly }; high = record { x = hx; y = hy } })
reached_both {end} {k} s t h = record {
  inside = λ j a b.
      let x = s.reached j a (omega arith) in
      let y = t.reached j a (omega arith) in
      record { above_x = x.0; below_x = x.1; above_y = y.0; below_y = y.1 };
}
