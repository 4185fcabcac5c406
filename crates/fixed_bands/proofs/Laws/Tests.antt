-- A test of every band of a table, and what it shows of each. Assumes nothing.
use Rattle.std.specs.Prelude.{◌≡◌, Bool, List, ℕ, zero, suc, ◌+◌, ◌*◌, ◌/◌, ◌%◌, ◌<◌, ◌≤◌, T, ℤ}
use Rattle.std.proofs.Common.{subst, div-add-mod', arith}
use Rattle.std.proofs.Math.Decide.{dec_le}
use Rattle.fixed.specs.Nearness.{Fixed}
use Rattle.fixed_bands.specs.declared.Row.{Row}
use Rattle.fixed_bands.specs.Worked.{width, rise, sink, rise_at, sink_at, rising, sinking}
use Rattle.fixed_bands.specs.Models.{Model, Follows}
use Rattle.fixed_bands.specs.Rows.{RowAt, Rises, Sinks}
use Rattle.fixed_bands.proofs.Laws.Rows.{first_of, second_of, rise_rises, sink_sinks, rise_fixed, sink_fixed}
use Rattle.fixed_bands.specs.Tests.{every, rise_row, sink_row}

pub every_at : (n : ℕ) (p : ℕ → Bool) → T (every n p) → (i : ℕ) → i < n → T (p i)
unfolding every
every_at zero p t i h = absurd (none i h)
  where
    none : (i : ℕ) → i < 0 → ⊥
    none i k = omega arith
every_at (suc n) p t i h = go (dec_le (suc i) n) (λ k. every_at n p (first_of (every n p) (p n) t) i k)
  where
    same : (i n : ℕ) → i < suc n → ¬ (suc i ≤ n) → n ≡ i
    same i n a b = omega arith

    go : Dec (suc i ≤ n) → (suc i ≤ n → T (p i)) → T (p i)
    go (yes k) f = f k
    go (no k) f = subst (λ j. T (p j)) (same i n h k) (second_of (every n p) (p n) t)

-- a number of the definition that turns on the ticks from the table's start, with its model in each band, and bounds that may turn on the band
module _ (W : ℕ → ℤ) (M : ℕ → Model) (follows : (i h : ℕ) → h ≤ width → Follows h (W (i * width + h)) (M i)) (tab : List ℕ) (bands e : ℕ) (lo hi : ℕ → ℕ) (n : ℕ) (inside : n / width < bands) where
  below : n % width ≤ width
  below = omega arith

  here : Follows (n % width) (W n) (M (n / width))
  here = subst (λ k. Follows (n % width) (W k) (M (n / width))) (div-add-mod' n width) (follows (n / width) (n % width) below)

  pub rising_near : T (every bands (λ i. rise_row tab i (M i) e (lo i) (hi i))) → Fixed (rising tab n) (W n) e (lo (n / width)) (hi (n / width))
  unfolding rising rise_at rise_row
  rising_near t = rise_fixed _ _ _ _ _ _ (M (n / width)) e (lo (n / width)) (hi (n / width)) (every_at bands (λ i. rise_row tab i (M i) e (lo i) (hi i)) t (n / width) inside) below here

  pub sinking_near : T (every bands (λ i. sink_row tab i (M i) e (lo i) (hi i))) → Fixed (sinking tab n) (W n) e (lo (n / width)) (hi (n / width))
  unfolding sinking sink_at sink_row
  sinking_near t = sink_fixed _ _ _ _ _ _ (M (n / width)) e (lo (n / width)) (hi (n / width)) (every_at bands (λ i. sink_row tab i (M i) e (lo i) (hi i)) t (n / width) inside) below here

-- ---- what the code's steps ask of a row, and what they make of it
pub row_rises : (tab : List ℕ) (i : ℕ) (m : Model) (e lo hi : ℕ) (r : Row) → T (rise_row tab i m e lo hi) → RowAt tab i r → Rises r.c0 r.c1 r.c2 r.c3 r.c4 r.c5
unfolding rise_row
row_rises tab i m e lo hi r t a =
    let f = rise_rises _ _ _ _ _ _ m e lo hi t in
    record { inner = omega (arith, f.inner, a.is3, a.is4, a.is5); middle = omega (arith, f.middle, a.is1, a.is2, a.is3); outer = omega (arith, f.outer, a.is0, a.is1) }

pub row_sinks : (tab : List ℕ) (i : ℕ) (m : Model) (e lo hi : ℕ) (r : Row) → T (sink_row tab i m e lo hi) → RowAt tab i r → Sinks r.c0 r.c1 r.c2 r.c3 r.c4 r.c5
unfolding sink_row
row_sinks tab i m e lo hi r t a =
    let f = sink_sinks _ _ _ _ _ _ m e lo hi t in
    record {
      last = omega (arith, f.last, a.is4, a.is5);
      inner = omega (arith, f.inner, a.is2, a.is3, a.is4);
      middle = omega (arith, f.middle, a.is0, a.is1, a.is2);
      outer = omega (arith, f.outer, a.is0);
    }

pub row_rising : (tab : List ℕ) (n : ℕ) (r : Row) → RowAt tab (n / width) r → rise r.c0 r.c1 r.c2 r.c3 r.c4 r.c5 (n % width) ≡ rising tab n
unfolding rising rise_at
row_rising tab n r a =
    go a.is0 a.is1 a.is2 a.is3 a.is4 a.is5
  where
    go : {a0 a1 a2 a3 a4 a5 b0 b1 b2 b3 b4 b5 : ℕ} → a0 ≡ b0 → a1 ≡ b1 → a2 ≡ b2 → a3 ≡ b3 → a4 ≡ b4 → a5 ≡ b5 → rise a0 a1 a2 a3 a4 a5 (n % width) ≡ rise b0 b1 b2 b3 b4 b5 (n % width)
    go e0 e1 e2 e3 e4 e5 = cc

pub row_sinking : (tab : List ℕ) (n : ℕ) (r : Row) → RowAt tab (n / width) r → sink r.c0 r.c1 r.c2 r.c3 r.c4 r.c5 (n % width) ≡ sinking tab n
unfolding sinking sink_at
row_sinking tab n r a =
    go a.is0 a.is1 a.is2 a.is3 a.is4 a.is5
  where
    go : {a0 a1 a2 a3 a4 a5 b0 b1 b2 b3 b4 b5 : ℕ} → a0 ≡ b0 → a1 ≡ b1 → a2 ≡ b2 → a3 ≡ b3 → a4 ≡ b4 → a5 ≡ b5 → sink a0 a1 a2 a3 a4 a5 (n % width) ≡ sink b0 b1 b2 b3 b4 b5 (n % width)
    go e0 e1 e2 e3 e4 e5 = cc
