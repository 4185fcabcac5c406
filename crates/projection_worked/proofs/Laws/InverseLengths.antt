-- How long the parts of z are over the box of refusal 4, m0 undone: at most 595 km from the centre, the range in which every step is finite. Assumes nothing.
use Rattle.std.specs.Prelude.{ℕ, ◌+◌, ◌*◌, ◌^◌, ◌≤◌, ◌<◌, pos, nat_abs, ◌-ℤ◌}
use Rattle.std.proofs.Common.{le_trans, le_of_mul-le-mul_right, le-div_iff_mul-le, div-mul-le_self, arith, lit≤}
use Rattle.arith.specs.Laws.Diff.{Z·ℕ}
use Rattle.rules.specs.Systems.{Ellipsoid, GRS_80, Krasovsky}
use Rattle.projection_worked.specs.Bounds.{limit30}
use Rattle.projection_worked.specs.Inverse.{undone30, centre30, centred30, side_km, Boxed}

-- ---- the box's ends stay whole numbers of metres
pub undone_low : (M n k : ℕ) → 0 < M → k * M ≤ n → k * 1000 * 2 ^ 30 ≤ undone30 M n
unfolding undone30
undone_low M n k h l = (le-div_iff_mul-le h).1 (go M n k l)
  where
    go : (M n k : ℕ) → k * M ≤ n → k * 1000 * 2 ^ 30 * M ≤ n * 1000 * 2 ^ 30
    go M n k l = omega arith

pub undone_high : (M n k : ℕ) → 0 < M → n ≤ k * M → undone30 M n ≤ k * 1000 * 2 ^ 30
unfolding undone30
undone_high M n k h l = le_of_mul-le-mul_right {k = M} (le_trans (div-mul-le_self (n * 1000 * 2 ^ 30) M) (go M n k l)) h
  where
    go : (M n k : ℕ) → n ≤ k * M → n * 1000 * 2 ^ 30 ≤ k * 1000 * 2 ^ 30 * M
    go M n k l = omega arith

-- in the box: the lengths that z is made of
pub record Lengths (g f : ℕ) : Type 0 where
  pub low : 5300000 * 2 ^ 30 ≤ g
  pub high : g ≤ 6250000 * 2 ^ 30
  pub side : f ≤ side_km * 1000 * 2 ^ 30

pub lengths : {M n m : ℕ} → Boxed M n m → Lengths (undone30 M n) (undone30 M m)
lengths {M} {n} {m} b =
    let h : 0 < M = above b.scale_low in
    record { low = undone_low M n 5300 h b.low; high = undone_high M n 6250 h b.high; side = undone_high M m side_km h b.side }
  where
    above : {M : ℕ} → 999000 ≤ M → 0 < M
    above h = omega arith

-- ---- the range of z
-- both ends of the box are at most r from the centre, and so is all between them
pub within : (E : Ellipsoid) (r : ℕ) {g : ℕ} → centre30 E ≤ 5300000 * 2 ^ 30 + r → 6250000 * 2 ^ 30 ≤ centre30 E + r → 5300000 * 2 ^ 30 ≤ g → g ≤ 6250000 * 2 ^ 30 → nat_abs (centred30 E g) ≤ r
unfolding centred30
within E r {g} = go g (centre30 E)
  where
    go : (g c : ℕ) → c ≤ 5300000 * 2 ^ 30 + r → 6250000 * 2 ^ 30 ≤ c + r → 5300000 * 2 ^ 30 ≤ g → g ≤ 6250000 * 2 ^ 30 → nat_abs (pos g -ℤ pos c) ≤ r
    go g c i k l h = simp Z·ℕ (omega arith)

module _ {g f : ℕ} (b : Lengths g f) where
  pub north_in_range : (E : Ellipsoid) → nat_abs (centred30 E g) ≤ limit30
  unfolding centre30
  north_in_range GRS_80 = within GRS_80 limit30 (lit≤ tt) (lit≤ tt) b.low b.high
  north_in_range Krasovsky = within Krasovsky limit30 (lit≤ tt) (lit≤ tt) b.low b.high

  pub east_in_range : f ≤ limit30
  east_in_range = let h = b.side in omega arith
