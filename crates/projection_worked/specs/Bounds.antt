-- How large the numbers between the steps are, as the contracts of projection and projection_inverse say it. Definitions only.
use Rattle.std.specs.Prelude.{ℕ, ◌*◌, ◌^◌, ◌≤◌, nat_abs, pos, ◌≤ℤ◌}
use Rattle.rules.specs.Polynomial.{double_unit}
use Rattle.double.specs.declared.Pair.{Pair}
use Rattle.double.specs.Value.{value}
use Rattle.double.specs.Complex.{Numbers}
use Rattle.fixed_inverse.specs.Laws.Radius.{x_low, x_high, y_high}
use Rattle.metres.specs.Millimetres.{truncated}

-- 595 km, the most that a part may be, in units of 2^-30 m
abbrev pub limit30 : ℕ
limit30 = 595000 * 2 ^ 30

-- what is known of a polynomial's answer: finite parts, of at most 8,000,001 m
pub record Tame (p : Pair) : Type 0 where
  pub numbers : Numbers p
  pub first : nat_abs (value p.re) ≤ 8000001 * double_unit
  pub second : nat_abs (value p.im) ≤ 8000001 * double_unit

-- what is known of the derivative: its first part is near 500,000 m, its second is small
pub record Sloped (H : Pair) : Type 0 where
  pub first_low : pos (499000 * double_unit) ≤ℤ value H.re
  pub first_high : nat_abs (value H.re) ≤ 501000 * double_unit
  pub second_high : nat_abs (value H.im) ≤ 137 * double_unit

-- what is known of Mercator's pair: finite parts, in the range of the fixed-point inverse
pub record Placed (p : Pair) : Type 0 where
  pub tame : Tame p
  pub positive : pos 0 ≤ℤ value p.re
  pub low : x_low ≤ truncated 30 (value p.re)
  pub high : truncated 30 (value p.re) ≤ x_high
  pub side : truncated 30 (value p.im) ≤ y_high
