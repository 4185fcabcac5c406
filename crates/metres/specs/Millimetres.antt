-- From doubles to whole numbers: a size in whole multiples of 2 ^ -k m, gone down, and whole millimetres after m0, to the nearest and at a tie to the even. Definitions only.
use Rattle.std.specs.Prelude.{ℕ, ◌+◌, ◌-◌, ◌*◌, ◌/◌, ◌^◌, ◌≤◌, ◌<◌, ◌≡◌, ℤ, pos, negsuc, neg_ℤ, nat_abs}
use Rattle.std.specs.Float.Ieee.Nearest.{closest}
use Rattle.rules.specs.Scaled.{unit}
use Rattle.rules.specs.Polynomial.{double_unit}

-- the size of z, which is in units of 2 ^ -1074, in whole multiples of 2 ^ -k, gone down
unfoldable pub truncated : ℕ → ℤ → ℕ
truncated k z = nat_abs z * 2 ^ k / double_unit

-- m0 is 1 - short / (1000 · per); m0 is over 10 ^ 24
pub record Scale (m0 : ℕ) (short per : ℕ) : Type 0 where
  pub positive : 0 < per
  pub at_most : short ≤ 1000 * per
  pub is : m0 * (1000 * per) ≡ (1000 * per - short) * unit

-- x, in whole multiples of 2 ^ -20 m, times m0 and in millimetres: `closest a b` is a / b to the nearest whole number, at a tie to the even one
abbrev pub nearest_millimetres : ℕ → ℕ → ℕ → ℕ
nearest_millimetres x short per = closest (x * (1000 * per - short)) (per * 2 ^ 20)

-- what 64 bits hold on the way
pub record Fits (x short per : ℕ) : Type 0 where
  pub positive : 0 < per
  pub at_most : short ≤ 1000 * per
  pub thousands : x * 1000 < 2 ^ 63
  pub less : x * short + per * 2 ^ 20 < 2 ^ 63

-- a double's value p in units of 2 ^ -1074, as whole millimetres after m0, with its sign
abbrev pub in_millimetres : ℤ → ℕ → ℕ → ℤ
in_millimetres (pos n) short per = pos (nearest_millimetres (truncated 20 (pos n)) short per)
in_millimetres (negsuc n) short per = neg_ℤ (pos (nearest_millimetres (truncated 20 (negsuc n)) short per))
