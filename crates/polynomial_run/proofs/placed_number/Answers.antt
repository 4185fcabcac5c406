-- What passes the test is below 2 ^ (63 - power).
use Prim.Native.Nat.{ℕ, zero, suc, ◌+◌, ◌-◌, ◌*◌, ◌%◌, ◌^◌, ◌≤◌, ◌<◌}
use mathlib.Core.Path.{ap}
use native.Mathlib.Nat.{le_of_eq, lt_of_lt_of_le, lt_of_le_of_lt, mod-lt}
use native.Mathlib.Omega.{arith}
use lib.Pow.{pow-add, pow_pos, pow_mono, shl_lt}
use lib.IntN.{nat_abs}
use lib.Ieee.{Float, binary64, to_bits}
use Rattle.rules.specs.Polynomial.{double_unit}
use Rattle.double.specs.Value.{value, Number, digits, power}
use Rattle.double.proofs.Laws.Pattern.{field, pattern_abs}
use Rattle.metres.specs.Laws.Bits.{no_nan}
use Rattle.polynomial_run.proofs.placed_number.Goals as goal

below : (k t p : ℕ) → t < 2 ^ 52 → k < 1086 - p → p ≤ 50 → digits k t * 2 ^ power k * 2 ^ p < 2 ^ (64 + 1074)
below zero t p h l q = lt_of_lt_of_le (shl_lt 53 p (shl_lt 53 0 (less t h))) (pow_mono {i = 53 + p} {j = 64 + 1074} (omega arith))
  where
    less : (t : ℕ) → t < 2 ^ 52 → t < 2 ^ 53
    less t h = omega arith
below (suc k) t p h l q = lt_of_lt_of_le (shl_lt (53 + k) p (shl_lt 53 k (less t h))) (pow_mono {i = 53 + k + p} {j = 64 + 1074} (omega arith))
  where
    less : (t : ℕ) → t < 2 ^ 52 → t + 2 ^ 52 < 2 ^ 53
    less t h = omega arith

small : (x : Float) (p : ℕ) → Number x → p ≤ 50 → field (to_bits binary64 x) < 1086 - p → nat_abs (value x) * 2 ^ p < 2 ^ 64 * double_unit
unfolding double_unit
small x p X q h =
    let b = to_bits binary64 x in
    let same = ap (λ (n : ℕ). n * 2 ^ p) (pattern_abs x X) in
    lt_of_le_of_lt (le_of_eq same) (lt_of_lt_of_le (below (field b) (b % 2 ^ 52) p (mod-lt b (pow_pos 52)) h q) (le_of_eq (pow-add 2 64 1074)))

pub float_to_bits-bits : goal.float_to_bits-bits
float_to_bits-bits c = no_nan c.args.x c.requires.0.is_finite

pub scaled-n-requires : goal.scaled-n-requires
scaled-n-requires c = (c.requires.0, omega arith, small c.args.x c.args.power c.requires.0 c.requires.1 c.if-bits-power.false)
