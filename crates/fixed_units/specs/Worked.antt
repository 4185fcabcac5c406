-- Scale and convergence in whole units of the answers as they are worked, from numbers at scale 2^60: to the nearest whole number, ties to even. Each definition
-- is what the function of src/ of the same name answers. Assumes nothing: outside the ranges of the laws these are numbers without a meaning.
use Rattle.std.specs.Prelude.{ℕ, ◌*◌, ◌/◌, ◌^◌, ℤ, pos, nat_abs}
use Rattle.fixed.specs.Worked.{P30, mul60}
use Rattle.fixed.specs.Nearness.{turned}
use Rattle.fixed.specs.Laws.Turned.{below_zero}
use Rattle.fixed_inverse.specs.Worked.{nearest_even}

-- a scale times m0, in units of 10^-9: with m0 in those units, at scale 2^30 what is below one of them is left out, and then it is rounded
unfoldable pub scale_units : ℕ → ℕ → ℕ
scale_units m0 sc = nearest_even (sc * m0 / P30) P30

-- m0 of M millionths in units of 10^-9
abbrev pub m0_units : ℕ → ℕ
m0_units M = 1000 * M

-- the size of an angle in thousandths of an arc second: times 648,000,000 / π · 2^32, to the nearest unit
abbrev pub ThousandthC : ℕ
ThousandthC = 885900597147055340

unfoldable pub angle_units : ℕ → ℕ
angle_units a = nearest_even (mul60 a ThousandthC) (2 ^ 32)

-- a convergence: the size, with the sign put on last
unfoldable pub convergence_units : ℤ → ℤ
convergence_units g = turned (below_zero g) (pos (angle_units (nat_abs g)))
