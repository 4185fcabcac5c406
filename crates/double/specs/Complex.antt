-- The complex sum, the complex product and the polynomial in doubles: the worked values of the code. Definitions only.
use Rattle.std.specs.Prelude.{false, List, [], ◌∷◌, pos, Float}
use Rattle.std.specs.Float.{fin, binary64}
use Rattle.std.specs.Float.Ieee.{add, sub, mul}
use Rattle.rules.specs.Scaled as scaled
use Rattle.double.specs.declared.Pair.{Pair}
use Rattle.double.specs.Value.{value, Number}

abbrev pub sum : Pair → Pair → Pair
sum a b = record { re = add binary64 a.re b.re; im = add binary64 a.im b.im }

abbrev pub product : Pair → Pair → Pair
product a b = record {
  re = sub binary64 (mul binary64 a.re b.re) (mul binary64 a.im b.im);
  im = add binary64 (mul binary64 a.re b.im) (mul binary64 a.im b.re);
}

-- r * z + c, for a real c
abbrev pub step : Pair → Pair → Float → Pair
step r z c = record { re = add binary64 (product r z).re c; im = (product r z).im }

-- +0, and a real number as a pair
abbrev pub nought : Float
nought = fin false 0 (pos 0)

abbrev pub real : Float → Pair
real c = record { re = c; im = nought }

-- c₀ + z * (c₁ + z * (c₂ + ..)): the last coefficient as it is, and then a step for each one before it
unfoldable pub horner : List Float → Pair → Pair
horner [] z = real nought
horner (c ∷ []) z = real c
horner (c ∷ d ∷ cs) z = step (horner (d ∷ cs) z) z c

-- both parts are finite numbers
pub record Numbers (z : Pair) : Type 0 where
  pub re : Number z.re
  pub im : Number z.im

-- the whole multiples of 2 ^ -1074 that the parts stand for
abbrev pub values : Pair → scaled.Pair
values z = record { first = value z.re; second = value z.im }
