-- The exact value of a polynomial at a pair of whole numbers over any denominator, what its table weighs, and the doubles that stand for a table. Definitions only.
use Rattle.std.specs.Prelude.{List, [], ◌∷◌, ℕ, suc, ◌+◌, ◌*◌, ◌^◌, ℤ, pos, negsuc, nat_abs, ◌*ℤ◌, length, Float, true, false}
use Rattle.std.specs.Float.{binary64}
use Rattle.std.specs.Float.Ieee.{round}
use Rattle.rules.specs.Scaled.{unit, Pair}
use Rattle.double.specs.Value.{value}
use Rattle.double.specs.Pairs.{◌⊗◌, ◌⊞◌}

-- c₀ + c₁·z + .. + cₙ·zⁿ, z being over u: times the n-th power of u, so that it is whole. At u = 2 ^ 1074 it is `exact` of the rules.
unfoldable pub at : ℕ → List ℤ → Pair → Pair
at u [] z = record { first = pos 0; second = pos 0 }
at u (c ∷ cs) z = (c *ℤ pos (u ^ length cs)) ⊞ (z ⊗ at u cs z)

-- |c₀| + |c₁|·m + .. + |cₙ|·mⁿ, at the same scale: sizes times the powers of z's largest size
unfoldable pub weight : ℕ → List ℤ → ℕ → ℕ
weight u [] m = 0
weight u (c ∷ cs) m = nat_abs c * u ^ length cs + weight u cs m * m

-- the double nearest to n / d, and a table of them
unfoldable pub nearest_double : ℕ → ℤ → Float
nearest_double d (pos n) = round binary64 false n d
nearest_double d (negsuc n) = round binary64 true (suc n) d

unfoldable pub doubles : ℕ → List ℤ → List Float
unfolding nearest_double
doubles d [] = []
doubles d (c ∷ cs) = nearest_double d c ∷ doubles d cs

-- the whole multiples of 2 ^ -1074 that a table of doubles stands for
unfoldable pub table_values : List Float → List ℤ
table_values [] = []
table_values (c ∷ cs) = value c ∷ table_values cs

-- the most that the definition's floors can move its value, times the table's length-th power of 10 ^ 24: 2 for each product with a coefficient,
-- and 4 for each power of z, times what the coefficients after it weigh
unfoldable pub lost : List ℤ → ℕ → ℕ
unfolding weight
lost [] m = 0
lost (c ∷ cs) m = 2 * unit ^ suc (length cs) + unit * lost cs m + 4 * unit * weight unit cs m
