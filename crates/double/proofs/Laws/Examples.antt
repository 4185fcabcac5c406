-- Values worked out by computation: a product, and a coefficient beside which doubles end. Assumes nothing.
use Rattle.std.specs.Prelude.{◌≡◌, refl, [], ◌∷◌, ℕ, ◌^◌, ℤ, pos}
use Rattle.std.specs.Float.{binary64}
use Rattle.std.specs.Float.Ieee.{of_int}
use Rattle.std.specs.Float.Ieee as Ieee
use Rattle.double.specs.declared.Pair.{Pair}
use Rattle.double.specs.Complex.{product, horner}
use Rattle.double.specs.Exact.{nearest_double, doubles}
use Rattle.double.specs.Steps.{AllFinite, horner_doubles}

-- a switch that opens the arithmetic of doubles
unfoldable pub arithmetic : ℕ
unfolding Ieee.round Ieee.add Ieee.sub Ieee.mul Ieee.of_int
arithmetic = 0

abbrev pair : ℕ → ℕ → Pair
pair x y = record { re = of_int binary64 (pos x); im = of_int binary64 (pos y) }

-- (3 + i)·(2 + i) = 5 + 5i
product_there : product (pair 3 1) (pair 2 1) ≡ pair 5 5
unfolding arithmetic
product_there = refl

-- the largest power of 2 that a coefficient can have at z = 1 + i: every double is finite. With the next one it is not: 2 ^ 1023 and 2 ^ 1023 are too much for a double
abbrev largest : ℕ
largest = 2 ^ 1022

largest_coefficient : AllFinite (horner_doubles (doubles 1 (pos largest ∷ pos largest ∷ [])) (pair 1 1))
unfolding arithmetic horner horner_doubles doubles nearest_double
largest_coefficient = (tt, (tt, (tt, (tt, (tt, (tt, (tt, (tt, (tt, tt)))))))))
