-- 01, The projection as whole numbers: its arithmetic. A number stands for itself divided by 10^24. Assumes nothing.
use Rattle.std.specs.Prelude.{Bool, true, false, List, [], ◌∷◌, ℕ, zero, suc, ◌+◌, ◌*◌, ◌/◌, ◌^◌, eqb, leb, ℤ, pos, negsuc, neg_ℤ, ◌+ℤ◌, ◌-ℤ◌, ◌*ℤ◌}
use Rattle.arith.specs.Floor.{floor}
use Rattle.rules.specs.Units.{◌°◌'◌'', half_turn_in_ticks}

-- "whole numbers scaled by 10^24"
abbrev pub unit : ℕ
unit = 10 ^ 24

abbrev pub one : ℤ
one = pos unit

-- "each product and quotient goes down to the next whole number": `floor n d` is the largest whole number that is at most n / d, below 0 too.
-- A quotient by 0 is 0, or -1 of a negative number; no point that is taken comes to one.
unfoldable pub product : ℤ → ℤ → ℤ
product a b = floor (a *ℤ b) unit

unfoldable pub quotient : ℤ → ℤ → ℤ
quotient a (pos b) = floor (a *ℤ one) b
quotient a (negsuc b) = floor (neg_ℤ a *ℤ one) (suc b)

-- "Square roots are whole-number square roots": the largest r with r·r at most n, from that of a fourth of n (Laws.Root shows it of every n).
-- The first argument only bounds how deep the recursion goes.
unfoldable pub raised : ℕ → ℕ → ℕ
raised n r = elim (leb ((r + 1) * (r + 1)) n) [ true ↦ r + 1 | false ↦ r ]

unfoldable pub root_by : ℕ → ℕ → ℕ
root_by zero n = 0
root_by (suc k) n = elim (eqb n 0) [ true ↦ 0 | false ↦ raised n (2 * root_by k (n / 4)) ]

unfoldable pub root : ℕ → ℕ
root n = root_by n n

-- the root of a scaled number; that of a negative one, which no point that is taken comes to, is 0
unfoldable pub sqrt : ℤ → ℤ
sqrt (pos n) = pos (root (n * unit))
sqrt (negsuc n) = pos 0

-- "Pi is 3.141592653589793238462643"
abbrev pub Pi : ℕ
Pi = 3_141592653589793238462643

-- an angle in ticks, in radians; and an angle in radians, in units of which h make half a turn, scaled
unfoldable pub radians : ℤ → ℤ
radians n = floor (n *ℤ pos Pi) half_turn_in_ticks

unfoldable pub turned_to : ℕ → ℤ → ℤ
turned_to h r = quotient (r *ℤ pos h) (pos Pi)

-- ---- "Power series are cut"
-- c₀ + y·(c₁ + y·(c₂ + ..)) and c₀ - y·(c₁ - y·(c₂ - ..))
unfoldable pub summed : ℤ → List ℤ → ℤ
summed y [] = pos 0
summed y (c ∷ cs) = c +ℤ product y (summed y cs)

unfoldable pub alternating : ℤ → List ℤ → ℤ
alternating y [] = pos 0
alternating y (c ∷ cs) = c -ℤ product y (alternating y cs)

-- 1 - y/m₁·(1 - y/m₂·(1 - ..)): each term is the one before it times y and divided by the next m
unfoldable pub nested : ℤ → List ℕ → ℤ
nested y [] = one
nested y (m ∷ ms) = one -ℤ floor (product y (nested y ms)) m

-- the coefficients 1/k, gone down, for each k of a list
unfoldable pub fractions : List ℕ → List ℤ
fractions [] = []
fractions (k ∷ ks) = pos (unit / k) ∷ fractions ks

unfoldable pub factorial : ℕ → ℕ
factorial zero = 1
factorial (suc n) = suc n * factorial n

-- "sine and cosine after power 25": x·(1 - x²/(2·3)·(1 - x²/(4·5)·(..))) and 1 - x²/(1·2)·(1 - x²/(3·4)·(..))
unfoldable pub sine_divisors : List ℕ
sine_divisors =
    2 * 3 ∷ 4 * 5 ∷ 6 * 7 ∷ 8 * 9 ∷ 10 * 11 ∷ 12 * 13 ∷ 14 * 15 ∷ 16 * 17 ∷ 18 * 19 ∷ 20 * 21 ∷ 22 * 23 ∷ 24 * 25 ∷ []

unfoldable pub cosine_divisors : List ℕ
cosine_divisors =
    1 * 2 ∷ 3 * 4 ∷ 5 * 6 ∷ 7 * 8 ∷ 9 * 10 ∷ 11 * 12 ∷ 13 * 14 ∷ 15 * 16 ∷ 17 * 18 ∷ 19 * 20 ∷ 21 * 22 ∷ 23 * 24 ∷ []

unfoldable pub sine : ℤ → ℤ
sine x = product x (nested (product x x) sine_divisors)

unfoldable pub cosine : ℤ → ℤ
cosine x = nested (product x x) cosine_divisors

-- "exponential after 10"
unfoldable pub exponential_coefficients : List ℤ
exponential_coefficients =
    fractions (factorial 0 ∷ factorial 1 ∷ factorial 2 ∷ factorial 3 ∷ factorial 4 ∷ factorial 5 ∷ factorial 6 ∷ factorial 7 ∷ factorial 8 ∷ factorial 9 ∷ factorial 10 ∷ [])

unfoldable pub exponential : ℤ → ℤ
exponential x = summed x exponential_coefficients

-- "hyperbolic sine and cosine after 15"
unfoldable pub hyperbolic_sine_coefficients : List ℤ
hyperbolic_sine_coefficients =
    fractions (factorial 1 ∷ factorial 3 ∷ factorial 5 ∷ factorial 7 ∷ factorial 9 ∷ factorial 11 ∷ factorial 13 ∷ factorial 15 ∷ [])

unfoldable pub hyperbolic_cosine_coefficients : List ℤ
hyperbolic_cosine_coefficients =
    fractions (factorial 0 ∷ factorial 2 ∷ factorial 4 ∷ factorial 6 ∷ factorial 8 ∷ factorial 10 ∷ factorial 12 ∷ factorial 14 ∷ [])

unfoldable pub hyperbolic_sine : ℤ → ℤ
hyperbolic_sine x = product x (summed (product x x) hyperbolic_sine_coefficients)

unfoldable pub hyperbolic_cosine : ℤ → ℤ
hyperbolic_cosine x = summed (product x x) hyperbolic_cosine_coefficients

-- "arc tangent and inverse hyperbolic tangent after 25"
unfoldable pub odd_fractions : List ℤ
odd_fractions = fractions (1 ∷ 3 ∷ 5 ∷ 7 ∷ 9 ∷ 11 ∷ 13 ∷ 15 ∷ 17 ∷ 19 ∷ 21 ∷ 23 ∷ 25 ∷ [])

unfoldable pub arctan : ℤ → ℤ
arctan x = product x (alternating (product x x) odd_fractions)

unfoldable pub artanh : ℤ → ℤ
artanh x = product x (summed (product x x) odd_fractions)

-- "An arc tangent for a latitude or for Mercator's x is taken about 52° by the tangent difference rule."
unfoldable pub at_52 : ℤ
at_52 = radians (pos (52 ° 0 ' 0 ''))

unfoldable pub tan_52 : ℤ
tan_52 = quotient (sine at_52) (cosine at_52)

unfoldable pub arctan_about_52 : ℤ → ℤ
arctan_about_52 v = at_52 +ℤ arctan (quotient (v -ℤ tan_52) (one +ℤ product v tan_52))

-- ---- pairs, as complex numbers: "the pair", "first part", "second part", "complex products"
pub record Pair : Type 0 where
  pub first : ℤ
  pub second : ℤ

unfoldable pub plus : Pair → Pair → Pair
plus u v = record { first = u.first +ℤ v.first; second = u.second +ℤ v.second }

unfoldable pub times : Pair → Pair → Pair
times u v = record {
  first = product u.first v.first -ℤ product u.second v.second;
  second = product u.first v.second +ℤ product u.second v.first;
}

-- c₀·p + c₁·p·z + c₂·p·z² + ..
unfoldable pub polynomial_from : Pair → Pair → List ℤ → Pair
polynomial_from p z [] = record { first = pos 0; second = pos 0 }
polynomial_from p z (c ∷ cs) =
    plus (record { first = product c p.first; second = product c p.second }) (polynomial_from (times p z) z cs)

-- "a0 + a1·z + .. + a6·z^6"
unfoldable pub polynomial : List ℤ → Pair → Pair
polynomial cs z = polynomial_from (record { first = one; second = pos 0 }) z cs

-- "the polynomial's derivative by z": 1·c₁ + 2·c₂·z + 3·c₃·z² + ..
unfoldable pub weighted : ℕ → List ℤ → List ℤ
weighted k [] = []
weighted k (c ∷ cs) = (pos k *ℤ c) ∷ weighted (suc k) cs

unfoldable pub derivative : List ℤ → List ℤ
derivative [] = []
derivative (c ∷ cs) = weighted 1 cs

-- "the length" and "own direction" of a pair
unfoldable pub pair_length : Pair → ℤ
pair_length u = sqrt (product u.first u.first +ℤ product u.second u.second)

unfoldable pub direction : Pair → ℤ
direction u = arctan (quotient u.second u.first)
