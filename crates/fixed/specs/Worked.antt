-- The fixed-point arithmetic as it is worked, on natural numbers: a number v stands for v / 2^60. Each definition is what the function of src/ of the
-- same name answers, step by step. Assumes nothing: outside the ranges of the laws (Laws.Words, Laws.Loops) these are numbers without a meaning.
use Rattle.std.specs.Prelude.{Bool, List, [], ◌∷◌, ℕ, ◌+◌, ◌*◌, ◌-◌, ◌/◌, ◌%◌, ◌^◌, ltb}

-- 1
abbrev pub S60 : ℕ
S60 = 2 ^ 60

-- half of the bits
abbrev pub P30 : ℕ
P30 = 2 ^ 30

-- a·b / 2^60 by the halves of a and b: the product of the two lower halves, which is less than one unit, is left out
unfoldable pub mul60 : ℕ → ℕ → ℕ
mul60 a b = a / P30 * (b / P30) + (a / P30 * (b % P30) + a % P30 * (b / P30)) / P30

-- a·2^60 / b in two steps of 30 bits, each by the upper half of b, gone up
abbrev pub quot_first : ℕ → ℕ → ℕ
quot_first a b = a / (b / P30 + 1)

abbrev pub quot_rest : ℕ → ℕ → ℕ
quot_rest a b = (a - quot_first a b * (b / P30)) * P30 - quot_first a b * (b % P30)

unfoldable pub quot60 : ℕ → ℕ → ℕ
quot60 a b = quot_first a b * P30 + quot_rest a b / (b / P30 + 1)

-- c₀ - q·(c₁ - q·(c₂ - ..)) and c₀ + q·(c₁ + q·(c₂ + ..)) of a table c
unfoldable pub alt60 : ℕ → List ℕ → ℕ
alt60 q [] = 0
alt60 q (c ∷ cs) = c - mul60 q (alt60 q cs)

unfoldable pub ser60 : ℕ → List ℕ → ℕ
ser60 q [] = 0
ser60 q (c ∷ cs) = c + mul60 q (ser60 q cs)

-- x·(c₀ - x²·(c₁ - ..)) and x·(c₀ + x²·(c₁ + ..)): sine and arc tangent, hyperbolic sine and inverse hyperbolic tangent, each by its table
unfoldable pub odd_alt60 : ℕ → List ℕ → ℕ
odd_alt60 x cs = mul60 x (alt60 (mul60 x x) cs)

unfoldable pub odd_ser60 : ℕ → List ℕ → ℕ
odd_ser60 x cs = mul60 x (ser60 (mul60 x x) cs)

-- c₀ - x²·(c₁ - ..) and c₀ + x²·(c₁ + ..): cosine and hyperbolic cosine
unfoldable pub even_alt60 : ℕ → List ℕ → ℕ
even_alt60 x cs = alt60 (mul60 x x) cs

unfoldable pub even_ser60 : ℕ → List ℕ → ℕ
even_ser60 x cs = ser60 (mul60 x x) cs

-- The tangent difference rule about 52°, for an angle whose tangent is n / m: (n - m·tan 52°) / (m + n·tan 52°), as a size and whether it is to the south
abbrev pub Tan52 : ℕ
Tan52 = 1475672232396987915

abbrev pub apart : ℕ → ℕ → ℕ
apart a b = (a - b) + (b - a)

unfoldable pub tilt60 : ℕ → ℕ → ℕ
tilt60 n m = quot60 (apart n (mul60 m Tan52)) (m + mul60 n Tan52)

unfoldable pub tilt_south : ℕ → ℕ → Bool
tilt_south n m = ltb n (mul60 m Tan52)
