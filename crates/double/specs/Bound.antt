-- What the polynomial step owes, over any table: its parts are finite and within a tenth of a micrometre of the exact value of the same polynomial,
-- which has the table's quotients of whole numbers and not their doubles. Definitions only.
use Rattle.std.specs.Prelude.{List, [], ◌∷◌, ℕ, suc, ◌+◌, ◌*◌, ◌/◌, ◌^◌, ◌≤◌, ◌<◌, ℤ, pos, nat_abs, ◌-ℤ◌, ◌*ℤ◌, length}
use Rattle.rules.specs.Scaled as scaled
use Rattle.rules.specs.Scaled.{unit, polynomial, derivative}
use Rattle.rules.specs.Polynomial.{double_unit, exact}
use Rattle.double.specs.declared.Pair.{Pair}
use Rattle.double.specs.Value.{value}
use Rattle.double.specs.Complex.{Numbers, values}
use Rattle.double.specs.Pairs.{◌⊝◌, ◌⊙◌, Modulus}
use Rattle.double.specs.Exact.{weight, lost}

-- at most ten coefficients c₀ ∷ cs, each over D, whose sizes times the powers of z's largest size add up to at most k; that size is m, in units of 2 ^ -1074, 1 at least
pub record Light (D : ℕ) (c₀ : ℤ) (cs : List ℤ) (m k : ℕ) : Type 0 where
  pub over : 0 < D
  pub few : length cs ≤ 9
  pub one : double_unit ≤ m
  pub not_huge : m ≤ 2 ^ 90 * double_unit
  pub weighs : weight double_unit (c₀ ∷ cs) m ≤ k * (D * double_unit ^ length cs)

-- z is finite, and its modulus is at most m
pub record Inside (z : Pair) (m : ℕ) : Type 0 where
  pub numbers : Numbers z
  pub modulus : Modulus (values z) m

-- a tenth of a micrometre: so many make a metre
abbrev pub per_metre : ℕ
per_metre = 10 ^ 7

-- one part of the answer, a whole multiple of 2 ^ -1074, is within 10 ^ -7 of `value`, which is over D and the n-th power of 2 ^ 1074:
-- all of it times 10 ^ 7, D and the (n+1)-th power of 2 ^ 1074
pub record Tenth (D n : ℕ) (answer value : ℤ) : Type 0 where
  pub bound : per_metre * nat_abs (answer *ℤ pos (D * double_unit ^ n) -ℤ value *ℤ pos double_unit) ≤ D * double_unit ^ suc n

pub record Answered (D : ℕ) (c₀ : ℤ) (cs : List ℤ) (z answer : Pair) : Type 0 where
  pub numbers : Numbers answer
  pub first : Tenth D (length cs) (value answer.re) (exact (c₀ ∷ cs) (values z)).first
  pub second : Tenth D (length cs) (value answer.im) (exact (c₀ ∷ cs) (values z)).second

-- the same of a whole table; of no coefficients there is nothing to say
abbrev pub LightTable : ℕ → List ℤ → ℕ → ℕ → Type 0
LightTable D [] m k = ⊥
LightTable D (c₀ ∷ cs) m k = Light D c₀ cs m k

-- 1.7 in units of 2 ^ -1074: the modulus of a pair by "parts of z at most 1.2 in size"
unfoldable pub reach : ℕ
unfolding double_unit
reach = 17 * double_unit / 10

-- ---- against the definition's own polynomial, whose z is over 10 ^ 24 and whose products go down
-- for moduli of at most m over 10 ^ 24: the polynomial moves at most S times as far as z does, and the floors cost at most L units of 10 ^ -24
pub record Gentle (c₀ : ℤ) (cs : List ℤ) (m S L : ℕ) : Type 0 where
  pub slope : weight unit (derivative (c₀ ∷ cs)) m * unit ≤ S * (unit * unit ^ length cs)
  pub floors : lost (c₀ ∷ cs) m ≤ L * unit ^ suc (length cs)

-- the doubles' z and the definition's are at most e apart, over 10 ^ 24 · 2 ^ 1074
pub record Apart (z : Pair) (w : scaled.Pair) (e : ℕ) : Type 0 where
  pub apart : Modulus (values z ⊙ unit ⊝ w ⊙ double_unit) e

-- the answer at z is within 10 ^ -7, S · e and L units of 10 ^ -24 of the definition's value at w
pub record Defined (cs : List ℤ) (w : scaled.Pair) (answer : Pair) (S L e : ℕ) : Type 0 where
  pub first : per_metre * nat_abs (value answer.re *ℤ pos unit -ℤ (polynomial cs w).first *ℤ pos double_unit) ≤ unit * double_unit + per_metre * (S * e + L * double_unit)
  pub second : per_metre * nat_abs (value answer.im *ℤ pos unit -ℤ (polynomial cs w).second *ℤ pos double_unit) ≤ unit * double_unit + per_metre * (S * e + L * double_unit)

abbrev pub GentleTable : List ℤ → ℕ → ℕ → ℕ → Type 0
GentleTable [] m S L = ⊥
GentleTable (c₀ ∷ cs) m S L = Gentle c₀ cs m S L

-- 1.7 over 10 ^ 24
abbrev pub reach_24 : ℕ
reach_24 = 17 * 10 ^ 23
