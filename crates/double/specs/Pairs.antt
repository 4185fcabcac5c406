-- Pairs of whole numbers as complex numbers, exactly: sum, difference, product and modulus. Definitions only.
use Rattle.std.specs.Prelude.{ℕ, ◌+◌, ◌*◌, ◌^◌, ◌≤◌, ℤ, pos, nat_abs, ◌+ℤ◌, ◌-ℤ◌, ◌*ℤ◌}
use Rattle.rules.specs.Scaled.{Pair}

infixl 60 ◌⊕◌
abbrev pub ◌⊕◌ : Pair → Pair → Pair
p ⊕ q = record { first = p.first +ℤ q.first; second = p.second +ℤ q.second }

infixl 60 ◌⊝◌
abbrev pub ◌⊝◌ : Pair → Pair → Pair
p ⊝ q = record { first = p.first -ℤ q.first; second = p.second -ℤ q.second }

infixl 70 ◌⊗◌
abbrev pub ◌⊗◌ : Pair → Pair → Pair
p ⊗ q = record { first = p.first *ℤ q.first -ℤ p.second *ℤ q.second; second = p.first *ℤ q.second +ℤ p.second *ℤ q.first }

-- n times a pair
infixl 70 ◌⊙◌
abbrev pub ◌⊙◌ : Pair → ℕ → Pair
p ⊙ n = record { first = p.first *ℤ pos n; second = p.second *ℤ pos n }

-- a real number and a pair
infixl 60 ◌⊞◌
abbrev pub ◌⊞◌ : ℤ → Pair → Pair
k ⊞ p = record { first = k +ℤ p.first; second = p.second }

abbrev pub square : ℤ → ℕ
square z = nat_abs z * nat_abs z

-- the modulus of p is at most q
pub record Modulus (p : Pair) (q : ℕ) : Type 0 where
  pub squares : square p.first + square p.second ≤ q * q

-- 2 ^ 53 times the distance of two pairs is at most q
pub record Close (p p' : Pair) (q : ℕ) : Type 0 where
  pub far : Modulus ((p ⊝ p') ⊙ 2 ^ 53) q
