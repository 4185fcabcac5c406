-- What the numerics know of the worked arithmetic: relations between numbers and nothing of how they are worked out. Laws.Words and Laws.Loops show that the
-- worked numbers meet them. Assumes nothing.
use Rattle.std.specs.Prelude.{Bool, true, false, cond, List, [], ◌∷◌, ◌≡◌, ℕ, ◌+◌, ◌*◌, ◌-◌, ◌≤◌, ◌<◌, leb}
use Rattle.fixed.specs.Worked.{S60}

-- r is a·b / 2^60, less by under 2; a and b are at most 2. The last three are the sizes that callers need, in a form that `omega` reads
pub record Mul60 (a b r : ℕ) : Type 0 where
  pub lo : r * S60 ≤ a * b
  pub hi : a * b < (r + 2) * S60
  pub left : r ≤ 2 * a
  pub right : r ≤ 2 * b
  pub tight : r ≤ b + 2 * (a - S60)

-- q is a / b at scale 2^60, less by under 9
pub record Quot60 (a b q : ℕ) : Type 0 where
  pub lo : q * b ≤ a * S60
  pub hi : a * S60 < (q + 9) * b

-- v is c₀ − q·(c₁ − q·(c₂ − ..)), each product by Mul60
pub data Alternating60 (q : ℕ) : List ℕ → ℕ → Type 0 where
  none : Alternating60 q [] 0
  step : {c v m r : ℕ} {cs : List ℕ} → Alternating60 q cs v → Mul60 q v m → r + m ≡ c → Alternating60 q (c ∷ cs) r

-- v is c₀ + q·(c₁ + q·(c₂ + ..))
pub data Summed60 (q : ℕ) : List ℕ → ℕ → Type 0 where
  none : Summed60 q [] 0
  step : {c v m r : ℕ} {cs : List ℕ} → Summed60 q cs v → Mul60 q v m → c + m ≡ r → Summed60 q (c ∷ cs) r

-- each number is at most the one before it, and the first at most m: what a table is asked
abbrev pub falls : ℕ → List ℕ → Bool
falls m [] = true
falls m (c ∷ cs) = cond (leb c m) (falls c cs) false
