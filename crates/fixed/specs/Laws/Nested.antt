-- A sine or cosine: the worked nest by coefficients 1/k!, against the definition's nest by quotients. With F the product of the quotients so far, v·F is near
-- the definition's value. Assumes nothing.
use Rattle.std.specs.Prelude.{Bool, true, false, cond, ◌≡◌, List, [], ◌∷◌, ℕ, ◌+◌, ◌*◌, ◌-◌, ◌/◌, ◌<◌, ◌≤◌, ltb, ℤ, pos, ◌+ℤ◌, ◌-ℤ◌, ◌*ℤ◌, nat_abs}
use Rattle.arith.specs.Within.{Within}
use Rattle.rules.specs.Scaled.{unit}
use Rattle.fixed.specs.Worked.{S60}
use Rattle.fixed.specs.Laws.Products.{most}
use Rattle.fixed.specs.Laws.Series.{top}

-- what the definition's divisors are asked
unfoldable pub all_positive : List ℕ → Bool
all_positive [] = true
all_positive (m ∷ ms) = cond (ltb 0 m) (all_positive ms) false

-- how large the definition's nest is
unfoldable pub nest_b : ℕ → List ℕ → ℕ
nest_b h [] = unit
nest_b h (m ∷ ms) = unit + ((h * nest_b h ms + unit) / unit + m) / m

-- v·F is near w
pub record NearTimes (F v : ℕ) (w : ℤ) (e : ℕ) : Type 0 where
  pub gap : Within (pos v *ℤ pos F *ℤ pos unit -ℤ w *ℤ pos S60) e

-- one product: r = q·v, and the definition's ⌊⌊x·y⌋/m⌋
unfoldable pub prod_e : (h e F m hv ev : ℕ) → ℕ
prod_e h e F m hv ev =
    (h * unit * ev + e * (hv * (F * m) * unit) + e * ev + unit * unit * (2 * (F * m) * S60) + S60 * S60 * ((1 + m) * unit)) / (S60 * unit) / m

-- the error of a nest with the code's table and the definition's divisors
unfoldable pub nest_e : ℕ → ℕ → ℕ → List ℕ → List ℕ → ℕ
nest_e h e F [] ms = nest_b (most h e) ms * S60
nest_e h e F (c ∷ cs) [] = c * F * unit + unit * S60
nest_e h e F (c ∷ cs) (m ∷ ms) = nat_abs (pos c *ℤ pos F *ℤ pos unit -ℤ pos unit *ℤ pos S60) + prod_e h e F m (top cs) (nest_e h e (F * m) cs ms)
