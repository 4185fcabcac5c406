-- A series: the worked nest over the code's table, against the definition's nest over its own, which may go on where the code's ends. What is cut off is
-- near nothing, with its size as the error; signs and monotony are not needed. One law serves each kind of series, whatever the table. Assumes nothing.
use Rattle.std.specs.Prelude.{◌≡◌, Bool, true, false, List, [], ◌∷◌, ℕ, ◌+◌, ◌*◌, ◌-◌, ◌/◌, ◌^◌, ◌<◌, ◌≤◌, ℤ, pos, ◌+ℤ◌, ◌-ℤ◌, ◌*ℤ◌, nat_abs}
use Rattle.rules.specs.Scaled.{unit}
use Rattle.fixed.specs.Worked.{S60}
use Rattle.fixed.specs.Laws.Products.{off_at, mul_e, most}

-- ---- how large a rest of the definition's series is, at an argument up to h
unfoldable pub rest_b : ℕ → List ℤ → ℕ
rest_b h [] = 0
rest_b h (c ∷ cs) = nat_abs c + (h * rest_b h cs + unit) / unit

-- ---- c₀ − x·(c₁ − x·(..))
unfoldable pub top : List ℕ → ℕ
top [] = 0
top (c ∷ cs) = c

unfoldable pub alt_e : ℕ → ℕ → List ℕ → List ℤ → ℕ
alt_e h e [] ds = rest_b (most h e) ds * S60
alt_e h e (c ∷ cs) [] = c * unit
alt_e h e (c ∷ cs) (d ∷ ds) = off_at S60 (pos c) d + mul_e h e (top cs) (alt_e h e cs ds)

-- the most (true) and the least (false) that a nest comes to, at a q from l to h
unfoldable pub alt_b : Bool → ℕ → ℕ → List ℕ → ℕ
alt_b b l h [] = 0
alt_b true l h (c ∷ cs) = c - (l * alt_b false l h cs / S60 - 1)
alt_b false l h (c ∷ cs) = c - h * alt_b true l h cs / S60

-- ---- c₀ + x·(c₁ + x·(..))
unfoldable pub ser_h : ℕ → List ℕ → ℕ
ser_h h [] = 0
ser_h h (c ∷ cs) = c + h * ser_h h cs / S60

unfoldable pub ser_e : ℕ → ℕ → List ℕ → List ℤ → ℕ
ser_e h e [] ds = rest_b (most h e) ds * S60
ser_e h e (c ∷ cs) [] = ser_h h (c ∷ cs) * unit
ser_e h e (c ∷ cs) (d ∷ ds) = off_at S60 (pos c) d + mul_e h e (ser_h h cs) (ser_e h e cs ds)
