-- The root of cosh² q - sin² p as it is worked: the seed and two steps of Heron, over the whole range of the number. Assumes nothing.
use Rattle.std.specs.Prelude.{◌≡◌, ℕ, ◌+◌, ◌*◌, ◌-◌, ◌/◌, ◌^◌, ◌<◌, ◌≤◌, ◌+ℤ◌, ◌-ℤ◌}
use Rattle.fixed.specs.Worked.{S60}
use Rattle.fixed_inverse.specs.Worked.{seed_0, seed60, closer60, root60}
use Rattle.fixed_inverse.specs.Laws.Heron.{Squares}

-- ---- the range of the number and of its root
abbrev pub w_low : ℕ
w_low = 3069 * S60 / 10000

abbrev pub w_high : ℕ
w_high = 4606 * S60 / 10000

abbrev pub root_least : ℕ
root_least = 5539 * S60 / 10000

abbrev pub root_most : ℕ
root_most = 6788 * S60 / 10000

-- ---- the seed: v = 4·(w - 0.305) goes up to 0.6225, in 16 bands
abbrev pub half_band : ℕ
half_band = 1946 * S60 / 100000

abbrev pub seed_bound : ℕ
seed_bound = 93 * S60 ^ 6 / 100000

abbrev pub seed_most : ℕ
seed_most = 692 * S60 / 1000

-- the squares of the seed, and after one step and two
abbrev pub gap_0 : ℕ
gap_0 = 23251 * S60 * S60 / 100000000

abbrev pub gap_1 : ℕ
gap_1 = 444 * S60 * S60 / 10 ^ 10

abbrev pub gap_2 : ℕ
gap_2 = 1900 * S60

pub record Seed (w : ℕ) : Type 0 where
  pub squares : Squares (seed60 w) w gap_0
  pub low : seed_0 ≤ seed60 w
  pub high : seed60 w ≤ seed_most

pub record RootOf60 (w : ℕ) : Type 0 where
  pub squares : Squares (root60 w) w gap_2
  pub low : root_least ≤ root60 w
  pub high : root60 w ≤ root_most
  -- that the steps fit
  pub first_low : root_least ≤ closer60 w (seed60 w)
  pub first_high : closer60 w (seed60 w) ≤ root_most
  pub seed_low : seed_0 ≤ seed60 w
  pub seed_high : seed60 w ≤ seed_most
