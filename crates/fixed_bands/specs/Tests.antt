-- A test of every band of a table, and what it shows of each. Assumes nothing.
use Rattle.std.specs.Prelude.{◌≡◌, Bool, true, List, ℕ, zero, suc, ◌+◌, ◌*◌, ◌/◌, ◌%◌, ◌<◌, ◌≤◌, get_or}
use Rattle.fixed_bands.specs.Models.{Model}
use Rattle.fixed_bands.specs.Rows.{also, rise_test, sink_test}

-- a test of each number below n
unfoldable pub every : ℕ → (ℕ → Bool) → Bool
every zero p = true
every (suc n) p = also (every n p) (p n)

-- the row of the band i
unfoldable pub rise_row : List ℕ → ℕ → Model → (e lo hi : ℕ) → Bool
rise_row tab i m e lo hi =
    rise_test (get_or tab (6 * i) 0) (get_or tab (6 * i + 1) 0) (get_or tab (6 * i + 2) 0) (get_or tab (6 * i + 3) 0) (get_or tab (6 * i + 4) 0) (get_or tab (6 * i + 5) 0) m e lo hi

unfoldable pub sink_row : List ℕ → ℕ → Model → (e lo hi : ℕ) → Bool
sink_row tab i m e lo hi =
    sink_test (get_or tab (6 * i) 0) (get_or tab (6 * i + 1) 0) (get_or tab (6 * i + 2) 0) (get_or tab (6 * i + 3) 0) (get_or tab (6 * i + 4) 0) (get_or tab (6 * i + 5) 0) m e lo hi
