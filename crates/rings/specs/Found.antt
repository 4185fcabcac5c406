-- A pair of edges as one number, so that a search can hand it back in one: the lower edge times 1,024, and the higher; 1,024 times 1,024 where there is none.
-- Assumes nothing.
use Rattle.std.specs.Prelude.{true, false, ℕ, ◌/◌, ◌%◌, ltb}
use Rattle.std.proofs.Math.Option.{Option, none, some}
use Rattle.rules.specs.Rings.{EdgePair}

unfoldable pub found_pair : ℕ → Option EdgePair
found_pair n = elim (ltb n 1_048_576) [ true ↦ some (record { low = n / 1024; high = n % 1024 }) | false ↦ none ]
