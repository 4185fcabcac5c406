-- A point that lies on no edge is inside or outside by its turning number. Assumes nothing.
use Rattle.std.specs.Prelude.{true, false, ℤ}
use Rattle.rules.specs.Rings.{is_zero}
use Rattle.rules.specs.RingAnswers.{Nozzle, open_nozzle, shut_nozzle}

unfoldable pub settled_as : ℤ → Nozzle
settled_as sum = elim (is_zero sum) [ true ↦ shut_nozzle | false ↦ open_nozzle ]
