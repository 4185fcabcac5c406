-- The numbers of refusal 9 are small. Assumes nothing.
use Rattle.terminal_fields.proofs.Laws.Nine.{nozzle_small}
use Rattle.terminal_fields.proofs.Laws.Held.{held}
use Rattle.terminal_fields.proofs.nozzle.Goals as goal

pub mark-requires : goal.mark-requires
mark-requires c = held _ _ (λ pair e. nozzle_small _ _ pair _ e) c.in-Err.ensures
