-- The numbers of refusal 9 are small. Assumes nothing.
use Rattle.terminal_fields.proofs.Laws.Nine.{accept_small}
use Rattle.terminal_fields.proofs.Laws.Held.{held}
use Rattle.terminal_fields.proofs.accept.Goals as goal

pub mark-requires : goal.mark-requires
mark-requires c = held _ _ (λ pair e. accept_small _ _ pair e) c.in-Err.ensures
