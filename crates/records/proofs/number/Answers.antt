-- Eight bytes read as the rules read them.
use Rattle.records.proofs.Laws.{number_is}
use Rattle.records.proofs.number.Goals as goal

pub returns : goal.returns
returns c = number_is _ _ _ c.requires c.copy_from_slice.ensures.after c.type_inv.body c.from_le_bytes.type_inv c.from_le_bytes.ensures
