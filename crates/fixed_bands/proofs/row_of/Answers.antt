-- `fixed_bands::row_of`: each row's numbers are the six of its place. Assumes nothing.
use Rattle.std.proofs.Common.{◌<◌, arith}
use Rattle.fixed_bands.proofs.Laws.Rows.{rows_at}
use Rattle.fixed_bands.proofs.row_of.Goals as goal

pub returns : goal.returns
returns c = rows_at c.args.rows.now _ c.args.band (omega (arith, c.told-rows))
