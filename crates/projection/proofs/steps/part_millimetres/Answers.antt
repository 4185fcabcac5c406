-- Assumes nothing.
use Rattle.double.specs.Value.{value}
use Rattle.projection.proofs.Parts.{part_small, part_fits}
use Rattle.projection.proofs.steps.part_millimetres.Goals as goal

pub millimetres_of-requires : goal.millimetres_of-requires
millimetres_of-requires c = (c.requires.0, part_small (value c.args.p) c.requires.1, part_fits (value c.args.p) c.args.short c.requires.1 c.requires.2)
