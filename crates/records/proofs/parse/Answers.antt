-- The records that begin with a code.
use Rattle.records.proofs.Laws.{back, begins, points}
use Rattle.records.proofs.parse.Goals as goal

pub returns-in-Begin : goal.returns-in-Begin
returns-in-Begin c = begins c.args.body.now c.in-Begin.is c.requires

pub returns-in-Point : goal.returns-in-Point
returns-in-Point c = points c.args.body.now c.in-Point.is c.requires (back c.number-in-Point.type_inv c.number-in-Point.ensures) (back c.number-in-Point-2.type_inv c.number-in-Point-2.ensures)
