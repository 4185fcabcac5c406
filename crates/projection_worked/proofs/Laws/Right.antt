-- What the projection owes of its two functions, whole: every answer of the forward and of the inverse is right by the rules. Assumes nothing.
use Rattle.rules.specs.Points.{Right}
use Rattle.projection_worked.specs.Worked.{worked_forward}
use Rattle.projection_worked.specs.Inverse.{worked_inverse}
use Rattle.projection_worked.proofs.Laws.Point.{forward_right}
use Rattle.projection_worked.proofs.Laws.Inverse.{inverse_right}

pub right : Right worked_forward worked_inverse
right = record { forward_right = forward_right; inverse_right = inverse_right }
