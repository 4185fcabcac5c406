-- `job_state::in_place::corner_reply` meets its contract. Assumes nothing.
use mir.Facts.{to_z-of_z}
use Rattle.job_state.specs.InPlace.{Cornering}
use Rattle.job_state.proofs.Steps.{read_back}
use Rattle.job_state.proofs.InPlace.{refuses_corner, takes_corner}
use Rattle.job_state.proofs.in_place.corner_reply.Goals as goal

pub returns-in-Err : goal.returns-in-Err
returns-in-Err c =
    refuses_corner (read_back (λ X Y. Cornering c.args.phase c.args.count X Y c.check_corner-checked.result) _ _ c.ranges.x c.ranges.y c.check_corner-checked.ensures) c.in-Err.is

pub returns-in-Ok : goal.returns-in-Ok
returns-in-Ok c =
    rw (to_z-of_z c.ranges.x, to_z-of_z c.ranges.y)
    (takes_corner (read_back (λ X Y. Cornering c.args.phase c.args.count X Y c.check_corner-checked.result) _ _ c.ranges.x c.ranges.y c.check_corner-checked.ensures) c.in-Ok.is)
