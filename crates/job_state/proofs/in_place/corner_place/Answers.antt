-- `job_state::in_place::corner_place` meets its contract. Assumes nothing.
use native.Mathlib.Omega.{arith}
use Rattle.job_state.proofs.Steps.{room_for}
use Rattle.job_state.proofs.in_place.corner_place.Goals as goal

pub overflow_add-result : goal.overflow_add-result
overflow_add-result c = let r = room_for c.args.phase c.args.total in let e = c.starting.ensures in let h = c.requires in record { fits = omega arith }

pub returns : goal.returns
returns c = let r = room_for c.args.phase c.args.total in let e = c.starting.ensures in let h = c.requires in (omega arith, omega arith)
