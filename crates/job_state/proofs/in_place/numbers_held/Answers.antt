-- `job_state::in_place::numbers_held` meets its contract. Assumes nothing.
use native.Mathlib.Omega.{arith}
use Rattle.job_state.proofs.Limits.{few}
use Rattle.job_state.proofs.in_place.numbers_held.Goals as goal

pub overflow_mul-result : goal.overflow_mul-result
overflow_mul-result c = let f = few 3072 c.args.total in let e = c.at_most.ensures in record { fits = omega arith }
