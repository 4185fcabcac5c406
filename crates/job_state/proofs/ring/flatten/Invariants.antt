-- The numbers of the first `i` corners stand in their places.
use Rattle.job_state.proofs.Flat.{Flattening}
use Rattle.job_state.proofs.ring.flatten.Given as goal

abbrev pub invariant-loop-i : goal.invariant-loop-i
invariant-loop-i l = Flattening l.fn.corners l.numbers l.i
