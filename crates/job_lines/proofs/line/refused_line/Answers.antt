-- `job_lines::line::refused_line` meets its contract. Assumes nothing.
use Rattle.job_lines.proofs.Printing.{other_said, crossed_said}
use Rattle.job_lines.proofs.line.refused_line.Goals as goal

pub returns-in-RingCrossed : goal.returns-in-RingCrossed
returns-in-RingCrossed c = crossed_said c.args.offset c.in-RingCrossed.is c.crossed_line.ensures

pub returns-in_default : goal.returns-in_default
returns-in_default c = other_said c.args.offset c.in_default.not-RingCrossed c.refusal_line.ensures
