-- `job_lines::line::end_line` meets its contract. Assumes nothing.
use native.Mathlib.Omega.{arith}
use Rattle.job_lines.proofs.Printing.{none, text_after, number_after, spoken}
use Rattle.job_lines.proofs.line.end_line.Goals as goal

pub returns : goal.returns
returns c =
    spoken (omega arith) (text_after (number_after (text_after (none c.empty.ensures.0 c.empty.ensures.1) c.with.ensures) c.with_number.ensures) c.with-2.ensures)
