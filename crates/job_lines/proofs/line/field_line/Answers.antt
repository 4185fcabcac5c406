-- `job_lines::line::field_line` meets its contract. Assumes nothing.
use native.Mathlib.Omega.{arith}
use Rattle.job_state.specs.States.{line}
use Rattle.job_lines.proofs.Printing.{none, text_after, number_after, whole_after, spoken}
use Rattle.job_lines.proofs.line.field_line.Goals as goal

pub returns : goal.returns
unfolding line
returns c =
    spoken (omega arith)
    (text_after (whole_after _ c.ranges.area (text_after (number_after (text_after (number_after (text_after (none c.empty.ensures.0 c.empty.ensures.1)
    c.with.ensures) c.with_number.ensures) c.with-2.ensures) c.with_number-2.ensures) c.with-3.ensures) c.with_whole.ensures) c.with-4.ensures)
