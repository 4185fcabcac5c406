-- `job_lines::line::crossed_line` meets its contract. Assumes nothing.
use native.Mathlib.Omega.{arith}
use Rattle.job_lines.proofs.Printing.{none, text_after, number_after, spoken}
use Rattle.job_lines.proofs.line.crossed_line.Goals as goal

pub with_number-requires-4 : goal.with_number-requires-4
with_number-requires-4 c =
    let u = (text_after (number_after (text_after (number_after (text_after (number_after (text_after (none c.empty.ensures.0 c.empty.ensures.1)
    c.with.ensures) c.with_number.ensures) c.with-2.ensures) c.with_number-2.ensures) c.with-3.ensures) c.with_number-3.ensures) c.with-4.ensures).short in omega arith

pub with-requires-5 : goal.with-requires-5
with-requires-5 c =
    let u = (number_after (text_after (number_after (text_after (number_after (text_after (number_after (text_after (none c.empty.ensures.0 c.empty.ensures.1)
    c.with.ensures) c.with_number.ensures) c.with-2.ensures) c.with_number-2.ensures) c.with-3.ensures) c.with_number-3.ensures) c.with-4.ensures) c.with_number-4.ensures).short in omega arith

pub returns : goal.returns
returns c =
    spoken (omega arith) (text_after (number_after (text_after (number_after (text_after (number_after (text_after (number_after (text_after (none c.empty.ensures.0 c.empty.ensures.1)
    c.with.ensures) c.with_number.ensures) c.with-2.ensures) c.with_number-2.ensures) c.with-3.ensures) c.with_number-3.ensures) c.with-4.ensures) c.with_number-4.ensures) c.with-5.ensures)
