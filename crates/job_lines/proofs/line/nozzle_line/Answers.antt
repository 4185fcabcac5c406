-- `job_lines::line::nozzle_line` meets its contract. Assumes nothing.
use native.Mathlib.Omega.{arith}
use Rattle.job_state.specs.States.{line}
use Rattle.job_lines.proofs.Printing.{none, text_after, whole_after, spoken}
use Rattle.job_lines.proofs.line.nozzle_line.Goals as goal

pub with-requires-in-Open-2 : goal.with-requires-in-Open-2
with-requires-in-Open-2 c =
    let u = (text_after (text_after (whole_after _ c.ranges.y (text_after (whole_after _ c.ranges.x (text_after (none c.empty.ensures.0 c.empty.ensures.1)
    c.with.ensures) c.with_whole.ensures) c.with-2.ensures) c.with_whole-2.ensures) c.with-front.ensures) c.with-in-Open.ensures).short in omega arith

pub with-requires-in-Border-2 : goal.with-requires-in-Border-2
with-requires-in-Border-2 c =
    let u = (text_after (text_after (whole_after _ c.ranges.y (text_after (whole_after _ c.ranges.x (text_after (none c.empty.ensures.0 c.empty.ensures.1)
    c.with.ensures) c.with_whole.ensures) c.with-2.ensures) c.with_whole-2.ensures) c.with-front.ensures) c.with-in-Border.ensures).short in omega arith

pub with-requires-in-Shut-2 : goal.with-requires-in-Shut-2
with-requires-in-Shut-2 c =
    let u = (text_after (text_after (whole_after _ c.ranges.y (text_after (whole_after _ c.ranges.x (text_after (none c.empty.ensures.0 c.empty.ensures.1)
    c.with.ensures) c.with_whole.ensures) c.with-2.ensures) c.with_whole-2.ensures) c.with-front.ensures) c.with-in-Shut.ensures).short in omega arith

pub returns-in-Open : goal.returns-in-Open
unfolding line
returns-in-Open c =
    rw c.in-Open.is
    (spoken (omega arith) (text_after (text_after (text_after (whole_after _ c.ranges.y (text_after (whole_after _ c.ranges.x (text_after (none c.empty.ensures.0 c.empty.ensures.1)
    c.with.ensures) c.with_whole.ensures) c.with-2.ensures) c.with_whole-2.ensures) c.with-front.ensures) c.with-in-Open.ensures) c.with-in-Open-2.ensures))

pub returns-in-Border : goal.returns-in-Border
unfolding line
returns-in-Border c =
    rw c.in-Border.is
    (spoken (omega arith) (text_after (text_after (text_after (whole_after _ c.ranges.y (text_after (whole_after _ c.ranges.x (text_after (none c.empty.ensures.0 c.empty.ensures.1)
    c.with.ensures) c.with_whole.ensures) c.with-2.ensures) c.with_whole-2.ensures) c.with-front.ensures) c.with-in-Border.ensures) c.with-in-Border-2.ensures))

pub returns-in-Shut : goal.returns-in-Shut
unfolding line
returns-in-Shut c =
    rw c.in-Shut.is
    (spoken (omega arith) (text_after (text_after (text_after (whole_after _ c.ranges.y (text_after (whole_after _ c.ranges.x (text_after (none c.empty.ensures.0 c.empty.ensures.1)
    c.with.ensures) c.with_whole.ensures) c.with-2.ensures) c.with_whole-2.ensures) c.with-front.ensures) c.with-in-Shut.ensures) c.with-in-Shut-2.ensures))
