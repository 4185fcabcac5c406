-- `job_lines::line::point_line` meets its contract. Assumes nothing.
use native.Mathlib.Omega.{arith}
use Rattle.job_state.specs.States.{line}
use Rattle.job_lines.proofs.Printing.{none, text_after, whole_after, spoken}
use Rattle.job_lines.proofs.line.point_line.Goals as goal

pub with_whole-requires-4 : goal.with_whole-requires-4
with_whole-requires-4 c =
    let u = (text_after (whole_after _ c.ranges.scale (text_after (whole_after _ c.ranges.y (text_after (whole_after _ c.ranges.x (text_after (none c.empty.ensures.0 c.empty.ensures.1)
    c.with.ensures) c.with_whole.ensures) c.with-2.ensures) c.with_whole-2.ensures) c.with-3.ensures) c.with_whole-3.ensures) c.with-4.ensures).short in omega arith

pub with-requires-5 : goal.with-requires-5
with-requires-5 c =
    let u = (whole_after _ c.ranges.convergence (text_after (whole_after _ c.ranges.scale (text_after (whole_after _ c.ranges.y (text_after (whole_after _ c.ranges.x (text_after (none c.empty.ensures.0 c.empty.ensures.1)
    c.with.ensures) c.with_whole.ensures) c.with-2.ensures) c.with_whole-2.ensures) c.with-3.ensures) c.with_whole-3.ensures) c.with-4.ensures) c.with_whole-4.ensures).short in omega arith

pub returns : goal.returns
unfolding line
returns c =
    spoken (omega arith) (text_after (whole_after _ c.ranges.convergence (text_after (whole_after _ c.ranges.scale (text_after (whole_after _ c.ranges.y (text_after (whole_after _ c.ranges.x (text_after (none c.empty.ensures.0 c.empty.ensures.1)
    c.with.ensures) c.with_whole.ensures) c.with-2.ensures) c.with_whole-2.ensures) c.with-3.ensures) c.with_whole-3.ensures) c.with-4.ensures) c.with_whole-4.ensures) c.with-5.ensures)
