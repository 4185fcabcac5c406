-- `job::run::last_line` meets its contract. Assumes nothing.
use Rattle.std.proofs.Common.{le-ltb, lt-ltb}
use Rattle.job.proofs.run.last_line.Goals as goal

pub returns-then-held-gt17 : goal.returns-then-held-gt17
returns-then-held-gt17 c = rw (lt-ltb _ _ c.if-held-gt17.true) c.ending_line.ensures

pub returns-then-held-gt0 : goal.returns-then-held-gt0
returns-then-held-gt0 c = rw (le-ltb _ _ c.if-held-gt17.false, lt-ltb _ _ c.if-held-gt0.true) c.refusal_line.ensures

pub returns : goal.returns
returns c = rw (le-ltb _ _ c.if-held-gt17.false, le-ltb _ _ c.if-held-gt0.false) c.ending_line-2.ensures
