-- `job::passage::Passage::says` meets its contract. Assumes nothing.
use Rattle.job.proofs.Turning.{answering}
use Rattle.job.proofs.passage.Passage.says.Goals as goal

pub returns : goal.returns
returns c =
    answering c.args.self c.args.answer c.args.size c.answer_line.ensures c.put-end.ensures.0 c.put-end.ensures.1
    c.none.ensures c.after.ensures.0 c.after.ensures.1 c.left_after.ensures c.refuses-stops.ensures
