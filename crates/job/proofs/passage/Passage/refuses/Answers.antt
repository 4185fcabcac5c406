-- `job::passage::Passage::refuses` meets its contract. Assumes nothing.
use Rattle.terms.specs.Numbers.{number_of}
use Rattle.job.proofs.Turning.{refusing}
use Rattle.job.proofs.passage.Passage.refuses.Goals as goal

pub returns : goal.returns
returns c =
    refusing c.args.self (number_of c.args.refusal) c.refusal_line.ensures c.put-end.ensures.0 c.put-end.ensures.1
