-- `job::run::Held::read` meets its contract. Assumes nothing.
use Rattle.std.proofs.Common.{ℕ, take, ap, ◌∙◌}
use Rattle.records.specs.Reader.{read_at}
use Rattle.job.proofs.run.Held.read.Goals as goal

pub returns : goal.returns
returns c = c.read.ensures ∙ ap (λ (k : ℕ). read_at (take c.args.self.count c.args.self.bytes) k) c.start.ensures
