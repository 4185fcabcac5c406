-- `job::run::Held::with` meets its contract. Assumes nothing.
use Rattle.std.proofs.Common.{◌≡◌, length, ◌∙◌, arith, length-set, rules}
use Rattle.job.proofs.Holding.{few, one_more, with_is}
use Rattle.std.proofs.Common.{rules}
use Rattle.job.proofs.run.Held.with.Goals as goal

pub bounds-self-at : goal.bounds-self-at
bounds-self-at c = let f = few c.args.self.count in let e = c.settled-at.ensures in omega arith

pub overflow_add-self : goal.overflow_add-self
overflow_add-self c = let f = few c.args.self.count in let e = c.settled-at.ensures in omega arith

pub returns : goal.returns
returns c =
    let f = few c.args.self.count in
    let l : length c.args.self.bytes ≡ 18 = search rules in (
      let e = c.settled-at.ensures in omega arith,
      one_more c.args.self.count _ _ c.args.self.bytes l c.settled-at.ensures,
      length-set c.args.self.bytes _ _ ∙ l,
      with_is c.args.self _ _ c.settled-at.ensures,
    )
