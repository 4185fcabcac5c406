-- Each arm's row is the paper's by a computed test, and a code of no arm is not 1-14. Assumes nothing.
use Rattle.std.proofs.Common.{◌≡◌, refl, sym, ℕ, arith, subst, Ok}
use Rattle.rules.specs.Systems.{system, find, table}
use Rattle.rules.proofs.Laws.Codes.{unknown}
use Rattle.systems.specs.Zones.{Found}
use Rattle.systems.specs.declared.Zone.{Zone}
use Rattle.systems.proofs.Laws.Rows.{row}
use Rattle.systems.proofs.find_zone.Goals as goal

-- a code that is k has the row of k
at : (code k : ℕ) (z : Zone) → code ≡ k → Found k (Ok z) → Found code (Ok z)
at code k z e f = subst (λ n. Found n (Ok z)) (sym e) f

pub returns-in-1 : goal.returns-in-1
unfolding system find table
returns-in-1 c = at c.args.code 1 _ c.in-1.is (row 1 _ refl tt tt)

pub returns-in-2 : goal.returns-in-2
unfolding system find table
returns-in-2 c = at c.args.code 2 _ c.in-2.is (row 2 _ refl tt tt)

pub returns-in-3 : goal.returns-in-3
unfolding system find table
returns-in-3 c = at c.args.code 3 _ c.in-3.is (row 3 _ refl tt tt)

pub returns-in-4 : goal.returns-in-4
unfolding system find table
returns-in-4 c = at c.args.code 4 _ c.in-4.is (row 4 _ refl tt tt)

pub returns-in-5 : goal.returns-in-5
unfolding system find table
returns-in-5 c = at c.args.code 5 _ c.in-5.is (row 5 _ refl tt tt)

pub returns-in-6 : goal.returns-in-6
unfolding system find table
returns-in-6 c = at c.args.code 6 _ c.in-6.is (row 6 _ refl tt tt)

pub returns-in-7 : goal.returns-in-7
unfolding system find table
returns-in-7 c = at c.args.code 7 _ c.in-7.is (row 7 _ refl tt tt)

pub returns-in-8 : goal.returns-in-8
unfolding system find table
returns-in-8 c = at c.args.code 8 _ c.in-8.is (row 8 _ refl tt tt)

pub returns-in-9 : goal.returns-in-9
unfolding system find table
returns-in-9 c = at c.args.code 9 _ c.in-9.is (row 9 _ refl tt tt)

pub returns-in-10 : goal.returns-in-10
unfolding system find table
returns-in-10 c = at c.args.code 10 _ c.in-10.is (row 10 _ refl tt tt)

pub returns-in-11 : goal.returns-in-11
unfolding system find table
returns-in-11 c = at c.args.code 11 _ c.in-11.is (row 11 _ refl tt tt)

pub returns-in-12 : goal.returns-in-12
unfolding system find table
returns-in-12 c = at c.args.code 12 _ c.in-12.is (row 12 _ refl tt tt)

pub returns-in-13 : goal.returns-in-13
unfolding system find table
returns-in-13 c = at c.args.code 13 _ c.in-13.is (row 13 _ refl tt tt)

pub returns-in-14 : goal.returns-in-14
unfolding system find table
returns-in-14 c = at c.args.code 14 _ c.in-14.is (row 14 _ refl tt tt)

pub returns-in_default : goal.returns-in_default
returns-in_default c = unknown c.args.code (λ h. omega arith)
