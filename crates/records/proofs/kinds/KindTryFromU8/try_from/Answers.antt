-- Each byte's row, and none past them.
use Rattle.std.proofs.Common.{arith}
use Rattle.records.specs.declared.kinds.Kind.TheVariants as kind_case
use Rattle.records.proofs.Laws.{known_byte, no_kind}
use Rattle.records.proofs.kinds.KindTryFromU8.try_from.Goals as goal

pub returns-in-1 : goal.returns-in-1
returns-in-1 c = known_byte kind_case.Begin c.in-1.is

pub returns-in-2 : goal.returns-in-2
returns-in-2 c = known_byte kind_case.Corner c.in-2.is

pub returns-in-3 : goal.returns-in-3
returns-in-3 c = known_byte kind_case.Close c.in-3.is

pub returns-in-4 : goal.returns-in-4
returns-in-4 c = known_byte kind_case.Query c.in-4.is

pub returns-in-5 : goal.returns-in-5
returns-in-5 c = known_byte kind_case.Point c.in-5.is

pub returns-in_default : goal.returns-in_default
returns-in_default c = no_kind _ (λ e. omega arith) (λ e. omega arith) (λ e. omega arith) (λ e. omega arith) (λ e. omega arith)
