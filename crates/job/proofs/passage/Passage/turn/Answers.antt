-- `job::passage::Passage::turn` meets its contract. Assumes nothing.
use Rattle.job.specs.Runs.{new_run}
use mathlib.Core.Path.{ap, ◌∙◌}
use Rattle.std.proofs.Common.{Ok}
use Rattle.job.proofs.Turning.{begun_as, completes, waits_on, refuses_it, never_nothing}
use Rattle.job.proofs.passage.Passage.turn.Goals as goal

pub returns-in-BodyCutOff : goal.returns-in-BodyCutOff
returns-in-BodyCutOff c =
    waits_on (begun_as {p = c.args.self} c.requires.0 c.with-begun.ensures c.read-found.ensures) _ c.in-Err.is c.in-BodyCutOff.is c.waits.ensures

pub returns-in-Ok-Some : goal.returns-in-Ok-Some
returns-in-Ok-Some c =
    c.whole.ensures.turned _ _ _ _ _ (completes (begun_as {p = c.args.self} c.requires.0 c.with-begun.ensures c.read-found.ensures) (c.in-Ok-Some.is ∙ ap Ok (rw c.in-Ok-Some.is at c.in-Ok-Some.field-0-is))) c.reply_to-reply.ensures

pub returns-in-Ok-None : goal.returns-in-Ok-None
returns-in-Ok-None c =
    absurd (never_nothing (begun_as {p = c.args.self} c.requires.0 c.with-begun.ensures c.read-found.ensures) new_run.job (c.in-Ok-None.is ∙ ap Ok (rw c.in-Ok-None.is at c.in-Ok-None.field-0-is)))

pub returns-in_default : goal.returns-in_default
returns-in_default c =
    refuses_it (begun_as {p = c.args.self} c.requires.0 c.with-begun.ensures c.read-found.ensures) _ c.in-Err.is c.in_default.not-BodyCutOff c.refuses.ensures
