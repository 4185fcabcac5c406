-- `job_state::state::Job::begin` meets its contract. Assumes nothing.
use mathlib.Core.Path.{sym, ap, ◌∙◌}
use mathlib.Core.Bool.{Bool}
use Rattle.rules.specs.Refusals.{refused, out_of_place}
use Rattle.rules.specs.JobFile.{begun}
use Rattle.projection_worked.specs.Worked.{worked_forward}
use Rattle.job_state.specs.Gathered.{chosen}
use Rattle.terms.specs.declared.refusals.Refusal.TheVariants.{OutOfPlace}
use Rattle.job_state.proofs.Steps.{stepping_at, refusing, begins}
use Rattle.job_state.proofs.state.Job.begin.Goals as goal

pub returns-then-gathers : goal.returns-then-gathers
returns-then-gathers c =
    let st = c in
    stepping_at (begins worked_forward st.args.self st.args.code ∙ ap (λ (b : Bool). chosen b (refused out_of_place) (begun st.args.code)) (sym c.gathers.ensures ∙ c.if-gathers.true))
    (refusing OutOfPlace _ c.refused.ensures.0 c.refused.ensures.1)

pub returns : goal.returns
returns c =
    let st = c in
    stepping_at (begins worked_forward st.args.self st.args.code ∙ ap (λ (b : Bool). chosen b (refused out_of_place) (begun st.args.code)) (sym c.gathers.ensures ∙ c.if-gathers.false))
    c.begin_field.ensures
