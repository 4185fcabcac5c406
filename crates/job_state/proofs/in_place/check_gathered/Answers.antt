-- `job_state::in_place::check_gathered` meets its contract. Assumes nothing.
use mathlib.Core.Path.{refl}
use mathlib.Core.Path.{sym, ap, ◌∙◌}
use borrow.Author.Tests.{le-leb, lt-leb}
use mir.Facts.{to_z-of_z}
use Rattle.rules.specs.RingAnswers.{number_bad}
use Rattle.job_state.proofs.in_place.check_gathered.Goals as goal
use Rattle.job_state.proofs.in_place.check_gathered.Goals.{then-outside-via-then-outside, then-outside-via-else-outside+then-outside-2}

pub returns-then-most-count : goal.returns-then-most-count
returns-then-most-count c = rw (le-leb _ _ c.if-most-count.true) refl

pub returns-then-outside : goal.returns-then-outside
returns-then-outside c =
    elim c.then-outside.branch [
      | then-outside-via-then-outside w ↦
          rw (lt-leb _ _ c.if-most-count.false, ap number_bad (sym (to_z-of_z c.ranges.x)) ∙ sym c.outside.ensures ∙ w.if-outside.true) refl
      | then-outside-via-else-outside+then-outside-2 w ↦
          rw (
            lt-leb _ _ c.if-most-count.false,
            ap number_bad (sym (to_z-of_z c.ranges.x)) ∙ sym c.outside.ensures ∙ w.if-outside.false,
            ap number_bad (sym (to_z-of_z c.ranges.y)) ∙ sym w.outside-else-outside.ensures ∙ w.if-outside-2.true,
          )
          refl
    ]

pub returns : goal.returns
returns c =
    rw (
      lt-leb _ _ c.if-most-count.false,
      ap number_bad (sym (to_z-of_z c.ranges.x)) ∙ sym c.outside.ensures ∙ c.if-outside.false,
      ap number_bad (sym (to_z-of_z c.ranges.y)) ∙ sym c.outside-else-outside.ensures ∙ c.if-outside-2.false,
    )
    refl
