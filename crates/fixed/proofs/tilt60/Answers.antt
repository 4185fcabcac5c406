-- `fixed::tilt60`: the side and the size are the worked ones. Assumes nothing.
use Rattle.std.proofs.Common.{ap, ap₂, ◌∙◌, ◌+◌, ltb}
use Rattle.fixed.specs.Worked.{quot60, apart, tilt60, tilt_south}
use Rattle.fixed.proofs.tilt60.Goals as goal

pub returns-clause-south_value : goal.returns-clause-south_value
unfolding tilt_south tilt60
returns-clause-south_value c = (
  ap (ltb c.args.n) c.mul60-tm.ensures.value,
  c.quot60.ensures.value ∙ ap₂ quot60 (c.abs_diff.ensures ∙ ap (apart c.args.n) c.mul60-tm.ensures.value) (ap (λ t. c.args.m + t) c.mul60.ensures.value),
)
