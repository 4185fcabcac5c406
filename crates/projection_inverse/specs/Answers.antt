-- What the inverse's answer says: the paper's ticks, or its refusal. Assumes nothing.
use Rattle.std.specs.Prelude.{Result}
use Rattle.rules.specs.Refusals.{Answer}
use Rattle.rules.specs.Points.{Ticks}
use Rattle.terms.specs.Papers.{paper}
use Rattle.terms.specs.declared.refusals.Refusal.{Refusal}
use Rattle.projection_inverse.specs.declared.Geodetic.{Geodetic}

abbrev pub inverse_paper : Result Geodetic Refusal → Answer Ticks
inverse_paper = paper (λ g. record { B = g.latitude; L = g.longitude })
