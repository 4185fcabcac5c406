-- A refusal ends the checks: what comes after it is not asked. Assumes nothing.
use Rattle.std.specs.Prelude.{◌≡◌, refl, Result}
use Rattle.rules.specs.Refusals.{Answer, answered, ◌>>=◌, ◌>>◌}
use Rattle.terms.specs.declared.refusals.Refusal.{Refusal}
use Rattle.terms.specs.declared.refusals.Refusal.TheVariants as refusal-case
use Rattle.terms.specs.Papers.{paper, refusal_paper}

pub refused_first : {A B : Type 0} (r : Refusal) (f : A → Answer B) → (refusal_paper r >>= f) ≡ refusal_paper r
refused_first refusal-case.CodeUnknown f = refl
refused_first refusal-case.LatitudeOutside f = refl
refused_first refusal-case.LongitudeOutside f = refl
refused_first refusal-case.PlaneOutside f = refl
refused_first refusal-case.EllipsoidsDiffer f = refl
refused_first refusal-case.CornerCount f = refl
refused_first refusal-case.CornerNumber f = refl
refused_first refusal-case.SpanTooLarge f = refl
refused_first (refusal-case.RingCrossed pair) f = refl
refused_first refusal-case.KindUnknown f = refl
refused_first refusal-case.BodyCutOff f = refl
refused_first refusal-case.OutOfPlace f = refl
refused_first refusal-case.OutputTooShort f = refl
refused_first refusal-case.BadlyPlaced f = refl
refused_first refusal-case.TooManyRings f = refl
