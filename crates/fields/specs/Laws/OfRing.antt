-- As the rules have it. Assumes nothing.
use Rattle.std.specs.Prelude.{◌≡◌, refl, ℕ}
use Rattle.rules.specs.Refusals.{in_ring}
use Rattle.terms.specs.declared.refusals.Refusal.{Refusal}
use Rattle.terms.specs.declared.refusals.Refusal.TheVariants as refusal-case
use Rattle.terms.specs.Papers.{refusal_paper}
use Rattle.fields.specs.OfRing.{ring_refusal}

pub ring_refusal_is : {A : Type 0} (k : ℕ) (r : Refusal) → refusal_paper {A = A} (ring_refusal k r) ≡ in_ring k (refusal_paper r)
ring_refusal_is k refusal-case.CodeUnknown = refl
ring_refusal_is k refusal-case.LatitudeOutside = refl
ring_refusal_is k refusal-case.LongitudeOutside = refl
ring_refusal_is k refusal-case.PlaneOutside = refl
ring_refusal_is k refusal-case.EllipsoidsDiffer = refl
ring_refusal_is k refusal-case.CornerCount = refl
ring_refusal_is k refusal-case.CornerNumber = refl
ring_refusal_is k refusal-case.SpanTooLarge = refl
ring_refusal_is k (refusal-case.RingCrossed pair) = refl
ring_refusal_is k refusal-case.KindUnknown = refl
ring_refusal_is k refusal-case.BodyCutOff = refl
ring_refusal_is k refusal-case.OutOfPlace = refl
ring_refusal_is k refusal-case.OutputTooShort = refl
ring_refusal_is k refusal-case.BadlyPlaced = refl
ring_refusal_is k refusal-case.TooManyRings = refl
