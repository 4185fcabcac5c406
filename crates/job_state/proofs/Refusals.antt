-- A refusal as the rules have it is a number, or a crossed pair of edges. Assumes nothing.
use Rattle.std.specs.Prelude.{ℕ}
use Rattle.rules.specs.Refusals.{Answer, refused, CrossedPair, crossed_at}
use Rattle.terms.specs.declared.refusals.Refusal.{Refusal}
use Rattle.terms.specs.declared.refusals.Refusal.TheVariants as refusal_case
use Rattle.terms.specs.Numbers.{number_of}
use Rattle.terms.specs.Papers.{refusal_paper}

pub by_refusal : {A : Type 0} (r : Refusal) (P : Answer A → Type 0) → ((n : ℕ) → P (refused n)) → ((pair : CrossedPair) → P (crossed_at pair)) → P (refusal_paper r)
by_refusal refusal_case.CodeUnknown P n c = n (number_of refusal_case.CodeUnknown)
by_refusal refusal_case.LatitudeOutside P n c = n (number_of refusal_case.LatitudeOutside)
by_refusal refusal_case.LongitudeOutside P n c = n (number_of refusal_case.LongitudeOutside)
by_refusal refusal_case.PlaneOutside P n c = n (number_of refusal_case.PlaneOutside)
by_refusal refusal_case.EllipsoidsDiffer P n c = n (number_of refusal_case.EllipsoidsDiffer)
by_refusal refusal_case.CornerCount P n c = n (number_of refusal_case.CornerCount)
by_refusal refusal_case.CornerNumber P n c = n (number_of refusal_case.CornerNumber)
by_refusal refusal_case.SpanTooLarge P n c = n (number_of refusal_case.SpanTooLarge)
by_refusal (refusal_case.RingCrossed pair) P n c = c (record { ring = pair.ring; low = pair.low; high = pair.high; looked_at = pair.looked_at })
by_refusal refusal_case.KindUnknown P n c = n (number_of refusal_case.KindUnknown)
by_refusal refusal_case.BodyCutOff P n c = n (number_of refusal_case.BodyCutOff)
by_refusal refusal_case.OutOfPlace P n c = n (number_of refusal_case.OutOfPlace)
by_refusal refusal_case.OutputTooShort P n c = n (number_of refusal_case.OutputTooShort)
by_refusal refusal_case.BadlyPlaced P n c = n (number_of refusal_case.BadlyPlaced)
by_refusal refusal_case.TooManyRings P n c = n (number_of refusal_case.TooManyRings)
