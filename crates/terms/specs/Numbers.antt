-- The number of each refusal, by the rules' names. Assumes nothing.
use Rattle.std.specs.Prelude.{ℕ}
use Rattle.rules.specs.Refusals.{code_unknown, latitude_outside, longitude_outside, plane_outside, ellipsoids_differ, corner_count, corner_number, span_too_large, ring_crossed, kind_unknown, body_cut_off, out_of_place, output_too_short, badly_placed, too_many_rings}
use Rattle.terms.specs.declared.refusals.Refusal.{Refusal}
use Rattle.terms.specs.declared.refusals.Refusal.TheVariants as refusal-case

abbrev pub number_of : Refusal → ℕ
number_of refusal-case.CodeUnknown = code_unknown
number_of refusal-case.LatitudeOutside = latitude_outside
number_of refusal-case.LongitudeOutside = longitude_outside
number_of refusal-case.PlaneOutside = plane_outside
number_of refusal-case.EllipsoidsDiffer = ellipsoids_differ
number_of refusal-case.CornerCount = corner_count
number_of refusal-case.CornerNumber = corner_number
number_of refusal-case.SpanTooLarge = span_too_large
number_of (refusal-case.RingCrossed pair) = ring_crossed
number_of refusal-case.KindUnknown = kind_unknown
number_of refusal-case.BodyCutOff = body_cut_off
number_of refusal-case.OutOfPlace = out_of_place
number_of refusal-case.OutputTooShort = output_too_short
number_of refusal-case.BadlyPlaced = badly_placed
number_of refusal-case.TooManyRings = too_many_rings
