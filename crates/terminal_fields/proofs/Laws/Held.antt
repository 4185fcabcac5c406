-- The place of a refusal is one that an i64 holds, where that of refusal 9 is. Assumes nothing.
use Rattle.std.specs.Prelude.{◌≡◌}
use Rattle.std.proofs.Common.{sym}
use Rattle.rules.specs.Refusals.{Answer, CrossedPair, crossed_at}
use Rattle.terms.specs.declared.refusals.Refusal.{Refusal}
use Rattle.terms.specs.declared.refusals.Refusal.TheVariants as refusal-case
use Rattle.terms.specs.Papers.{refusal_paper}
use Rattle.terminal_fields.specs.Lent.{Held}
use Rattle.terminal_fields.proofs.Laws.Nine.{Small}

-- the pair of refusal 9 is small
pub held : {A : Type 0} (r : Refusal) (a : Answer A) → ((pair : CrossedPair) → a ≡ crossed_at pair → Small pair) → refusal_paper r ≡ a → Held r
held refusal-case.CodeUnknown a small e = tt
held refusal-case.LatitudeOutside a small e = tt
held refusal-case.LongitudeOutside a small e = tt
held refusal-case.PlaneOutside a small e = tt
held refusal-case.EllipsoidsDiffer a small e = tt
held refusal-case.CornerCount a small e = tt
held refusal-case.CornerNumber a small e = tt
held refusal-case.SpanTooLarge a small e = tt
held (refusal-case.RingCrossed pair) a small e = let s = small _ (sym e) in (s.ring, s.low, s.high, s.looked_at)
held refusal-case.KindUnknown a small e = tt
held refusal-case.BodyCutOff a small e = tt
held refusal-case.OutOfPlace a small e = tt
held refusal-case.OutputTooShort a small e = tt
held refusal-case.BadlyPlaced a small e = tt
held refusal-case.TooManyRings a small e = tt
