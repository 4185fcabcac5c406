-- What is said of a ring by itself, said of ring k of a field: of a crossed ring its number changes. Assumes nothing.
use Rattle.std.specs.Prelude.{ℕ}
use Rattle.terms.specs.declared.refusals.Refusal.{Refusal}
use Rattle.terms.specs.declared.refusals.Refusal.TheVariants.{RingCrossed}

abbrev pub ring_refusal : ℕ → Refusal → Refusal
ring_refusal k (RingCrossed pair) = RingCrossed (record { ring = k; low = pair.low; high = pair.high; looked_at = pair.looked_at })
ring_refusal k refusal = refusal
