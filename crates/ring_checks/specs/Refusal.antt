-- The number of a refusal. Assumes nothing.
use Rattle.std.specs.Prelude.{ℕ}
use Rattle.rules.specs.Refusals.{Answer, answered, refused, crossed_at, ring_crossed}

-- the number of a refusal, or 0
abbrev pub refusal_of : {A : Type 0} → Answer A → ℕ
refusal_of (answered a) = 0
refusal_of (refused n) = n
refusal_of (crossed_at pair) = ring_crossed
