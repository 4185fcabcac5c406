-- A call returns 0 or the refusal's number: no refusal has the number 0, so a call that returns 0 has answered, and the lent memory holds the answer; and what else it
-- returns is a number in use. Both of any answer whose refusals are listed, as those of all calls are (Laws.Listed of the rules). Assumes nothing.
use Rattle.std.specs.Prelude.{Bool, true, false, ◌||◌, ◌≡◌, refl, T, eqb}
use Rattle.std.proofs.Common.{subst}
use Rattle.rules.specs.Refusals.{Answer, answered, refused, crossed_at, in_use, among, Listed}
use Rattle.rings.specs.Answers.{refusal_of}
use Rattle.terminal.specs.Returned.{Returned}

pub zero_answers : {A : Type 0} (a : Answer A) → Listed a → refusal_of a ≡ 0 → (value : A) × (a ≡ answered value)
zero_answers (answered value) h e = (value, refl)
zero_answers (refused n) h e = absurd (subst (λ n. T (among n in_use)) e h)
zero_answers (crossed_at pair) h e = absurd (subst (λ n. T (among n in_use)) e tt)

pub returned : {A : Type 0} (a : Answer A) → Listed a → Returned a
returned (answered value) h = tt
returned (refused n) h = or_else (eqb n 0) (among n in_use) h
  where
    or_else : (b c : Bool) → T c → T (b || c)
    or_else true c t = tt
    or_else false c t = t
returned (crossed_at pair) h = tt
