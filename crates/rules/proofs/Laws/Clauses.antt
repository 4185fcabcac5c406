-- A call's clauses at once, from its first: it answers the worked value, or shows one part of it or two, and the worked value is right. Assumes nothing.
use Rattle.std.specs.Prelude.{◌≡◌}
use Rattle.std.proofs.Common.{sym, subst}
use Rattle.rules.specs.Refusals.{Answer}
use Rattle.rules.specs.Points.{Shows, ShowsBoth}

pub banded : {A : Type 0} (right : A → Type 0) {answer worked : A} → right worked → answer ≡ worked → (answer ≡ worked) × right answer
banded right h e = (e, subst right (sym e) h)

pub shown : {A B : Type 0} {right : Answer A → Type 0} (part : Answer A → B) {worked : Answer A} {seen : B} → right worked → seen ≡ part worked
    → (seen ≡ part worked) × Shows right part seen
shown part {worked} h e = (e, (worked, h, e))

pub both_shown : {A B C : Type 0} (right : Answer A → Type 0) (returned : Answer A → B) (memory : Answer A → C) (worked : Answer A) {r : B} {m : C} → right worked
    → (r ≡ returned worked) × (m ≡ memory worked) → (r ≡ returned worked) × ((m ≡ memory worked) × ShowsBoth right returned memory r m)
both_shown right returned memory worked h e = (e.0, (e.1, (worked, h, e.0, e.1)))
