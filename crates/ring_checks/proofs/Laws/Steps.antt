-- Checks one after the other, as a call makes them by `?`: a refusal is the answer, and what passes is asked what comes next. Assumes nothing.
use Rattle.std.specs.Prelude.{◌≡◌, refl, ℕ}
use Rattle.std.proofs.Common.{sym, ◌∙◌, ap, arith}
use Rattle.rules.specs.Refusals.{Answer, answered, refused, crossed_at, passed, ◌>>=◌, ◌>>◌}
use Rattle.terms.specs.declared.refusals.Refusal.{Refusal}
use Rattle.terms.specs.Papers.{refusal_paper}
use Rattle.terms.proofs.Refused.{refused_first}

pub not_answered : {A : Type 0} (r : Refusal) (x : A) → refusal_paper r ≡ answered x → ⊥
not_answered {A} r x e =
    let f : ◌≡◌ {A = Answer A} (answered x) (refused 0) = sym e ∙ sym (refused_first r (λ _. refused 0)) ∙ ap (λ (a : Answer A). a >>= λ _. refused 0) e in
    let w : ◌≡◌ {A = ℕ} 0 1 = cc f in
    omega arith

pub refused_bind : {A B : Type 0} {a : Answer A} (r : Refusal) (f : A → Answer B) → refusal_paper r ≡ a → refusal_paper r ≡ a >>= f
refused_bind {A} r f e = sym (refused_first r f) ∙ ap (λ (a : Answer A). a >>= f) e

-- what refuses when only the checks are asked, refuses whatever is asked after them
pub refused_passed : {A B : Type 0} (a : Answer A) (r : Refusal) (f : A → Answer B) → refusal_paper r ≡ (a >> answered passed) → refusal_paper r ≡ a >>= f
refused_passed (answered x) r f e = absurd (not_answered r passed e)
refused_passed (refused n) r f e = refused_bind r (λ _. refused 0) e
refused_passed (crossed_at pair) r f e = refused_bind r (λ _. refused 0) e

module _ {A B : Type 0} {a : Answer A} where
  pub refused_then : (r : Refusal) (b : Answer B) → refusal_paper r ≡ a → refusal_paper r ≡ a >> b
  refused_then r b e = refused_bind r (λ _. b) e ∙ go a
    where
      go : (a : Answer A) → (a >>= λ _. b) ≡ a >> b
      go (answered x) = refl
      go (refused n) = refl
      go (crossed_at pair) = refl

  pub answered_bind : {x : A} (f : A → Answer B) → answered x ≡ a → f x ≡ a >>= f
  answered_bind f e = ap (λ (a : Answer A). a >>= f) e

  pub answered_then : {x : A} (b : Answer B) → answered x ≡ a → b ≡ a >> b
  answered_then b e = ap (λ (a : Answer A). a >> b) e
