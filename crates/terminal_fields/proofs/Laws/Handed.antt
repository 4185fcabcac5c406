-- A call's promises by the answer that the library gave. Assumes nothing.
use Rattle.std.specs.Prelude.{List, [], ◌∷◌, ◌≡◌, ℕ, ℤ}
use Rattle.std.proofs.Common.{sym, ap, ap₂}
use Rattle.rules.specs.Refusals.{Answer}
use Rattle.rings.specs.Answers.{refusal_of}
use Rattle.terminal_fields.specs.Lent.{lent, place_lent}

module _ {A : Type 0} {answer given : Answer A} (e : answer ≡ given) where
  pub number_same : refusal_of given ≡ refusal_of answer
  number_same = ap refusal_of (sym e)

  pub place_same : (before : List ℤ) → place_lent given before ≡ place_lent answer before
  place_same before = ap (λ a. place_lent a before) (sym e)

  pub answer_same : (numbers : A → List ℤ) (before : List ℤ) → lent numbers given before ≡ lent numbers answer before
  answer_same numbers before = ap (λ a. lent numbers a before) (sym e)

pub four_same : {a b c d a' b' c' d' : ℤ} → a ≡ a' → b ≡ b' → c ≡ c' → d ≡ d' → a ∷ b ∷ c ∷ d ∷ [] ≡ a' ∷ b' ∷ c' ∷ d' ∷ []
four_same e f g h = ap₂ (λ x l. x ∷ l) e (ap₂ (λ x l. x ∷ l) f (ap₂ (λ x y. x ∷ y ∷ []) g h))
