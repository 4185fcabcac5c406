-- A call's promises by the answer that the library gave. Assumes nothing.
use Rattle.std.specs.Prelude.{List, [], ◌∷◌, ◌≡◌, refl, ℕ, ℤ}
use Rattle.std.proofs.Common.{sym, ap, ap₂, ◌∙◌}
use Rattle.rules.specs.Refusals.{Answer, answered, refused, crossed_at}
use Rattle.rules.specs.Conversion.{verdict}
use Rattle.rings.specs.Answers.{refusal_of}
-- four equal numbers
pub use Rattle.terminal_fields.proofs.Laws.Handed.{four_same}
use Rattle.terminal.specs.Lent.{lent, edges_lent, pairs_lent, looked_lent}

-- ---- both promises of a call at once, by the answer that the library gave
module _ {A : Type 0} (numbers : A → List ℤ) {answer : Answer A} (before : List ℤ) where
  pub on_refusal : (n : ℕ) → answer ≡ refused n → (n ≡ refusal_of answer) × (before ≡ lent numbers answer before)
  on_refusal n e = (sym (ap refusal_of e), sym (ap (λ a. lent numbers a before) e))

  pub on_answer : (value : A) {after : List ℤ} → answer ≡ answered value → after ≡ numbers value
      → (0 ≡ refusal_of answer) × (after ≡ lent numbers answer before)
  on_answer value e f = (sym (ap refusal_of e), f ∙ sym (ap (λ a. lent numbers a before) e))

-- the same of a call that is lent places for edges and for pairs too
pub on_crossing : {answer given : Answer ℕ} (edges pairs : List ℤ) → answer ≡ given
    → (refusal_of given ≡ refusal_of answer) × ((edges_lent given edges ≡ edges_lent answer edges) × (looked_lent given pairs ≡ looked_lent answer pairs))
on_crossing edges pairs e = (ap refusal_of (sym e), (ap (λ a. edges_lent a edges) (sym e), ap (λ a. looked_lent a pairs) (sym e)))

pub on_nozzle : {A : Type 0} {answer given : Answer A} (numbers : A → List ℤ) (before edges pairs : List ℤ) → answer ≡ given
    → (refusal_of given ≡ refusal_of answer)
    × ((lent numbers given before ≡ lent numbers answer before) × ((edges_lent given edges ≡ edges_lent answer edges) × (pairs_lent given pairs ≡ pairs_lent answer pairs)))
on_nozzle numbers before edges pairs e =
    (ap refusal_of (sym e), (ap (λ a. lent numbers a before) (sym e), (ap (λ a. edges_lent a edges) (sym e), ap (λ a. pairs_lent a pairs) (sym e))))

-- ---- equal numbers, equal lists
pub one_same : {a a' : ℤ} → a ≡ a' → a ∷ [] ≡ a' ∷ []
one_same e = ap (λ x. x ∷ []) e

pub two_same : {a b a' b' : ℤ} → a ≡ a' → b ≡ b' → a ∷ b ∷ [] ≡ a' ∷ b' ∷ []
two_same e f = ap₂ (λ x y. x ∷ y ∷ []) e f

-- ---- a ring conversion's verdict has its refusal's number
pub verdict_number : (a : Answer (List ℤ)) → refusal_of (verdict a) ≡ refusal_of a
verdict_number (answered l) = refl
verdict_number (refused n) = refl
verdict_number (crossed_at pair) = refl
