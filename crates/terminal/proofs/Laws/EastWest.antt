-- 02 (xi): what two calls in C return and leave is alike on either side of the central meridian. Assumes nothing.
use Rattle.std.specs.Prelude.{◌≡◌, refl, List, ℤ}
use Rattle.std.proofs.Common.{sym, ◌∙◌, ap, subst}
use Rattle.rules.specs.Refusals.{Answer, answered, refused, crossed_at}
use Rattle.rules.specs.Points.{Point, Ticks, offset_Y}
use Rattle.rules.specs.EastWest.{Alike, Both, AlikeBack}
use Rattle.rings.specs.Answers.{refusal_of}
use Rattle.projection.specs.Inverse.{worked_inverse}
use Rattle.projection.specs.Worked.{worked_forward}
use Rattle.projection.specs.Laws.Mirror.{east_and_west_alike, back_alike}
use Rattle.terminal.specs.EastWest.{FourAlike, ForwardCallsAlike, TwoAlike, InverseCallsAlike}
use Rattle.terminal.specs.Lent.{lent, point_numbers, tick_numbers}
use Rattle.terminal.proofs.Laws.Calls.{forward_zero, inverse_zero}
use Rattle.terminal.proofs.Laws.Lent.{two_same, four_same}

-- one number is returned
one_number : {A : Type 0} (alike : A → A → Type 0) (a b : Answer A) → Both alike a b → refusal_of a ≡ refusal_of b
one_number alike (answered value) b h = sym (ap refusal_of h.1)
one_number alike (refused n) b h = sym (ap refusal_of h)
one_number alike (crossed_at pair) b h = sym (ap refusal_of h)

-- where one has answered so has the other, and what was lent holds the numbers of two answers that are alike
both_left : {A : Type 0} (alike : A → A → Type 0) (numbers : A → List ℤ) (a b : Answer A) (before other_before : List ℤ) → Both alike a b → (x : A) × (a ≡ answered x)
    → (x : A) × (y : A) × (lent numbers a before ≡ numbers x) × (lent numbers b other_before ≡ numbers y) × alike x y
both_left alike numbers a b before other_before h (x, e) =
    let k = subst (λ a. Both alike a b) e h in
    (x, k.0, ap (λ a. lent numbers a before) e, ap (λ b. lent numbers b other_before) k.1, k.2)

pub forward_calls_alike : ForwardCallsAlike
forward_calls_alike code s B L M before other_before e h =
    let both = east_and_west_alike code s B L M e h in (
      one_number (Alike s) (worked_forward code B L) (worked_forward code B M) both,
      λ z. four (both_left (Alike s) point_numbers (worked_forward code B L) (worked_forward code B M) before other_before both (forward_zero code B L z)),
    )
  where
    four : {here there : List ℤ} → (p : Point) × (q : Point) × (here ≡ point_numbers p) × (there ≡ point_numbers q) × Alike s p q → FourAlike (offset_Y s) here there
    four (p, q, here_is, there_is, alike) = record {
      X = p.X;
      Y = p.Y;
      other_Y = q.Y;
      scale = p.scale;
      convergence = p.convergence;
      here_is = here_is;
      there_is = there_is ∙ four_same (sym alike.X) refl (sym alike.scale) alike.convergence;
      sides = alike.Y;
    }

pub inverse_calls_alike : InverseCallsAlike
inverse_calls_alike code s X Y Z before other_before e h =
    let both = back_alike code s X Y Z e h in (
      one_number (AlikeBack s) (worked_inverse code X Y) (worked_inverse code X Z) both,
      λ z. two (both_left (AlikeBack s) tick_numbers (worked_inverse code X Y) (worked_inverse code X Z) before other_before both (inverse_zero code X Y z)),
    )
  where
    two : {here there : List ℤ} → (t : Ticks) × (u : Ticks) × (here ≡ tick_numbers t) × (there ≡ tick_numbers u) × AlikeBack s t u → TwoAlike s.L0 here there
    two (t, u, here_is, there_is, alike) =
        record { B = t.B; L = t.L; other_L = u.L; here_is = here_is; there_is = there_is ∙ two_same (sym alike.B) refl; sides = alike.L }
