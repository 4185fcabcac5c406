-- The inverse by what its checks said: laws about `worked-inverse`, for the code's branches. Assumes nothing.
use Rattle.std.specs.Prelude.{Bool, true, false, ◌≡◌, refl, ℕ, ℤ}
use Rattle.std.proofs.Common.{sym, ap, ◌∙◌}
use Rattle.rules.specs.Refusals.{answered, refused, ◌>>=◌, ◌>>◌, ◌if◌, plane_outside}
use Rattle.rules.specs.Systems.{System, system}
use Rattle.rules.specs.Points.{plane_bad, inverse_checks, judged}
use Rattle.terms.specs.Papers.{refusal_paper}
use Rattle.terms.specs.declared.refusals.Refusal.{Refusal}
use Rattle.terms.proofs.Refused.{refused_first}
use Rattle.projection_worked.specs.Inverse.{worked_ticks, worked_inverse, in_system}

pub worked_refused : (code : ℕ) (X Y : ℤ) (r : Refusal) → system code ≡ refusal_paper r → refusal_paper r ≡ worked_inverse code X Y
unfolding worked_inverse inverse_checks
worked_refused code X Y r e = sym (rw e (ap (λ a. a >>= λ s. judged s (worked_ticks s X Y)) (refused_first r _) ∙ refused_first r _))

pub worked_unknown : (code n : ℕ) (X Y : ℤ) → system code ≡ refused n → worked_inverse code X Y ≡ refused n
unfolding worked_inverse inverse_checks
worked_unknown code n X Y e = rw e refl

pub worked_known : (code : ℕ) (s : System) (X Y : ℤ) → system code ≡ answered s → worked_inverse code X Y ≡ in_system s X Y
unfolding worked_inverse inverse_checks
worked_known code s X Y e = ap (λ a. (a >>= λ s. plane_outside if plane_bad s X Y >> answered s) >>= λ s. judged s (worked_ticks s X Y)) e ∙ go (plane_bad s X Y)
  where
    go : (b : Bool) → ((plane_outside if b >> answered s) >>= λ s. judged s (worked_ticks s X Y)) ≡ (plane_outside if b >> judged s (worked_ticks s X Y))
    go true = refl
    go false = refl
