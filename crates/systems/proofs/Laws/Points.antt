-- The checks 2 and 3 of a point by what each test said, and what follows them. Assumes nothing.
use Rattle.std.specs.Prelude.{Bool, true, false, ◌≡◌, refl, ℕ, ℤ}
use Rattle.std.proofs.Common.{sym, ap, ◌∙◌}
use Rattle.rules.specs.Refusals.{Answer, answered, refused, crossed_at, passed, ◌>>=◌, ◌>>◌, ◌if◌}
use Rattle.rules.specs.Systems.{System, system}
use Rattle.rules.specs.Points.{Ticks, latitude_bad, longitude_bad, forward_checks, judged}
use Rattle.terms.specs.Papers.{refusal_paper}
use Rattle.terms.specs.declared.refusals.Refusal.{Refusal}
use Rattle.terms.proofs.Refused.{refused_first}
use Rattle.systems.specs.Zones.{point_checks}

-- a point that passes is in both ranges
passed_both : (t u : Bool) → answered passed ≡ ((2 if t) >> (3 if u)) → (t ≡ false) × (u ≡ false)
passed_both true u e = absurd (cc)
passed_both false true e = absurd (cc)
passed_both false false e = (refl, refl)

pub point_passed : (s : System) (B L : ℤ) → answered passed ≡ point_checks s B L → (latitude_bad B ≡ false) × (longitude_bad s L ≡ false)
point_passed s B L e = passed_both (latitude_bad B) (longitude_bad s L) e

-- the inverse's judgement is these checks before its ticks
grouped : {A : Type 0} (t u : Bool) (r : Answer A) → (2 if t) >> ((3 if u) >> r) ≡ ((2 if t) >> (3 if u)) >> r
grouped true u r = refl
grouped false u r = refl

pub judged_by_checks : (s : System) (t : Ticks) → judged s t ≡ point_checks s t.B t.L >> answered t
unfolding judged
judged_by_checks s t = grouped (latitude_bad t.B) (longitude_bad s t.L) (answered t)

-- a refusal of the checks before is the whole answer
after : {A B : Type 0} (a : Answer A) (b : Answer B) → (a >>= λ _. b) ≡ a >> b
after (answered a) b = refl
after (refused n) b = refl
after (crossed_at pair) b = refl

pub refused_before : {A B : Type 0} (r : Refusal) {a : Answer A} (b : Answer B) → refusal_paper r ≡ a → refusal_paper r ≡ a >> b
refused_before r b e = sym (refused_first r (λ _. b)) ∙ after (refusal_paper r) b ∙ ap (λ t. t >> b) e

pub judged_refused : (s : System) (t : Ticks) (r : Refusal) → refusal_paper r ≡ point_checks s t.B t.L → refusal_paper r ≡ judged s t
judged_refused s t r e = refused_before r (answered t) e ∙ sym (judged_by_checks s t)

pub judged_passed : (s : System) (t : Ticks) → answered passed ≡ point_checks s t.B t.L → answered t ≡ judged s t
judged_passed s t e = ap (λ a. a >> answered t) e ∙ sym (judged_by_checks s t)

-- the forward's checks are these after the system's
pub forward_unknown : (code : ℕ) (B L : ℤ) (r : Refusal) → system code ≡ refusal_paper r → forward_checks code B L ≡ refusal_paper r
unfolding forward_checks
forward_unknown code B L r e = rw e (refused_first r _)

module _ (code : ℕ) (s : System) (B L : ℤ) where
  by_checks : system code ≡ answered s → forward_checks code B L ≡ point_checks s B L >> answered s
  unfolding forward_checks
  by_checks e = rw e (grouped (latitude_bad B) (longitude_bad s L) (answered s))

  pub forward_refused : (r : Refusal) → system code ≡ answered s → refusal_paper r ≡ point_checks s B L → forward_checks code B L ≡ refusal_paper r
  forward_refused r e f = by_checks e ∙ sym (refused_before r (answered s) f)

  pub forward_passed : system code ≡ answered s → answered passed ≡ point_checks s B L → forward_checks code B L ≡ answered s
  forward_passed e f = by_checks e ∙ sym (ap (λ a. a >> answered s) f)
