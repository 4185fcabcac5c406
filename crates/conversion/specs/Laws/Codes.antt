-- What the checks of two codes are where a code has no row, and where both have one. Assumes nothing.
use Rattle.std.specs.Prelude.{not, ◌≡◌, ℕ}
use Rattle.std.proofs.Common.{sym, ap, ap₂, ◌∙◌}
use Rattle.terms.specs.Papers.{refusal_paper}
use Rattle.terms.specs.declared.refusals.Refusal.{Refusal}
use Rattle.ring_checks.proofs.Laws.Steps.{refused_bind}
use Rattle.rules.specs.Refusals.{answered, refused, ◌>>=◌, ◌if◌, ellipsoids_differ}
use Rattle.rules.specs.Systems.{System, system, same_ellipsoid}
use Rattle.systems.specs.Zones.{Stands}
use Rattle.systems.specs.declared.Zone.{Zone}
use Rattle.conversion.specs.Codes.{code_checks, ellipsoid_check}

pub no_source : (source target n : ℕ) → system source ≡ refused n → code_checks source target ≡ refused n
unfolding code_checks
no_source source target n e = ap (λ a. a >>= λ s. system target >>= λ t. (ellipsoids_differ if not (same_ellipsoid s.ellipsoid t.ellipsoid))) e

pub no_target : (source target n : ℕ) (s : System) → system source ≡ answered s → system target ≡ refused n → code_checks source target ≡ refused n
unfolding code_checks
no_target source target n s e f =
    ap (λ a. a >>= λ s. system target >>= λ t. (ellipsoids_differ if not (same_ellipsoid s.ellipsoid t.ellipsoid))) e
    ∙ ap (λ b. b >>= λ t. (ellipsoids_differ if not (same_ellipsoid s.ellipsoid t.ellipsoid))) f

pub both : (source target : ℕ) (s t : System) (y z : Zone) → system source ≡ answered s → system target ≡ answered t → Stands y s → Stands z t
    → code_checks source target ≡ ellipsoid_check y.ellipsoid z.ellipsoid
unfolding code_checks
both source target s t y z e f g h =
    ap (λ a. a >>= λ s. system target >>= λ t. (ellipsoids_differ if not (same_ellipsoid s.ellipsoid t.ellipsoid))) e
    ∙ ap (λ b. b >>= λ t. (ellipsoids_differ if not (same_ellipsoid s.ellipsoid t.ellipsoid))) f
    ∙ ap₂ (λ i j. ellipsoids_differ if not (same_ellipsoid i j)) g.ellipsoid h.ellipsoid

-- the same of a refusal of the code
pub source_refused : (source target : ℕ) (r : Refusal) → system source ≡ refusal_paper r → refusal_paper r ≡ code_checks source target
unfolding code_checks
source_refused source target r e = refused_bind r _ (sym e)

pub target_refused : (source target : ℕ) (s : System) (r : Refusal) → system source ≡ answered s → system target ≡ refusal_paper r → refusal_paper r ≡ code_checks source target
unfolding code_checks
target_refused source target s r e f = refused_bind r _ (sym f) ∙ sym (ap (λ a. a >>= λ s. system target >>= λ t. (ellipsoids_differ if not (same_ellipsoid s.ellipsoid t.ellipsoid))) e)
