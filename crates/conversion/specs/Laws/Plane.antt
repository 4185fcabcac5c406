-- Plane to plane by what the checks of the codes and the inverse said. Assumes nothing.
use Rattle.std.specs.Prelude.{Bool, true, false, not, ◌≡◌, refl, ℕ, eqb, T, ℤ}
use Rattle.std.proofs.Common.{ap, ap₂, ◌∙◌, eqb→eq, eq-eqb}
use Rattle.rules.specs.Refusals.{Answer, answered, refused, crossed_at, passed, ◌>>=◌, ◌>>◌, ◌if◌, ellipsoids_differ}
use Rattle.rules.specs.Systems.{System, system, same_ellipsoid}
use Rattle.rules.specs.Points.{Ticks, plane_of, plane_by}
use Rattle.rules.specs.Rings.{Corner}
use Rattle.projection.specs.Inverse.{worked_inverse}
use Rattle.projection.specs.Worked.{worked_forward}
use Rattle.conversion.specs.Codes.{code_checks}
use Rattle.conversion.specs.Plane.{worked_plane, taken_to, carried}

pub plane_steps : (source target : ℕ) (X Y : ℤ) → worked_plane source target X Y ≡ (code_checks source target >> carried source target X Y)
unfolding plane_by code_checks
plane_steps source target X Y = go (system source) (system target)
  where
    go : (a b : Answer System)
        → (a >>= λ s. b >>= λ t. (ellipsoids_differ if not (same_ellipsoid s.ellipsoid t.ellipsoid)) >> carried source target X Y)
        ≡ ((a >>= λ s. b >>= λ t. (ellipsoids_differ if not (same_ellipsoid s.ellipsoid t.ellipsoid))) >> carried source target X Y)
    go (answered s) (answered t) = refl
    go (answered s) (refused n) = refl
    go (answered s) (crossed_at pair) = refl
    go (refused n) b = refl
    go (crossed_at pair) b = refl

-- the steps, by what the checks and the inverse said
pub codes_refused : (source target n : ℕ) (X Y : ℤ) → code_checks source target ≡ refused n → worked_plane source target X Y ≡ refused n
codes_refused source target n X Y e = plane_steps source target X Y ∙ ap (λ a. a >> carried source target X Y) e

pub codes_passed : (source target : ℕ) (X Y : ℤ) → code_checks source target ≡ answered passed → worked_plane source target X Y ≡ carried source target X Y
codes_passed source target X Y e = plane_steps source target X Y ∙ ap (λ a. a >> carried source target X Y) e

pub inverse_refused : (source target n : ℕ) (X Y : ℤ) → worked_inverse source X Y ≡ refused n → carried source target X Y ≡ refused n
inverse_refused source target n X Y e = ap (λ a. a >>= taken_to source target X Y) e

pub inverse_answered : (source target : ℕ) (X Y : ℤ) (t : Ticks) → worked_inverse source X Y ≡ answered t → carried source target X Y ≡ taken_to source target X Y t
inverse_answered source target X Y t e = ap (λ a. a >>= taken_to source target X Y) e

-- the two cases of the codes: a point is returned as given, or is the forward of its ticks
pub same_codes : (source target : ℕ) (X Y : ℤ) (t : Ticks) → source ≡ target → taken_to source target X Y t ≡ answered (record { x = X; y = Y })
same_codes source target X Y t e =
    ap (λ b. elim b [ true ↦ answered (record { x = X; y = Y }) | false ↦ plane_of (worked_forward target t.B t.L) ]) (eq-eqb source target e)

pub other_codes : (source target : ℕ) (X Y : ℤ) (t : Ticks) → ¬ (source ≡ target) → taken_to source target X Y t ≡ plane_of (worked_forward target t.B t.L)
other_codes source target X Y t h = go (eqb source target) (eqb→eq source target)
  where
    go : (b : Bool) → (T b → source ≡ target)
        → ◌≡◌ {A = Answer Corner} (elim b [ true ↦ answered (record { x = X; y = Y }) | false ↦ plane_of (worked_forward target t.B t.L) ]) (plane_of (worked_forward target t.B t.L))
    go true u = absurd (h (u tt))
    go false u = refl

-- the same numbers, the same answer
pub same_taken : (source target : ℕ) {X Y B L x y b l : ℤ} → X ≡ x → Y ≡ y → B ≡ b → L ≡ l
    → taken_to source target X Y (record { B = B; L = L }) ≡ taken_to source target x y (record { B = b; L = l })
same_taken source target {B = B} {L} {x} {y} e f g h =
    ap₂ (λ X Y. taken_to source target X Y (record { B = B; L = L })) e f ∙ ap₂ (λ B L. taken_to source target x y (record { B = B; L = L })) g h
