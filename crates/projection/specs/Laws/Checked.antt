-- The forward by what its checks said: laws about `worked-forward`, for the code's branches. Assumes nothing.
use Rattle.std.specs.Prelude.{true, false, ◌≡◌, refl, ℕ, ℤ, ◌-ℤ◌}
use Rattle.std.proofs.Common.{sym, ◌∙◌}
use Rattle.terms.specs.Papers.{refusal_paper}
use Rattle.terms.specs.declared.refusals.Refusal.{Refusal}
use Rattle.terms.proofs.Refused.{refused_first}
use Rattle.std.proofs.Math.Path.{ap}
use Rattle.rules.specs.Refusals.{answered, refused, ◌>>=◌}
use Rattle.rules.specs.Systems.{System, system}
use Rattle.rules.specs.Points.{plane_of, latitude_bad, longitude_bad, forward_checks}
use Rattle.rules.proofs.Laws.Checks.{forward_1, forward_2, forward_3, forward_passes}
use Rattle.projection_worked.specs.Worked.{worked_X, worked_Y, worked_scale, worked_convergence, worked_point, worked_forward}

module _ (code : ℕ) (B L : ℤ) where
  pub no_system : (n : ℕ) → system code ≡ refused n → worked_forward code B L ≡ refused n
  unfolding worked_forward
  no_system n e = ap (λ a. a >>= λ s. answered (worked_point s B (L -ℤ s.L0))) (forward_1 code n B L e)

  module _ (s : System) (e : system code ≡ answered s) where
    pub latitude_refused : latitude_bad B ≡ true → worked_forward code B L ≡ refused 2
    unfolding worked_forward
    latitude_refused h = ap (λ a. a >>= λ s. answered (worked_point s B (L -ℤ s.L0))) (forward_2 code s B L e h)

    pub longitude_refused : latitude_bad B ≡ false → longitude_bad s L ≡ true → worked_forward code B L ≡ refused 3
    unfolding worked_forward
    longitude_refused h g = ap (λ a. a >>= λ s. answered (worked_point s B (L -ℤ s.L0))) (forward_3 code s B L e h g)

    pub taken : latitude_bad B ≡ false → longitude_bad s L ≡ false → worked_forward code B L ≡ answered (worked_point s B (L -ℤ s.L0))
    unfolding worked_forward
    taken h g = ap (λ a. a >>= λ s. answered (worked_point s B (L -ℤ s.L0))) (forward_passes code s B L e h g)

-- the same by what the checks said together
module _ (code : ℕ) (B L : ℤ) where
  pub refused_by : (r : Refusal) → forward_checks code B L ≡ refusal_paper r → refusal_paper r ≡ worked_forward code B L
  unfolding worked_forward
  refused_by r e = sym (ap (λ a. a >>= λ s. answered (worked_point s B (L -ℤ s.L0))) e ∙ refused_first r _)

  pub taken_by : (s : System) → forward_checks code B L ≡ answered s → answered (worked_point s B (L -ℤ s.L0)) ≡ worked_forward code B L
  unfolding worked_forward
  taken_by s e = sym (ap (λ a. a >>= λ s. answered (worked_point s B (L -ℤ s.L0))) e)

pub point_plane : (s : System) (B d : ℤ) → plane_of (answered (worked_point s B d)) ≡ answered (record { x = worked_X s B d; y = worked_Y s B d })
unfolding worked_point
point_plane s B d = refl

pub point_numbers : (s : System) (B d : ℤ) → answered (worked_point s B d) ≡ answered (record { X = worked_X s B d; Y = worked_Y s B d; scale = worked_scale s B d; convergence = worked_convergence s B d })
unfolding worked_point
point_numbers s B d = refl
