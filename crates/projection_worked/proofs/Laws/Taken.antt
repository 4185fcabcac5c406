-- A point that is taken forward: its latitude, and that its steps in f64 are finite and below 8,000,001 m. Assumes nothing.
use Rattle.std.proofs.Math.Bool.{false}
use Rattle.std.specs.Prelude.{◌≡◌, refl, ℕ, ◌≤◌, ℤ, pos, negsuc, nat_abs, ◌≤ℤ◌}
use Rattle.std.proofs.Common.{leb→le}
use Rattle.rules.specs.Units.{◌°◌'◌''}
use Rattle.rules.specs.Systems.{Ellipsoid, constants, a_coefficients}
use Rattle.rules.specs.Scaled.{derivative}
use Rattle.rules.specs.Points.{latitude_bad}
use Rattle.rules.proofs.Laws.Checks.{latitude_exact}
use Rattle.double.specs.Bound.{reach}
use Rattle.double.proofs.Laws.Systems.{forward_light, derivative_light}
use Rattle.metres.specs.Laws.Into.{arguments_inside}
use Rattle.fixed_bands.specs.Bands.{Latitude}
use Rattle.fixed_forward.specs.Mercator.{north_of, east_of}
use Rattle.fixed_forward.proofs.Laws.Sizes.{north_size, east_size}
use Rattle.projection_worked.specs.Worked.{z_of, plane_pair, slope_pair}
use Rattle.projection_worked.specs.Bounds.{Tame}
use Rattle.projection_worked.proofs.Laws.Size.{tame}

-- a latitude that is taken is a natural number of ticks from 48° to 56°
pub latitude_taken : (B : ℤ) → latitude_bad B ≡ false → (B ≡ pos (nat_abs B)) × Latitude (nat_abs B)
latitude_taken B e = go B ((latitude_exact B).0 e)
  where
    go : (B : ℤ) → ((pos (48 ° 0 ' 0 '') ≤ℤ B) × (B ≤ℤ pos (56 ° 0 ' 0 ''))) → (B ≡ pos (nat_abs B)) × Latitude (nat_abs B)
    go (pos n) h = (refl, record { low = leb→le (48 ° 0 ' 0 '') n h.0.le; high = leb→le n (56 ° 0 ' 0 '') h.1.le })
    go (negsuc n) h = absurd h.0.le

module _ (E : Ellipsoid) (n d : ℕ) (l : Latitude n) (g : d ≤ 5 ° 30 ' 0 '') where
  pub plane_tame : Tame (plane_pair E n d)
  unfolding plane_pair z_of
  plane_tame = tame (a_coefficients (constants E)) _ reach (forward_light E) (arguments_inside (north_of E n d) (pos (east_of E n d)) (north_size E n l false d g) (east_size E n l false d g))

  pub slope_tame : Tame (slope_pair E n d)
  unfolding slope_pair z_of
  slope_tame = tame (derivative (a_coefficients (constants E))) _ reach (derivative_light E) (arguments_inside (north_of E n d) (pos (east_of E n d)) (north_size E n l false d g) (east_size E n l false d g))
