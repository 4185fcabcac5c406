-- What the code knows of a point that is taken, and what it holds of it. Assumes nothing.
use Rattle.std.specs.Prelude.{false, Result, Ok, Err, ◌≡◌, ℕ, ◌*◌, ◌/◌, ◌≤◌, ℤ, nat_abs, ◌-ℤ◌}
use Rattle.rules.specs.Units.{◌°◌'◌''}
use Rattle.rules.specs.Refusals.{answered}
use Rattle.rules.specs.Systems.{System, Ellipsoid}
use Rattle.rules.specs.Points.{latitude_bad, forward_checks}
use Rattle.terms.specs.Papers.{refusal_paper}
use Rattle.terms.specs.declared.refusals.Refusal.{Refusal}
use Rattle.systems.specs.Zones.{Sized, Stands}
use Rattle.systems.specs.declared.Zone.{Zone}
use Rattle.fixed.specs.Worked.{S60}
use Rattle.fixed.specs.Laws.Turned.{below_zero}
use Rattle.fixed_forward.specs.Points.{IsMercator, SphereSizes}
use Rattle.projection_worked.specs.Bounds.{limit30}
use Rattle.projection.specs.declared.onward.Located.{Located}

pub record Taken (zone : Zone) (b l : ℤ) : Type 0 where
  pub sized : Sized zone
  pub latitude : latitude_bad b ≡ false
  pub longitude : nat_abs (l -ℤ zone.meridian) ≤ 5 ° 30 ' 0 ''

-- of a latitude of n ticks and a difference d of longitude
pub record LocatedAt (E : Ellipsoid) (n : ℕ) (d : ℤ) (r : Located) : Type 0 where
  pub side : r.west ≡ below_zero d
  pub is : IsMercator E n (nat_abs d) r.mercator
  pub north_small : nat_abs r.mercator.north ≤ limit30
  pub east_small : r.mercator.east ≤ limit30
  pub sphere_sizes : SphereSizes r.mercator.sphere
  pub across_small : r.mercator.across ≤ 11 * S60 / 100

-- what the checks 1, 2 and 3 of a point say: the row of a system in which it is taken, or the paper's refusal
abbrev pub Checked : ℕ → ℤ → ℤ → Result Zone Refusal → Type 0
Checked code b l (Ok zone) = (s : System) × (forward_checks code b l ≡ answered s) × Stands zone s × Taken zone b l
Checked code b l (Err refusal) = forward_checks code b l ≡ refusal_paper refusal
