-- A point that passed the checks 2 and 3 of its system. Assumes nothing.
use mathlib.Core.Bool.{false}
use mathlib.Core.Path.{◌≡◌, ap, subst}
use Prim.Native.Nat.{◌≤◌}
use native.Mathlib.Nat.{le_trans, le_of_eq}
use lib.IntN.{ℤ, nat_abs, ◌-ℤ◌}
use Rattle.rules.specs.Units.{◌°◌'◌''}
use Rattle.rules.specs.Systems.{System}
use Rattle.rules.specs.Points.{latitude_bad, longitude_bad}
use Rattle.rules.proofs.Laws.Checks.{longitude_exact}
use Rattle.systems.specs.Zones.{Stands, Sized}
use Rattle.systems.specs.declared.Zone.{Zone}
use Rattle.projection.specs.Located.{Taken}

pub within_reach : (z : Zone) (s : System) (l : ℤ) → Stands z s → Sized z → longitude_bad s l ≡ false → nat_abs (l -ℤ z.meridian) ≤ 5 ° 30 ' 0 ''
within_reach z s l h k e =
    subst (λ m. nat_abs (l -ℤ m) ≤ 5 ° 30 ' 0 '') h.meridian (le_trans ((longitude_exact s l).0 e) (le_trans (le_of_eq (ap nat_abs h.reach)) k.reach))

pub taken_of : (z : Zone) (s : System) (b l : ℤ) → Stands z s → Sized z → latitude_bad b ≡ false → longitude_bad s l ≡ false → Taken z b l
taken_of z s b l h k e f = record { sized = k; latitude = e; longitude = within_reach z s l h k f }
