-- The scale whole, and what the code's functions answer from a point's struct. Assumes nothing.
use Rattle.std.specs.Prelude.{◌≡◌, ℕ, ◌*◌, ◌-◌, ◌/◌, ◌≤◌}
use Rattle.rules.specs.Units.{◌°◌'◌''}
use Rattle.rules.specs.Systems.{Ellipsoid}
use Rattle.fixed.specs.Worked.{mul60}
use Rattle.fixed_scale.specs.Scale.{sphere_scale_of}
use Rattle.fixed_scale.specs.Length.{length60}

-- the scale, of the derivative's first part times 0.000002 and its slope
unfoldable pub scale_of : Ellipsoid → (n d : ℕ) → (first slope : ℕ) → ℕ
scale_of E n d first slope = mul60 (sphere_scale_of E n d) (length60 first slope)
