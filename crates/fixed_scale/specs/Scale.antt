-- The scale without the derivative: R0·cos f / (N·cos B) times 1/√(1 - cos²f·sin²d), by one quotient. Assumes nothing.
use Rattle.std.specs.Prelude.{◌≡◌, ◌∷◌, ℕ, ◌+◌, ◌*◌, ◌-◌, ◌/◌, ◌<◌, ◌≤◌, ℤ, ◌+ℤ◌, ◌-ℤ◌, ◌*ℤ◌}
use Rattle.rules.specs.Units.{◌°◌'◌''}
use Rattle.rules.specs.Systems.{Ellipsoid, GRS_80, Krasovsky, constants}
use Rattle.rules.specs.Scaled.{one, product, sqrt}
use Rattle.fixed.specs.Worked.{mul60, quot60}
use Rattle.fixed_bands.specs.Worked.{latitude_sine, K60}
use Rattle.fixed_forward.specs.Mercator.{denominator_of, across_of}
use Rattle.fixed_scale.specs.Root.{root60}

-- ---- the ellipsoids' e² and R0/a
unfoldable pub square60 : Ellipsoid → ℕ
square60 GRS_80 = 7718094688409816
square60 Krasovsky = 7716989728512023

unfoldable pub ratio60 : Ellipsoid → ℕ
ratio60 GRS_80 = 1150989552223460208
ratio60 Krasovsky = 1150989829159782655

-- ---- the worked numbers: √(1 - e²t²), √(1 - cos²f·sin²d), and the scale of sphere and Mercator together
unfoldable pub meridian60 : ℕ → ℕ → ℕ
meridian60 e2 t = root60 (mul60 e2 (mul60 t t))

unfoldable pub spread60 : ℕ → ℕ
spread60 v = root60 (mul60 v v)

unfoldable pub sphere_scale60 : (ratio k r₁ d2 r₂ : ℕ) → ℕ
sphere_scale60 ratio k r₁ d2 r₂ = quot60 (mul60 (mul60 k ratio) r₁) (mul60 d2 r₂)

unfoldable pub meridian_of : Ellipsoid → ℕ → ℕ
meridian_of E n = meridian60 (square60 E) (latitude_sine n)

unfoldable pub spread_of : Ellipsoid → ℕ → ℕ → ℕ
spread_of E n d = spread60 (across_of E n d)

unfoldable pub sphere_scale_of : Ellipsoid → ℕ → ℕ → ℕ
sphere_scale_of E n d = sphere_scale60 (ratio60 E) (K60 E n) (meridian_of E n) (denominator_of E n) (spread_of E n d)

-- ---- the definition's roots
unfoldable pub meridian_at : Ellipsoid → ℤ → ℤ
meridian_at E t = sqrt (one -ℤ product (product (constants E).e (constants E).e) (product t t))

unfoldable pub spread_at : ℤ → ℤ → ℤ
spread_at f z = sqrt (one -ℤ product (product f f) (product z z))

-- how near √(1 - e²t²) is shown to be, in units of 2^-60; at 56° it is more than 65,200 of them off
abbrev pub meridian_gap : ℕ
meridian_gap = 213000
