-- From a number at some scale that is near the definition's value, to the nearest whole number: how near that is. Laws over any scale. Assumes nothing.
use Rattle.std.specs.Prelude.{◌≡◌, ◌∷◌, ℕ, ◌+◌, ◌*◌, ◌-◌, ◌/◌, ◌<◌, ◌≤◌, pos, ◌+ℤ◌, ◌-ℤ◌, ◌*ℤ◌, nat_abs}
use Rattle.std.proofs.Common.{◌∙◌}
use Rattle.rules.specs.Scaled.{unit, Pi}
use Rattle.fixed.specs.Worked.{S60}

-- ---- an angle: n is b·C / 2^60, where C is near h / π at scale d, against the definition's angle in units of which h make half a turn
unfoldable pub angle_e : (h C d high e : ℕ) → ℕ
angle_e h C d high e = (h * d * unit * e + high * unit * nat_abs (pos C *ℤ pos Pi -ℤ pos (h * d) *ℤ pos unit) + S60 * d * (1 * Pi) + unit * Pi * (2 * S60)) / (S60 * Pi)
