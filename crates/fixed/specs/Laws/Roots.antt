-- A square root, against the whole-number root of the definition: whatever way r is found, only r² counts. Assumes nothing.
use Rattle.std.specs.Prelude.{◌≡◌, ◌∷◌, ℕ, ◌+◌, ◌*◌, ◌-◌, ◌/◌, ◌<◌, ◌≤◌, ◌+ℤ◌, ◌-ℤ◌, ◌*ℤ◌}
use Rattle.rules.specs.Scaled.{unit}
use Rattle.fixed.specs.Worked.{S60}

-- r² is within d of w·2^60, w is near W, R is the root of W·10^24 and at most h, r is at least lo
unfoldable pub root_e : (d e h lo : ℕ) → ℕ
root_e d e h lo = (unit * unit * d + unit * S60 * e + S60 * S60 * (2 * h)) / (lo * unit)
