-- Plane to plane after the checks of the codes. Definitions only.
use Rattle.std.specs.Prelude.{true, false, ℕ, eqb, ℤ}
use Rattle.rules.specs.Refusals.{Answer, answered, ◌>>=◌}
use Rattle.rules.specs.Points.{Ticks, plane_of, plane_by}
use Rattle.rules.specs.Rings.{Corner}
use Rattle.projection.specs.Inverse.{worked_inverse}
use Rattle.projection.specs.Worked.{worked_forward}

-- what the call answers
abbrev pub worked_plane : ℕ → ℕ → ℤ → ℤ → Answer Corner
worked_plane = plane_by worked_forward worked_inverse

-- the inverse answer taken to the target
abbrev pub taken_to : ℕ → ℕ → ℤ → ℤ → Ticks → Answer Corner
taken_to source target X Y ticks =
    elim (eqb source target) [
      | true ↦ answered (record { x = X; y = Y })
      | false ↦ plane_of (worked_forward target ticks.B ticks.L)
    ]

abbrev pub carried : ℕ → ℕ → ℤ → ℤ → Answer Corner
carried source target X Y = worked_inverse source X Y >>= taken_to source target X Y
