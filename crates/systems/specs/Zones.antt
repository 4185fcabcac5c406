-- What the code's row of a system stands for: the paper's row (rules, Systems). Assumes nothing.
use Rattle.std.specs.Prelude.{Bool, Result, Ok, Err, ◌||◌, ◌≡◌, ℕ, ◌^◌, ◌≤◌, ℤ, pos, nat_abs, ◌*ℤ◌, ◌≤ℤ◌}
use Rattle.std.specs.Int.Signed.{lt_z}
use Rattle.rules.specs.Units.{millimetres_in_metre}
use Rattle.rules.specs.Refusals.{Answer, answered, Passed, ◌>>◌, ◌if◌, latitude_outside, longitude_outside}
use Rattle.rules.specs.Systems.{System, system}
use Rattle.rules.specs.Points.{latitude_bad, longitude_bad}
use Rattle.terms.specs.Papers.{ellipsoid_of, refusal_paper}
use Rattle.terms.specs.declared.refusals.Refusal.{Refusal}
use Rattle.systems.specs.declared.Zone.{Zone}

-- the code's row z says what the paper's row s says: L0 and half-width in ticks, m0 in millionths, the offsets in millimetres
pub record Stands (z : Zone) (s : System) : Type 0 where
  pub ellipsoid : s.ellipsoid ≡ ellipsoid_of z.ellipsoid
  pub meridian : s.L0 ≡ z.meridian
  pub reach : pos s.half_width ≡ z.reach
  pub scale : s.m0 ≡ z.millionths *ℤ pos (10 ^ 18)
  pub north : pos millimetres_in_metre *ℤ s.x0 ≡ z.north
  pub east : pos millimetres_in_metre *ℤ s.y0 ≡ z.east

-- the row's numbers are small enough that sums of them and their products with the box's kilometres fit 64 bits
pub record Sized (z : Zone) : Type 0 where
  pub meridian : nat_abs z.meridian ≤ 100_000_000_000
  pub reach : nat_abs z.reach ≤ 19_800_000_000
  pub reach_positive : pos 0 ≤ℤ z.reach
  pub millionths : nat_abs z.millionths ≤ 1_000_000
  pub millionths_positive : pos 999_000 ≤ℤ z.millionths
  pub north : nat_abs z.north ≤ 10_000_000_000
  pub east : nat_abs z.east ≤ 10_000_000_000

-- what the answer for a code says: a row that stands for the paper's row of that code, or the paper's refusal
abbrev pub Found : ℕ → Result Zone Refusal → Type 0
Found code (Err refusal) = system code ≡ refusal_paper refusal
Found code (Ok z) = (s : System) × (system code ≡ answered s) × Stands z s × Sized z

-- outside two ends, which are allowed
abbrev pub beyond : ℤ → ℤ → ℤ → Bool
beyond low high number = lt_z number low || lt_z high number

-- the checks 2 and 3 of a point, in their order
abbrev pub point_checks : System → ℤ → ℤ → Answer Passed
point_checks s B L = (latitude_outside if latitude_bad B) >> (longitude_outside if longitude_bad s L)
