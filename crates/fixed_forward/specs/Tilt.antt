-- That the tangent of the difference from 52° is below 0.089: n2 and m2 are taken together here, and as intervals over all latitudes they would be too wide,
-- so the latitudes are split into four spans of 2°. Assumes nothing.
use Rattle.std.specs.Prelude.{ℕ, ◌+◌, ◌*◌, ◌-◌, ◌/◌, ◌^◌, ◌≤◌, T, leb, ◌-ℤ◌, ◌*ℤ◌}
use Rattle.rules.specs.Scaled.{unit}
use Rattle.fixed.specs.Worked.{S60}
use Rattle.fixed.specs.Laws.Tangents.{TiltTest, tilt_e, tilt_num_h, tilt_den_l}

-- twice n2 from the sine, and twice m2 from the cosine
abbrev pub KL : ℕ
KL = 994 * S60 / 1000

abbrev lifted_l : ℕ → ℕ
lifted_l s = (KL * KL / S60 - 1) * (S60 + s) / S60 - 1

abbrev pub num_l : ℕ → ℕ
num_l s = lifted_l s - (S60 - s) - 1

abbrev pub num_h : ℕ → ℕ
num_h s = S60 * S60 / S60 * (S60 + s) / S60 - (S60 - s)

abbrev pub mid_l : ℕ → ℕ
mid_l c = (2 * KL * c / S60 - 4) * (99 * S60 / 100) / S60 - 4

abbrev pub mid_h : ℕ → ℕ
mid_h c = 2 * S60 * c / S60 * S60 / S60

pub record Between (v lo hi : ℕ) : Type 0 where
  pub low : lo ≤ v
  pub high : v ≤ hi

abbrev pub NumTest : ℕ → ℕ → Type 0
NumTest sl sh = T (leb sh S60) × T (leb (S60 + sh) (2 ^ 61)) × T (leb (S60 - sl) (lifted_l sl))

-- ---- between bounds of the sine and of the cosine, in ten-thousandths
abbrev pub BandTest : (sl sh cl ch : ℕ) → Type 0
BandTest sl sh cl ch =
    NumTest sl sh
    × T (leb ch (2 ^ 61))
    × T (leb (2 * S60 * ch / S60) (2 ^ 62))
    × TiltTest 57 (110 * unit) (num_l sl) (num_h sh) (100 * unit) (mid_l cl) (mid_h ch)
    × T (leb (tilt_e 57 (110 * unit) (num_l sl) (num_h sh) (100 * unit) (mid_l cl) (mid_h ch)) (250 * unit))
    × T (leb (tilt_num_h (num_l sl) (num_h sh) (mid_l cl) (mid_h ch) * S60 / tilt_den_l (num_l sl) (mid_l cl)) (89 * S60 / 1000))
