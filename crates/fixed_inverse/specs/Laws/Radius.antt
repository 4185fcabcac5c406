-- A length over R0: a whole number of 2^-30 m times 2^82 / R0, against the definition's quotient, on either side of 0. Assumes nothing.
use Rattle.std.specs.Prelude.{◌≡◌, ◌∷◌, ℕ, ◌+◌, ◌*◌, ◌-◌, ◌/◌, ◌^◌, ◌<◌, ◌≤◌, T, leb, ltb, pos, ◌+ℤ◌, ◌-ℤ◌, ◌*ℤ◌, nat_abs}
use Rattle.rules.specs.Scaled.{unit}
use Rattle.rules.specs.Systems.{Ellipsoid, GRS_80, Krasovsky}
use Rattle.fixed.specs.Worked.{S60}
use Rattle.fixed_inverse.specs.Worked.{over_radius}

-- i is 2^82 / R; the length is at most hx and within e
unfoldable pub radius_e : (R i hx e : ℕ) → ℕ
radius_e R i hx e = (2 ^ 90 * unit * e + hx * 2 ^ 8 * unit * nat_abs (pos i *ℤ pos R -ℤ pos (2 ^ 82) *ℤ pos unit) + S60 * S60 * (1 * R) + unit * R * (2 * S60)) / (R * S60)

-- the definition's quotient by R0, on either side of 0
unfoldable pub radius_of : Ellipsoid → ℕ
radius_of GRS_80 = 6367449_145771 * 10 ^ 18
radius_of Krasovsky = 6367558_496875 * 10 ^ 18

-- what is asked of lengths from lo to hi, for an angle from l to h; and for its nearness
abbrev pub SizeTest : (E : Ellipsoid) (lo hi l h : ℕ) → Type 0
SizeTest E lo hi l h = T (leb (hi * 2 ^ 8) (2 ^ 61)) × T (leb (over_radius E) (2 ^ 61)) × T (leb l (over_radius E * (lo * 2 ^ 8) / S60 - 1)) × T (leb (over_radius E * (hi * 2 ^ 8) / S60) h)

abbrev pub NearTest : (E : Ellipsoid) (hi e : ℕ) → Type 0
NearTest E hi e = T (ltb 0 (radius_of E * S60)) × T (leb (radius_e (radius_of E) (over_radius E) hi (160 * unit)) e)

-- Mercator's x from 5,294,000 m to 6,246,000 m, and y up to 421,000 m; each within 160 units of 2^-30 m, which are 1.5e-7 m
abbrev pub x_low : ℕ
x_low = 5294000 * 2 ^ 30

abbrev pub x_high : ℕ
x_high = 6246000 * 2 ^ 30

abbrev pub y_high : ℕ
y_high = 421000 * 2 ^ 30

-- the ranges of p = x / R0 and q = y / R0
abbrev pub p_low : ℕ
p_low = 8314 * S60 / 10000

abbrev pub p_high : ℕ
p_high = 98093 * S60 / 100000

abbrev pub q_high : ℕ
q_high = 6612 * S60 / 100000
