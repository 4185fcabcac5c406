-- The ellipsoids' constants as the code has them, in units of 2^-30 m. Assumes nothing.
use Rattle.std.specs.Prelude.{ℕ, ◌*◌, ◌/◌, ◌^◌, ◌≤◌, ◌-ℤ◌}
use Rattle.rules.specs.Systems.{◌/10^◌, Ellipsoid, GRS_80, Krasovsky}

-- R0, and R0 times 52° less 5,760,000 m
unfoldable pub radius30 : Ellipsoid → ℕ
radius30 GRS_80 = 6836996460007395
radius30 Krasovsky = 6837113874861261

unfoldable pub centre30 : Ellipsoid → ℕ
centre30 GRS_80 = 20308250824945
centre30 Krasovsky = 20414813166061
