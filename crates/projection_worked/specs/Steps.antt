-- 02, (xii) Number 10 on a phone call: "Nobody has reported refusal 10, yet the help desk has a page for it." Every double that the code works out for a point, forward
-- and inverse, and the theorem that lets 10 go. Definitions only.
use Rattle.std.specs.Prelude.{◌≡◌, List, ◌++◌, ℕ, ℤ, pos, nat_abs, ◌-ℤ◌, Float}
use Rattle.rules.specs.Refusals.{answered}
use Rattle.rules.specs.Systems.{System, constants, a_coefficients, b_coefficients}
use Rattle.rules.specs.Scaled.{unit, derivative}
use Rattle.rules.specs.Points.{offset_X, offset_Y, forward_checks, inverse_checks}
use Rattle.double.specs.Exact.{doubles}
use Rattle.double.specs.Steps.{AllFinite, horner_doubles}
use Rattle.metres.specs.Metres.{argument_doubles, arguments_of}
use Rattle.fixed_forward.specs.Mercator.{north_of, east_of}
use Rattle.projection_worked.specs.Worked.{millionths_of}
use Rattle.projection_worked.specs.Inverse.{undone30, centred30}

-- of one polynomial step with these coefficients, n and m being the parts in units of 2^-30 m: both parts of z, and Horner's rule at it
abbrev pub polynomial_doubles : List ℤ → ℤ → ℤ → List Float
polynomial_doubles cs n m = argument_doubles n ++ (argument_doubles m ++ horner_doubles (doubles unit cs) (arguments_of n m))

-- forward, of a latitude of B ticks and a difference d of longitude: the polynomial (`plane-pair`), and its derivative (`slope-pair`)
abbrev pub forward_doubles : System → ℤ → ℤ → List Float
forward_doubles s B d =
    let n = north_of s.ellipsoid (nat_abs B) (nat_abs d) in
    let m = pos (east_of s.ellipsoid (nat_abs B) (nat_abs d)) in
    polynomial_doubles (a_coefficients (constants s.ellipsoid)) n m ++ polynomial_doubles (derivative (a_coefficients (constants s.ellipsoid))) n m

-- inverse, of X and Y: the b polynomial (`worked-pair`)
abbrev pub inverse_doubles : System → ℤ → ℤ → List Float
inverse_doubles s X Y =
    polynomial_doubles (b_coefficients (constants s.ellipsoid))
    (centred30 s.ellipsoid (undone30 (millionths_of s) (nat_abs (X -ℤ offset_X s)))) (pos (undone30 (millionths_of s) (nat_abs (Y -ℤ offset_Y s))))

-- "Show that no point that passes the checks before it, in any code, makes a step that isn't finite": before 10 came 1, 2 and 3 forward, 1 and 4 of the inverse.
-- Plane to plane, ring conversion and job have no other steps in f64 than those of their forwards and inverses.
pub record StepsFinite : Type 0 where
  pub forward : (code : ℕ) (s : System) (B L : ℤ) → forward_checks code B L ≡ answered s → AllFinite (forward_doubles s B (L -ℤ s.L0))
  pub inverse : (code : ℕ) (s : System) (X Y : ℤ) → inverse_checks code X Y ≡ answered s → AllFinite (inverse_doubles s X Y)
