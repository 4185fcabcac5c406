-- The scale on the central meridian, before m0, followed along a band: for each step of the definition that `fixed_bands` does not have, the model of its result, as a polynomial
-- in the ticks from the band's start and an error; and the test of a band. All of it computes. Assumes nothing.
use Rattle.std.specs.Prelude.{Bool, List, [], ◌∷◌, ℕ, zero, suc, ◌+◌, ◌*◌, ◌-◌, ◌/◌, ◌^◌, leb, ltb, ℤ, pos, negsuc, nat_abs}
use Rattle.arith.specs.Floor.{floor}
use Rattle.rules.specs.Systems.{◌/10^◌, Constants, Ellipsoid, constants, a_coefficients}
use Rattle.rules.specs.Scaled.{unit, one, at_52, tan_52, odd_fractions, derivative}
use Rattle.rules.specs.Projection.{two_millionths}
use Rattle.fixed_bands.specs.Worked.{width}
use Rattle.fixed_bands.specs.Polynomials.{reach, plus, multiple, times, minus, cut}
use Rattle.fixed_bands.specs.Models.{Model, fine, still, sum, difference, product_model}
use Rattle.fixed_bands.specs.Functions.{K_model}
use Rattle.fixed_bands.specs.Rows.{also}
use Rattle.fixed_bands.specs.Along.{latitude_sine_model, latitude_cosine_model}

-- ---- a polynomial's first coefficient and the others; at least this, for every h of up to the width, where it is not 0
unfoldable pub first : List ℤ → ℤ
first [] = pos 0
first (c ∷ cs) = c

unfoldable pub rest : List ℤ → List ℤ
rest [] = []
rest (c ∷ cs) = cs

unfoldable pub least : List ℤ → ℕ
least [] = 0
least (pos c ∷ cs) = c - width * reach width cs
least (negsuc c ∷ cs) = 0

-- at least this is what the model's number times `fine` is, where it is not 0
unfoldable pub room : Model → ℕ
room m = least m.line - m.error

unfoldable pub positive : Model → Bool
positive m = ltb 0 (room m)

-- ---- a quotient and a root: a polynomial that is near, and how near it is by what it leaves. Any polynomial would do; a worse one leaves more
-- the first coefficients of the series p / q
unfoldable pub divided : ℕ → List ℤ → List ℤ → List ℤ
divided zero p q = []
divided (suc k) p q = let c = floor (first p) (nat_abs (first q)) in c ∷ divided k (rest (minus p (multiple c q))) q

unfoldable pub quotient_line : List ℤ → List ℤ → ℕ → ℕ → ℕ → Model
quotient_line p q e f l =
    let s = unit * fine in
    let u = multiple (pos s) p in
    let r = divided 8 u q in
    record { line = r; error = (s * e + reach width r * f + reach width (minus u (times r q))) / l + fine }

unfoldable pub quotient_model : Model → Model → Model
quotient_model m n = quotient_line m.line n.line m.error n.error (room n)

-- Newton's steps from s towards the root of p
unfoldable pub newton : ℕ → List ℤ → List ℤ → List ℤ
newton zero p s = s
newton (suc k) p s = newton k p (cut 8 2 (plus s (divided 8 p s)))

unfoldable pub root_line : Model → List ℤ
root_line m = newton 6 (multiple (pos (unit * fine)) m.line) (pos (unit * fine) ∷ [])

-- by the polynomial r
unfoldable pub root_model : List ℤ → Model → Model
root_model r m =
    let s = unit * fine in
    record { line = r; error = (s * m.error + reach width (minus (multiple (pos s) m.line) (times r r))) / least r + 2 * fine }

unfoldable pub rooted : List ℤ → Model → Bool
rooted r m = also (positive m) (ltb 0 (least r))

-- ---- the arc tangent, and a polynomial with real coefficients at a real number
unfoldable pub alternating_model : Model → List ℤ → Model
alternating_model y [] = still (pos 0)
alternating_model y (c ∷ cs) = difference (still c) (product_model y (alternating_model y cs))

unfoldable pub arctan_model : Model → Model
arctan_model x = product_model x (alternating_model (product_model x x) odd_fractions)

unfoldable pub polynomial_model : Model → Model → List ℤ → Model
polynomial_model p z [] = still (pos 0)
polynomial_model p z (c ∷ cs) = sum (product_model (still c) p) (polynomial_model (product_model p z) z cs)

-- ---- the steps of the definition, in its order, of models of t = sin B, cos B and K
unfoldable pub lifted_model : Model → Model → Model
lifted_model K t = product_model (product_model K K) (sum (still one) t)

unfoldable pub numerator_model : Model → Model → Model
numerator_model K t = difference (lifted_model K t) (difference (still one) t)

unfoldable pub denominator_model : Model → Model → Model
denominator_model K t = sum (lifted_model K t) (difference (still one) t)

-- 1 - e²t²
unfoldable pub under_model : Constants → Model → Model
under_model k t = difference (still one) (product_model (product_model (still k.e) (still k.e)) (product_model t t))

-- 1 + v·tan 52°, and the tangent of the difference from 52°
unfoldable pub over_model : Model → Model
over_model v = sum (still one) (product_model v (still tan_52))

unfoldable pub slant_model : Model → Model
slant_model v = quotient_model (difference v (still tan_52)) (over_model v)

-- Mercator's x, z, and the derivative there
unfoldable pub z_model : Constants → Model → Model
z_model k u = product_model (difference (product_model (still k.R0) (sum (still at_52) (arctan_model u))) (still (5760000 /10^ 0))) (still two_millionths)

unfoldable pub slope_model : Constants → Model → Model
slope_model k z = polynomial_model (still one) z (derivative (a_coefficients k))

-- ---- the test of a band, step by step: what is divided by is positive, and so is what a root is taken of; in the end the scale is 1 but for this, in units of 10^-24
abbrev pub gap : ℕ
gap = 10 ^ 13

unfoldable pub near_one : Model → Bool
near_one m = leb (reach width (minus m.line (pos (unit * fine) ∷ [])) + m.error) (gap * fine)

-- S is R0·cos f / (N·cos B), and h the derivative
unfoldable pub test_length : Model → Model → Bool
test_length S h =
    also (rooted h.line (product_model h h))
    (near_one (product_model (product_model S (still one)) (product_model (root_model h.line (product_model h h)) (still two_millionths))))

-- v is the tangent of f
unfoldable pub test_slant : Constants → Model → Model → Bool
test_slant k S v = also (positive (over_model v)) (test_length S (slope_model k (z_model k (slant_model v))))

unfoldable pub test_tangent : Constants → Model → Model → Model → Bool
test_tangent k S sin_f w = also (positive w) (test_slant k S (quotient_model sin_f w))

unfoldable pub test_scale : Constants → Model → Model → Model → Model → Bool
test_scale k sin_f cos_f w Nc = also (positive Nc) (test_tangent k (quotient_model (product_model (still k.R0) cos_f) Nc) sin_f w)

-- r is √(1 - e²t²)
unfoldable pub test_radius : Constants → Model → Model → Model → Model → Bool
test_radius k c sin_f cos_f r =
    also (positive r) (test_scale k sin_f cos_f (product_model cos_f (still one)) (product_model (quotient_model (still k.a) r) c))

unfoldable pub test_root : Constants → Model → Model → Model → Model → List ℤ → Bool
test_root k c sin_f cos_f y r = also (rooted r y) (test_radius k c sin_f cos_f (root_model r y))

unfoldable pub test_sphere : Constants → Model → Model → Model → Model → Bool
test_sphere k t c K d =
    let y = under_model k t in
    also (positive d) (test_root k c (quotient_model (numerator_model K t) d) (quotient_model (product_model (sum K K) c) d) y (root_line y))

unfoldable pub test : Constants → Model → Model → Model → Bool
test k t c K = test_sphere k t c K (denominator_model K t)

unfoldable pub test_from : Constants → Model → Model → Bool
test_from k t c = test k t c (K_model k t)

unfoldable pub test_band : Ellipsoid → ℕ → Bool
test_band E i = test_from (constants E) (latitude_sine_model i) (latitude_cosine_model i)
