-- A number of the definition that turns on the ticks h from the start of a band, followed as a polynomial in h and an error: for each operation of the definition, the
-- model of its result. All of it computes, and what it says of a whole band is checked by computing. Assumes nothing.
use Rattle.std.specs.Prelude.{◌≡◌, List, [], ◌∷◌, ℕ, ◌+◌, ◌*◌, ◌-◌, ◌/◌, ◌^◌, ◌<◌, ◌≤◌, ℤ, pos, ◌+ℤ◌, ◌-ℤ◌, ◌*ℤ◌}
use Rattle.std.proofs.Common.{◌∙◌}
use Rattle.arith.specs.Within.{Within}
use Rattle.rules.specs.Scaled.{unit, one}
use Rattle.fixed_bands.specs.Worked.{width}
use Rattle.fixed_bands.specs.Polynomials.{at, reach, plus, multiple, times, negated, minus, cut}

pub record Model : Type 0 where
  pub line : List ℤ
  pub error : ℕ

-- how much finer the polynomial's coefficients are than the definition's numbers: h⁷ is below 10^63
abbrev pub fine : ℕ
fine = 10 ^ 80

-- the model of a number that does not change, of an opposite, a sum and a difference
unfoldable pub still : ℤ → Model
still c = record { line = (pos fine *ℤ c) ∷ []; error = 0 }

unfoldable pub opposite : Model → Model
opposite m = record { line = negated m.line; error = m.error }

unfoldable pub sum : Model → Model → Model
sum m n = record { line = plus m.line n.line; error = m.error + n.error }

unfoldable pub difference : Model → Model → Model
difference m n = record { line = minus m.line n.line; error = m.error + n.error }

-- of a product that goes down, kept to the power 7
unfoldable pub product_line : List ℤ → List ℤ → ℕ → ℕ → Model
product_line p q e f =
    let s = unit * fine in
    let pq = times p q in
    let r = cut 8 s pq in
    record { line = r; error = (fine * fine * unit + e * (reach width q + f) + reach width p * f + reach width (minus pq (multiple (pos s) r))) / s }

unfoldable pub product_model : Model → Model → Model
product_model m n = product_line m.line n.line m.error n.error

-- of a quotient by m that goes down
unfoldable pub part : ℕ → Model → Model
part d m =
    let r = cut 8 d m.line in
    record { line = r; error = (fine * d + m.error + reach width (minus m.line (multiple (pos d) r))) / d }

unfoldable pub nested_model : Model → List ℕ → Model
nested_model y [] = still one
nested_model y (m ∷ ms) = difference (still one) (part m (product_model y (nested_model y ms)))

unfoldable pub summed_model : Model → List ℤ → Model
summed_model y [] = still (pos 0)
summed_model y (c ∷ cs) = sum (still c) (product_model y (summed_model y cs))

-- ---- what a model says: a·10^80 is the polynomial's value at h, but for the error
pub record Follows (h : ℕ) (a : ℤ) (m : Model) : Type 0 where
  pub gap : Within (a *ℤ pos fine -ℤ at m.line (pos h)) m.error
