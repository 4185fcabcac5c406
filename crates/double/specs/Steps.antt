-- 02 (xii), "a step that isn't finite": every double that the code works out on the way to a polynomial's value, in the order of the code, and what it is for all of
-- them to be finite. Definitions only.
use Rattle.std.specs.Prelude.{List, [], ◌∷◌, ◌++◌, ℕ, ◌-◌, ◌^◌, T, ℤ, Float}
use Rattle.std.specs.Float.{binary64}
use Rattle.std.specs.Float.Ieee.{mul}
use Rattle.double.specs.declared.Pair.{Pair}
use Rattle.double.specs.Value.{finite}
use Rattle.double.specs.Complex.{product, step, horner}
use Rattle.double.specs.Exact.{doubles}
use Rattle.double.specs.Bound.{Light, Inside}

-- none is a NaN, and none an infinity
abbrev pub AllFinite : List Float → Type 0
AllFinite [] = Unit
AllFinite (x ∷ xs) = T (finite x) × AllFinite xs

-- of a step r * z + c: two products and their difference, two products and their sum, the coefficient, and the sum with it
abbrev pub step_doubles : Pair → Pair → Float → List Float
step_doubles r z c =
    mul binary64 r.re z.re ∷ mul binary64 r.im z.im ∷ (product r z).re
    ∷ mul binary64 r.re z.im ∷ mul binary64 r.im z.re ∷ (product r z).im
    ∷ c ∷ (step r z c).re
    ∷ []

-- of Horner's rule: the last coefficient, and then the doubles of each step
unfoldable pub horner_doubles : List Float → Pair → List Float
horner_doubles [] z = []
horner_doubles (c ∷ []) z = c ∷ []
horner_doubles (c ∷ d ∷ cs) z = horner_doubles (d ∷ cs) z ++ step_doubles (horner (d ∷ cs) z) z c

-- what a table may weigh at the largest size of z, in metres; doubles themselves end below 2 ^ 1024
abbrev pub heaviest : ℕ
heaviest = 2 ^ 52 - 1

-- over any table of at most ten coefficients that weighs no more, at any z of that size: no step overflows
abbrev pub NoOverflow : Type 0
NoOverflow = (D : ℕ) (c : ℤ) (cs : List ℤ) (z : Pair) (m : ℕ) → Light D c cs m heaviest → Inside z m → AllFinite (horner_doubles (doubles D (c ∷ cs)) z)
