-- The sphere's latitude f as it is worked, about 52°: from sin p and cosh q, and no sin f or cos f. Assumes nothing.
use Rattle.std.specs.Prelude.{◌≡◌, ◌∷◌, ℕ, ◌+◌, ◌*◌, ◌-◌, ◌/◌, ◌^◌, ◌<◌, ◌≤◌, ℤ, ◌+ℤ◌, ◌-ℤ◌, ◌*ℤ◌}
use Rattle.arith.specs.Laws.Diff.{◌⊖◌}
use Rattle.rules.specs.Scaled.{one, product, quotient, sqrt}
use Rattle.fixed.specs.Worked.{S60}

abbrev pub f_low : ℕ
f_low = 8195 * S60 / 10000

abbrev pub f_high : ℕ
f_high = 9956 * S60 / 10000

-- ---- f, of sin p near SP and cosh q near CH
abbrev pub tangent : ℤ → ℤ → ℤ
tangent SP CH = quotient (quotient SP CH) (sqrt (one -ℤ product (quotient SP CH) (quotient SP CH)))
