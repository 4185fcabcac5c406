-- The tangent difference rule about 52°, as a quotient of what the code has: for a tangent t that is nearly N / M, (t − c)/(1 + t·c) is nearly
-- (N − M·c)/(M + N·c). Assumes nothing.
use Rattle.std.specs.Prelude.{◌≡◌, ◌∷◌, ℕ, ◌+◌, ◌*◌, ◌-◌, ◌/◌, ◌^◌, ◌<◌, ◌≤◌, T, leb, ltb, ℤ, ◌+ℤ◌, ◌-ℤ◌, ◌*ℤ◌}
use Rattle.std.proofs.Common.{◌∙◌}
use Rattle.rules.specs.Scaled.{unit, one, product, quotient, tan_52}
use Rattle.fixed.specs.Worked.{S60, Tan52}
use Rattle.fixed.specs.Laws.Products.{slack_e, most}
use Rattle.fixed.specs.Laws.Quotients.{QuotTestDouble, least, quot_e}

-- the tangent of the difference from 52°, of an angle whose tangent is t
unfoldable pub slant : ℤ → ℤ
slant t = quotient (t -ℤ tan_52) (one +ℤ product t tan_52)

-- ---- the rule, for n and m whose doubles stand for N and M, where t is N/M within j. Numbers: of m·tan 52°, of the denominator and of the numerator
abbrev pub tilt_den_l : ℕ → ℕ → ℕ
tilt_den_l ln lm = lm + (ln * Tan52 / S60 - 4)

abbrev pub tilt_den_e : ℕ → ℕ → ℕ → ℕ
tilt_den_e en hn em = em + slack_e S60 4 hn en Tan52 unit

abbrev pub tilt_num_h : ℕ → ℕ → ℕ → ℕ → ℕ
tilt_num_h ln hn lm hm = (hn - (lm * Tan52 / S60 - 4)) + (hm * Tan52 / S60 - ln)

abbrev pub tilt_num_e : ℕ → ℕ → ℕ → ℕ
tilt_num_e en em hm = en + slack_e S60 4 hm em Tan52 unit

abbrev pub tilt_e : (j en ln hn em lm hm : ℕ) → ℕ
tilt_e j en ln hn em lm hm = quot_e (tilt_num_e en em hm) (tilt_den_l ln lm) (tilt_den_e en hn em) (17 * j + 45) (tilt_num_h ln hn lm hm) (tilt_den_l ln lm)

-- what the numbers are asked: n and m up to 2, M up to 2, the denominator's double above 2 and at most 4, the numerator at most 5/4 of it
abbrev pub TiltTest : (j en ln hn em lm hm : ℕ) → Type 0
TiltTest j en ln hn em lm hm =
    T (leb hn (2 ^ 62))
    × T (leb hm (2 ^ 62))
    × T (leb (most hm em) (2 * unit))
    × T (leb (2 * unit + 2 * j + 5) (least (tilt_den_l ln lm) (tilt_den_e en hn em)))
    × QuotTestDouble (tilt_den_l ln lm) (tilt_num_h ln hn lm hm) (hm + hn * Tan52 / S60)
    × T (ltb 0 (tilt_den_l ln lm * least (tilt_den_l ln lm) (tilt_den_e en hn em)))
