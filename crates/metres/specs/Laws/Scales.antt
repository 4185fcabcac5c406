-- Every m0 of the table is 1 - short / 1000000, and 0.9997142857 is 1 - 2857143 / 10 ^ 10: one test, by computation. Assumes nothing.
use Rattle.std.specs.Prelude.{Bool, true, ◌&&◌, List, [], ◌∷◌, ℕ, ◌-◌, ◌*◌, ◌/◌, ◌^◌, T, eqb, leb, ltb, ℤ, nat_abs}
use Rattle.std.proofs.Common.{eqb→eq, leb→le, ltb→lt}
use Rattle.std.specs.Float.Ieee.Fits.{and_l, and_r}
use Rattle.rules.specs.Scaled.{unit}
use Rattle.rules.specs.Systems.{System, table, ◌/10^◌}
use Rattle.metres.specs.Millimetres.{Scale}

abbrev is_scale : ℕ → ℕ → ℕ → Bool
is_scale m0 short per = ltb 0 per && leb short (1000 * per) && eqb (m0 * (1000 * per)) ((1000 * per - short) * unit)

pub scale : (m0 short per : ℕ) → T (is_scale m0 short per) → Scale m0 short per
scale m0 short per t =
    let a = ltb 0 per in
    let b = leb short (1000 * per) in
    let c = eqb (m0 * (1000 * per)) ((1000 * per - short) * unit) in
    record {
      positive = ltb→lt 0 per (and_l a b (and_l (a && b) c t));
      at_most = leb→le short (1000 * per) (and_r a b (and_l (a && b) c t));
      is = eqb→eq (m0 * (1000 * per)) ((1000 * per - short) * unit) (and_r (a && b) c t);
    }

-- what m0 is short of 1, in millionths
abbrev pub short_of : ℤ → ℕ
short_of m0 = 1000000 - nat_abs m0 / 10 ^ 18

abbrev are_scales : List System → Bool
are_scales [] = true
are_scales (s ∷ ss) = is_scale (nat_abs s.m0) (short_of s.m0) 1000 && are_scales ss

abbrev pub Scales : List System → Type 0
Scales [] = Unit
Scales (s ∷ ss) = Scale (nat_abs s.m0) (short_of s.m0) 1000 × Scales ss

scales : (l : List System) → T (are_scales l) → Scales l
scales [] t = tt
scales (s ∷ ss) t = (scale (nat_abs s.m0) (short_of s.m0) 1000 (and_l (is_scale (nat_abs s.m0) (short_of s.m0) 1000) (are_scales ss) t), scales ss (and_r (is_scale (nat_abs s.m0) (short_of s.m0) 1000) (are_scales ss) t))

pub table_scales : Scales table
table_scales = scales table (unfold table in tt)

pub gugik_scale : Scale (nat_abs (0_9997142857 /10^ 10)) 2857143 10000000
gugik_scale = scale (nat_abs (0_9997142857 /10^ 10)) 2857143 10000000 tt
