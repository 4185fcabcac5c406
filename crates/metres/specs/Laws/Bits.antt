-- The size of a double in whole multiples of 2 ^ -k, by its bit pattern. Assumes nothing.
use Rattle.std.specs.Prelude.{◌≡◌, not, ℕ, ◌+◌, ◌-◌, ◌*◌, ◌/◌, ◌%◌, ◌^◌, ◌≤◌, ◌<◌, T, Float}
use Rattle.std.proofs.Math.Path.{sym, ap}
use Rattle.std.proofs.Common.{◌∙◌, le_trans, le_of_eq, lt_of_lt_of_le, lt_of_le_of_lt, mul_assoc, mul-le-mul_right, mul-lt-mul_of_pos_right, le-add_left, mod-lt, pow_pos, pow-add, pow_mono}
use Rattle.std.proofs.Math.Nat.{not-le_of_lt, lt_of_not-le, mul-one, div-eq_of_lt}
use native.Mathlib.Omega.{arith}
use Rattle.std.proofs.Math.IntN.{nat_abs}
use Rattle.std.specs.Float.{nan, inf, fin, binary64}
use Rattle.std.specs.Float.Ieee.{is_nan, to_bits}
use Rattle.rules.specs.Polynomial.{double_unit}
use Rattle.double.specs.Value.{finite, value, Number}
use Rattle.double.proofs.Laws.Pattern.{field, pattern_abs, digits_zero, digits_suc}
use Rattle.metres.specs.Millimetres.{truncated}

pub no_nan : (x : Float) → T (finite x) → T (not (is_nan x))
unfolding is_nan
no_nan nan h = h
no_nan (inf s) h = tt
no_nan (fin s m e) h = tt

module _ (x : Float) (X : Number x) (k : ℕ) where
  abbrev bits : ℕ
  bits = to_bits binary64 x

  abbrev t : ℕ
  t = bits % 2 ^ 52

  t_small : t < 2 ^ 52
  t_small = mod-lt bits (pow_pos 52)

  -- below the normal range there is nothing
  pub none : field bits ≡ 0 → k ≤ 60 → 0 ≡ truncated k (value x)
  unfolding truncated double_unit
  none e h =
      let v : nat_abs (value x) ≡ t = pattern_abs x X ∙ digits_zero (field bits) t e ∙ mul-one t in
      sym (ap (λ (n : ℕ). n * 2 ^ k / 2 ^ 1074) v ∙ div-eq_of_lt (lt_of_lt_of_le (mul-lt-mul_of_pos_right t_small (pow_pos k)) (le_trans (le_of_eq (sym (pow-add 2 52 k))) (pow_mono {i = 52 + k} {j = 1074} (omega arith)))))

  pub size_is : 0 < field bits → nat_abs (value x) * 2 ^ k ≡ (t + 2 ^ 52) * 2 ^ (field bits - 1 + k)
  size_is h = ap (λ (n : ℕ). n * 2 ^ k) (pattern_abs x X ∙ digits_suc (field bits) t h) ∙ mul_assoc (t + 2 ^ 52) (2 ^ (field bits - 1)) (2 ^ k) ∙ ap (λ (n : ℕ). (t + 2 ^ 52) * n) (sym (pow-add 2 (field bits - 1) k))

  pub some : 0 < field bits → (t + 2 ^ 52) * 2 ^ (field bits - 1 + k) / double_unit ≡ truncated k (value x)
  unfolding truncated
  some h = ap (λ (n : ℕ). n / double_unit) (sym (size_is h))

  pub fits : 0 < field bits → nat_abs (value x) * 2 ^ k < 2 ^ 64 * double_unit → (t + 2 ^ 52) * 2 ^ (field bits - 1 + k) < 2 ^ 64 * double_unit
  fits h l = lt_of_le_of_lt (le_of_eq (sym (size_is h))) l

  pub power_small : 0 < field bits → nat_abs (value x) * 2 ^ k < 2 ^ 64 * double_unit → field bits - 1 + k < 1086
  unfolding double_unit
  power_small h l = lt_of_not-le (λ (g : 1086 ≤ field bits - 1 + k). not-le_of_lt (fits h l) (le_trans (le_of_eq (sym (pow-add 2 64 1074)))
      (le_trans (pow_mono {i = 64 + 1074} {j = 52 + (field bits - 1 + k)} (more (field bits - 1 + k) g)) (le_trans (le_of_eq (pow-add 2 52 (field bits - 1 + k))) (mul-le-mul_right (2 ^ (field bits - 1 + k)) (le-add_left (2 ^ 52) t))))))
    where
      more : (u : ℕ) → 1086 ≤ u → 64 + 1074 ≤ 52 + u
      more u h = omega arith
