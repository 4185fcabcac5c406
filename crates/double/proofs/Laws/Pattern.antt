-- A double by its bit pattern: its sign, and its magnitude as digits times a power of two. Assumes nothing.
use Rattle.std.specs.Prelude.{◌≡◌, refl, ℕ, zero, suc, ◌+◌, ◌-◌, ◌*◌, ◌/◌, ◌%◌, ◌^◌, ◌<◌, Bool, true, false, cond, T, leb, eqb, nat_abs, Float}
use Rattle.std.proofs.Common.{sym, ap, ◌∙◌, subst, arith}
use Rattle.std.specs.Float.{nan, inf, binary64}
use Rattle.std.specs.Float.Ieee.{odd, of_fields, of_bits, to_bits}
use Rattle.std.specs.Float.Ieee.Bits.{of_bits-to_bits}
use Rattle.std.specs.Float.Ieee.Exact.{odd_sign}
use Rattle.double.specs.Value.{finite, signed, value, Number, digits, power}
use Rattle.rules.specs.Polynomial.{double_unit}
use Rattle.double.proofs.Laws.Operations.{value_of, signed_abs}

odd_value : (s : Bool) (q k : ℕ) → value (odd 53 s q k 1074) ≡ signed s (q * 2 ^ k)
unfolding double_unit
odd_value s q k = (value_of (odd 53 s q k 1074) s (q * 2 ^ k) (odd_sign 53 s q k 1074)).1

fields_value : (s : Bool) (k t : ℕ) → T (finite (of_fields binary64 s k t)) → value (of_fields binary64 s k t) ≡ signed s (digits k t * 2 ^ power k)
unfolding of_fields
fields_value s zero t h = odd_value s t 0
fields_value s (suc k) t h = go (eqb (suc k) 2047) h ∙ ap (λ (d : ℕ). signed s (d * 2 ^ k)) (flip (2 ^ 52) t)
  where
    flip : (a b : ℕ) → a + b ≡ b + a
    flip a b = omega arith

    no : (b : Bool) → T (finite (cond b (inf s) nan)) → ⊥
    no true h = h
    no false h = h

    go : (b : Bool) → T (finite (cond b (cond (eqb t 0) (inf s) nan) (odd 53 s (2 ^ 52 + t) k 1074))) → value (cond b (cond (eqb t 0) (inf s) nan) (odd 53 s (2 ^ 52 + t) k 1074)) ≡ signed s ((2 ^ 52 + t) * 2 ^ k)
    go true h = absurd (no (eqb t 0) h)
    go false h = odd_value s (2 ^ 52 + t) k

abbrev pub sign_bit : ℕ → Bool
sign_bit b = leb (2 ^ 63) b

abbrev pub field : ℕ → ℕ
field b = b % 2 ^ 63 / 2 ^ 52

bits_value : (b : ℕ) → T (finite (of_bits binary64 b)) → value (of_bits binary64 b) ≡ signed (sign_bit b) (digits (field b) (b % 2 ^ 52) * 2 ^ power (field b))
unfolding of_bits
bits_value b h = fields_value (leb (2 ^ 63) b) (b % 2 ^ 63 / 2 ^ 52) (b % 2 ^ 52) h

pub pattern_value : (x : Float) → Number x → value x ≡ signed (sign_bit (to_bits binary64 x)) (digits (field (to_bits binary64 x)) (to_bits binary64 x % 2 ^ 52) * 2 ^ power (field (to_bits binary64 x)))
pattern_value x p =
    let b = to_bits binary64 x in
    let e = of_bits-to_bits binary64 x p.is_held in
    ap value (sym e) ∙ bits_value b (subst (λ (z : Float). T (finite z)) (sym e) p.is_finite)

pub pattern_abs : (x : Float) → Number x → nat_abs (value x) ≡ digits (field (to_bits binary64 x)) (to_bits binary64 x % 2 ^ 52) * 2 ^ power (field (to_bits binary64 x))
pattern_abs x p =
    let b = to_bits binary64 x in
    ap nat_abs (pattern_value x p) ∙ signed_abs (sign_bit b) (digits (field b) (b % 2 ^ 52) * 2 ^ power (field b))

-- ---- the two cases
pub digits_zero : (k t : ℕ) → k ≡ 0 → digits k t * 2 ^ power k ≡ t * 2 ^ 0
digits_zero zero t e = refl
digits_zero (suc k) t e = absurd (omega arith)

pub digits_suc : (k t : ℕ) → 0 < k → digits k t * 2 ^ power k ≡ (t + 2 ^ 52) * 2 ^ (k - 1)
digits_suc zero t h = absurd (omega arith)
digits_suc (suc k) t h = ap (λ (i : ℕ). (t + 2 ^ 52) * 2 ^ i) (one_less k)
  where
    one_less : (k : ℕ) → k ≡ suc k - 1
    one_less k = omega arith
