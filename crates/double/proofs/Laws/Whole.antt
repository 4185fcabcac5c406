-- Whole numbers as doubles, and their products with a power of two: exact. Assumes nothing.
use Rattle.std.specs.Prelude.{◌≡◌, refl, Bool, true, false, ℕ, suc, ◌+◌, ◌*◌, ◌^◌, ◌≤◌, ◌<◌, T, ℤ, pos, negsuc, nat_abs, ◌*ℤ◌, Float}
use Rattle.std.proofs.Common.{sym, ap, ap₂, ◌∙◌, subst, le_trans, le_of_eq, le_of_lt, mul-one, mul_assoc, mul_right_comm, mul-pos, lt_of_lt_of_le, mul-lt-mul_of_pos_right, arith, lit≤, pow_pos, pow-add, pow_mono}
use Rattle.std.proofs.Math.Nat.{eq_of_mul-eq-mul_right}
use Rattle.std.specs.Float.{nan, inf, fin, binary64}
use Rattle.std.specs.Float.Ieee.{up, down, unlike, round, mul, of_int}
use Rattle.std.specs.Float.Ieee.Back.{round_whole}
use Rattle.std.specs.Float.Ieee.Exact.{HasValue, round_exact}
use Rattle.std.specs.Float.Ieee.Fits.{round-fits, mul-fits}
use Rattle.arith.specs.Laws.Integers.{neg-*ℤ}
use Rattle.arith.specs.Laws.Order.{abs_mul}
use Rattle.rules.specs.Polynomial.{double_unit}
use Rattle.double.specs.Value.{finite, signed, magnitude, negative, value, Number}
use Rattle.double.proofs.Laws.Operations.{value_of, signed_abs, mul_is}

-- the same value over another denominator
rescaled : (x : Float) (s : Bool) (a b c d : ℕ) → 0 < b → a * d ≡ c * b → HasValue x s a b → HasValue x s c d
rescaled nan s a b c d B e v = v
rescaled (inf t) s a b c d B e v = v
rescaled (fin t m k) s a b c d B e v = (
  v.0,
  eq_of_mul-eq-mul_right b B (m * up k * d) (c * down k)
      (mul_right_comm (m * up k) d b ∙ ap (λ (i : ℕ). i * d) v.1 ∙ mul_right_comm a (down k) d ∙ ap (λ (i : ℕ). i * down k) e ∙ mul_right_comm c b (down k)),
)

-- ---- a whole number of at most 2 ^ 53, as `as f64` gives it
of_size : (s : Bool) (n : ℕ) → n ≤ 2 ^ 53 → Number (round binary64 s n 1) × (value (round binary64 s n 1) ≡ signed s (n * double_unit))
of_size s n h =
    let v = value_of (round binary64 s n 1) s (n * double_unit) (rescaled (round binary64 s n 1) s n 1 (n * double_unit) double_unit (lit≤ tt) (sym (mul-one (n * double_unit))) (round_whole binary64 s n h)) in
    (record { is_finite = v.0; is_held = round-fits binary64 s n 1 }, v.1)

pub whole_value : (z : ℤ) → nat_abs z ≤ 2 ^ 53 → Number (of_int binary64 z) × (value (of_int binary64 z) ≡ z *ℤ pos double_unit)
unfolding of_int
whole_value (pos n) h = of_size false n h
whole_value (negsuc n) h = of_size true (suc n) h

-- ---- a number of |z| units' powers, times y, which is 2 ^ j units: exactly |z| · 2 ^ j units
pub power_exact : (x y : Float) (n j : ℕ) → Number x → Number y → n < 2 ^ 53 → j ≤ 1074 → magnitude x ≡ n * double_unit → magnitude y ≡ 2 ^ j → negative y ≡ false
    → Number (mul binary64 x y) × (value (mul binary64 x y) ≡ signed (negative x) (n * 2 ^ j))
unfolding double_unit
power_exact x y n j X Y N J ex ey sy =
    let U = 2 ^ 1074 in
    let s = unlike (negative x) (negative y) in
    let num = magnitude x * magnitude y in
    let e : num * U ≡ n * 2 ^ j * (U * U) = ap (λ (i : ℕ). i * U) (ap₂ ◌*◌ ex ey) ∙ turn n U (2 ^ j) in
    let small : n * 2 ^ j < 2 ^ 2098 = lt_of_lt_of_le (mul-lt-mul_of_pos_right N (pow_pos j)) (le_trans (le_of_eq (sym (pow-add 2 53 j))) (pow_mono {i = 53 + j} {j = 2098} (omega arith))) in
    let v = value_of (round binary64 s num (U * U)) s (n * 2 ^ j) (rescaled (round binary64 s num (U * U)) s num (U * U) (n * 2 ^ j) U (mul-pos (pow_pos 1074) (pow_pos 1074)) e (round_exact binary64 s num (U * U) n j (mul-pos (pow_pos 1074) (pow_pos 1074)) N small e)) in
    let is = mul_is x y X Y in (
      record { is_finite = subst (λ (f : Float). T (finite f)) (sym is) v.0; is_held = mul-fits binary64 x y },
      ap value is ∙ v.1 ∙ ap (λ (b : Bool). signed b (n * 2 ^ j)) (ap (λ (b : Bool). unlike (negative x) b) sy ∙ unlike_false (negative x)),
    )
  where
    turn : (n u p : ℕ) → n * u * p * u ≡ n * p * (u * u)
    turn n u p = omega arith

    unlike_false : (s : Bool) → unlike s false ≡ s
    unlike_false true = refl
    unlike_false false = refl

-- ---- a whole number times y, which is 2 ^ -k
magnitude_value : (x : Float) → nat_abs (value x) ≡ magnitude x
unfolding value
magnitude_value x = signed_abs (negative x) (magnitude x)

is_value : (x : Float) → value x ≡ signed (negative x) (magnitude x)
unfolding value
is_value x = refl

pub halved : (z : ℤ) (y : Float) (j k : ℕ) → nat_abs z < 2 ^ 53 → Number y → magnitude y ≡ 2 ^ j → negative y ≡ false → j ≤ 1074 → 2 ^ j * 2 ^ k ≡ double_unit
    → Number (mul binary64 (of_int binary64 z) y) × (value (mul binary64 (of_int binary64 z) y) *ℤ pos (2 ^ k) ≡ z *ℤ pos double_unit)
halved z y j k N Y ey sy J e =
    let x = of_int binary64 z in
    let n = nat_abs z in
    let w = whole_value z (le_of_lt N) in
    let m : magnitude x ≡ n * double_unit = sym (magnitude_value x) ∙ ap nat_abs w.1 ∙ abs_mul z (pos double_unit) in
    let v = power_exact x y n j w.0 Y N J m ey sy in
    (v.0, ap (λ (i : ℤ). i *ℤ pos (2 ^ k)) v.1 ∙ times (negative x) (n * 2 ^ j) (2 ^ k) ∙ ap (λ (i : ℕ). signed (negative x) i) (mul_assoc n (2 ^ j) (2 ^ k) ∙ ap (λ (i : ℕ). n * i) e ∙ sym m) ∙ sym (is_value x) ∙ w.1)
  where
    times : (s : Bool) (g d : ℕ) → signed s g *ℤ pos d ≡ signed s (g * d)
    times true g d = neg-*ℤ (pos g) (pos d)
    times false g d = refl
