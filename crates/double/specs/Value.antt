-- "A double stands for its whole multiple of 2^-1074": `value`, and what it is for two whole numbers to be near. Definitions only.
use Rattle.std.specs.Prelude.{◌≡◌, Bool, true, false, cond, ℕ, zero, suc, ◌+◌, ◌*◌, ◌/◌, ◌^◌, ◌≤◌, T, ℤ, pos, neg_ℤ, Float}
use Rattle.std.specs.Float.{nan, inf, fin, binary64}
use Rattle.std.specs.Float.Ieee.{up, down, fits, neg}
use Rattle.arith.specs.Diff as diff
use Rattle.rules.specs.Polynomial.{double_unit}

-- 2 ^ 1022 in units of 2 ^ -1074: whatever is below it in size does not overflow when it is rounded
unfoldable pub limit : ℕ
limit = 2 ^ 2096

-- neither a NaN nor an infinity
abbrev pub finite : Float → Bool
finite nan = false
finite (inf s) = false
finite (fin s m e) = true

-- a with the sign s
abbrev pub signed : Bool → ℕ → ℤ
signed s a = cond s (neg_ℤ (pos a)) (pos a)

-- the magnitude in units; a whole number of units wherever binary64 holds x
unfoldable pub magnitude : Float → ℕ
unfolding double_unit
magnitude nan = 0
magnitude (inf s) = 0
magnitude (fin s m e) = m * up e * double_unit / down e

abbrev pub negative : Float → Bool
negative nan = false
negative (inf s) = s
negative (fin s m e) = s

unfoldable pub value : Float → ℤ
unfolding magnitude
value x = signed (negative x) (magnitude x)

-- x is a finite number that binary64 holds
pub record Number (x : Float) : Type 0 where
  pub is_finite : T (finite x)
  pub is_held : T (fits binary64 x)

-- the parts of a whole number above and below zero, by which `omega` reads it: z is plus z - minus z.
-- They are the kit's `up` and `dn`, by names that lib.Ieee leaves free.
abbrev pub plus : ℤ → ℕ
plus z = diff.up z

abbrev pub minus : ℤ → ℕ
minus z = diff.dn z

-- 2 ^ 53 * |a - b| ≤ q: a is b but for q parts in 2 ^ 53
pub record Near (a b : ℤ) (q : ℕ) : Type 0 where
  pub above : 2 ^ 53 * (plus a + minus b) ≤ 2 ^ 53 * (plus b + minus a) + q
  pub below : 2 ^ 53 * (plus b + minus a) ≤ 2 ^ 53 * (plus a + minus b) + q

-- x with a zero's sign dropped, so that -0 and +0 are one
abbrev pub plain : Float → Float
plain nan = nan
plain (inf s) = inf s
plain (fin s zero e) = fin false zero (pos 0)
plain (fin s (suc m) e) = fin s (suc m) e

-- y is x, and y is -x, but for a zero's sign
pub record Keeps (x y : Float) : Type 0 where
  pub kept : plain x ≡ plain y

pub record Flips (x y : Float) : Type 0 where
  pub flipped : plain (neg x) ≡ plain y

-- the digits and the power of two, in units, that an exponent's field k and a fraction's field t stand for
abbrev pub digits : ℕ → ℕ → ℕ
digits zero t = t
digits (suc k) t = t + 2 ^ 52

abbrev pub power : ℕ → ℕ
power zero = 0
power (suc k) = k
