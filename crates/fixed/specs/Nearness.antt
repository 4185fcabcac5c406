-- How near a worked number is to the definition's value, which is scaled by 10^24. Assumes nothing.
use Rattle.std.specs.Prelude.{Bool, true, false, ℕ, ◌*◌, ◌^◌, ◌≤◌, ℤ, pos, neg_ℤ, ◌-ℤ◌, ◌*ℤ◌, nat_abs}
use Rattle.arith.specs.Within.{Within}
use Rattle.rules.specs.Scaled.{unit}
use Rattle.fixed.specs.Worked.{S60}

-- |v/s − w/10^24| ≤ e/(s·10^24): v at scale s is near the definition's w. An error of k units of 1/s is e = k * unit
pub record NearAt (s : ℕ) (v w : ℤ) (e : ℕ) : Type 0 where
  pub gap : Within (v *ℤ pos unit -ℤ w *ℤ pos s) e

-- a natural number at scale 2^60; a length, natural or signed, in units of 2^-30 m
abbrev pub Near60 : ℕ → ℤ → ℕ → Type 0
Near60 v w e = NearAt S60 (pos v) w e

abbrev pub Near30 : ℕ → ℤ → ℕ → Type 0
Near30 v w e = NearAt (2 ^ 30) (pos v) w e

-- as Near60, and lo ≤ v ≤ hi
pub record Fixed (v : ℕ) (w : ℤ) (e lo hi : ℕ) : Type 0 where
  pub near : Near60 v w e
  pub low : lo ≤ v
  pub high : v ≤ hi

-- w is x / y at scale 10^24, within k: |w·y − x·10^24| ≤ k·|y|
pub record Ratio (w x y : ℤ) (k : ℕ) : Type 0 where
  pub gap : Within (w *ℤ y -ℤ x *ℤ pos unit) (k * nat_abs y)

-- w, or −w where the flag is set: worked numbers are sizes, and the sign is put on last
unfoldable pub turned : Bool → ℤ → ℤ
turned true w = neg_ℤ w
turned false w = w
