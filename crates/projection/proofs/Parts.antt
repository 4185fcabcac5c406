-- A part of at most 8,000,001 m fits the arithmetic of millimetres; m0 in millionths, and what it is short of 1. Assumes nothing.
use mathlib.Core.Path.{◌≡◌}
use Prim.Native.Nat.{ℕ, ◌+◌, ◌-◌, ◌*◌, ◌^◌, ◌≤◌, ◌<◌}
use native.Mathlib.Nat.{div-mul-le_self, le_trans, mul-le-mul_right, le_of_mul-le-mul_right}
use native.Mathlib.Omega.{arith}
use lib.Dec.{lit<}
use lib.IntN.{ℤ, pos, negsuc, nat_abs, ◌-ℤ◌}
use lib.Signed.{◌≤ℤ◌}
use mir.Syntax.{w64}
use mir.Val.{to_z, of_z}
use Rattle.arith.specs.Laws.Diff.{Z·ℕ}
use Rattle.arith.specs.Laws.Machine.{v_in}
use Rattle.arith.specs.Laws.Order.{≤ℤ_trans}
use Rattle.rules.specs.Polynomial.{double_unit}
use Rattle.double.proofs.Laws.Operations.{double_unit_pos}
use Rattle.metres.specs.Millimetres.{Fits, truncated}
use Rattle.systems.specs.Zones.{Sized}
use Rattle.systems.specs.declared.Zone.{Zone}

pub part_small : (v : ℤ) → nat_abs v ≤ 8000001 * double_unit → nat_abs v < 2 ^ 44 * double_unit
part_small v h = go (nat_abs v) double_unit h double_unit_pos
  where
    go : (a u : ℕ) → a ≤ 8000001 * u → 0 < u → a < 2 ^ 44 * u
    go a u h p = omega arith

truncated_small : (v : ℤ) → nat_abs v ≤ 8000001 * double_unit → truncated 20 v ≤ 8000001 * 2 ^ 20
unfolding truncated
truncated_small v h = le_of_mul-le-mul_right {k = double_unit} (le_trans (div-mul-le_self (nat_abs v * 2 ^ 20) double_unit) (go (nat_abs v) double_unit h)) double_unit_pos
  where
    go : (a u : ℕ) → a ≤ 8000001 * u → a * 2 ^ 20 ≤ 8000001 * 2 ^ 20 * u
    go a u h = omega arith

pub part_fits : (v : ℤ) (short : ℕ) → nat_abs v ≤ 8000001 * double_unit → short ≤ 1000 → Fits (truncated 20 v) short 1000
part_fits v short h s =
    let t = truncated_small v h in
    record { positive = lit< tt; at_most = omega arith; thousands = thousand (truncated 20 v) t; less = less (truncated 20 v) short t s }
  where
    thousand : (x : ℕ) → x ≤ 8000001 * 2 ^ 20 → x * 1000 < 2 ^ 63
    thousand x h = omega arith

    less : (x s : ℕ) → x ≤ 8000001 * 2 ^ 20 → s ≤ 1000 → x * s + 1000 * 2 ^ 20 < 2 ^ 63
    less x s h g = let a = mul-le-mul_right s h in omega arith

pub short_of : (m : ℤ) → pos 0 ≤ℤ m → nat_abs m ≤ 1000000 → pos 1000000 -ℤ m ≡ pos (1000000 - nat_abs m)
short_of (pos k) p h = go k (1000000 - k) (omega arith)
  where
    go : (k r : ℕ) → k + r ≡ 1000000 → pos 1000000 -ℤ pos k ≡ pos r
    go k r e = simp Z·ℕ (omega arith)
short_of (negsuc k) p h = absurd p.le

-- m0's millionths, as they are passed on, and their range
pub millionths_given : (z : Zone) → Sized z → to_z w64 (of_z w64 z.millionths) ≡ z.millionths
millionths_given z h = (v_in w64 z.millionths h.millionths tt).is

pub millionths_positive : (z : Zone) → Sized z → pos 0 ≤ℤ z.millionths
millionths_positive z h = ≤ℤ_trans (record { le = tt }) h.millionths_positive
