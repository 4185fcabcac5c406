-- The bound of a whole expression is put together from those of its parts, and the numbers are found by antt. Assumes nothing.
use Rattle.std.specs.Prelude.{◌≡◌, refl, [], ◌∷◌, ℕ, ◌+◌, ◌*◌, ◌/◌, ◌^◌, ◌<◌, ◌≤◌, T, leb, ltb, ℤ, pos, negsuc, neg_ℤ, ◌+ℤ◌, ◌-ℤ◌, ◌*ℤ◌, nat_abs, ◌≤ℤ◌}
use Rattle.std.proofs.Common.{subst, mul-le-mul, le_trans, le_of_eq, le_refl, add-le-add, le-div_iff_mul-le, div-mul-le_self, div-le_self, arith, leb→le, ltb→lt}
use Rattle.std.specs.Int.{Width}
use mir.Val.{SFits, hbits}
use Rattle.arith.specs.Laws.Diff.{◌⊖◌, Z·ℕ, lin}
use Rattle.arith.specs.Laws.Order.{abs_mul, abs_add, abs_sub, abs_neg, abs_triangle, abs_sub_comm, abs_le_iff, mag_le_abs}
use Rattle.arith.specs.Laws.Ring.{ring, Z·ring, by_ring}
use Rattle.arith.specs.Floor.{floor}
use Rattle.arith.specs.Laws.Floor.{floor_near_div}
use Rattle.arith.specs.Within.{Within, Near}

pub by_abs : (z : ℤ) {n : ℕ} → nat_abs z ≤ n → Within z n
by_abs z h = record { within = h }

pub by_range : (z : ℤ) (n : ℕ) → neg_ℤ (pos n) ≤ℤ z → z ≤ℤ pos n → Within z n
by_range z n h k = record { within = (abs_le_iff z n).1 (h, k) }

pub w_num : (k : ℕ) → Within (pos k) k
w_num k = record { within = omega arith }

pub w_add : {a b : ℤ} {m n : ℕ} → Within a m → Within b n → Within (a +ℤ b) (m + n)
w_add {a} {b} h k = record { within = omega (arith, abs_add a b, h.within, k.within) }

pub w_sub : {a b : ℤ} {m n : ℕ} → Within a m → Within b n → Within (a -ℤ b) (m + n)
w_sub {a} {b} h k = record { within = omega (arith, abs_sub a b, h.within, k.within) }

pub w_neg : {a : ℤ} {m : ℕ} → Within a m → Within (neg_ℤ a) m
w_neg {a} h = record { within = omega (arith, abs_neg a, h.within) }

pub w_mul : {a b : ℤ} {m n : ℕ} → Within a m → Within b n → Within (a *ℤ b) (m * n)
w_mul {a} {b} h k = record { within = le_trans (le_of_eq (abs_mul a b)) (mul-le-mul h.within k.within) }

-- a larger bound; at numerals the test is `tt`
pub w_le : {a : ℤ} {m : ℕ} (n : ℕ) → Within a m → T (leb m n) → Within a n
w_le {a} {m} n h t = record { within = omega (arith, leb→le m n t, h.within) }

-- what an operation on signed integers asks; at numerals the test is `tt`
pub w_fits : {w : Width} {z : ℤ} {n : ℕ} → Within z n → T (ltb n (2 ^ hbits w)) → SFits w z
w_fits {w} {z} {n} h t = record { sfits = omega (arith, ltb→lt n (2 ^ hbits w) t, h.within, mag_le_abs z) }

-- ---- how far two integers are apart
pub by_within : {a b : ℤ} {n : ℕ} → Within (a -ℤ b) n → Near a b n
by_within h = record { near = h.within }

apart : {a b : ℤ} {n : ℕ} → Near a b n → Within (a -ℤ b) n
apart h = record { within = h.near }

pub near_refl : (a : ℤ) → Near a a 0
near_refl a = record { near = lin (a ∷ []) λ u v ea. simp (Z·ℕ, ea) (omega arith) }

pub near_sym : {a b : ℤ} {m : ℕ} → Near a b m → Near b a m
near_sym {a} {b} h = record { near = omega (arith, abs_sub_comm a b, h.near) }

pub near_trans : {a b c : ℤ} {m n : ℕ} → Near a b m → Near b c n → Near a c (m + n)
near_trans {a} {b} {c} h k = record { near = omega (arith, abs_triangle a b c, h.near, k.near) }

pub near_le : {a b : ℤ} {m : ℕ} (n : ℕ) → Near a b m → T (leb m n) → Near a b n
near_le {a} {b} {m} n h t = record { near = omega (arith, leb→le m n t, h.near) }

pub near_within : {a b : ℤ} {m n : ℕ} → Near a b m → Within b n → Within a (m + n)
near_within {a} {b} {m} {n} h k = record { within = go a b h.near k.within }
  where
    go : (a b : ℤ) → nat_abs (a -ℤ b) ≤ m → nat_abs b ≤ n → nat_abs a ≤ m + n
    go a b = lin (a ∷ b ∷ []) λ u v ea eb. simp (Z·ℕ, ea, eb) (omega arith)

pub near_add : {a b c d : ℤ} {m n : ℕ} → Near a c m → Near b d n → Near (a +ℤ b) (c +ℤ d) (m + n)
near_add {a} {b} {c} {d} {m} {n} h k = record { near = go a b c d h.near k.near }
  where
    go : (a b c d : ℤ) → nat_abs (a -ℤ c) ≤ m → nat_abs (b -ℤ d) ≤ n → nat_abs ((a +ℤ b) -ℤ (c +ℤ d)) ≤ m + n
    go a b c d = lin (a ∷ b ∷ c ∷ d ∷ []) λ u v ea eb ec ed. simp (Z·ℕ, ea, eb, ec, ed) (omega arith)

pub near_neg : {a c : ℤ} {m : ℕ} → Near a c m → Near (neg_ℤ a) (neg_ℤ c) m
near_neg {a} {c} {m} h = record { near = go a c h.near }
  where
    go : (a c : ℤ) → nat_abs (a -ℤ c) ≤ m → nat_abs (neg_ℤ a -ℤ neg_ℤ c) ≤ m
    go a c = lin (a ∷ c ∷ []) λ u v ea ec. simp (Z·ℕ, ea, ec) (omega arith)

pub near_sub : {a b c d : ℤ} {m n : ℕ} → Near a c m → Near b d n → Near (a -ℤ b) (c -ℤ d) (m + n)
near_sub h k = near_add h (near_neg k)

-- |ab − cd| ≤ |a||b − d| + |a − c||d|
pub near_mul : {a b c d : ℤ} {A E F D : ℕ} → Within a A → Near b d E → Near a c F → Within d D → Near (a *ℤ b) (c *ℤ d) (A * E + F * D)
near_mul {a} {b} {c} {d} {A} {E} {F} {D} h k i j = by_within (subst (λ z. Within z (A * E + F * D)) (law a b c d) (w_add (w_mul h (apart k)) (w_mul (apart i) j)))
  where
    law : (a b c d : ℤ) → a *ℤ (b -ℤ d) +ℤ (a -ℤ c) *ℤ d ≡ a *ℤ b -ℤ c *ℤ d
    law a b c d = ring (a ∷ b ∷ c ∷ d ∷ []) λ ρ ea eb ec ed. simp (Z·ring, ea, eb, ec, ed) (by_ring _ _ _ refl)

-- the floors of two numbers that are n apart
pub near_floor : {a b : ℤ} {n : ℕ} (d : ℕ) → 0 < d → Near a b n → Near (floor a d) (floor b d) (n / d + 1)
near_floor {a} {b} {n} d h k = record { near = le_trans (floor_near_div a b d h) (add-le-add (div_le_div d h k.near) (le_refl 1)) }
  where
    div_le_div : (d : ℕ) → 0 < d → {x y : ℕ} → x ≤ y → x / d ≤ y / d
    div_le_div d h {x} {y} l = (le-div_iff_mul-le h).1 (le_trans (div-mul-le_self x d) l)

-- the size of a floor
pub w_floor : {a : ℤ} {n : ℕ} (d : ℕ) → Within a n → Within (floor a d) n
w_floor {a} {n} d h = record { within = go a h.within }
  where
    go : (a : ℤ) → nat_abs a ≤ n → nat_abs (floor a d) ≤ n
    go (pos k) l = omega (arith, div-le_self k d)
    go (negsuc k) l = omega (arith, div-le_self k d)
