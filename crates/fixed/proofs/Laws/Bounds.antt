-- Bounds on the size of a whole number, beyond the kit's: a factor that comes off, floors, and a larger bound. Assumes nothing.
use Rattle.std.specs.Prelude.{◌≡◌, refl, [], ◌∷◌, ℕ, ◌+◌, ◌*◌, ◌-◌, ◌/◌, ◌<◌, ◌≤◌, ℤ, pos, ◌-ℤ◌, ◌*ℤ◌, nat_abs}
use Rattle.std.proofs.Common.{sym, subst, le_trans, le_of_eq, le-div_iff_mul-le, arith}
use Rattle.arith.specs.Laws.Diff.{◌⊖◌, Z·ℕ, lin}
use Rattle.arith.specs.Laws.Order.{abs_mul}
use Rattle.arith.specs.Laws.Ring.{ring, Z·ring, by_ring}
use Rattle.arith.specs.Floor.{floor}
use Rattle.arith.specs.Laws.Floor.{floor_rest_abs}
use Rattle.arith.specs.Within.{Within}
use Rattle.arith.specs.Laws.Within.{w_sub}

-- a factor d > 0 comes off
pub w_div : (z : ℤ) (d n : ℕ) → 0 < d → Within (z *ℤ pos d) n → Within z (n / d)
w_div z d n h k = record { within = (le-div_iff_mul-le h).1 (le_trans (le_of_eq (sym (abs_mul z (pos d)))) k.within) }

pub w_same : {x : ℤ} {n : ℕ} (y : ℤ) → x ≡ y → Within x n → Within y n
w_same {x} {n} y e h = subst (λ z. Within z n) e h

pub w_up : {x : ℤ} {n : ℕ} (m : ℕ) → n ≤ m → Within x n → Within x m
w_up m h k = record { within = le_trans k.within h }

pub w_pos : {v h : ℕ} → v ≤ h → Within (pos v) h
w_pos k = record { within = k }

-- x is y and at most n more
pub w_rest : (x y n : ℕ) → y ≤ x → x ≤ y + n → Within (pos x -ℤ pos y) n
w_rest x y n h k = record { within = simp Z·ℕ (omega arith) }

-- what a floor loses
pub w_floor_rest : (x : ℤ) (d : ℕ) → 0 < d → Within (x -ℤ floor x d *ℤ pos d) d
w_floor_rest x d h = record { within = go (nat_abs (x -ℤ floor x d *ℤ pos d)) (floor_rest_abs x d h) }
  where
    go : (n : ℕ) → n < d → n ≤ d
    go n k = omega arith

minus_minus : (x y : ℤ) → x -ℤ (x -ℤ y) ≡ y
minus_minus x y = ring (x ∷ y ∷ []) λ ρ ex ey. simp (Z·ring, ex, ey) (by_ring _ _ _ refl)

-- y is as large as x, and as far again as the two are apart
pub w_from : {x y : ℤ} {m n : ℕ} → Within x m → Within (x -ℤ y) n → Within y (m + n)
w_from {x} {y} h k = w_same y (minus_minus x y) (w_sub h k)

-- the size of a floor
pub w_floor : {x : ℤ} {n : ℕ} (d : ℕ) → 0 < d → Within x n → Within (floor x d) ((n + d) / d)
w_floor {x} {n} d h k = w_div (floor x d) d (n + d) h (w_from k (w_floor_rest x d h))

-- the sizes of two numbers that are n apart
pub triangle : (x y : ℤ) (n : ℕ) → nat_abs (x -ℤ y) ≤ n → (nat_abs x ≤ nat_abs y + n) × (nat_abs y ≤ nat_abs x + n)
triangle x y n = lin (x ∷ y ∷ []) λ u v ex ey. simp (Z·ℕ, ex, ey) (omega arith)
