-- From a polynomial step to the plane: whole millimetres against m0 times the definition's value. Assumes nothing.
use Rattle.std.specs.Prelude.{◌≡◌, refl, [], ◌∷◌, ℕ, ◌+◌, ◌*◌, ◌^◌, ◌≤◌, ◌<◌, ℤ, pos, nat_abs, ◌+ℤ◌, ◌-ℤ◌, ◌*ℤ◌}
use Rattle.std.proofs.Common.{sym, ap, ap₂, ◌∙◌, le_trans, le_of_eq, mul-le-mul_left, mul-le-mul_right, le_of_mul-le-mul_right, div-mul-le_self, arith}
use Rattle.std.proofs.Math.Nat.{lt-div-mul-add}
use Rattle.arith.specs.Laws.Order.{abs_add, abs_mul}
use Rattle.arith.specs.Laws.Ring.{ring, Z·ring, by_ring}
use Rattle.rules.specs.Scaled.{unit}
use Rattle.rules.specs.Polynomial.{double_unit}
use Rattle.double.proofs.Laws.Operations.{double_unit_pos}
use Rattle.metres.specs.Millimetres.{Scale, truncated, in_millimetres}
use Rattle.metres.specs.Laws.Answer.{millimetres_within}

-- ---- a truncated size is less than one multiple below
pub truncated_near : (k : ℕ) (z : ℤ) → (truncated k z * double_unit ≤ nat_abs z * 2 ^ k) × (nat_abs z * 2 ^ k < truncated k z * double_unit + double_unit)
unfolding truncated
truncated_near k z = (div-mul-le_self (nat_abs z * 2 ^ k) double_unit, lt-div-mul-add double_unit_pos)

-- ---- p, in units of 2 ^ -1074, is near the definition's q, over 10 ^ 24, as a step leaves it. Then the answer is within 0.5011005 mm, and what
-- the step's own argument was off, of 1000 · m0 · q: all of it over 10 ^ 48, times 2 ^ 30 · 10 ^ 10
sum_up : (d x y m t u c : ℕ) → 0 < u → d * u ≤ x * t + y * (1000 * m) → 1000 * x ≤ 501 * (t * u) → 2 ^ 30 * 10 ^ 10 * y ≤ (2 ^ 30 * 1005 * t + c) * u → m ≤ t
    → 2 ^ 30 * 10 ^ 10 * d ≤ t * (2 ^ 30 * 5011005000 * t + 1000 * c)
sum_up d x y m t u c U h i j k =
    le_of_mul-le-mul_right
    (go (d * u) (x * t) (y * m) (t * u * t) (t * c * u) (2 ^ 30 * 10 ^ 10 * d * u) (t * (2 ^ 30 * 5011005000 * t + 1000 * c) * u) (turn y m h) (le_trans (le_of_eq (one x t)) (le_trans (mul-le-mul_right t i) (le_of_eq (two t u)))) (le_trans (le_of_eq (three y m)) (le_trans (mul-le-mul_right m j) (le_trans (mul-le-mul_left ((2 ^ 30 * 1005 * t + c) * u) k) (le_of_eq (four t c u))))) (five d u) (six t c u))
    U
  where
    turn : (y m : ℕ) → d * u ≤ x * t + y * (1000 * m) → d * u ≤ x * t + 1000 * (y * m)
    turn y m h = omega arith

    one : (x t : ℕ) → 1000 * (x * t) ≡ 1000 * x * t
    one x t = omega arith

    two : (t u : ℕ) → 501 * (t * u) * t ≡ 501 * (t * u * t)
    two t u = omega arith

    three : (y m : ℕ) → 2 ^ 30 * 10 ^ 10 * (y * m) ≡ 2 ^ 30 * 10 ^ 10 * y * m
    three y m = omega arith

    four : (t c u : ℕ) → (2 ^ 30 * 1005 * t + c) * u * t ≡ 2 ^ 30 * 1005 * (t * u * t) + t * c * u
    four t c u = omega arith

    five : (d u : ℕ) → 2 ^ 30 * 10 ^ 10 * d * u ≡ 2 ^ 30 * 10 ^ 10 * (d * u)
    five d u = omega arith

    six : (t c u : ℕ) → t * (2 ^ 30 * 5011005000 * t + 1000 * c) * u ≡ 2 ^ 30 * 5011005000 * (t * u * t) + 1000 * (t * c * u)
    six t c u = omega arith

    go : (a b e f g l r : ℕ) → a ≤ b + 1000 * e → 1000 * b ≤ 501 * f → 2 ^ 30 * 10 ^ 10 * e ≤ 2 ^ 30 * 1005 * f + g → l ≡ 2 ^ 30 * 10 ^ 10 * a → r ≡ 2 ^ 30 * 5011005000 * f + 1000 * g → l ≤ r
    go a b e f g l r p q s v w = omega arith

pub plane_near : (p q : ℤ) (m0 short per c : ℕ) → Scale m0 short per → m0 ≤ unit → 2 ^ 30 * 10 ^ 10 * nat_abs (p *ℤ pos unit -ℤ q *ℤ pos double_unit) ≤ (2 ^ 30 * 1005 * unit + c) * double_unit
    → 2 ^ 30 * 10 ^ 10 * nat_abs (in_millimetres p short per *ℤ pos (unit * unit) -ℤ q *ℤ pos (1000 * m0)) ≤ unit * (2 ^ 30 * 5011005000 * unit + 1000 * c)
plane_near p q m0 short per c f small h =
    let r = in_millimetres p short per in
    let x = r *ℤ pos (unit * double_unit) -ℤ p *ℤ pos (1000 * m0) in
    let y = p *ℤ pos unit -ℤ q *ℤ pos double_unit in
    let total : nat_abs (r *ℤ pos (unit * unit) -ℤ q *ℤ pos (1000 * m0)) * double_unit ≤ nat_abs x * unit + nat_abs y * (1000 * m0) =
    le_trans (le_of_eq (sym (abs_mul (r *ℤ pos (unit * unit) -ℤ q *ℤ pos (1000 * m0)) (pos double_unit)) ∙ ap nat_abs (law r p q (pos unit) (pos double_unit) (pos (1000 * m0)))))
    (le_trans (abs_add (x *ℤ pos unit) (y *ℤ pos (1000 * m0))) (le_of_eq (ap₂ ◌+◌ (abs_mul x (pos unit)) (abs_mul y (pos (1000 * m0)))))) in
    sum_up (nat_abs (r *ℤ pos (unit * unit) -ℤ q *ℤ pos (1000 * m0))) (nat_abs x) (nat_abs y) m0 unit double_unit c double_unit_pos total (millimetres_within p m0 short per f) h small
  where
    law : (r p q t u m : ℤ) → (r *ℤ (t *ℤ t) -ℤ q *ℤ m) *ℤ u ≡ (r *ℤ (t *ℤ u) -ℤ p *ℤ m) *ℤ t +ℤ (p *ℤ t -ℤ q *ℤ u) *ℤ m
    law r p q t u m = ring (r ∷ p ∷ q ∷ t ∷ u ∷ m ∷ []) λ ρ er ep eq et eu em. simp (Z·ring, er, ep, eq, et, eu, em) (by_ring _ _ _ refl)
