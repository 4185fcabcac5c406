-- Whole millimetres after m0: how near they are, their sign, and the size of the answer. Assumes nothing.
use Rattle.std.specs.Prelude.{◌≡◌, refl, Bool, true, false, [], ◌∷◌, ℕ, zero, suc, ◌+◌, ◌-◌, ◌*◌, ◌/◌, ◌^◌, ◌≤◌, ◌<◌, ℤ, pos, negsuc, neg_ℤ, nat_abs, ◌-ℤ◌, ◌*ℤ◌}
use Rattle.std.proofs.Common.{sym, ap, ◌∙◌, subst, le_trans, le_of_eq, mul-le-mul_left, mul-le-mul_right, mul-pos, le_of_mul-le-mul_right, sub-le, zero-mul, div-mul-le_self, le_of_lt, arith, pow_pos}
use Rattle.std.proofs.Math.Nat.{zero-div, lt-div-mul-add}
use Rattle.std.proofs.Math.IntN.{neg_ℤ-neg_ℤ}
use Rattle.std.specs.Float.Ieee.Nearest.{closest}
use Rattle.arith.specs.Laws.Diff.{Z·ℕ, lin}
use Rattle.arith.specs.Laws.Order.{abs_neg}
use Rattle.arith.specs.Laws.Ring.{ring, Z·ring, by_ring}
use Rattle.rules.specs.Scaled.{unit}
use Rattle.rules.specs.Polynomial.{double_unit}
use Rattle.double.specs.Value.{signed}
use Rattle.double.proofs.Laws.Operations.{double_unit_pos}
use Rattle.double.proofs.Laws.Rounding.{closest_half}
use Rattle.double.proofs.Laws.Signs.{closest_zero}
use Rattle.metres.specs.Millimetres.{truncated, nearest_millimetres, Fits, Scale, in_millimetres}

-- ---- the answer fits an i64
pub answer_small : (x s k : ℕ) → Fits x s k → nearest_millimetres x s k < 2 ^ 63
answer_small x s k f =
    let c = nearest_millimetres x s k in
    let h = (closest_half (x * (1000 * k - s)) (k * 2 ^ 20) (mul-pos f.positive (pow_pos 20))).0 in
    go c x f.thousands (le_of_mul-le-mul_right (le_trans (le_of_eq (turn c k)) (le_trans h (less x s k))) f.positive)
  where
    turn : (c k : ℕ) → c * 2 ^ 21 * k ≡ 2 * (c * (k * 2 ^ 20))
    turn c k = omega arith

    less : (x s k : ℕ) → 2 * (x * (1000 * k - s)) + k * 2 ^ 20 ≤ (2 * (x * 1000) + 2 ^ 20) * k
    less x s k = let a = mul-le-mul_left x (sub-le (1000 * k) s) in omega arith

    go : (c x : ℕ) → x * 1000 < 2 ^ 63 → c * 2 ^ 21 ≤ 2 * (x * 1000) + 2 ^ 20 → c < 2 ^ 63
    go c x h l = omega arith

-- ---- how near: half a millimetre, and what 2 ^ -20 m are
-- n units of 2 ^ -1074, over u; x of them in multiples of 2 ^ -20; g is 1000 · per - short
above : (c k g x n u : ℕ) → 2 * (c * (k * 2 ^ 20)) ≤ 2 * (x * g) + k * 2 ^ 20 → x * u ≤ n * 2 ^ 20 → 2 ^ 21 * (c * (k * u)) ≤ 2 ^ 21 * (n * g) + (2 ^ 20 + 2000) * (k * u)
above c k g x n u h l = let a = mul-le-mul_right u h in let b = mul-le-mul_right g l in omega arith

below : (c k g x n u : ℕ) → 2 * (x * g) ≤ 2 * (c * (k * 2 ^ 20)) + k * 2 ^ 20 → n * 2 ^ 20 ≤ x * u + u → g ≤ 1000 * k → 2 ^ 21 * (n * g) ≤ 2 ^ 21 * (c * (k * u)) + (2 ^ 20 + 2000) * (k * u)
below c k g x n u h l f = let a = mul-le-mul_right u h in let b = mul-le-mul_right g l in let d = mul-le-mul_right u f in omega arith

-- with m0 over t in place of g over 1000 · per
with_scale : (a b e k u t m g : ℕ) → 0 < k → m * (1000 * k) ≡ g * t → 2 ^ 21 * (a * (k * u)) ≤ 2 ^ 21 * (b * g) + e * (k * u) → 2 ^ 21 * (a * (t * u)) ≤ 2 ^ 21 * (b * (1000 * m)) + e * (t * u)
with_scale a b e k u t m g K is h = le_of_mul-le-mul_right (go a b e k u t m g (mul-le-mul_right t h) (ap (λ (i : ℕ). b * i) is)) K
  where
    go : (a b e k u t m g : ℕ) → 2 ^ 21 * (a * (k * u)) * t ≤ (2 ^ 21 * (b * g) + e * (k * u)) * t → b * (m * (1000 * k)) ≡ b * (g * t) → 2 ^ 21 * (a * (t * u)) * k ≤ (2 ^ 21 * (b * (1000 * m)) + e * (t * u)) * k
    go a b e k u t m g h i = omega arith

with_scale_back : (a b e k u t m g : ℕ) → 0 < k → m * (1000 * k) ≡ g * t → 2 ^ 21 * (b * g) ≤ 2 ^ 21 * (a * (k * u)) + e * (k * u) → 2 ^ 21 * (b * (1000 * m)) ≤ 2 ^ 21 * (a * (t * u)) + e * (t * u)
with_scale_back a b e k u t m g K is h = le_of_mul-le-mul_right (go a b e k u t m g (mul-le-mul_right t h) (ap (λ (i : ℕ). b * i) is)) K
  where
    go : (a b e k u t m g : ℕ) → 2 ^ 21 * (b * g) * t ≤ (2 ^ 21 * (a * (k * u)) + e * (k * u)) * t → b * (m * (1000 * k)) ≡ b * (g * t) → 2 ^ 21 * (b * (1000 * m)) * k ≤ (2 ^ 21 * (a * (t * u)) + e * (t * u)) * k
    go a b e k u t m g h i = omega arith

distance : (x y e : ℕ) → 2 ^ 21 * x ≤ 2 ^ 21 * y + e → 2 ^ 21 * y ≤ 2 ^ 21 * x + e → 2 ^ 21 * nat_abs (pos x -ℤ pos y) ≤ e
distance x y e h k = go (pos x -ℤ pos y) refl
  where
    go : (z : ℤ) → z ≡ pos x -ℤ pos y → 2 ^ 21 * nat_abs z ≤ e
    go z w = lin (z ∷ []) λ a b ez. simp (Z·ℕ, ez) (let f = simp (Z·ℕ, ez) at w in omega arith)

-- the size n, in millimetres after m0
near_size : (n m0 s k : ℕ) → Scale m0 s k → 2 ^ 21 * nat_abs (pos (nearest_millimetres (n * 2 ^ 20 / double_unit) s k * (unit * double_unit)) -ℤ pos (n * (1000 * m0))) ≤ (2 ^ 20 + 2000) * (unit * double_unit)
near_size n m0 s k f =
    let x = n * 2 ^ 20 / double_unit in
    let g = 1000 * k - s in
    let c = nearest_millimetres x s k in
    let h = closest_half (x * g) (k * 2 ^ 20) (mul-pos f.positive (pow_pos 20)) in
    distance (c * (unit * double_unit)) (n * (1000 * m0)) ((2 ^ 20 + 2000) * (unit * double_unit))
    (with_scale c n (2 ^ 20 + 2000) k double_unit unit m0 g f.positive f.is (above c k g x n double_unit h.0 (div-mul-le_self (n * 2 ^ 20) double_unit)))
    (with_scale_back c n (2 ^ 20 + 2000) k double_unit unit m0 g f.positive f.is (below c k g x n double_unit h.1 (le_of_lt (lt-div-mul-add double_unit_pos)) (sub-le (1000 * k) s)))

-- a value z, in units of 2 ^ -1074, times m0 and 1000: the answer lies within 0.50096 of it, all over 10 ^ 24 · 2 ^ 1074
pub millimetres_near : (z : ℤ) (m0 s k : ℕ) → Scale m0 s k → 2 ^ 21 * nat_abs (in_millimetres z s k *ℤ pos (unit * double_unit) -ℤ z *ℤ pos (1000 * m0)) ≤ (2 ^ 20 + 2000) * (unit * double_unit)
unfolding truncated
millimetres_near (pos n) m0 s k f = near_size n m0 s k f
millimetres_near (negsuc n) m0 s k f =
    let c = nearest_millimetres (suc n * 2 ^ 20 / double_unit) s k in
    subst (λ (y : ℕ). 2 ^ 21 * y ≤ (2 ^ 20 + 2000) * (unit * double_unit)) (sym (turned (pos c) (pos (suc n)) (pos (unit * double_unit)) (pos (1000 * m0)))) (near_size (suc n) m0 s k f)
  where
    turned : (a b p q : ℤ) → nat_abs (neg_ℤ a *ℤ p -ℤ neg_ℤ b *ℤ q) ≡ nat_abs (a *ℤ p -ℤ b *ℤ q)
    turned a b p q = ap nat_abs (law a b p q) ∙ abs_neg (a *ℤ p -ℤ b *ℤ q)
      where
        law : (a b p q : ℤ) → neg_ℤ a *ℤ p -ℤ neg_ℤ b *ℤ q ≡ neg_ℤ (a *ℤ p -ℤ b *ℤ q)
        law a b p q = ring (a ∷ b ∷ p ∷ q ∷ []) λ ρ ea eb ep eq. simp (Z·ring, ea, eb, ep, eq) (by_ring _ _ _ refl)

-- the same, as 0.501
pub millimetres_within : (z : ℤ) (m0 s k : ℕ) → Scale m0 s k → 1000 * nat_abs (in_millimetres z s k *ℤ pos (unit * double_unit) -ℤ z *ℤ pos (1000 * m0)) ≤ 501 * (unit * double_unit)
millimetres_within z m0 s k f = go (nat_abs (in_millimetres z s k *ℤ pos (unit * double_unit) -ℤ z *ℤ pos (1000 * m0))) (unit * double_unit) (millimetres_near z m0 s k f)
  where
    go : (x y : ℕ) → 2 ^ 21 * x ≤ (2 ^ 20 + 2000) * y → 1000 * x ≤ 501 * y
    go x y h = omega arith

-- ---- the sign
nought : (s k : ℕ) → 0 < k → nearest_millimetres (truncated 20 (pos 0)) s k ≡ 0
unfolding truncated
nought s k K = ap (λ (n : ℕ). closest (n * (1000 * k - s)) (k * 2 ^ 20)) (zero-div double_unit) ∙ ap (λ (n : ℕ). closest n (k * 2 ^ 20)) (zero-mul (1000 * k - s)) ∙ closest_zero (k * 2 ^ 20) (mul-pos K (pow_pos 20))

pub millimetres_turn : (z : ℤ) (s k : ℕ) → 0 < k → in_millimetres (neg_ℤ z) s k ≡ neg_ℤ (in_millimetres z s k)
unfolding truncated
millimetres_turn (pos zero) s k K = let e = nought s k K in ap pos e ∙ sym (ap (λ (n : ℕ). neg_ℤ (pos n)) e)
millimetres_turn (pos (suc n)) s k K = refl
millimetres_turn (negsuc n) s k K = sym (neg_ℤ-neg_ℤ (pos (nearest_millimetres (truncated 20 (negsuc n)) s k)))

-- a size with its sign
pub in_signed : (b : Bool) (m : ℕ) (s k : ℕ) → 0 < k → in_millimetres (signed b m) s k ≡ signed b (nearest_millimetres (truncated 20 (signed b m)) s k)
in_signed true zero s k K = let e = nought s k K in ap pos e ∙ sym (ap (λ (n : ℕ). neg_ℤ (pos n)) e)
in_signed true (suc m) s k K = refl
in_signed false m s k K = refl
