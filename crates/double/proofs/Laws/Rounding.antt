-- How far `round` goes from its fraction: at most one part in 2 ^ 53 of it, or half a double-unit. Assumes nothing.
use Rattle.std.specs.Prelude.{◌≡◌, refl, ◌⊎◌, Bool, not, T, eqb, Float}
use Rattle.std.proofs.Common.{sym, ap, ◌∙◌, subst, inl, inr, le_refl, le_trans, le_of_eq, lt_of_le_of_lt, eq-zero-or-pos, mul_comm, mul_assoc, mul-one, add-mul, suc-mul, mul-le-mul_right, mul-pos, mod-lt, div-add-mod', le-div_iff_mul-le, lt_of_mul-lt-mul_right, le_of_mul-le-mul_right, mul-le-mul_left, le-mul_of_pos_right, mul-div_cancel, lt_irrefl, arith, leb→le, eqb→eq, pow-add, pow_pos}
use Prim.Native.Nat.compare
use Prim.Native.Nat.{ℕ, zero, suc, ◌+◌, ◌-◌, ◌*◌, ◌/◌, ◌%◌, ◌^◌, ◌≤◌, ◌<◌, compare, Ordering}
use Rattle.std.proofs.Math.Nat.{le_of_mul-le-mul_left, mul-mod_left}
use Rattle.std.proofs.Math.Dec.{is_le, compare_is_eq, nleb→lt, eqb_refl}
use Rattle.std.proofs.Math.Arith.{lt_of_le-ne}
use Rattle.std.specs.Float.{binary64}
use Rattle.std.specs.Float.Ieee.{size, nearest, round}
use Rattle.std.specs.Float.Ieee.Digits.{size_reaches}
use Rattle.std.specs.Float.Ieee.Fits.{nearest-le, round_is}
use Rattle.std.specs.Float.Ieee.Exact.{HasValue, units_val}
use Rattle.std.specs.Float.Ieee.Nearest.{closest, nearest-ge}
use Rattle.std.specs.Float.Ieee.Order.{drop, kept}

-- ---- `closest` is within a half
abbrev Cmp : Ordering → ℕ → ℕ → Type 0
Cmp Ordering.lt a b = a < b
Cmp Ordering.eq a b = a ≡ b
Cmp Ordering.gt a b = b < a

cmp : (a b : ℕ) → Cmp (compare a b) a b
cmp a b = go (compare a b) (leb→le a b) (nleb→lt a b) (eqb→eq a b) (λ (e : a ≡ b). subst (λ (x : ℕ). T (eqb a x)) e (eqb_refl a))
  where
    go : (o : Ordering) → (T (is_le o) → a ≤ b) → (T (not (is_le o)) → b < a) → (T (compare_is_eq o) → a ≡ b) → (a ≡ b → T (compare_is_eq o)) → Cmp o a b
    go Ordering.lt h k e n = lt_of_le-ne (h tt) n
    go Ordering.eq h k e n = e tt
    go Ordering.gt h k e n = k tt

gt_of : (o : Ordering) (a b : ℕ) → Cmp o a b → b < a → o ≡ Ordering.gt
gt_of Ordering.lt a b c h = absurd (omega arith)
gt_of Ordering.eq a b c h = absurd (omega arith)
gt_of Ordering.gt a b c h = refl

eq_of : (o : Ordering) (a b : ℕ) → Cmp o a b → a ≡ b → o ≡ Ordering.eq
eq_of Ordering.lt a b c h = absurd (omega arith)
eq_of Ordering.eq a b c h = refl
eq_of Ordering.gt a b c h = absurd (omega arith)

lt_of : (o : Ordering) (a b : ℕ) → Cmp o a b → a < b → o ≡ Ordering.lt
lt_of Ordering.lt a b c h = refl
lt_of Ordering.eq a b c h = absurd (omega arith)
lt_of Ordering.gt a b c h = absurd (omega arith)

-- `closest` by the remainder
pub closest_up : (n d : ℕ) → d < n % d * 2 → closest n d ≡ suc (n / d)
closest_up n d h = ap (λ (o : Ordering). nearest (n / d) o) (gt_of (compare (n % d * 2) d) (n % d * 2) d (cmp (n % d * 2) d) h)

pub closest_tie : (n d : ℕ) → n % d * 2 ≡ d → closest n d ≡ n / d + n / d % 2
closest_tie n d h = ap (λ (o : Ordering). nearest (n / d) o) (eq_of (compare (n % d * 2) d) (n % d * 2) d (cmp (n % d * 2) d) h)

pub closest_down : (n d : ℕ) → n % d * 2 < d → closest n d ≡ n / d
closest_down n d h = ap (λ (o : Ordering). nearest (n / d) o) (lt_of (compare (n % d * 2) d) (n % d * 2) d (cmp (n % d * 2) d) h)

-- |c - n| ≤ u / 2
abbrev pub Half : ℕ → ℕ → ℕ → Type 0
Half c n u = (2 * c ≤ 2 * n + u) × (2 * n ≤ 2 * c + u)

half_go : (q r u n : ℕ) (o : Ordering) → q * u + r ≡ n → r < u → Cmp o (r * 2) u → Half (nearest q o * u) n u
half_go q r u n Ordering.lt e l c = omega arith
half_go q r u n Ordering.eq e l c =
    let a : q * u ≤ (q + q % 2) * u = mul-le-mul_right u (nearest-ge q Ordering.eq) in
    let b : (q + q % 2) * u ≤ suc q * u = mul-le-mul_right u (nearest-le q Ordering.eq) in
    let s : suc q * u ≡ q * u + u = suc-mul q u in
    omega arith
half_go q r u n Ordering.gt e l c = let s : suc q * u ≡ q * u + u = suc-mul q u in omega arith

pub closest_half : (n u : ℕ) → 0 < u → Half (closest n u * u) n u
closest_half n u U = half_go (n / u) (n % u) u n (compare (n % u * 2) u) (div-add-mod' n u) (mod-lt n U) (cmp (n % u * 2) u)

-- ---- the digits that are dropped are small beside the fraction
-- n / den in units, k digits dropped: either none is, or 2 ^ (p - 1) steps of den * 2 ^ k fit below n
pub drop_small : (p n den : ℕ) → 0 < p → 0 < den → (drop p n den ≡ 0) ⊎ (2 ^ (p - 1) * (den * 2 ^ drop p n den) ≤ n)
drop_small p n den P D =
    elim (eq-zero-or-pos (drop p n den)) [
      | inl e ↦ inl e
      | inr l ↦ inr (go (size (n / den)) refl l)
    ]
  where
    below : (z k : ℕ) → k ≡ z - p → 0 < k → p - 1 + k < z
    below z k e h = omega arith

    go : (z : ℕ) → size (n / den) ≡ z → 0 < drop p n den → 2 ^ (p - 1) * (den * 2 ^ drop p n den) ≤ n
    go z e l =
        let k = drop p n den in
        let a : 2 ^ (p - 1 + k) ≤ n / den = size_reaches (n / den) (p - 1 + k) (below (size (n / den)) k refl l) in
        let b : 2 ^ (p - 1 + k) * den ≤ n = (le-div_iff_mul-le D).0 a in
        le_trans (le_of_eq (ap (λ (x : ℕ). 2 ^ (p - 1) * x) (mul_comm den (2 ^ k)) ∙ sym (mul_assoc (2 ^ (p - 1)) (2 ^ k) den) ∙ ap (λ (x : ℕ). x * den) (sym (pow-add 2 (p - 1) k)))) b

-- ---- binary64
abbrev pub grid : ℕ → ℕ → ℕ
grid n den = kept 53 n den * 2 ^ drop 53 n den

-- |g * den - n| * 2 ^ 53 ≤ q, where n / den is the fraction in units and g what it is rounded to
pub grid_near : (n den q : ℕ) → 0 < den → n ≤ q → 2 ^ 52 * den ≤ q
    → (2 ^ 53 * (grid n den * den) ≤ 2 ^ 53 * n + q) × (2 ^ 53 * n ≤ 2 ^ 53 * (grid n den * den) + q)
grid_near n den q D a b =
    let k = drop 53 n den in
    let u = den * 2 ^ k in
    let h : Half (closest n u * u) n u = closest_half n u (mul-pos D (pow_pos k)) in
    let same : grid n den * den ≡ closest n u * u = mul_assoc (closest n u) (2 ^ k) den ∙ ap (λ (x : ℕ). closest n u * x) (mul_comm (2 ^ k) den) in
    let fine : 2 ^ 52 * u ≤ q = small (drop_small 53 n den (omega arith) D) in
    finish (grid n den * den) (closest n u * u) u same h fine
  where
    small : (drop 53 n den ≡ 0) ⊎ (2 ^ 52 * (den * 2 ^ drop 53 n den) ≤ n) → 2 ^ 52 * (den * 2 ^ drop 53 n den) ≤ q
    small (inl e) = subst (λ (k : ℕ). 2 ^ 52 * (den * 2 ^ k) ≤ q) (sym e) (subst (λ (x : ℕ). 2 ^ 52 * x ≤ q) (sym (mul-one den)) b)
    small (inr l) = le_trans l a

    finish : (g c u : ℕ) → g ≡ c → Half c n u → 2 ^ 52 * u ≤ q → (2 ^ 53 * g ≤ 2 ^ 53 * n + q) × (2 ^ 53 * n ≤ 2 ^ 53 * g + q)
    finish g c u e h f = omega arith

-- a whole number of units loses nothing where no digit is dropped
above_zero : (u : ℕ) → 0 < u → compare 0 u ≡ Ordering.lt
above_zero zero h = absurd (lt_irrefl 0 h)
above_zero (suc u) h = compare.zero-suc u

closest_whole : (w u : ℕ) → 0 < u → closest (w * u) u ≡ w
closest_whole w u U =
    ap (λ (x : ℕ). nearest x (compare (w * u % u * 2) u)) (mul-div_cancel w U)
    ∙ ap (λ (x : ℕ). nearest w (compare (x * 2) u)) (mul-mod_left w u)
    ∙ ap (λ (o : Ordering). nearest w o) (above_zero u U)

pub grid_whole : (w u : ℕ) → 0 < u → (2 ^ 53 * grid (w * u) u ≤ 2 ^ 53 * w + w) × (2 ^ 53 * w ≤ 2 ^ 53 * grid (w * u) u + w)
grid_whole w u U = go (drop_small 53 (w * u) u (omega arith) U)
  where
    exact : closest (w * u) (u * 2 ^ 0) * 2 ^ 0 ≡ w
    exact = mul-one (closest (w * u) (u * 1)) ∙ ap (λ (z : ℕ). closest (w * u) z) (mul-one u) ∙ closest_whole w u U

    from : (g : ℕ) → g ≡ w → (2 ^ 53 * g ≤ 2 ^ 53 * w + w) × (2 ^ 53 * w ≤ 2 ^ 53 * g + w)
    from g e = omega arith

    per : (g a : ℕ) → (2 ^ 53 * (g * u) ≤ 2 ^ 53 * (w * u) + w * u) × (2 ^ 53 * (w * u) ≤ 2 ^ 53 * (g * u) + w * u) → (2 ^ 53 * g ≤ 2 ^ 53 * w + w) × (2 ^ 53 * w ≤ 2 ^ 53 * g + w)
    per g a h = (
      le_of_mul-le-mul_right (le_trans (le_of_eq (mul_assoc (2 ^ 53) g u)) (le_trans h.0 (le_of_eq (sym (add-mul (2 ^ 53 * w) w u ∙ ap (λ (z : ℕ). z + w * u) (mul_assoc (2 ^ 53) w u)))))) U,
      le_of_mul-le-mul_right (le_trans (le_of_eq (mul_assoc (2 ^ 53) w u)) (le_trans h.1 (le_of_eq (sym (add-mul (2 ^ 53 * g) w u ∙ ap (λ (z : ℕ). z + w * u) (mul_assoc (2 ^ 53) g u)))))) U,
    )

    go : (drop 53 (w * u) u ≡ 0) ⊎ (2 ^ 52 * (u * 2 ^ drop 53 (w * u) u) ≤ w * u) → (2 ^ 53 * grid (w * u) u ≤ 2 ^ 53 * w + w) × (2 ^ 53 * w ≤ 2 ^ 53 * grid (w * u) u + w)
    go (inl e) = from (grid (w * u) u) (ap (λ (j : ℕ). closest (w * u) (u * 2 ^ j) * 2 ^ j) e ∙ exact)
    go (inr l) = per (grid (w * u) u) 0 (grid_near (w * u) u (w * u) U (le_refl (w * u)) (le_trans (mul-le-mul_left (2 ^ 52) (le-mul_of_pos_right u (pow_pos (drop 53 (w * u) u)))) l))

-- and g does not overflow where q is far enough below
twice : (g n q w : ℕ) → 2 ^ 53 * g ≤ 2 ^ 53 * n + q → n ≤ q → 2 * q < w → g < w
twice g n q w h a l = lt_of_le_of_lt (le_of_mul-le-mul_left {k = 2 ^ 53} (step g n q h a) (pow_pos 53)) l
  where
    step : (g n q : ℕ) → 2 ^ 53 * g ≤ 2 ^ 53 * n + q → n ≤ q → 2 ^ 53 * g ≤ 2 ^ 53 * (2 * q)
    step g n q h a = omega arith

pub grid_under : (n den q m : ℕ) → 0 < den → n ≤ q → 2 ^ 52 * den ≤ q → 2 * q < m * den → grid n den < m
grid_under n den q m D a b c = lt_of_mul-lt-mul_right den (twice (grid n den * den) n q (m * den) (grid_near n den q D a b).0 a c)

-- ---- what `round` gives
pub round_is_grid : (s : Bool) (num den : ℕ) → grid (num * 2 ^ 1074) den < 2 ^ 2098 → HasValue (round binary64 s num den) s (grid (num * 2 ^ 1074) den) (2 ^ 1074)
round_is_grid s num den h =
    subst (λ (x : Float). HasValue x s (grid (num * 2 ^ 1074) den) (2 ^ 1074)) (sym (round_is binary64 s num den))
    (units_val binary64 s (kept 53 (num * 2 ^ 1074) den) (drop 53 (num * 2 ^ 1074) den) h)
