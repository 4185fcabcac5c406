-- x · (1000 · per - short) over per · 2 ^ 20, by the whole number above 1000 · x and what is missing to it. Assumes nothing.
use Rattle.std.specs.Prelude.{◌≡◌, ℕ, ◌+◌, ◌-◌, ◌*◌, ◌/◌, ◌%◌, ◌≤◌, ◌<◌}
use Rattle.std.proofs.Common.{sym, ap, ◌∙◌, subst, mul-le-mul_left, mul-le-mul_right, add-mul, div-add-mod', mod-lt, arith, lit<}
use Rattle.std.proofs.Math.Nat.{mul-sub}
use Rattle.std.specs.Float.Ieee.Nearest.{closest}

-- what is missing, in parts of per · 2 ^ 20
abbrev pub missing_parts : ℕ → ℕ → ℕ → ℕ
missing_parts x s k = x * s + (1048576 - x * 1000 % 1048576) * k

rest_parts : (r k : ℕ) → r < 1048576 → (1048576 - r) * k + r * k ≡ 1048576 * k
rest_parts r k h = sym (add-mul (1048576 - r) r k) ∙ ap (λ (i : ℕ). i * k) (go r h)
  where
    go : (r : ℕ) → r < 1048576 → 1048576 - r + r ≡ 1048576
    go r h = omega arith

pub rest_small : (x k : ℕ) → (1048576 - x * 1000 % 1048576) * k ≤ 1048576 * k
rest_small x k = mul-le-mul_right k (go (x * 1000 % 1048576))
  where
    go : (r : ℕ) → 1048576 - r ≤ 1048576
    go r = omega arith

balance : (x s k w r y : ℕ) → w * 1048576 + r ≡ x * 1000 → y + r * k ≡ 1048576 * k → x * s + y + x * (1000 * k) ≡ (w + 1) * (k * 1048576) + x * s
balance x s k w r y e f = let g = ap (λ (i : ℕ). i * k) e in omega arith

module _ (x s k : ℕ) (h : s ≤ 1000 * k) where
  even : missing_parts x s k + x * (1000 * k) ≡ (x * 1000 / 1048576 + 1) * (k * 1048576) + x * s
  even = balance x s k (x * 1000 / 1048576) (x * 1000 % 1048576) ((1048576 - x * 1000 % 1048576) * k) (div-add-mod' (x * 1000) 1048576) (rest_parts (x * 1000 % 1048576) k (mod-lt (x * 1000) (lit< tt)))

  pub missing_le : missing_parts x s k ≤ (x * 1000 / 1048576 + 1) * (k * 1048576)
  missing_le = go (missing_parts x s k) (x * (1000 * k)) ((x * 1000 / 1048576 + 1) * (k * 1048576)) (x * s) even (mul-le-mul_left x h)
    where
      go : (a b c d : ℕ) → a + b ≡ c + d → d ≤ b → a ≤ c
      go a b c d e l = omega arith

  pub missing_is : (x * 1000 / 1048576 + 1) * (k * 1048576) - missing_parts x s k ≡ x * (1000 * k - s)
  missing_is = go (missing_parts x s k) (x * (1000 * k)) ((x * 1000 / 1048576 + 1) * (k * 1048576)) (x * s) even ∙ sym (mul-sub x (1000 * k) s)
    where
      go : (a b c d : ℕ) → a + b ≡ c + d → c - a ≡ b - d
      go a b c d e = omega arith

-- the answer by the quotient and the rest of what is missing
pub answer_is : (x s k n : ℕ) → s ≤ 1000 * k → n ≡ closest ((x * 1000 / 1048576 + 1) * (k * 1048576) - (missing_parts x s k / (k * 1048576) * (k * 1048576) + missing_parts x s k % (k * 1048576))) (k * 1048576)
    → n ≡ closest (x * (1000 * k - s)) (k * 1048576)
answer_is x s k n h e =
    let d = k * 1048576 in
    let a = (x * 1000 / 1048576 + 1) * d in
    let m = missing_parts x s k in
    let f : a - (m / d * d + m % d) ≡ x * (1000 * k - s) = ap (λ (i : ℕ). a - i) (div-add-mod' m d) ∙ missing_is x s k h in
    subst (λ (i : ℕ). n ≡ closest i d) f e
