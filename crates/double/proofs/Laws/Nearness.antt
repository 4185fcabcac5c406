-- How an error of some parts in 2 ^ 53 goes through sums, products and chains of whole numbers. Assumes nothing.
use Rattle.std.specs.Prelude.{◌≡◌, ℕ, ◌+◌, ◌*◌, ◌^◌, ◌≤◌, ℤ, pos, negsuc, neg_ℤ, nat_abs, ◌+ℤ◌, ◌-ℤ◌, ◌*ℤ◌}
use Rattle.std.proofs.Common.{sym, ap, ◌∙◌, le_trans, le_of_eq, mul_assoc, mul-le-mul_right, arith}
use Rattle.arith.specs.Laws.Diff.{is_add, up_neg, dn_neg}
use Rattle.arith.specs.Laws.Integers.{*ℤ-+ℤ, -ℤ-*ℤ}
use Rattle.arith.specs.Laws.Order.{abs_mul}
use Rattle.double.specs.Value.{plus, minus, Near}

-- ---- the parts above and below zero of a difference, and the size by them
pub sub_parts : (a b : ℤ) → plus (a -ℤ b) + (minus a + plus b) ≡ minus (a -ℤ b) + (plus a + minus b)
sub_parts a b = let h = is_add a (neg_ℤ b) in let p = up_neg b in let m = dn_neg b in omega arith

pub abs_parts : (a : ℤ) → nat_abs a ≡ plus a + minus a
abs_parts (pos n) = omega arith
abs_parts (negsuc n) = omega arith

-- ---- by the size of the difference, and back
pub near_size : {a b : ℤ} {q : ℕ} → Near a b q → 2 ^ 53 * nat_abs (a -ℤ b) ≤ q
near_size {a} {b} {q} h = go (a -ℤ b) (sub_parts a b)
  where
    go : (z : ℤ) → plus z + (minus a + plus b) ≡ minus z + (plus a + minus b) → 2 ^ 53 * nat_abs z ≤ q
    go (pos n) e = omega arith
    go (negsuc n) e = omega arith

pub size_near : (a b : ℤ) (q : ℕ) → 2 ^ 53 * nat_abs (a -ℤ b) ≤ q → Near a b q
size_near a b q h = let e = sub_parts a b in let f = abs_parts (a -ℤ b) in omega arith

-- ---- laws
pub near_refl : (a : ℤ) (q : ℕ) → Near a a q
near_refl a q = omega arith

pub near_more : {a b : ℤ} {q : ℕ} (r : ℕ) → q ≤ r → Near a b q → Near a b r
near_more r l h = omega arith

pub near_trans : {a b c : ℤ} {q r : ℕ} → Near a b q → Near b c r → Near a c (q + r)
near_trans h k = omega arith

pub near_add : {a b c d : ℤ} {q r : ℕ} → Near a b q → Near c d r → Near (a +ℤ c) (b +ℤ d) (q + r)
near_add {a} {b} {c} {d} h k = let e = is_add a c in let f = is_add b d in omega arith

pub near_neg : {a b : ℤ} {q : ℕ} → Near a b q → Near (neg_ℤ a) (neg_ℤ b) q
near_neg {a} {b} h = let p = up_neg a in let q' = up_neg b in let r = dn_neg a in let t = dn_neg b in omega arith

pub near_mul : {a b : ℤ} {q : ℕ} (c : ℤ) → Near a b q → Near (a *ℤ c) (b *ℤ c) (q * nat_abs c)
near_mul {a} {b} {q} c h =
    size_near (a *ℤ c) (b *ℤ c) (q * nat_abs c)
    (le_trans (le_of_eq (ap (λ (z : ℤ). 2 ^ 53 * nat_abs z) (sym (-ℤ-*ℤ a b c)) ∙ ap (λ (n : ℕ). 2 ^ 53 * n) (abs_mul (a -ℤ b) c) ∙ sym (mul_assoc (2 ^ 53) (nat_abs (a -ℤ b)) (nat_abs c))))
    (mul-le-mul_right (nat_abs c) (near_size h)))

-- the size of what is near
pub near_abs : {a b : ℤ} {q : ℕ} → Near a b q → 2 ^ 53 * nat_abs a ≤ 2 ^ 53 * nat_abs b + q
near_abs {a} {b} {q} h = go a b h
  where
    go : (a b : ℤ) → Near a b q → 2 ^ 53 * nat_abs a ≤ 2 ^ 53 * nat_abs b + q
    go (pos a) b h = let p = abs_parts b in omega arith
    go (negsuc a) b h = let p = abs_parts b in omega arith
