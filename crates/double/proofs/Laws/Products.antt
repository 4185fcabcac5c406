-- The error of the complex product and of one step of Horner's rule, part by part. Assumes nothing.
use Rattle.std.proofs.Common.{sym, ap, ap₂, subst, le_trans, le_of_eq, lt_of_mul-lt-mul_right, add-mul, mul-le-mul_right, le-add_left, le-add_right, arith}
use Rattle.std.specs.Prelude.{ℕ, ◌+◌, ◌*◌, ◌^◌, ◌≤◌, ◌<◌, ℤ, pos, neg_ℤ, nat_abs, ◌+ℤ◌, ◌-ℤ◌, ◌*ℤ◌, Float}
use Rattle.std.specs.Float.{binary64}
use Rattle.std.specs.Float.Ieee.{mul}
use Rattle.arith.specs.Laws.Integers.{+ℤ-*ℤ, neg-*ℤ}
use Rattle.arith.specs.Laws.Order.{abs_mul, abs_add, abs_sub, abs_neg}
use Rattle.rules.specs.Polynomial.{double_unit}
use Rattle.double.specs.declared.Pair.{Pair}
use Rattle.double.specs.Value.{limit, value, Number, Near}
use Rattle.double.specs.Complex.{product, step, Numbers}
use Rattle.double.proofs.Laws.Operations.{add_near, sub_near, mul_near, RoundedProduct}
use Rattle.double.proofs.Laws.Nearness.{near_refl, near_more, near_trans, near_add, near_neg, near_mul, near_abs}

-- ---- at whole numbers: p₁ and p₂ are w₁ and w₂ per unit, but for one part of s each
module _ (u s : ℕ) (p₁ p₂ w₁ w₂ : ℤ) (h₁ : Near (p₁ *ℤ pos u) w₁ s) (h₂ : Near (p₂ *ℤ pos u) w₂ s) (small : nat_abs w₁ + nat_abs w₂ ≤ s) where
  sum_near : Near ((p₁ +ℤ p₂) *ℤ pos u) (w₁ +ℤ w₂) (s + s)
  sum_near = subst (λ (z : ℤ). Near z (w₁ +ℤ w₂) (s + s)) (sym (+ℤ-*ℤ p₁ p₂ (pos u))) (near_add h₁ h₂)

  sum_size : 16 * (nat_abs (p₁ +ℤ p₂) * u) ≤ 17 * s
  sum_size =
      go (nat_abs (p₁ +ℤ p₂) * u) (nat_abs (w₁ +ℤ w₂)) (subst (λ (k : ℕ). 2 ^ 53 * k ≤ 2 ^ 53 * nat_abs (w₁ +ℤ w₂) + (s + s)) (abs_mul (p₁ +ℤ p₂) (pos u)) (near_abs sum_near)) (le_trans (abs_add w₁ w₂) small)
    where
      go : (x w : ℕ) → 2 ^ 53 * x ≤ 2 ^ 53 * w + (s + s) → w ≤ s → 16 * x ≤ 17 * s
      go x w h l = omega arith

-- r is v rounded, and v is w per unit but for q: then r is w per unit but for q and the size of v
round_near : (u q : ℕ) (r v w : ℤ) → Near r v (nat_abs v) → Near (v *ℤ pos u) w q → Near (r *ℤ pos u) w (nat_abs v * u + q)
round_near u q r v w h k = near_trans (near_mul (pos u) h) k

below_limit : (x l u s : ℕ) → 16 * (x * u) ≤ 17 * s → 2 * s < l * u → x < l
below_limit x l u s h k = lt_of_mul-lt-mul_right u (go (x * u) (l * u) h k)
  where
    go : (a b : ℕ) → 16 * a ≤ 17 * s → 2 * s < b → a < b
    go a b h k = omega arith

half_limit : (s l : ℕ) → 2 * s < l → s < l
half_limit s l h = omega arith

-- ---- a part of a product: it is exact but for 2 parts of s and the rounding of the sum
pub record Part (r : Float) (w : ℤ) (s : ℕ) : Type 0 where
  pub number : Number r
  pub extra : ℕ
  pub near : Near (value r *ℤ pos double_unit) w (extra + (s + s))
  pub extra_small : 16 * extra ≤ 17 * s

size_of_part : {r : Float} {w : ℤ} {s : ℕ} → Part r w s → nat_abs w ≤ s → 16 * (nat_abs (value r) * double_unit) ≤ 17 * s
size_of_part {r} {w} {s} p l =
    go (nat_abs (value r) * double_unit) (nat_abs w) p.extra (subst (λ (k : ℕ). 2 ^ 53 * k ≤ 2 ^ 53 * nat_abs w + (p.extra + (s + s))) (abs_mul (value r) (pos double_unit)) (near_abs p.near)) l p.extra_small
  where
    go : (x w e : ℕ) → 2 ^ 53 * x ≤ 2 ^ 53 * w + (e + (s + s)) → w ≤ s → 16 * e ≤ 17 * s → 16 * x ≤ 17 * s
    go x w e h l k = omega arith

-- the sizes of two products, which their parts' sizes make
sizes : (a b c d : ℤ) (s : ℕ) → nat_abs a * nat_abs b + nat_abs c * nat_abs d ≤ s → nat_abs (a *ℤ b) + nat_abs (c *ℤ d) ≤ s
sizes a b c d s h = le_trans (le_of_eq (ap₂ ◌+◌ (abs_mul a b) (abs_mul c d))) h

module _ (r z : Pair) (R : Numbers r) (Z : Numbers z) (s : ℕ) (lo : 2 ^ 52 * double_unit ≤ s) where
  abbrev a : ℤ
  a = value r.re

  abbrev b : ℤ
  b = value r.im

  abbrev p : ℤ
  p = value z.re

  abbrev q : ℤ
  q = value z.im

  pub product_re : nat_abs a * nat_abs p + nat_abs b * nat_abs q ≤ s → 2 * s < limit * double_unit → Part (product r z).re (a *ℤ p -ℤ b *ℤ q) s
  product_re small hi =
      let m = mul_near r.re z.re R.re Z.re s (le_trans (le-add_right (nat_abs a * nat_abs p) (nat_abs b * nat_abs q)) small) lo (half_limit s (limit * double_unit) hi) in
      let n = mul_near r.im z.im R.im Z.im s (le_trans (le-add_left (nat_abs b * nat_abs q) (nat_abs a * nat_abs p)) small) lo (half_limit s (limit * double_unit) hi) in
      let P = value (mul binary64 r.re z.re) in
      let Q = value (mul binary64 r.im z.im) in
      let h₂ : Near (neg_ℤ Q *ℤ pos double_unit) (neg_ℤ (b *ℤ q)) s = subst (λ (v : ℤ). Near v (neg_ℤ (b *ℤ q)) s) (sym (neg-*ℤ Q (pos double_unit))) (near_neg n.near) in
      let k : nat_abs (a *ℤ p) + nat_abs (neg_ℤ (b *ℤ q)) ≤ s = le_trans (le_of_eq (ap (λ (i : ℕ). nat_abs (a *ℤ p) + i) (abs_neg (b *ℤ q)))) (sizes a p b q s small) in
      let w = sum_size double_unit s P (neg_ℤ Q) (a *ℤ p) (neg_ℤ (b *ℤ q)) m.near h₂ k in
      let t = sub_near (mul binary64 r.re z.re) (mul binary64 r.im z.im) m.number n.number (below_limit (nat_abs (P -ℤ Q)) limit double_unit s w hi) in
      record {
        number = t.number;
        extra = nat_abs (P -ℤ Q) * double_unit;
        near = round_near double_unit (s + s) (value (product r z).re) (P -ℤ Q) (a *ℤ p -ℤ b *ℤ q) t.near (sum_near double_unit s P (neg_ℤ Q) (a *ℤ p) (neg_ℤ (b *ℤ q)) m.near h₂ k);
        extra_small = w;
      }

  pub product_im : nat_abs a * nat_abs q + nat_abs b * nat_abs p ≤ s → 2 * s < limit * double_unit → Part (product r z).im (a *ℤ q +ℤ b *ℤ p) s
  product_im small hi =
      let m = mul_near r.re z.im R.re Z.im s (le_trans (le-add_right (nat_abs a * nat_abs q) (nat_abs b * nat_abs p)) small) lo (half_limit s (limit * double_unit) hi) in
      let n = mul_near r.im z.re R.im Z.re s (le_trans (le-add_left (nat_abs b * nat_abs p) (nat_abs a * nat_abs q)) small) lo (half_limit s (limit * double_unit) hi) in
      let P = value (mul binary64 r.re z.im) in
      let Q = value (mul binary64 r.im z.re) in
      let k = sizes a q b p s small in
      let w = sum_size double_unit s P Q (a *ℤ q) (b *ℤ p) m.near n.near k in
      let t = add_near (mul binary64 r.re z.im) (mul binary64 r.im z.re) m.number n.number (below_limit (nat_abs (P +ℤ Q)) limit double_unit s w hi) in
      record {
        number = t.number;
        extra = nat_abs (P +ℤ Q) * double_unit;
        near = round_near double_unit (s + s) (value (product r z).im) (P +ℤ Q) (a *ℤ q +ℤ b *ℤ p) t.near (sum_near double_unit s P Q (a *ℤ q) (b *ℤ p) m.near n.near k);
        extra_small = w;
      }

  -- ---- the step's first part: 5 parts of the product's size and one of the coefficient's
  pub step_re : (c : Float) → Number c → nat_abs a * nat_abs p + nat_abs b * nat_abs q ≤ s → 2 * (s + nat_abs (value c) * double_unit) < limit * double_unit
      → RoundedProduct (step r z c).re (a *ℤ p -ℤ b *ℤ q +ℤ value c *ℤ pos double_unit) (5 * s + nat_abs (value c) * double_unit)
  step_re c C small hi =
      let k = nat_abs (value c) * double_unit in
      let t = product_re small (less s k (limit * double_unit) hi) in
      let x = (product r z).re in
      let w = a *ℤ p -ℤ b *ℤ q in
      let v = value x +ℤ value c in
      let x_small : 16 * (nat_abs (value x) * double_unit) ≤ 17 * s = size_of_part t (le_trans (abs_sub (a *ℤ p) (b *ℤ q)) (sizes a p b q s small)) in
      let v_small : nat_abs v * double_unit ≤ nat_abs (value x) * double_unit + k = le_trans (mul-le-mul_right double_unit (abs_add (value x) (value c))) (le_of_eq (add-mul (nat_abs (value x)) (nat_abs (value c)) double_unit)) in
      let i = add_near x c t.number C (lt_of_mul-lt-mul_right double_unit (under (nat_abs v * double_unit) (nat_abs (value x) * double_unit) k s (limit * double_unit) v_small x_small hi)) in
      let e : Near (v *ℤ pos double_unit) (w +ℤ value c *ℤ pos double_unit) (t.extra + (s + s) + 0) =
      subst (λ (y : ℤ). Near y (w +ℤ value c *ℤ pos double_unit) (t.extra + (s + s) + 0)) (sym (+ℤ-*ℤ (value x) (value c) (pos double_unit))) (near_add t.near (near_refl (value c *ℤ pos double_unit) 0)) in
      record {
        number = i.number;
        near = near_more (5 * s + k) (total (nat_abs v * double_unit) (nat_abs (value x) * double_unit) k s t.extra v_small x_small t.extra_small)
            (round_near double_unit (t.extra + (s + s) + 0) (value (step r z c).re) v (w +ℤ value c *ℤ pos double_unit) i.near e);
      }
    where
      less : (s k l : ℕ) → 2 * (s + k) < l → 2 * s < l
      less s k l h = omega arith

      under : (v x k s l : ℕ) → v ≤ x + k → 16 * x ≤ 17 * s → 2 * (s + k) < l → v < l
      under v x k s l a b c = omega arith

      total : (v x k s e : ℕ) → v ≤ x + k → 16 * x ≤ 17 * s → 16 * e ≤ 17 * s → v + (e + (s + s) + 0) ≤ 5 * s + k
      total v x k s e a b c = omega arith

  -- its second part: 4 parts of the product's size
  pub step_im : nat_abs a * nat_abs q + nat_abs b * nat_abs p ≤ s → 2 * s < limit * double_unit → RoundedProduct (product r z).im (a *ℤ q +ℤ b *ℤ p) (4 * s)
  step_im small hi = let t = product_im small hi in record { number = t.number; near = near_more (4 * s) (four t.extra s t.extra_small) t.near }
    where
      four : (e s : ℕ) → 16 * e ≤ 17 * s → e + (s + s) ≤ 4 * s
      four e s h = omega arith
