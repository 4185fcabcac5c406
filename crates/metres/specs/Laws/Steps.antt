-- A polynomial step of the projection from whole numbers in: how near the doubles' answer is to the definition's value. Assumes nothing.
use Rattle.std.specs.Prelude.{◌≡◌, refl, List, ℕ, ◌+◌, ◌*◌, ◌^◌, ◌≤◌, ℤ, pos, nat_abs, ◌-ℤ◌, ◌*ℤ◌}
use Rattle.std.proofs.Common.{sym, subst, le_trans, le_of_eq, mul_assoc, mul-le-mul, mul-le-mul_left, mul-le-mul_right, add-le-add, arith, lit≤, pow_pos}
use Rattle.std.proofs.Math.Nat.{le_of_mul-le-mul_left}
use Rattle.rules.specs.Scaled as scaled
use Rattle.rules.specs.Scaled.{unit, polynomial, derivative}
use Rattle.rules.specs.Systems.{Ellipsoid, constants, a_coefficients, b_coefficients}
use Rattle.rules.specs.Polynomial.{double_unit}
use Rattle.double.specs.declared.Pair.{Pair}
use Rattle.double.specs.Value.{value}
use Rattle.double.specs.Complex.{horner}
use Rattle.double.specs.Exact.{doubles}
use Rattle.double.specs.Bound.{Apart, Defined}
use Rattle.double.proofs.Laws.Systems.{small_reach, forward_defined, inverse_defined, derivative_defined}
use Rattle.metres.specs.Metres.{argument_of, arguments_of}
use Rattle.metres.specs.Laws.Into.{per_one, below_53, arguments_inside, argument_apart, arguments_apart}

-- n and m, in whole multiples of 2 ^ -30 m, stand for the definition's z, w over 10 ^ 24: they are off by e₁ and e₂ over 10 ^ 24 · 2 ^ 30 m
pub record Enters (n m : ℤ) (w : scaled.Pair) (e₁ e₂ : ℕ) : Type 0 where
  pub first_small : nat_abs n ≤ 595000 * 2 ^ 30
  pub second_small : nat_abs m ≤ 595000 * 2 ^ 30
  pub w_first : 10 * nat_abs w.first ≤ 12 * unit
  pub w_second : 10 * nat_abs w.second ≤ 12 * unit
  pub first : nat_abs (n *ℤ pos unit -ℤ w.first *ℤ pos per_one) ≤ e₁
  pub second : nat_abs (m *ℤ pos unit -ℤ w.second *ℤ pos per_one) ≤ e₂

-- the answer is within 1.005 · 10 ^ -7 m, and s / 500000 times what n and m are off, of the definition's value q: all of it over 10 ^ 24 · 2 ^ 1074, times 2 ^ 30 · 10 ^ 10
pub record Stepped (q : scaled.Pair) (answer : Pair) (s e : ℕ) : Type 0 where
  pub first : 2 ^ 30 * 10 ^ 10 * nat_abs (value answer.re *ℤ pos unit -ℤ q.first *ℤ pos double_unit) ≤ (2 ^ 30 * 1005 * unit + 20000 * s * e) * double_unit
  pub second : 2 ^ 30 * 10 ^ 10 * nat_abs (value answer.im *ℤ pos unit -ℤ q.second *ℤ pos double_unit) ≤ (2 ^ 30 * 1005 * unit + 20000 * s * e) * double_unit

-- ---- at numbers
parts_small : (s k : ℕ) → s ≤ 500500 → k ≤ 1190000 * 2 ^ 30 → 20000 * s * (3 * k) ≤ 2 ^ 53 * (2 ^ 30 * 4)
parts_small s k h l = le_trans (mul-le-mul (mul-le-mul_left 20000 h) (mul-le-mul_left 3 l)) (lit≤ tt)

moved_small : (s d k e t u : ℕ) → s ≤ 500500 → k ≤ 1190000 * 2 ^ 30 → 2 ^ 53 * (d * per_one) ≤ (3 * (k * t) + 2 ^ 53 * e) * u → 2 ^ 30 * 10 ^ 10 * (s * d) ≤ (2 ^ 30 * 4 * t + 20000 * s * e) * u
moved_small s d k e t u h l m =
    le_of_mul-le-mul_left {k = 2 ^ 53}
    (le_trans (le_of_eq (turn s d)) (le_trans (mul-le-mul_left (20000 * s) m) (le_trans (le_of_eq (spread s k t e u)) (le_trans (mul-le-mul_right u (add-le-add (mul-le-mul_right t (parts_small s k h l)) (le_of_eq refl))) (le_of_eq (join s t e u))))))
    (pow_pos 53)
  where
    turn : (s d : ℕ) → 2 ^ 53 * (2 ^ 30 * 10 ^ 10 * (s * d)) ≡ 20000 * s * (2 ^ 53 * (d * per_one))
    turn s d = omega arith

    spread : (s k t e u : ℕ) → 20000 * s * ((3 * (k * t) + 2 ^ 53 * e) * u) ≡ (20000 * s * (3 * k) * t + 20000 * s * (2 ^ 53 * e)) * u
    spread s k t e u = omega arith

    join : (s t e u : ℕ) → (2 ^ 53 * (2 ^ 30 * 4) * t + 20000 * s * (2 ^ 53 * e)) * u ≡ 2 ^ 53 * ((2 ^ 30 * 4 * t + 20000 * s * e) * u)
    join s t e u = omega arith

-- the floors are nothing beside 10 ^ -10 m
floors_small : (l u : ℕ) → l ≤ 2100000 → 2 ^ 30 * 10 ^ 10 * (l * u) ≤ 2 ^ 30 * unit * u
floors_small l u h = le_trans (le_of_eq (sym (mul_assoc (2 ^ 30 * 10 ^ 10) l u))) (mul-le-mul_right u (le_trans (mul-le-mul_left (2 ^ 30 * 10 ^ 10) h) (lit≤ tt)))

total : (x s d l k e u : ℕ) → s ≤ 500500 → l ≤ 2100000 → k ≤ 1190000 * 2 ^ 30 → 10 ^ 7 * x ≤ unit * u + 10 ^ 7 * (s * d + l * u) → 2 ^ 53 * (d * per_one) ≤ (3 * (k * unit) + 2 ^ 53 * e) * u
    → 2 ^ 30 * 10 ^ 10 * x ≤ (2 ^ 30 * 1005 * unit + 20000 * s * e) * u
total x s d l k e u S L K h m =
    go x (s * d) (l * u) unit (20000 * s * e) u h (moved_small s d k e unit u S K m) (floors_small l u L)
  where
    go : (x a b t c u : ℕ) → 10 ^ 7 * x ≤ t * u + 10 ^ 7 * (a + b) → 2 ^ 30 * 10 ^ 10 * a ≤ (2 ^ 30 * 4 * t + c) * u → 2 ^ 30 * 10 ^ 10 * b ≤ 2 ^ 30 * t * u → 2 ^ 30 * 10 ^ 10 * x ≤ (2 ^ 30 * 1005 * t + c) * u
    go x a b t c u h i j = omega arith

-- ---- any polynomial that is defined so
stepped : (cs : List ℤ) (n m : ℤ) (w : scaled.Pair) (s l e₁ e₂ : ℕ) → s ≤ 500500 → l ≤ 2100000 → Enters n m w e₁ e₂
    → ((d : ℕ) → d ≡ nat_abs (value (argument_of n) *ℤ pos unit -ℤ w.first *ℤ pos double_unit) + nat_abs (value (argument_of m) *ℤ pos unit -ℤ w.second *ℤ pos double_unit) → Defined cs w (horner (doubles unit cs) (arguments_of n m)) s l d)
    → Stepped (polynomial cs w) (horner (doubles unit cs) (arguments_of n m)) s (e₁ + e₂)
stepped cs n m w s l e₁ e₂ S L i f =
    let a = nat_abs (value (argument_of n) *ℤ pos unit -ℤ w.first *ℤ pos double_unit) in
    let b = nat_abs (value (argument_of m) *ℤ pos unit -ℤ w.second *ℤ pos double_unit) in
    let x = argument_apart n w.first e₁ (below_53 n i.first_small) i.first in
    let y = argument_apart m w.second e₂ (below_53 m i.second_small) i.second in
    let k = nat_abs n + nat_abs m in
    let K : k ≤ 1190000 * 2 ^ 30 = both (nat_abs n) (nat_abs m) i.first_small i.second_small in
    let z : 2 ^ 53 * ((a + b) * per_one) ≤ (3 * (k * unit) + 2 ^ 53 * (e₁ + e₂)) * double_unit = sum a b (nat_abs n) (nat_abs m) unit e₁ e₂ double_unit x y in
    let d = f (a + b) refl in
    record {
      first = total (nat_abs (value (horner (doubles unit cs) (arguments_of n m)).re *ℤ pos unit -ℤ (polynomial cs w).first *ℤ pos double_unit)) s (a + b) l k (e₁ + e₂) double_unit S L K d.first z;
      second = total (nat_abs (value (horner (doubles unit cs) (arguments_of n m)).im *ℤ pos unit -ℤ (polynomial cs w).second *ℤ pos double_unit)) s (a + b) l k (e₁ + e₂) double_unit S L K d.second z;
    }
  where
    both : (n m : ℕ) → n ≤ 595000 * 2 ^ 30 → m ≤ 595000 * 2 ^ 30 → n + m ≤ 1190000 * 2 ^ 30
    both n m h k = omega arith

    sum : (a b n m t e f u : ℕ) → 2 ^ 53 * (a * per_one) ≤ (3 * (n * t) + 2 ^ 53 * e) * u → 2 ^ 53 * (b * per_one) ≤ (3 * (m * t) + 2 ^ 53 * f) * u → 2 ^ 53 * ((a + b) * per_one) ≤ (3 * ((n + m) * t) + 2 ^ 53 * (e + f)) * u
    sum a b n m t e f u h k = omega arith

-- ---- the a polynomial, the b polynomial, and the a polynomial's derivative
module _ (k : Ellipsoid) (n m : ℤ) (w : scaled.Pair) (e₁ e₂ : ℕ) (i : Enters n m w e₁ e₂) where
  pub forward_stepped : Stepped (polynomial (a_coefficients (constants k)) w) (horner (doubles unit (a_coefficients (constants k))) (arguments_of n m)) 500500 (e₁ + e₂)
  forward_stepped = stepped (a_coefficients (constants k)) n m w 500500 2100000 e₁ e₂ (lit≤ tt) (lit≤ tt) i
      (λ d q. forward_defined k (arguments_of n m) w d (arguments_inside n m i.first_small i.second_small) (small_reach w i.w_first i.w_second) (subst (λ (x : ℕ). Apart (arguments_of n m) w x) (sym q) (arguments_apart n m w)))

  pub inverse_stepped : Stepped (polynomial (b_coefficients (constants k)) w) (horner (doubles unit (b_coefficients (constants k))) (arguments_of n m)) 500500 (e₁ + e₂)
  inverse_stepped = stepped (b_coefficients (constants k)) n m w 500500 2100000 e₁ e₂ (lit≤ tt) (lit≤ tt) i
      (λ d q. inverse_defined k (arguments_of n m) w d (arguments_inside n m i.first_small i.second_small) (small_reach w i.w_first i.w_second) (subst (λ (x : ℕ). Apart (arguments_of n m) w x) (sym q) (arguments_apart n m w)))

  pub derivative_stepped : Stepped (polynomial (derivative (a_coefficients (constants k))) w) (horner (doubles unit (derivative (a_coefficients (constants k)))) (arguments_of n m)) 150 (e₁ + e₂)
  derivative_stepped = stepped (derivative (a_coefficients (constants k))) n m w 150 1000 e₁ e₂ (lit≤ tt) (lit≤ tt) i
      (λ d q. derivative_defined k (arguments_of n m) w d (arguments_inside n m i.first_small i.second_small) (small_reach w i.w_first i.w_second) (subst (λ (x : ℕ). Apart (arguments_of n m) w x) (sym q) (arguments_apart n m w)))
