-- How large a polynomial's answer in doubles is: below 8,000,001 m, from what its table weighs. Assumes nothing.
use Rattle.std.specs.Prelude.{◌≡◌, List, [], ◌∷◌, ℕ, ◌+◌, ◌*◌, ◌^◌, ◌≤◌, length, ℤ, pos, nat_abs, ◌-ℤ◌, ◌*ℤ◌}
use Rattle.std.proofs.Common.{sym, ◌∙◌, ap, subst, le_trans, le_of_eq, mul-pos, mul-le-mul_right, le_of_mul-le-mul_right, pow-suc, arith, lit<}
use Rattle.arith.specs.Laws.Diff.{◌⊖◌, Z·ℕ, lin}
use Rattle.arith.specs.Laws.Order.{abs_mul}
use Rattle.rules.specs.Scaled.{unit}
use Rattle.rules.specs.Polynomial.{double_unit, exact}
use Rattle.double.specs.declared.Pair.{Pair}
use Rattle.double.specs.Value.{value}
use Rattle.double.specs.Complex.{values, horner}
use Rattle.double.specs.Exact.{doubles}
use Rattle.double.specs.Bound.{Light, LightTable, Inside, Tenth}
use Rattle.double.proofs.Laws.Bound.{at_exact}
use Rattle.double.proofs.Laws.Horner.{at_size, double_unit_pow_pos}
use Rattle.double.proofs.Laws.Modulus.{modulus_first, modulus_second}
use Rattle.double.proofs.Laws.Promise.{tenth}
use Rattle.projection_worked.specs.Bounds.{Tame}

near_abs : (a b : ℤ) → nat_abs a ≤ nat_abs (a -ℤ b) + nat_abs b
near_abs a b = lin (a ∷ b ∷ []) λ u v ea eb. simp (Z·ℕ, ea, eb) (omega arith)

-- a part within 10^-7 of a value that is at most 8,000,000 in size
part_size : (n : ℕ) (a v : ℤ) → Tenth unit n a v → nat_abs v ≤ 8000000 * (unit * double_unit ^ n) → nat_abs a ≤ 8000001 * double_unit
part_size n a v t h =
    le_of_mul-le-mul_right {k = unit * double_unit ^ n}
    (go (nat_abs a * (unit * double_unit ^ n)) (nat_abs v) _ (unit * double_unit ^ n) double_unit
    (le_trans (le_of_eq (sym (abs_mul a (pos (unit * double_unit ^ n))))) (le_trans (near_abs (a *ℤ pos (unit * double_unit ^ n)) (v *ℤ pos double_unit)) (le_of_eq (ap (λ x. nat_abs (a *ℤ pos (unit * double_unit ^ n) -ℤ v *ℤ pos double_unit) + x) (abs_mul v (pos double_unit))))))
    (le_trans t.bound (le_of_eq (ap (λ x. unit * x) (pow-suc double_unit n) ∙ turn unit (double_unit ^ n) double_unit))) h)
    (mul-pos (lit< tt) (double_unit_pow_pos n))
  where
    turn : (t p u : ℕ) → t * (p * u) ≡ t * p * u
    turn t p u = omega arith

    go : (A W d k u : ℕ) → A ≤ d + W * u → 10 ^ 7 * d ≤ k * u → W ≤ 8000000 * k → A ≤ 8000001 * u * k
    go A W d k u h i g = let f = mul-le-mul_right u g in omega arith

-- both parts of the answer of a light table
module _ (c : ℤ) (cs : List ℤ) (z : Pair) (m : ℕ) (l : Light unit c cs m 8000000) (i : Inside z m) where
  abbrev answer : Pair
  answer = horner (doubles unit (c ∷ cs)) z

  pub first_size : nat_abs (value answer.re) ≤ 8000001 * double_unit
  first_size =
      part_size (length cs) (value answer.re) (exact (c ∷ cs) (values z)).first (tenth unit c cs z m l i).first
      (subst (λ p. nat_abs p.first ≤ 8000000 * (unit * double_unit ^ length cs)) (at_exact (c ∷ cs) (values z)) (le_trans (modulus_first (at_size double_unit (c ∷ cs) (values z) m i.modulus)) l.weighs))

  pub second_size : nat_abs (value answer.im) ≤ 8000001 * double_unit
  second_size =
      part_size (length cs) (value answer.im) (exact (c ∷ cs) (values z)).second (tenth unit c cs z m l i).second
      (subst (λ p. nat_abs p.second ≤ 8000000 * (unit * double_unit ^ length cs)) (at_exact (c ∷ cs) (values z)) (le_trans (modulus_second (at_size double_unit (c ∷ cs) (values z) m i.modulus)) l.weighs))

pub tame : (cs : List ℤ) (z : Pair) (m : ℕ) → LightTable unit cs m 8000000 → Inside z m → Tame (horner (doubles unit cs) z)
tame [] z m l i = absurd l
tame (c ∷ cs) z m l i = record { numbers = (tenth unit c cs z m l i).numbers; first = first_size c cs z m l i; second = second_size c cs z m l i }
