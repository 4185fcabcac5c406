-- The tenth of a micrometre over any table, and what the rules say of a step from it. Assumes nothing.
use Rattle.std.specs.Prelude.{◌≡◌, List, [], ◌∷◌, ℕ, suc, ◌+◌, ◌*◌, ◌^◌, ◌≤◌, length, ℤ, pos, nat_abs, ◌-ℤ◌, ◌*ℤ◌}
use Rattle.std.proofs.Common.{sym, ap, ◌∙◌, subst, le_trans, le_of_eq, mul_comm, mul_assoc, mul_left_comm, mul-le-mul, mul-le-mul_left, mul-le-mul_right, arith, lit≤, lit<, pow_pos}
use Rattle.std.proofs.Math.Nat.{mul-mul-mul_comm, le_of_mul-le-mul_left}
use Rattle.rules.specs.Scaled as scaled
use Rattle.rules.specs.Scaled.{unit}
use Rattle.rules.specs.Systems.{Krasovsky, constants, a_coefficients}
use Rattle.rules.specs.Polynomial.{double_unit, exact, Small, NearExact}
use Rattle.double.specs.declared.Pair.{Pair}
use Rattle.double.specs.Value.{magnitude, value}
use Rattle.double.specs.Complex.{nought, real, horner, Numbers, values}
use Rattle.double.specs.Pairs.{◌⊙◌, Close}
use Rattle.double.specs.Exact.{at, nearest_double, doubles}
use Rattle.double.specs.Bound.{Light, Inside, per_metre, Tenth, Answered, reach}
use Rattle.double.proofs.Laws.Examples.{arithmetic}
use Rattle.double.proofs.Laws.Modulus.{close_first, close_second}
use Rattle.double.proofs.Laws.Bound.{at_exact, polynomial_near}

-- ---- at the centre the answer is the double next to a0: 1.2e-10 m off on Krasovsky's ellipsoid, so that no bound nearer than that is true
abbrev a_table : List ℤ
a_table = a_coefficients (constants Krasovsky)

centre_near : Tenth unit 6 (value (horner (doubles unit a_table) (real nought)).re) (exact a_table (values (real nought))).first
unfolding arithmetic horner doubles nearest_double magnitude value exact double_unit constants a_coefficients
centre_near = record { bound = lit≤ tt }

-- ---- from parts in 2 ^ 53 to 10 ^ -7
within : (x q t : ℕ) → 2 ^ 53 * x ≤ q * t → q * per_metre ≤ 2 ^ 53 → per_metre * x ≤ t
within x q t h f =
    le_of_mul-le-mul_left {k = 2 ^ 53}
    (le_trans (le_of_eq (mul_left_comm (2 ^ 53) (per_metre) x)) (le_trans (mul-le-mul_left (per_metre) h) (le_trans (le_of_eq (sym (mul_assoc (per_metre) q t) ∙ ap (λ (i : ℕ). i * t) (mul_comm (per_metre) q))) (mul-le-mul_right t f))))
    (pow_pos 53)

enough : (n : ℕ) → n ≤ 9 → (n * 8 * 8000002 + 8000010) * per_metre ≤ 2 ^ 53
enough n h = omega arith

-- ---- any table of at most ten coefficients over D that weighs at most 8,000,000
pub tenth : (D : ℕ) (c : ℤ) (cs : List ℤ) (z : Pair) (m : ℕ) → Light D c cs m 8000000 → Inside z m → Answered D c cs z (horner (doubles D (c ∷ cs)) z)
tenth D c cs z m light inside =
    let p = polynomial_near D c cs z m 8000000 (lit< tt) light inside in
    let q = length cs * 8 * 8000002 + 8000010 in
    let t = D * double_unit ^ suc (length cs) in
    let r = horner (doubles D (c ∷ cs)) z in
    let e : at double_unit (c ∷ cs) (values z) ≡ exact (c ∷ cs) (values z) = at_exact (c ∷ cs) (values z) in
    let close = subst (λ (w : scaled.Pair). Close (values r ⊙ (D * double_unit ^ length cs)) (w ⊙ double_unit) (q * t)) e p.close in
    record {
      numbers = p.numbers;
      first = record { bound = within (nat_abs (value r.re *ℤ pos (D * double_unit ^ length cs) -ℤ (exact (c ∷ cs) (values z)).first *ℤ pos double_unit)) q t (close_first close) (enough (length cs) light.few) };
      second = record { bound = within (nat_abs (value r.im *ℤ pos (D * double_unit ^ length cs) -ℤ (exact (c ∷ cs) (values z)).second *ℤ pos double_unit)) q t (close_second close) (enough (length cs) light.few) };
    }

-- ---- parts of at most 1.2
reach_covers : 288 * (double_unit * double_unit) ≤ 100 * (reach * reach)
unfolding reach double_unit
reach_covers = lit≤ tt

pub small_inside : (z : Pair) → Numbers z → Small (values z) → Inside z reach
small_inside z Z s = record {
  numbers = Z;
  modulus = record {
    squares = le_of_mul-le-mul_left {k = 100} (le_trans (go (nat_abs (value z.re)) (nat_abs (value z.im)) double_unit s.first s.second) reach_covers) (lit< tt);
  };
}
  where
    part : (a u : ℕ) → 10 * a ≤ 12 * u → 100 * (a * a) ≤ 144 * (u * u)
    part a u h = le_trans (le_of_eq (mul-mul-mul_comm 10 10 a a)) (le_trans (mul-le-mul h h) (le_of_eq (mul-mul-mul_comm 12 u 12 u)))

    go : (a b u : ℕ) → 10 * a ≤ 12 * u → 10 * b ≤ 12 * u → 100 * (a * a + b * b) ≤ 288 * (u * u)
    go a b u h k = let x = part a u h in let y = part b u k in omega arith

-- ---- what the rules owe of a step: "a tenth of a micrometre", for parts of at most 1.2
pub near_exact : (c : ℤ) (cs : List ℤ) (z : Pair) → Numbers z → Light unit c cs reach 8000000 → NearExact c cs (values z) (values (horner (doubles unit (c ∷ cs)) z))
near_exact c cs z Z light = record {
  first = λ s. record { bound = (tenth unit c cs z reach light (small_inside z Z s)).first.bound };
  second = λ s. record { bound = (tenth unit c cs z reach light (small_inside z Z s)).second.bound };
}
