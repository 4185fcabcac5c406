-- The tables of document 01 meet the conditions, for parts of z at most 1.2, by computation; and what the polynomials with them owe. Assumes nothing.
use Rattle.std.specs.Prelude.{List, [], ◌∷◌, ℕ, ◌+◌, ◌*◌, ◌^◌, ◌≤◌, ℤ, nat_abs}
use Rattle.std.proofs.Common.{le_trans, le_of_eq, mul-le-mul, arith, lit≤, lit<}
use Rattle.std.proofs.Math.Nat.{le_of_mul-le-mul_left, mul-mul-mul_comm}
use Rattle.rules.specs.Scaled as scaled
use Rattle.rules.specs.Scaled.{unit, derivative, weighted}
use Rattle.rules.specs.Systems.{Ellipsoid, GRS_80, Krasovsky, constants, a_coefficients, b_coefficients}
use Rattle.rules.specs.Polynomial.{double_unit, NearExact}
use Rattle.double.specs.declared.Pair.{Pair}
use Rattle.double.specs.Complex.{horner, Numbers, values}
use Rattle.double.specs.Pairs.{Modulus}
use Rattle.double.specs.Exact.{weight, lost, doubles}
use Rattle.double.specs.Bound.{LightTable, GentleTable, Inside, Apart, Defined, reach, reach_24}
use Rattle.double.proofs.Laws.Promise.{near_exact}
use Rattle.double.proofs.Laws.Defined.{defined}

-- ---- parts of at most 1.2, over 10 ^ 24
pub small_reach : (w : scaled.Pair) → 10 * nat_abs w.first ≤ 12 * unit → 10 * nat_abs w.second ≤ 12 * unit → Modulus w reach_24
small_reach w h k = record { squares = le_of_mul-le-mul_left {k = 100} (le_trans (go (nat_abs w.first) (nat_abs w.second) unit h k) (lit≤ tt)) (lit< tt) }
  where
    part : (a u : ℕ) → 10 * a ≤ 12 * u → 100 * (a * a) ≤ 144 * (u * u)
    part a u h = le_trans (le_of_eq (mul-mul-mul_comm 10 10 a a)) (le_trans (mul-le-mul h h) (le_of_eq (mul-mul-mul_comm 12 u 12 u)))

    go : (a b u : ℕ) → 10 * a ≤ 12 * u → 10 * b ≤ 12 * u → 100 * (a * a + b * b) ≤ 288 * (u * u)
    go a b u h k = let x = part a u h in let y = part b u k in omega arith

-- ---- the conditions, by computation
reach_one : double_unit ≤ reach
unfolding reach double_unit
reach_one = lit≤ tt

reach_small : reach ≤ 2 ^ 90 * double_unit
unfolding reach double_unit
reach_small = lit≤ tt

reach_less : reach * unit ≤ reach_24 * double_unit
unfolding reach double_unit
reach_less = lit≤ tt

pub forward_light : (e : Ellipsoid) → LightTable unit (a_coefficients (constants e)) reach 8000000
unfolding a_coefficients derivative weighted constants weight reach double_unit
forward_light GRS_80 = record { over = lit< tt; few = lit≤ tt; one = reach_one; not_huge = reach_small; weighs = lit≤ tt }
forward_light Krasovsky = record { over = lit< tt; few = lit≤ tt; one = reach_one; not_huge = reach_small; weighs = lit≤ tt }

pub forward_gentle : (e : Ellipsoid) → GentleTable (a_coefficients (constants e)) reach_24 500500 2100000
unfolding a_coefficients derivative weighted constants weight lost
forward_gentle GRS_80 = record { slope = lit≤ tt; floors = lit≤ tt }
forward_gentle Krasovsky = record { slope = lit≤ tt; floors = lit≤ tt }

pub inverse_light : (e : Ellipsoid) → LightTable unit (b_coefficients (constants e)) reach 8000000
unfolding b_coefficients derivative weighted constants weight reach double_unit
inverse_light GRS_80 = record { over = lit< tt; few = lit≤ tt; one = reach_one; not_huge = reach_small; weighs = lit≤ tt }
inverse_light Krasovsky = record { over = lit< tt; few = lit≤ tt; one = reach_one; not_huge = reach_small; weighs = lit≤ tt }

pub inverse_gentle : (e : Ellipsoid) → GentleTable (b_coefficients (constants e)) reach_24 500500 2100000
unfolding b_coefficients derivative weighted constants weight lost
inverse_gentle GRS_80 = record { slope = lit≤ tt; floors = lit≤ tt }
inverse_gentle Krasovsky = record { slope = lit≤ tt; floors = lit≤ tt }

pub derivative_light : (e : Ellipsoid) → LightTable unit (derivative (a_coefficients (constants e))) reach 8000000
unfolding a_coefficients derivative weighted constants weight reach double_unit
derivative_light GRS_80 = record { over = lit< tt; few = lit≤ tt; one = reach_one; not_huge = reach_small; weighs = lit≤ tt }
derivative_light Krasovsky = record { over = lit< tt; few = lit≤ tt; one = reach_one; not_huge = reach_small; weighs = lit≤ tt }

pub derivative_gentle : (e : Ellipsoid) → GentleTable (derivative (a_coefficients (constants e))) reach_24 150 1000
unfolding a_coefficients derivative weighted constants weight lost
derivative_gentle GRS_80 = record { slope = lit≤ tt; floors = lit≤ tt }
derivative_gentle Krasovsky = record { slope = lit≤ tt; floors = lit≤ tt }

-- ---- any table that meets them
of_table : (cs : List ℤ) (s l : ℕ) → LightTable unit cs reach 8000000 → GentleTable cs reach_24 s l → (z : Pair) (w : scaled.Pair) (e : ℕ) → Inside z reach → Modulus w reach_24 → Apart z w e → Defined cs w (horner (doubles unit cs) z) s l e
of_table [] s l light gentle z w e i m a = absurd light
of_table (c ∷ cs) s l light gentle z w e i m a = defined c cs z w reach reach_24 s l e light i gentle m reach_less a

-- ---- "a tenth of a micrometre", "of the exact value of the same polynomial at the same f64 inputs, for parts of z at most 1.2 in size"
abbrev pub NearExactTable : List ℤ → Pair → Pair → Type 0
NearExactTable [] z answer = Unit
NearExactTable (c ∷ cs) z answer = NearExact c cs (values z) (values answer)

pub tenth_table : (cs : List ℤ) → LightTable unit cs reach 8000000 → (z : Pair) → Numbers z → NearExactTable cs z (horner (doubles unit cs) z)
tenth_table [] light z Z = tt
tenth_table (c ∷ cs) light z Z = near_exact c cs z Z light

-- of each step that the code has
pub forward_tenth : (k : Ellipsoid) (z : Pair) → Numbers z → NearExactTable (a_coefficients (constants k)) z (horner (doubles unit (a_coefficients (constants k))) z)
forward_tenth k = tenth_table (a_coefficients (constants k)) (forward_light k)

pub inverse_tenth : (k : Ellipsoid) (z : Pair) → Numbers z → NearExactTable (b_coefficients (constants k)) z (horner (doubles unit (b_coefficients (constants k))) z)
inverse_tenth k = tenth_table (b_coefficients (constants k)) (inverse_light k)

pub derivative_tenth : (k : Ellipsoid) (z : Pair) → Numbers z → NearExactTable (derivative (a_coefficients (constants k))) z (horner (doubles unit (derivative (a_coefficients (constants k)))) z)
derivative_tenth k = tenth_table (derivative (a_coefficients (constants k))) (derivative_light k)

-- ---- "a0 + a1·z + .. + a6·z^6", its derivative, and the b polynomial, for z and w of parts at most 1.2 that are e apart
pub forward_defined : (k : Ellipsoid) (z : Pair) (w : scaled.Pair) (e : ℕ) → Inside z reach → Modulus w reach_24 → Apart z w e → Defined (a_coefficients (constants k)) w (horner (doubles unit (a_coefficients (constants k))) z) 500500 2100000 e
forward_defined k = of_table (a_coefficients (constants k)) 500500 2100000 (forward_light k) (forward_gentle k)

pub inverse_defined : (k : Ellipsoid) (z : Pair) (w : scaled.Pair) (e : ℕ) → Inside z reach → Modulus w reach_24 → Apart z w e → Defined (b_coefficients (constants k)) w (horner (doubles unit (b_coefficients (constants k))) z) 500500 2100000 e
inverse_defined k = of_table (b_coefficients (constants k)) 500500 2100000 (inverse_light k) (inverse_gentle k)

pub derivative_defined : (k : Ellipsoid) (z : Pair) (w : scaled.Pair) (e : ℕ) → Inside z reach → Modulus w reach_24 → Apart z w e → Defined (derivative (a_coefficients (constants k))) w (horner (doubles unit (derivative (a_coefficients (constants k)))) z) 150 1000 e
derivative_defined k = of_table (derivative (a_coefficients (constants k))) 150 1000 (derivative_light k) (derivative_gentle k)
