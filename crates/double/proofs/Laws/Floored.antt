-- The definition's polynomial, by powers of z with products that go down to the next whole number, against the exact one at the same z. Assumes nothing.
use Rattle.std.specs.Prelude.{◌≡◌, refl, List, [], ◌∷◌, ℕ, suc, ◌+◌, ◌*◌, ◌^◌, ◌≤◌, ◌<◌, length, ℤ, pos, nat_abs, ◌+ℤ◌, ◌-ℤ◌, ◌*ℤ◌}
use Rattle.std.proofs.Common.{sym, ap, ◌∙◌, subst, zero-le, le_trans, le_of_eq, add-le-add, mul_assoc, pow-suc, arith, lit<}
use Rattle.arith.specs.Laws.Diff.{Z·ℕ, lin}
use Rattle.arith.specs.Laws.Floor.{floor_rest_abs}
use Rattle.arith.specs.Laws.Order.{abs_add, abs_sub}
use Rattle.arith.specs.Laws.Ring.{ring, Z·ring, by_ring, ev_num}
use Rattle.rules.specs.Scaled.{unit, one, product, Pair, plus, times, polynomial_from, polynomial}
use Rattle.double.specs.Pairs.{◌⊝◌, ◌⊗◌, ◌⊙◌, Modulus}
use Rattle.double.specs.Exact.{at, weight, lost}
use Rattle.double.proofs.Laws.Modulus.{same_pair, modulus_more, modulus_add, modulus_mul, modulus_times, modulus_over, modulus_parts}
use Rattle.double.proofs.Laws.Horner.{at_size}

-- a product loses less than one unit
rest : (a b : ℤ) → nat_abs (product a b *ℤ pos unit -ℤ a *ℤ b) ≤ unit
unfolding product
rest a b = go (product a b *ℤ pos unit) (a *ℤ b) (floor_rest_abs (a *ℤ b) unit (lit< tt))
  where
    go : (q n : ℤ) → nat_abs (n -ℤ q) < unit → nat_abs (q -ℤ n) ≤ unit
    go q n = lin (q ∷ n ∷ []) λ u v eq en. simp (Z·ℕ, eq, en) (omega arith)

-- c · p, gone down
coefficient_lost : (c : ℤ) (p : Pair) → Modulus ((record { first = product c p.first; second = product c p.second }) ⊙ unit ⊝ record { first = c *ℤ p.first; second = c *ℤ p.second }) (2 * unit)
coefficient_lost c p = modulus_more (2 * unit) (omega arith) (modulus_parts _ unit unit (rest c p.first) (rest c p.second))

-- p · z, gone down
apart : (a b x y : ℤ) (t r : ℕ) → nat_abs (a *ℤ pos t -ℤ x) ≤ r → nat_abs (b *ℤ pos t -ℤ y) ≤ r → nat_abs ((a -ℤ b) *ℤ pos t -ℤ (x -ℤ y)) ≤ r + r
apart a b x y t r h k = le_trans (le_of_eq (ap nat_abs (law a b x y (pos t)))) (le_trans (abs_sub (a *ℤ pos t -ℤ x) (b *ℤ pos t -ℤ y)) (add-le-add h k))
  where
    law : (a b x y t : ℤ) → (a -ℤ b) *ℤ t -ℤ (x -ℤ y) ≡ a *ℤ t -ℤ x -ℤ (b *ℤ t -ℤ y)
    law a b x y t = ring (a ∷ b ∷ x ∷ y ∷ t ∷ []) λ ρ ea eb ex ey et. simp (Z·ring, ea, eb, ex, ey, et) (by_ring _ _ _ refl)

joined : (a b x y : ℤ) (t r : ℕ) → nat_abs (a *ℤ pos t -ℤ x) ≤ r → nat_abs (b *ℤ pos t -ℤ y) ≤ r → nat_abs ((a +ℤ b) *ℤ pos t -ℤ (x +ℤ y)) ≤ r + r
joined a b x y t r h k = le_trans (le_of_eq (ap nat_abs (law a b x y (pos t)))) (le_trans (abs_add (a *ℤ pos t -ℤ x) (b *ℤ pos t -ℤ y)) (add-le-add h k))
  where
    law : (a b x y t : ℤ) → (a +ℤ b) *ℤ t -ℤ (x +ℤ y) ≡ a *ℤ t -ℤ x +ℤ (b *ℤ t -ℤ y)
    law a b x y t = ring (a ∷ b ∷ x ∷ y ∷ t ∷ []) λ ρ ea eb ex ey et. simp (Z·ring, ea, eb, ex, ey, et) (by_ring _ _ _ refl)

power_lost : (p z : Pair) → Modulus (times p z ⊙ unit ⊝ p ⊗ z) (4 * unit)
unfolding times
power_lost p z =
    modulus_more (4 * unit) (omega arith)
    (modulus_parts (times p z ⊙ unit ⊝ p ⊗ z) (unit + unit) (unit + unit)
    (apart (product p.first z.first) (product p.second z.second) (p.first *ℤ z.first) (p.second *ℤ z.second) unit unit (rest p.first z.first) (rest p.second z.second))
    (joined (product p.first z.second) (product p.second z.first) (p.first *ℤ z.second) (p.second *ℤ z.first) unit unit (rest p.first z.second) (rest p.second z.first)))

-- ---- the polynomial from a power p on
from_lost : (cs : List ℤ) (p z : Pair) (m : ℕ) → Modulus z m → Modulus (polynomial_from p z cs ⊙ unit ^ length cs ⊝ p ⊗ at unit cs z) (lost cs m)
unfolding polynomial_from plus at lost
from_lost [] p z m h = subst (λ (x : Pair). Modulus x 0) (same_pair (first p.first p.second) (second p.first p.second)) (record { squares = zero-le })
  where
    first : (a b : ℤ) → pos 0 ≡ pos 0 -ℤ (a *ℤ pos 0 -ℤ b *ℤ pos 0)
    first a b = ring (a ∷ b ∷ []) λ ρ ea eb. simp (Z·ring, ev_num ρ, ea, eb) (by_ring _ _ _ refl)

    second : (a b : ℤ) → pos 0 ≡ pos 0 -ℤ (a *ℤ pos 0 +ℤ b *ℤ pos 0)
    second a b = ring (a ∷ b ∷ []) λ ρ ea eb. simp (Z·ring, ev_num ρ, ea, eb) (by_ring _ _ _ refl)
from_lost (c ∷ cs) p z m h =
    let n = length cs in
    let t = unit ^ n in
    let A = at unit cs z in
    let q = times p z in
    let k₁ = product c p.first in
    let k₂ = product c p.second in
    let F = polynomial_from q z cs in
    let one = modulus_times t (coefficient_lost c p) in
    let two = modulus_times unit (from_lost cs q z m h) in
    let three = modulus_mul (power_lost p z) (at_size unit cs z m h) in
    let e : pos t *ℤ pos unit ≡ pos (unit ^ suc n) = ap pos (sym (pow-suc unit n)) in
    modulus_more (lost (c ∷ cs) m) (le_of_eq (grown unit t (unit ^ suc n) (lost cs m) (weight unit cs m) (pow-suc unit n)))
    (subst (λ (x : Pair). Modulus x (2 * unit * t + lost cs m * unit + 4 * unit * weight unit cs m))
    (same_pair
    (first p.first p.second z.first z.second c A.first A.second q.first q.second k₁ F.first (pos t) (pos unit) ∙ ap (λ (r : ℤ). (k₁ +ℤ F.first) *ℤ r -ℤ (p.first *ℤ (c *ℤ pos t +ℤ (z.first *ℤ A.first -ℤ z.second *ℤ A.second)) -ℤ p.second *ℤ (z.first *ℤ A.second +ℤ z.second *ℤ A.first))) e)
    (second p.first p.second z.first z.second c A.first A.second q.first q.second k₂ F.second (pos t) (pos unit) ∙ ap (λ (r : ℤ). (k₂ +ℤ F.second) *ℤ r -ℤ (p.first *ℤ (z.first *ℤ A.second +ℤ z.second *ℤ A.first) +ℤ p.second *ℤ (c *ℤ pos t +ℤ (z.first *ℤ A.first -ℤ z.second *ℤ A.second)))) e))
    (modulus_add (modulus_add one two) three))
  where
    grown : (u t r l w : ℕ) → r ≡ t * u → 2 * u * t + l * u + 4 * u * w ≡ 2 * r + u * l + 4 * u * w
    grown u t r l w e = omega arith

    first : (a b x y c d e f g k F t u : ℤ) → (k *ℤ u -ℤ c *ℤ a) *ℤ t +ℤ (F *ℤ t -ℤ (f *ℤ d -ℤ g *ℤ e)) *ℤ u +ℤ ((f *ℤ u -ℤ (a *ℤ x -ℤ b *ℤ y)) *ℤ d -ℤ (g *ℤ u -ℤ (a *ℤ y +ℤ b *ℤ x)) *ℤ e)
        ≡ (k +ℤ F) *ℤ (t *ℤ u) -ℤ (a *ℤ (c *ℤ t +ℤ (x *ℤ d -ℤ y *ℤ e)) -ℤ b *ℤ (x *ℤ e +ℤ y *ℤ d))
    first a b x y c d e f g k F t u = ring (a ∷ b ∷ x ∷ y ∷ c ∷ d ∷ e ∷ f ∷ g ∷ k ∷ F ∷ t ∷ u ∷ []) λ ρ ea eb ex ey ec ed ee ef eg ek e_f et eu. simp (Z·ring, ea, eb, ex, ey, ec, ed, ee, ef, eg, ek, e_f, et, eu) (by_ring _ _ _ refl)

    second : (a b x y c d e f g k F t u : ℤ) → (k *ℤ u -ℤ c *ℤ b) *ℤ t +ℤ (F *ℤ t -ℤ (f *ℤ e +ℤ g *ℤ d)) *ℤ u +ℤ ((f *ℤ u -ℤ (a *ℤ x -ℤ b *ℤ y)) *ℤ e +ℤ (g *ℤ u -ℤ (a *ℤ y +ℤ b *ℤ x)) *ℤ d)
        ≡ (k +ℤ F) *ℤ (t *ℤ u) -ℤ (a *ℤ (x *ℤ e +ℤ y *ℤ d) +ℤ b *ℤ (c *ℤ t +ℤ (x *ℤ d -ℤ y *ℤ e)))
    second a b x y c d e f g k F t u = ring (a ∷ b ∷ x ∷ y ∷ c ∷ d ∷ e ∷ f ∷ g ∷ k ∷ F ∷ t ∷ u ∷ []) λ ρ ea eb ex ey ec ed ee ef eg ek e_f et eu. simp (Z·ring, ea, eb, ex, ey, ec, ed, ee, ef, eg, ek, e_f, et, eu) (by_ring _ _ _ refl)

-- ---- the definition's polynomial lies within l units of 10 ^ -24 of the exact one at the same z, where `lost` is at most l
pub floored : (c : ℤ) (cs : List ℤ) (z : Pair) (m l : ℕ) → Modulus z m → lost (c ∷ cs) m ≤ l * unit ^ suc (length cs)
    → Modulus (polynomial (c ∷ cs) z ⊙ unit ^ length cs ⊝ at unit (c ∷ cs) z) (l * unit ^ length cs)
unfolding polynomial
floored c cs z m l h k =
    let n = length cs in
    let Q = polynomial (c ∷ cs) z in
    let A = at unit (c ∷ cs) z in
    modulus_over (l * unit ^ n) unit (lit< tt)
    (modulus_more (l * unit ^ n * unit) (le_trans k (le_of_eq (ap (λ (i : ℕ). l * i) (pow-suc unit n) ∙ sym (mul_assoc l (unit ^ n) unit))))
    (subst (λ (x : Pair). Modulus x (lost (c ∷ cs) m))
    (same_pair
    (ap (λ (r : ℤ). Q.first *ℤ r -ℤ (pos unit *ℤ A.first -ℤ pos 0 *ℤ A.second)) (ap pos (pow-suc unit n)) ∙ first Q.first (pos (unit ^ n)) (pos unit) A.first A.second)
    (ap (λ (r : ℤ). Q.second *ℤ r -ℤ (pos unit *ℤ A.second +ℤ pos 0 *ℤ A.first)) (ap pos (pow-suc unit n)) ∙ second Q.second (pos (unit ^ n)) (pos unit) A.first A.second))
    (from_lost (c ∷ cs) (record { first = one; second = pos 0 }) z m h)))
  where
    first : (q t u a b : ℤ) → q *ℤ (t *ℤ u) -ℤ (u *ℤ a -ℤ pos 0 *ℤ b) ≡ (q *ℤ t -ℤ a) *ℤ u
    first q t u a b = ring (q ∷ t ∷ u ∷ a ∷ b ∷ []) λ ρ eq et eu ea eb. simp (Z·ring, ev_num ρ, eq, et, eu, ea, eb) (by_ring _ _ _ refl)

    second : (q t u a b : ℤ) → q *ℤ (t *ℤ u) -ℤ (u *ℤ b +ℤ pos 0 *ℤ a) ≡ (q *ℤ t -ℤ b) *ℤ u
    second q t u a b = ring (q ∷ t ∷ u ∷ a ∷ b ∷ []) λ ρ eq et eu ea eb. simp (Z·ring, ev_num ρ, eq, et, eu, ea, eb) (by_ring _ _ _ refl)
