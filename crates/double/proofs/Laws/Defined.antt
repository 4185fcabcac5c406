-- The polynomial in doubles against the definition's own value: its floors, the step from its z to the doubles' z, and the doubles' rounding, in one law. Assumes nothing.
use Rattle.std.specs.Prelude.{◌≡◌, refl, List, [], ◌∷◌, ℕ, suc, ◌+◌, ◌*◌, ◌^◌, ◌≤◌, ◌<◌, length, ℤ, pos, nat_abs, ◌+ℤ◌, ◌-ℤ◌, ◌*ℤ◌}
use Rattle.std.proofs.Common.{sym, ap, ap₂, ◌∙◌, subst, le_trans, le_of_eq, mul_comm, mul-le-mul_right, le_of_mul-le-mul_right, mul-pos, add-le-add, pow-suc, arith, lit≤, lit<}
use Rattle.std.proofs.Math.Nat.{one-le-pow}
use Rattle.arith.specs.Laws.Order.{abs_add, abs_mul, abs_sub_comm}
use Rattle.arith.specs.Laws.Ring.{ring, Z·ring, by_ring}
use Rattle.rules.specs.Scaled as scaled
use Rattle.rules.specs.Scaled.{unit, polynomial, derivative, weighted}
use Rattle.rules.specs.Polynomial.{double_unit, exact}
use Rattle.double.specs.declared.Pair.{Pair}
use Rattle.double.specs.Value.{value}
use Rattle.double.specs.Complex.{horner, values}
use Rattle.double.specs.Pairs.{◌⊝◌, ◌⊙◌, Modulus}
use Rattle.double.specs.Exact.{at, weight, doubles}
use Rattle.double.specs.Bound.{Light, Inside, Gentle, Apart, Defined}
use Rattle.double.proofs.Laws.Modulus.{same_pair, modulus_more, modulus_times, modulus_over, modulus_first, modulus_second}
use Rattle.double.proofs.Laws.Horner.{double_unit_pow_pos}
use Rattle.double.proofs.Laws.Bound.{at_exact}
use Rattle.double.proofs.Laws.Moving.{length_weighted, moves, at_scaled, weight_scaled}
use Rattle.double.proofs.Laws.Floored.{floored}
use Rattle.double.proofs.Laws.Promise.{tenth}

-- ---- the exact polynomial at the doubles' z over 2 ^ 1074, and at the definition's over 10 ^ 24
slope_small : (w u t s v p q e : ℕ) → w * u ≡ v * q → v * t ≤ s * (t * p) → w * e * (t * u) ≤ s * e * (p * q) * t
slope_small w u t s v p q e h k =
    le_trans (le_of_eq (a w u t e)) (le_trans (le_of_eq (ap (λ (i : ℕ). i * e * t) h)) (le_trans (le_of_eq (b v q e t)) (le_trans (mul-le-mul_right (q * e) k) (le_of_eq (c s t p q e)))))
  where
    a : (w u t e : ℕ) → w * e * (t * u) ≡ w * u * e * t
    a w u t e = omega arith

    b : (v q e t : ℕ) → v * q * e * t ≡ v * t * (q * e)
    b v q e t = omega arith

    c : (s t p q e : ℕ) → s * (t * p) * (q * e) ≡ s * e * (p * q) * t
    c s t p q e = omega arith

pub between : (c : ℤ) (cs : List ℤ) (v w : scaled.Pair) (m s e : ℕ) → Modulus (v ⊙ unit) (m * double_unit) → Modulus w m → Modulus (v ⊙ unit ⊝ w ⊙ double_unit) e
    → weight unit (derivative (c ∷ cs)) m * unit ≤ s * (unit * unit ^ length cs)
    → Modulus (at double_unit (c ∷ cs) v ⊙ (unit ^ length cs * double_unit) ⊝ at unit (c ∷ cs) w ⊙ (double_unit ^ length cs * double_unit)) (s * e * (unit ^ length cs * double_unit ^ length cs))
unfolding derivative
between c cs v w m s e G H h k =
    let n = length cs in
    let T = unit in
    let U = double_unit in
    let p = T ^ n in
    let q = U ^ n in
    let l = c ∷ cs in
    let X = at (T * U) l (v ⊙ T) in
    let Y = at (T * U) l (w ⊙ U) in
    let x : X ⊙ T ≡ at U l v ⊙ T ^ suc n = ap (λ (i : ℕ). at i l (v ⊙ T) ⊙ T) (mul_comm T U) ∙ at_scaled U T l v in
    let y : Y ⊙ U ≡ at T l w ⊙ U ^ suc n = at_scaled T U l w in
    let d = weight (T * U) (weighted 1 cs) (m * U) in
    let f : d * U ≡ weight T (weighted 1 cs) m * q = weight_scaled T U (weighted 1 cs) m ∙ ap (λ (i : ℕ). weight T (weighted 1 cs) m * U ^ i) (length_weighted 1 cs) in
    let g : Modulus ((X ⊝ Y) ⊙ (T * U)) (d * e * (T * U)) = modulus_times (T * U) (moves (T * U) l (v ⊙ T) (w ⊙ U) (m * U) e G (modulus_times U H) h) in
    modulus_over (s * e * (p * q)) T (lit< tt)
    (modulus_more (s * e * (p * q) * T) (slope_small d U T s (weight T (weighted 1 cs) m) p q e f k)
    (subst (λ (z : scaled.Pair). Modulus z (d * e * (T * U)))
    (same_pair
    (part X.first Y.first (at U l v).first (at T l w).first (pos T) (pos U) (pos p) (pos q) (pos (T ^ suc n)) (pos (U ^ suc n)) (ap pos (pow-suc T n)) (ap pos (pow-suc U n)) (ap (λ (z : scaled.Pair). z.first) x) (ap (λ (z : scaled.Pair). z.first) y))
    (part X.second Y.second (at U l v).second (at T l w).second (pos T) (pos U) (pos p) (pos q) (pos (T ^ suc n)) (pos (U ^ suc n)) (ap pos (pow-suc T n)) (ap pos (pow-suc U n)) (ap (λ (z : scaled.Pair). z.second) x) (ap (λ (z : scaled.Pair). z.second) y)))
    g))
  where
    open_it : (x y t u : ℤ) → (x -ℤ y) *ℤ (t *ℤ u) ≡ x *ℤ t *ℤ u -ℤ y *ℤ u *ℤ t
    open_it x y t u = ring (x ∷ y ∷ t ∷ u ∷ []) λ ρ ex ey et eu. simp (Z·ring, ex, ey, et, eu) (by_ring _ _ _ refl)

    close_it : (a b t u p q : ℤ) → a *ℤ (p *ℤ t) *ℤ u -ℤ b *ℤ (q *ℤ u) *ℤ t ≡ (a *ℤ (p *ℤ u) -ℤ b *ℤ (q *ℤ u)) *ℤ t
    close_it a b t u p q = ring (a ∷ b ∷ t ∷ u ∷ p ∷ q ∷ []) λ ρ ea eb et eu ep eq. simp (Z·ring, ea, eb, et, eu, ep, eq) (by_ring _ _ _ refl)

    part : (x y a b t u p q r s : ℤ) → r ≡ p *ℤ t → s ≡ q *ℤ u → x *ℤ t ≡ a *ℤ r → y *ℤ u ≡ b *ℤ s → (x -ℤ y) *ℤ (t *ℤ u) ≡ (a *ℤ (p *ℤ u) -ℤ b *ℤ (q *ℤ u)) *ℤ t
    part x y a b t u p q r s hr hs hx hy =
        open_it x y t u ∙ ap₂ (λ (i j : ℤ). i *ℤ u -ℤ j *ℤ t) (hx ∙ ap (λ (i : ℤ). a *ℤ i) hr) (hy ∙ ap (λ (i : ℤ). b *ℤ i) hs) ∙ close_it a b t u p q

-- ---- the three errors together: r in units of 2 ^ -1074, a and b exact at the two z, q the definition's value
sum_up : (d x y z t u p v s e l : ℕ) → d * (p * v) ≤ x * p + y + z * (v * u) → 10 ^ 7 * x ≤ t * (v * u) → y ≤ s * e * (p * v) → z ≤ l * p → 10 ^ 7 * d * (p * v) ≤ (t * u + 10 ^ 7 * (s * e + l * u)) * (p * v)
sum_up d x y z t u p v s e l w h k i = let a = mul-le-mul_right p h in let b = mul-le-mul_right (v * u) i in omega arith

three : (r q a b : ℤ) (t u p v s e l : ℕ) → 0 < p * v → 10 ^ 7 * nat_abs (r *ℤ pos (t * v) -ℤ a *ℤ pos u) ≤ t * (v * u) → nat_abs (a *ℤ pos (p * u) -ℤ b *ℤ pos (v * u)) ≤ s * e * (p * v) → nat_abs (q *ℤ pos p -ℤ b) ≤ l * p
    → 10 ^ 7 * nat_abs (r *ℤ pos t -ℤ q *ℤ pos u) ≤ t * u + 10 ^ 7 * (s * e + l * u)
three r q a b t u p v s e l P h k i =
    le_of_mul-le-mul_right
    (sum_up (nat_abs (r *ℤ pos t -ℤ q *ℤ pos u)) (nat_abs (r *ℤ pos (t * v) -ℤ a *ℤ pos u)) (nat_abs (a *ℤ pos (p * u) -ℤ b *ℤ pos (v * u))) (nat_abs (q *ℤ pos p -ℤ b)) t u p v s e l total h k i)
    P
  where
    law : (r q a b t u p v : ℤ) → (r *ℤ t -ℤ q *ℤ u) *ℤ (p *ℤ v) ≡ (r *ℤ (t *ℤ v) -ℤ a *ℤ u) *ℤ p +ℤ (a *ℤ (p *ℤ u) -ℤ b *ℤ (v *ℤ u)) +ℤ (b -ℤ q *ℤ p) *ℤ (v *ℤ u)
    law r q a b t u p v = ring (r ∷ q ∷ a ∷ b ∷ t ∷ u ∷ p ∷ v ∷ []) λ ρ er eq ea eb et eu ep ev. simp (Z·ring, er, eq, ea, eb, et, eu, ep, ev) (by_ring _ _ _ refl)

    total : nat_abs (r *ℤ pos t -ℤ q *ℤ pos u) * (p * v) ≤ nat_abs (r *ℤ pos (t * v) -ℤ a *ℤ pos u) * p + nat_abs (a *ℤ pos (p * u) -ℤ b *ℤ pos (v * u)) + nat_abs (q *ℤ pos p -ℤ b) * (v * u)
    total =
        let x = (r *ℤ pos (t * v) -ℤ a *ℤ pos u) *ℤ pos p in
        let y = a *ℤ pos (p * u) -ℤ b *ℤ pos (v * u) in
        let z = (b -ℤ q *ℤ pos p) *ℤ pos (v * u) in
        le_trans (le_of_eq (sym (abs_mul (r *ℤ pos t -ℤ q *ℤ pos u) (pos (p * v))) ∙ ap nat_abs (law r q a b (pos t) (pos u) (pos p) (pos v))))
        (le_trans (abs_add (x +ℤ y) z) (add-le-add (le_trans (abs_add x y) (le_of_eq (ap (λ (j : ℕ). j + nat_abs y) (abs_mul (r *ℤ pos (t * v) -ℤ a *ℤ pos u) (pos p))))) (le_of_eq (abs_mul (b -ℤ q *ℤ pos p) (pos (v * u)) ∙ ap (λ (j : ℕ). j * (v * u)) (abs_sub_comm b (q *ℤ pos p))))))

-- ---- the law, over any table
pub defined : (c : ℤ) (cs : List ℤ) (z : Pair) (w : scaled.Pair) (m m' s l e : ℕ) → Light unit c cs m 8000000 → Inside z m → Gentle c cs m' s l → Modulus w m' → m * unit ≤ m' * double_unit → Apart z w e
    → Defined (c ∷ cs) w (horner (doubles unit (c ∷ cs)) z) s l e
defined c cs z w m m' s l e light inside gentle W wide apart =
    let n = length cs in
    let r = horner (doubles unit (c ∷ cs)) z in
    let A = at double_unit (c ∷ cs) (values z) in
    let B = at unit (c ∷ cs) w in
    let Q = polynomial (c ∷ cs) w in
    let P : 0 < unit ^ n * double_unit ^ n = mul-pos (one-le-pow n unit (lit≤ tt)) (double_unit_pow_pos n) in
    let t = tenth unit c cs z m light inside in
    let x : exact (c ∷ cs) (values z) ≡ A = sym (at_exact (c ∷ cs) (values z)) in
    let u : double_unit ^ suc n ≡ double_unit ^ n * double_unit = pow-suc double_unit n in
    let moved = between c cs (values z) w m' s e (modulus_more (m' * double_unit) wide (modulus_times unit inside.modulus)) W apart.apart gentle.slope in
    let down = floored c cs w m' l W gentle.floors in
    let one : 10 ^ 7 * nat_abs (value r.re *ℤ pos (unit * double_unit ^ n) -ℤ A.first *ℤ pos double_unit) ≤ unit * (double_unit ^ n * double_unit) =
    subst (λ (y : scaled.Pair). 10 ^ 7 * nat_abs (value r.re *ℤ pos (unit * double_unit ^ n) -ℤ y.first *ℤ pos double_unit) ≤ unit * (double_unit ^ n * double_unit)) x (le_trans t.first.bound (le_of_eq (ap (λ (i : ℕ). unit * i) u))) in
    let two : 10 ^ 7 * nat_abs (value r.im *ℤ pos (unit * double_unit ^ n) -ℤ A.second *ℤ pos double_unit) ≤ unit * (double_unit ^ n * double_unit) =
    subst (λ (y : scaled.Pair). 10 ^ 7 * nat_abs (value r.im *ℤ pos (unit * double_unit ^ n) -ℤ y.second *ℤ pos double_unit) ≤ unit * (double_unit ^ n * double_unit)) x (le_trans t.second.bound (le_of_eq (ap (λ (i : ℕ). unit * i) u))) in
    record {
      first = three (value r.re) Q.first A.first B.first unit double_unit (unit ^ n) (double_unit ^ n) s e l P one (modulus_first moved) (modulus_first down);
      second = three (value r.im) Q.second A.second B.second unit double_unit (unit ^ n) (double_unit ^ n) s e l P two (modulus_second moved) (modulus_second down);
    }
