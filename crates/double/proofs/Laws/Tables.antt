-- The doubles that stand for a table of quotients of whole numbers: each is the nearest, and what that does to the polynomial. Assumes nothing.
use Rattle.std.specs.Prelude.{◌≡◌, Bool, List, [], ◌∷◌, ℕ, zero, suc, ◌+◌, ◌*◌, ◌^◌, ◌≤◌, ◌<◌, length, ℤ, pos, negsuc, nat_abs, ◌+ℤ◌, ◌-ℤ◌, ◌*ℤ◌, Float}
use Rattle.std.proofs.Math.Path.{refl}
use Rattle.std.proofs.Common.{sym, ap, ◌∙◌, subst, zero-le, le_trans, le_of_eq, one-mul, zero-mul, mul_assoc, mul-le-mul_right, le-add_left, le-add_right, add-le-add, pow-suc, suc-mul, arith}
use Rattle.std.proofs.Math.Bool.{true, false}
use Rattle.std.proofs.Math.Nat.{pow-zero, pow-le-pow_left}
use Rattle.std.specs.Float.{binary64}
use Rattle.std.specs.Float.Ieee.{round}
use Rattle.arith.specs.Laws.Integers.{neg-*ℤ}
use Rattle.arith.specs.Laws.Ring.{ring, Z·ring, by_ring, ev_num}
use Rattle.arith.specs.Laws.Order.{abs_mul}
use Rattle.rules.specs.Scaled.{Pair}
use Rattle.rules.specs.Polynomial.{double_unit}
use Rattle.double.specs.Value.{limit, signed, value, Number, plus, minus, Near}
use Rattle.double.specs.Pairs.{◌⊗◌, ◌⊙◌, ◌⊞◌, Modulus, Close}
use Rattle.double.specs.Exact.{at, weight, nearest_double, doubles, table_values}
use Rattle.double.proofs.Laws.Operations.{round_number, signed_near}
use Rattle.double.proofs.Laws.Rounding.{grid, grid_near}
use Rattle.double.proofs.Laws.Nearness.{near_refl, near_more, near_add, near_abs, near_mul}
use Rattle.double.proofs.Laws.Modulus.{same_pair, close_parts, close_trans, close_mul, close_add}
use Rattle.double.proofs.Laws.Horner.{Fine}

-- ---- one coefficient: the double d is within half a unit of its last place, and half a unit of 2 ^ -1074, of c / D
pub record Stands (D : ℕ) (c : ℤ) (d : Float) : Type 0 where
  pub number : Number d
  pub near : Near (value d *ℤ pos D) (c *ℤ pos double_unit) (nat_abs c * double_unit + 2 ^ 52 * D)

module _ (D : ℕ) (P : 0 < D) where
  rounded : (s : Bool) (n : ℕ) (c : ℤ) → c *ℤ pos double_unit ≡ signed s (n * double_unit) → nat_abs c ≡ n → n * double_unit + 2 ^ 52 * D < 2 * limit * D → Stands D c (round binary64 s n D)
  rounded s n c e f l =
      let q = n * double_unit + 2 ^ 52 * D in
      let a = le-add_right (n * double_unit) (2 ^ 52 * D) in
      let b = le-add_left (2 ^ 52 * D) (n * double_unit) in
      let r = round_number s n D q P a b l in
      let g = grid (n * double_unit) D in
      record {
        number = r.0;
        near = subst (λ (k : ℕ). Near (value (round binary64 s n D) *ℤ pos D) (c *ℤ pos double_unit) (k * double_unit + 2 ^ 52 * D)) (sym f)
            (signed_near s (g * D) (n * double_unit) q (value (round binary64 s n D) *ℤ pos D) (c *ℤ pos double_unit) (ap (λ (z : ℤ). z *ℤ pos D) r.1 ∙ times s g) (subst (λ (x : ℤ). plus x + minus (signed s (n * double_unit)) ≡ plus (signed s (n * double_unit)) + minus x) (sym e) refl) (grid_near (n * double_unit) D q P a b));
      }
    where
      times : (s : Bool) (g : ℕ) → signed s g *ℤ pos D ≡ signed s (g * D)
      times true g = neg-*ℤ (pos g) (pos D)
      times false g = refl

  pub stands : (c : ℤ) → nat_abs c * double_unit + 2 ^ 52 * D < 2 * limit * D → Stands D c (nearest_double D c)
  unfolding nearest_double
  stands (pos n) l = rounded false n (pos n) refl refl l
  stands (negsuc n) l = rounded true (suc n) (negsuc n) refl refl l

-- ---- the table: every coefficient stands for its quotient
abbrev pub Table : ℕ → List ℤ → Type 0
Table D [] = Unit
Table D (c ∷ cs) = Stands D c (nearest_double D c) × Table D cs

pub fine : (D : ℕ) (cs : List ℤ) → Table D cs → Fine (doubles D cs)
unfolding doubles
fine D [] t = tt
fine D (c ∷ cs) t = (t.0.number, fine D cs t.1)

pub length_doubles : (D : ℕ) (cs : List ℤ) → length (table_values (doubles D cs)) ≡ length cs
unfolding doubles table_values
length_doubles D [] = refl
length_doubles D (c ∷ cs) = ap suc (length_doubles D cs)

-- u ^ n + u ^ (n - 1) · m + .. + m ^ n, of n + 1 terms
unfoldable pub floors : ℕ → ℕ → ℕ → ℕ
floors u m zero = 0
floors u m (suc n) = u ^ n + floors u m n * m

pub floors_le : (u m n : ℕ) → u ≤ m → floors u m (suc n) ≤ suc n * m ^ n
unfolding floors
floors_le u m zero h = le_of_eq (go (u ^ 0) (0 * m) (1 * m ^ 0) (pow-zero u) (zero-mul m) (one-mul (m ^ 0) ∙ pow-zero m))
  where
    go : (a b c : ℕ) → a ≡ 1 → b ≡ 0 → c ≡ 1 → a + b ≡ c
    go a b c e f g = omega arith
floors_le u m (suc n) h =
    let i : (u ^ n + floors u m n * m) * m ≤ suc n * m ^ suc n = le_trans (mul-le-mul_right m (floors_le u m n h)) (le_of_eq (mul_assoc (suc n) (m ^ n) m ∙ ap (λ (k : ℕ). suc n * k) (sym (pow-suc m n)))) in
    le_trans (add-le-add (pow-le-pow_left h (suc n)) i) (le_of_eq (sym (suc-mul (suc n) (m ^ suc n) ∙ swap (suc n * m ^ suc n) (m ^ suc n))))
  where
    swap : (a b : ℕ) → a + b ≡ b + a
    swap a b = omega arith

-- ---- the exact polynomial of the doubles is that of the quotients, but for one part of its weight
more_error : (c u k d p w f m : ℕ) → (c * u + k * d) * p + (w * u + k * d * f) * m ≡ (c * p + w * m) * u + k * d * (p + f * m)
more_error c u k d p w f m = omega arith

pub table_close : (D : ℕ) (cs : List ℤ) (z : Pair) (m : ℕ) → Modulus z m → Table D cs
    → Close (at double_unit (table_values (doubles D cs)) z ⊙ D) (at double_unit cs z ⊙ double_unit) (weight double_unit cs m * double_unit + 2 ^ 52 * D * floors double_unit m (length cs))
unfolding at weight doubles table_values floors
table_close D [] z m M t = record { far = subst (λ (x : Pair). Modulus x (0 * double_unit + 2 ^ 52 * D * 0)) (same_pair (none (pos D) (pos double_unit) (pos (2 ^ 53))) (none (pos D) (pos double_unit) (pos (2 ^ 53)))) (record { squares = zero-le }) }
  where
    none : (d u k : ℤ) → pos 0 ≡ (pos 0 *ℤ d -ℤ pos 0 *ℤ u) *ℤ k
    none d u k = ring (d ∷ u ∷ k ∷ []) λ ρ ed eu ek. simp (Z·ring, ev_num ρ, ed, eu, ek) (by_ring _ _ _ refl)
table_close D (c ∷ cs) z m M t =
    let v = value (nearest_double D c) in
    let p = double_unit ^ length cs in
    let A = at double_unit (table_values (doubles D cs)) z in
    let B = at double_unit cs z in
    let e = weight double_unit cs m * double_unit + 2 ^ 52 * D * floors double_unit m (length cs) in
    let one : Close ((v *ℤ pos D *ℤ pos p) ⊞ (z ⊗ (A ⊙ D))) ((c *ℤ pos double_unit *ℤ pos p) ⊞ (z ⊗ (A ⊙ D))) ((nat_abs c * double_unit + 2 ^ 52 * D) * p) = close_real (z ⊗ (A ⊙ D)) (near_mul (pos p) t.0.near) in
    let two : Close ((c *ℤ pos double_unit *ℤ pos p) ⊞ (z ⊗ (A ⊙ D))) ((c *ℤ pos double_unit *ℤ pos p) ⊞ (z ⊗ (B ⊙ double_unit))) (e * m) = close_add (c *ℤ pos double_unit *ℤ pos p) (close_mul z (table_close D cs z m M t.1) M) in
    subst (λ (x : Pair). Close (((v *ℤ pos (double_unit ^ length (table_values (doubles D cs)))) ⊞ (z ⊗ A)) ⊙ D) x (weight double_unit (c ∷ cs) m * double_unit + 2 ^ 52 * D * floors double_unit m (suc (length cs)))) (scale c double_unit p z B)
    (subst (λ (n : ℕ). Close (((v *ℤ pos (double_unit ^ n)) ⊞ (z ⊗ A)) ⊙ D) ((c *ℤ pos double_unit *ℤ pos p) ⊞ (z ⊗ (B ⊙ double_unit))) (weight double_unit (c ∷ cs) m * double_unit + 2 ^ 52 * D * floors double_unit m (suc (length cs)))) (sym (length_doubles D cs))
    (subst (λ (x : Pair). Close x ((c *ℤ pos double_unit *ℤ pos p) ⊞ (z ⊗ (B ⊙ double_unit))) (weight double_unit (c ∷ cs) m * double_unit + 2 ^ 52 * D * floors double_unit m (suc (length cs)))) (scale v D p z A)
    (subst (λ (q : ℕ). Close ((v *ℤ pos D *ℤ pos p) ⊞ (z ⊗ (A ⊙ D))) ((c *ℤ pos double_unit *ℤ pos p) ⊞ (z ⊗ (B ⊙ double_unit))) q) (more_error (nat_abs c) double_unit (2 ^ 52) D p (weight double_unit cs m) (floors double_unit m (length cs)) m) (close_trans one two))))
  where
    scale : (k : ℤ) (n p : ℕ) (z A : Pair) → (k *ℤ pos n *ℤ pos p) ⊞ (z ⊗ (A ⊙ n)) ≡ ((k *ℤ pos p) ⊞ (z ⊗ A)) ⊙ n
    scale k n p z A = same_pair (first k (pos n) (pos p) z.first z.second A.first A.second) (second (pos n) z.first z.second A.first A.second)
      where
        first : (k n p x y a b : ℤ) → k *ℤ n *ℤ p +ℤ (x *ℤ (a *ℤ n) -ℤ y *ℤ (b *ℤ n)) ≡ (k *ℤ p +ℤ (x *ℤ a -ℤ y *ℤ b)) *ℤ n
        first k n p x y a b = ring (k ∷ n ∷ p ∷ x ∷ y ∷ a ∷ b ∷ []) λ ρ ek en ep ex ey ea eb. simp (Z·ring, ek, en, ep, ex, ey, ea, eb) (by_ring _ _ _ refl)

        second : (n x y a b : ℤ) → x *ℤ (b *ℤ n) +ℤ y *ℤ (a *ℤ n) ≡ (x *ℤ b +ℤ y *ℤ a) *ℤ n
        second n x y a b = ring (n ∷ x ∷ y ∷ a ∷ b ∷ []) λ ρ en ex ey ea eb. simp (Z·ring, en, ex, ey, ea, eb) (by_ring _ _ _ refl)

    near_shift : {k k' : ℤ} {q : ℕ} (a : ℤ) → Near k k' q → Near (k +ℤ a) (k' +ℤ a) q
    near_shift {k} {k'} {q} a h = near_more q (omega arith) (near_add h (near_refl a 0))

    close_real : {k k' : ℤ} {q : ℕ} (p : Pair) → Near k k' q → Close (k ⊞ p) (k' ⊞ p) q
    close_real {k} {k'} {q} p h = close_parts q (near_shift p.first h) (near_refl p.second 0) (omega arith)

-- ---- and the doubles weigh what the quotients do, but for one part
weigh_more : (v d c u k p x w f m : ℕ) → 2 ^ 53 * (v * d) ≤ 2 ^ 53 * (c * u) + (c * u + k * d) → 2 ^ 53 * (x * d) ≤ 2 ^ 53 * (w * u) + (w * u + k * d * f)
    → 2 ^ 53 * ((v * p + x * m) * d) ≤ 2 ^ 53 * ((c * p + w * m) * u) + ((c * p + w * m) * u + k * d * (p + f * m))
weigh_more v d c u k p x w f m g h = let a = mul-le-mul_right p g in let b = mul-le-mul_right m h in omega arith

pub table_weight : (D : ℕ) (cs : List ℤ) (m : ℕ) → Table D cs
    → 2 ^ 53 * (weight double_unit (table_values (doubles D cs)) m * D) ≤ 2 ^ 53 * (weight double_unit cs m * double_unit) + (weight double_unit cs m * double_unit + 2 ^ 52 * D * floors double_unit m (length cs))
unfolding weight doubles table_values floors
table_weight D [] m t = omega arith
table_weight D (c ∷ cs) m t =
    let v = value (nearest_double D c) in
    let h : 2 ^ 53 * (nat_abs v * D) ≤ 2 ^ 53 * (nat_abs c * double_unit) + (nat_abs c * double_unit + 2 ^ 52 * D) =
    subst (λ (k : ℕ). 2 ^ 53 * k ≤ 2 ^ 53 * (nat_abs c * double_unit) + (nat_abs c * double_unit + 2 ^ 52 * D)) (abs_mul v (pos D))
    (subst (λ (k : ℕ). 2 ^ 53 * nat_abs (v *ℤ pos D) ≤ 2 ^ 53 * k + (nat_abs c * double_unit + 2 ^ 52 * D)) (abs_mul c (pos double_unit)) (near_abs t.0.near)) in
    subst (λ (n : ℕ). 2 ^ 53 * ((nat_abs v * double_unit ^ n + weight double_unit (table_values (doubles D cs)) m * m) * D) ≤ 2 ^ 53 * ((nat_abs c * double_unit ^ length cs + weight double_unit cs m * m) * double_unit) + ((nat_abs c * double_unit ^ length cs + weight double_unit cs m * m) * double_unit + 2 ^ 52 * D * (double_unit ^ length cs + floors double_unit m (length cs) * m))) (sym (length_doubles D cs))
    (weigh_more (nat_abs v) D (nat_abs c) double_unit (2 ^ 52) (double_unit ^ length cs) (weight double_unit (table_values (doubles D cs)) m) (weight double_unit cs m) (floors double_unit m (length cs)) m h (table_weight D cs m t.1))
