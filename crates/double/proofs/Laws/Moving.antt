-- How far the exact polynomial moves when z moves, over any table, and the same polynomial over another denominator. Assumes nothing.
use Rattle.std.specs.Prelude.{◌≡◌, refl, List, [], ◌∷◌, ℕ, zero, suc, ◌+◌, ◌*◌, ◌^◌, length, ℤ, pos, nat_abs, ◌+ℤ◌, ◌-ℤ◌, ◌*ℤ◌}
use Rattle.std.proofs.Common.{sym, ap, ap₂, ◌∙◌, subst, zero-le, le_of_eq, pow-suc, one-mul, zero-mul, arith}
use Rattle.std.proofs.Math.Nat.{pow-zero}
use Rattle.arith.specs.Laws.Order.{abs_mul}
use Rattle.arith.specs.Laws.Ring.{ring, Z·ring, by_ring, ev_num}
use Rattle.rules.specs.Scaled.{Pair, derivative, weighted}
use Rattle.double.specs.Pairs.{◌⊝◌, ◌⊙◌, Modulus}
use Rattle.double.specs.Exact.{at, weight}
use Rattle.double.proofs.Laws.Modulus.{same_pair, modulus_more, modulus_add, modulus_mul}
use Rattle.double.proofs.Laws.Horner.{at_size}

-- ---- the derivative's table
pub length_weighted : (k : ℕ) (cs : List ℤ) → length (weighted k cs) ≡ length cs
unfolding weighted
length_weighted k [] = refl
length_weighted k (c ∷ cs) = ap suc (length_weighted (suc k) cs)

weighted_suc : (u k : ℕ) (cs : List ℤ) (m : ℕ) → weight u (weighted (suc k) cs) m ≡ weight u (weighted k cs) m + weight u cs m
unfolding weight weighted
weighted_suc u k [] m = refl
weighted_suc u k (c ∷ cs) m =
    let p = u ^ length cs in
    let a : nat_abs (pos (suc k) *ℤ c) * u ^ length (weighted (suc (suc k)) cs) ≡ suc k * nat_abs c * p = ap₂ ◌*◌ (abs_mul (pos (suc k)) c) (ap (λ (n : ℕ). u ^ n) (length_weighted (suc (suc k)) cs)) in
    let b : nat_abs (pos k *ℤ c) * u ^ length (weighted (suc k) cs) ≡ k * nat_abs c * p = ap₂ ◌*◌ (abs_mul (pos k) c) (ap (λ (n : ℕ). u ^ n) (length_weighted (suc k) cs)) in
    go k (nat_abs c) p m (weight u (weighted (suc (suc k)) cs) m) (weight u (weighted (suc k) cs) m) (weight u cs m) (nat_abs (pos (suc k) *ℤ c) * u ^ length (weighted (suc (suc k)) cs)) (nat_abs (pos k *ℤ c) * u ^ length (weighted (suc k) cs)) a b (weighted_suc u (suc k) cs m)
  where
    go : (k c p m x y w a b : ℕ) → a ≡ suc k * c * p → b ≡ k * c * p → x ≡ y + w → a + x * m ≡ b + y * m + (c * p + w * m)
    go k c p m x y w a b e f g = let h = ap (λ (i : ℕ). i * m) g in omega arith

weighted_one : (u : ℕ) (cs : List ℤ) (m : ℕ) → weight u (weighted 1 cs) m ≡ weight u cs m + weight u (derivative cs) m * m
unfolding weight weighted derivative
weighted_one u [] m = omega arith
weighted_one u (c ∷ cs) m =
    let a : nat_abs (pos 1 *ℤ c) * u ^ length (weighted 2 cs) ≡ nat_abs c * u ^ length cs = ap₂ ◌*◌ (abs_mul (pos 1) c ∙ one-mul (nat_abs c)) (ap (λ (n : ℕ). u ^ n) (length_weighted 2 cs)) in
    go (nat_abs (pos 1 *ℤ c) * u ^ length (weighted 2 cs)) (nat_abs c * u ^ length cs) (weight u (weighted 2 cs) m) (weight u (weighted 1 cs) m) (weight u cs m) m a (weighted_suc u 1 cs m)
  where
    go : (a b x y w m : ℕ) → a ≡ b → x ≡ y + w → a + x * m ≡ b + w * m + y * m
    go a b x y w m e f = let h = ap (λ (i : ℕ). i * m) f in omega arith

-- ---- |P(z) - P(w)| ≤ weight of the derivative · |z - w|, for z and w over one u and of moduli at most m
pub moves : (u : ℕ) (cs : List ℤ) (z w : Pair) (m d : ℕ) → Modulus z m → Modulus w m → Modulus (z ⊝ w) d → Modulus (at u cs z ⊝ at u cs w) (weight u (derivative cs) m * d)
unfolding at derivative
moves u [] z w m d a b h = record { squares = zero-le }
moves u (c ∷ cs) z w m d a b h =
    let k = c *ℤ pos (u ^ length cs) in
    let A = at u cs z in
    let B = at u cs w in
    modulus_more (weight u (weighted 1 cs) m * d) (le_of_eq (go m (weight u (derivative cs) m) d (weight u cs m) (weight u (weighted 1 cs) m) (weighted_one u cs m)))
    (subst (λ (x : Pair). Modulus x (m * (weight u (derivative cs) m * d) + d * weight u cs m))
    (same_pair (first k z.first z.second w.first w.second A.first A.second B.first B.second) (second z.first z.second w.first w.second A.first A.second B.first B.second))
    (modulus_add (modulus_mul a (moves u cs z w m d a b h)) (modulus_mul h (at_size u cs w m b))))
  where
    go : (m s d w t : ℕ) → t ≡ w + s * m → m * (s * d) + d * w ≡ t * d
    go m s d w t e = let h = ap (λ (i : ℕ). i * d) e in omega arith

    first : (k x y p q a b e f : ℤ) → x *ℤ (a -ℤ e) -ℤ y *ℤ (b -ℤ f) +ℤ ((x -ℤ p) *ℤ e -ℤ (y -ℤ q) *ℤ f) ≡ k +ℤ (x *ℤ a -ℤ y *ℤ b) -ℤ (k +ℤ (p *ℤ e -ℤ q *ℤ f))
    first k x y p q a b e f = ring (k ∷ x ∷ y ∷ p ∷ q ∷ a ∷ b ∷ e ∷ f ∷ []) λ ρ ek ex ey ep eq ea eb ee ef. simp (Z·ring, ek, ex, ey, ep, eq, ea, eb, ee, ef) (by_ring _ _ _ refl)

    second : (x y p q a b e f : ℤ) → x *ℤ (b -ℤ f) +ℤ y *ℤ (a -ℤ e) +ℤ ((x -ℤ p) *ℤ f +ℤ (y -ℤ q) *ℤ e) ≡ x *ℤ b +ℤ y *ℤ a -ℤ (p *ℤ f +ℤ q *ℤ e)
    second x y p q a b e f = ring (x ∷ y ∷ p ∷ q ∷ a ∷ b ∷ e ∷ f ∷ []) λ ρ ex ey ep eq ea eb ee ef. simp (Z·ring, ex, ey, ep, eq, ea, eb, ee, ef) (by_ring _ _ _ refl)

-- ---- over u · v in place of u
power_product : (u v n : ℕ) → (u * v) ^ n ≡ u ^ n * v ^ n
power_product u v zero = pow-zero (u * v) ∙ sym (ap₂ ◌*◌ (pow-zero u) (pow-zero v))
power_product u v (suc n) =
    pow-suc (u * v) n ∙ ap (λ (x : ℕ). x * (u * v)) (power_product u v n) ∙ go (u ^ n) (v ^ n) u v ∙ sym (ap₂ ◌*◌ (pow-suc u n) (pow-suc v n))
  where
    go : (a b u v : ℕ) → a * b * (u * v) ≡ a * u * (b * v)
    go a b u v = omega arith

pub at_scaled : (u v : ℕ) (cs : List ℤ) (z : Pair) → at (u * v) cs (z ⊙ v) ⊙ v ≡ at u cs z ⊙ v ^ length cs
unfolding at
at_scaled u v [] z = same_pair (zero (pos v) (pos (v ^ 0))) (zero (pos v) (pos (v ^ 0)))
  where
    zero : (a b : ℤ) → pos 0 *ℤ a ≡ pos 0 *ℤ b
    zero a b = ring (a ∷ b ∷ []) λ ρ ea eb. simp (Z·ring, ev_num ρ, ea, eb) (by_ring _ _ _ refl)
at_scaled u v (c ∷ cs) z =
    let n = length cs in
    let A = at (u * v) cs (z ⊙ v) in
    let B = at u cs z in
    let h = at_scaled u v cs z in
    let e : pos ((u * v) ^ n) ≡ pos (u ^ n) *ℤ pos (v ^ n) = ap pos (power_product u v n) in
    let f : pos (v ^ suc n) ≡ pos (v ^ n) *ℤ pos v = ap pos (pow-suc v n) in
    same_pair
    (first c (pos ((u * v) ^ n)) (pos (u ^ n)) (pos (v ^ n)) (pos v) (pos (v ^ suc n)) z.first z.second A.first A.second B.first B.second e f (ap (λ (p : Pair). p.first) h) (ap (λ (p : Pair). p.second) h))
    (second (pos (v ^ n)) (pos v) (pos (v ^ suc n)) z.first z.second A.first A.second B.first B.second f (ap (λ (p : Pair). p.first) h) (ap (λ (p : Pair). p.second) h))
  where
    open_first : (c P v x y a b : ℤ) → (c *ℤ P +ℤ (x *ℤ v *ℤ a -ℤ y *ℤ v *ℤ b)) *ℤ v ≡ c *ℤ P *ℤ v +ℤ v *ℤ (x *ℤ (a *ℤ v) -ℤ y *ℤ (b *ℤ v))
    open_first c P v x y a b = ring (c ∷ P ∷ v ∷ x ∷ y ∷ a ∷ b ∷ []) λ ρ ec e_p ev ex ey ea eb. simp (Z·ring, ec, e_p, ev, ex, ey, ea, eb) (by_ring _ _ _ refl)

    close_first : (c p q v x y e f : ℤ) → c *ℤ (p *ℤ q) *ℤ v +ℤ v *ℤ (x *ℤ (e *ℤ q) -ℤ y *ℤ (f *ℤ q)) ≡ (c *ℤ p +ℤ (x *ℤ e -ℤ y *ℤ f)) *ℤ (q *ℤ v)
    close_first c p q v x y e f = ring (c ∷ p ∷ q ∷ v ∷ x ∷ y ∷ e ∷ f ∷ []) λ ρ ec ep eq ev ex ey ee ef. simp (Z·ring, ec, ep, eq, ev, ex, ey, ee, ef) (by_ring _ _ _ refl)

    first : (c P p q v r x y a b e f : ℤ) → P ≡ p *ℤ q → r ≡ q *ℤ v → a *ℤ v ≡ e *ℤ q → b *ℤ v ≡ f *ℤ q → (c *ℤ P +ℤ (x *ℤ v *ℤ a -ℤ y *ℤ v *ℤ b)) *ℤ v ≡ (c *ℤ p +ℤ (x *ℤ e -ℤ y *ℤ f)) *ℤ r
    first c P p q v r x y a b e f h_p hr ha hb =
        open_first c P v x y a b
        ∙ ap (λ (t : ℤ). c *ℤ t *ℤ v +ℤ v *ℤ (x *ℤ (a *ℤ v) -ℤ y *ℤ (b *ℤ v))) h_p
        ∙ ap₂ (λ (s t : ℤ). c *ℤ (p *ℤ q) *ℤ v +ℤ v *ℤ (x *ℤ s -ℤ y *ℤ t)) ha hb
        ∙ close_first c p q v x y e f
        ∙ ap (λ (t : ℤ). (c *ℤ p +ℤ (x *ℤ e -ℤ y *ℤ f)) *ℤ t) (sym hr)

    open_second : (v x y a b : ℤ) → (x *ℤ v *ℤ b +ℤ y *ℤ v *ℤ a) *ℤ v ≡ v *ℤ (x *ℤ (b *ℤ v) +ℤ y *ℤ (a *ℤ v))
    open_second v x y a b = ring (v ∷ x ∷ y ∷ a ∷ b ∷ []) λ ρ ev ex ey ea eb. simp (Z·ring, ev, ex, ey, ea, eb) (by_ring _ _ _ refl)

    close_second : (q v x y e f : ℤ) → v *ℤ (x *ℤ (f *ℤ q) +ℤ y *ℤ (e *ℤ q)) ≡ (x *ℤ f +ℤ y *ℤ e) *ℤ (q *ℤ v)
    close_second q v x y e f = ring (q ∷ v ∷ x ∷ y ∷ e ∷ f ∷ []) λ ρ eq ev ex ey ee ef. simp (Z·ring, eq, ev, ex, ey, ee, ef) (by_ring _ _ _ refl)

    second : (q v r x y a b e f : ℤ) → r ≡ q *ℤ v → a *ℤ v ≡ e *ℤ q → b *ℤ v ≡ f *ℤ q → (x *ℤ v *ℤ b +ℤ y *ℤ v *ℤ a) *ℤ v ≡ (x *ℤ f +ℤ y *ℤ e) *ℤ r
    second q v r x y a b e f hr ha hb =
        open_second v x y a b ∙ ap₂ (λ (s t : ℤ). v *ℤ (x *ℤ t +ℤ y *ℤ s)) ha hb ∙ close_second q v x y e f ∙ ap (λ (t : ℤ). (x *ℤ f +ℤ y *ℤ e) *ℤ t) (sym hr)

pub weight_scaled : (u v : ℕ) (cs : List ℤ) (m : ℕ) → weight (u * v) cs (m * v) * v ≡ weight u cs m * v ^ length cs
unfolding weight
weight_scaled u v [] m = zero-mul v ∙ sym (zero-mul (v ^ 0))
weight_scaled u v (c ∷ cs) m =
    let n = length cs in
    go (nat_abs c) ((u * v) ^ n) (u ^ n) (v ^ n) v (v ^ suc n) m (weight (u * v) cs (m * v)) (weight u cs m) (power_product u v n) (pow-suc v n) (weight_scaled u v cs m)
  where
    go : (c P p q v r m x y : ℕ) → P ≡ p * q → r ≡ q * v → x * v ≡ y * q → (c * P + x * (m * v)) * v ≡ (c * p + y * m) * r
    go c P p q v r m x y e f g =
        let h = ap (λ (i : ℕ). c * i * v) e in
        let k = ap (λ (i : ℕ). (c * p + y * m) * i) f in
        let l = ap (λ (i : ℕ). i * m * v) g in
        omega arith
