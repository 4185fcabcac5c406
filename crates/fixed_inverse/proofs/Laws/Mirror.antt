-- The definition's inverse at -q against that at q: B is the same, and d is the opposite to within ten units of 10^-24 in radians, since each floor goes down on
-- either side of 0. So the worked numbers, which take a size and put the sign on last, owe no more on one side than on the other. Assumes nothing.
use Rattle.std.specs.Prelude.{true, ◌≡◌, refl, List, [], ◌∷◌, ℕ, ◌+◌, ◌*◌, ◌/◌, ◌^◌, ◌<◌, ◌≤◌, ℤ, neg_ℤ, ◌+ℤ◌, ◌-ℤ◌, ◌*ℤ◌, nat_abs}
use Rattle.std.proofs.Common.{sym, ap, subst, le_trans, le_of_eq, le_of_mul-le-mul_right, mul-le-mul_left, arith, lit<, lit≤}
use Rattle.std.proofs.Math.IntN.{pos}
use Rattle.arith.specs.Laws.Order.{abs_mul}
use Rattle.arith.specs.Laws.Ring.{ring, Z·ring, by_ring}
use Rattle.arith.specs.Within.{Within}
use Rattle.arith.specs.Laws.Within.{w_num, w_add, w_sub, w_neg, w_mul}
use Rattle.rules.specs.Units.{half_turn_in_ticks}
use Rattle.rules.specs.Scaled.{unit, Pi, product, quotient, summed, alternating, odd_fractions, fractions, arctan, turned_to, cosine, hyperbolic_sine, hyperbolic_cosine, hyperbolic_sine_coefficients, hyperbolic_cosine_coefficients}
use Rattle.rules.specs.Systems.{Constants}
use Rattle.rules.specs.Projection.{inverse_from}
use Rattle.fixed.specs.Nearness.{Ratio, turned}
use Rattle.fixed.proofs.Laws.Bounds.{w_div, w_same, w_up, w_floor}
use Rattle.fixed.proofs.Laws.Products.{product_rest}
use Rattle.fixed.proofs.Laws.Quotients.{ratio_div, ratio_high}
use Rattle.fixed.specs.Laws.Series.{rest_b}
use Rattle.fixed.proofs.Laws.Series.{alt_rest}
use Rattle.fixed.proofs.Laws.Turned.{turned_square}

square_even : (x : ℤ) → product (neg_ℤ x) (neg_ℤ x) ≡ product x x
unfolding turned
square_even x = turned_square true x

-- ---- B: q enters by its square alone
cosh_even : (q : ℤ) → hyperbolic_cosine (neg_ℤ q) ≡ hyperbolic_cosine q
unfolding hyperbolic_cosine
cosh_even q = ap (λ z. summed z hyperbolic_cosine_coefficients) (square_even q)

pub latitude_even : (k : Constants) (p q : ℤ) → (inverse_from k p (neg_ℤ q)).B ≡ (inverse_from k p q).B
unfolding inverse_from
latitude_even k p q = rw cosh_even refl

-- ---- d. sinh is odd to within 2
sinh_odd : (q : ℤ) → Within (hyperbolic_sine (neg_ℤ q) +ℤ hyperbolic_sine q) 2
unfolding hyperbolic_sine
sinh_odd q = subst (λ y. Within (product (neg_ℤ q) (summed y hyperbolic_sine_coefficients) +ℤ product q (summed (product q q) hyperbolic_sine_coefficients)) 2) (sym (square_even q)) (opposite q (summed (product q q) hyperbolic_sine_coefficients))
  where
    opposite : (x n : ℤ) → Within (product (neg_ℤ x) n +ℤ product x n) 2
    opposite x n = w_div (product (neg_ℤ x) n +ℤ product x n) unit _ (lit< tt) (w_same _ (law x n (product (neg_ℤ x) n) (product x n) (pos unit)) (w_neg (w_add (product_rest (neg_ℤ x) n) (product_rest x n))))
      where
        law : (x n a b U : ℤ) → neg_ℤ ((neg_ℤ x *ℤ n -ℤ a *ℤ U) +ℤ (x *ℤ n -ℤ b *ℤ U)) ≡ (a +ℤ b) *ℤ U
        law x n a b U = ring (x ∷ n ∷ a ∷ b ∷ U ∷ []) λ ρ e1 e2 e3 e4 e5. simp (Z·ring, e1, e2, e3, e4, e5) (by_ring _ _ _ refl)

-- two quotients by one divisor y, of numbers whose sum is within j of 0
ratio_sum : {w v x z y : ℤ} (j m : ℕ) → Ratio w x y 1 → Ratio v z y 1 → Within (x +ℤ z) j → j * unit ≤ m * nat_abs y → 0 < nat_abs y → Within (w +ℤ v) (2 + m)
ratio_sum {w} {v} {x} {z} {y} j m r q h k l = record {
  within = le_of_mul-le-mul_right (le_trans (le_of_eq (sym (abs_mul (w +ℤ v) y))) (le_trans (w_same _ (law w v x z y (pos unit)) (w_add (w_add r.gap q.gap) (w_mul h (w_num unit)))).within (fin (nat_abs y) k))) l;
}
  where
    law : (w v x z y U : ℤ) → (w *ℤ y -ℤ x *ℤ U) +ℤ (v *ℤ y -ℤ z *ℤ U) +ℤ (x +ℤ z) *ℤ U ≡ (w +ℤ v) *ℤ y
    law w v x z y U = ring (w ∷ v ∷ x ∷ z ∷ y ∷ U ∷ []) λ ρ e1 e2 e3 e4 e5 e6. simp (Z·ring, e1, e2, e3, e4, e5, e6) (by_ring _ _ _ refl)

    fin : (n : ℕ) → j * unit ≤ m * n → 1 * n + 1 * n + j * unit ≤ (2 + m) * n
    fin n a = omega arith

-- a series at two arguments up to h that are k apart
unfoldable move_e : ℕ → ℕ → List ℤ → ℕ
move_e h k [] = 0
move_e h k (c ∷ cs) = (h * move_e h k cs + k * rest_b h cs + (1 * unit + 1 * unit)) / unit

move : {x y : ℤ} {h k : ℕ} (cs : List ℤ) → Within x h → Within y h → Within (x -ℤ y) k → Within (alternating x cs -ℤ alternating y cs) (move_e h k cs)
unfolding alternating move_e
move [] wx wy d = w_num 0
move {x} {y} (c ∷ cs) wx wy d =
    w_same _ (flip c (product x (alternating x cs)) (product y (alternating y cs)))
    (w_neg (w_div (product x (alternating x cs) -ℤ product y (alternating y cs)) unit _ (lit< tt)
    (w_same _ (law x y (alternating x cs) (alternating y cs) (product x (alternating x cs)) (product y (alternating y cs)) (pos unit))
    (w_sub (w_add (w_mul wx (move cs wx wy d)) (w_mul d (alt_rest cs wy))) (w_sub (product_rest x (alternating x cs)) (product_rest y (alternating y cs)))))))
  where
    flip : (c a b : ℤ) → neg_ℤ (a -ℤ b) ≡ (c -ℤ a) -ℤ (c -ℤ b)
    flip c a b = ring (c ∷ a ∷ b ∷ []) λ ρ e1 e2 e3. simp (Z·ring, e1, e2, e3) (by_ring _ _ _ refl)

    law : (x y a b p q U : ℤ) → x *ℤ (a -ℤ b) +ℤ (x -ℤ y) *ℤ b -ℤ ((x *ℤ a -ℤ p *ℤ U) -ℤ (y *ℤ b -ℤ q *ℤ U)) ≡ (p -ℤ q) *ℤ U
    law x y a b p q U = ring (x ∷ y ∷ a ∷ b ∷ p ∷ q ∷ U ∷ []) λ ρ e1 e2 e3 e4 e5 e6 e7. simp (Z·ring, e1, e2, e3, e4, e5, e6, e7) (by_ring _ _ _ refl)

-- the arc tangents of two numbers up to 0.26 whose sum is within 6 of 0
module _ {t v : ℤ} (wt : Within t (26 * unit / 100)) (wv : Within v (26 * unit / 100)) (s : Within (v +ℤ t) 6) where
  squares : Within (product v v -ℤ product t t) 6
  squares = w_up _ (lit≤ tt) (w_div (product v v -ℤ product t t) unit _ (lit< tt) (w_same _ (law v t (product v v) (product t t) (pos unit)) (w_sub (w_mul s (w_sub wv wt)) (w_sub (product_rest v v) (product_rest t t)))))
    where
      law : (v t a b U : ℤ) → (v +ℤ t) *ℤ (v -ℤ t) -ℤ ((v *ℤ v -ℤ a *ℤ U) -ℤ (t *ℤ t -ℤ b *ℤ U)) ≡ (a -ℤ b) *ℤ U
      law v t a b U = ring (v ∷ t ∷ a ∷ b ∷ U ∷ []) λ ρ e1 e2 e3 e4 e5. simp (Z·ring, e1, e2, e3, e4, e5) (by_ring _ _ _ refl)

  square_most : {x : ℤ} → Within x (26 * unit / 100) → Within (product x x) (7 * unit / 100)
  unfolding product
  square_most w = w_up _ (lit≤ tt) (w_floor unit (lit< tt) (w_mul w w))

  arctan_odd : Within (arctan v +ℤ arctan t) 11
  unfolding arctan odd_fractions fractions move_e rest_b
  arctan_odd =
      let n = alternating (product t t) odd_fractions in
      let m = alternating (product v v) odd_fractions in
      let d = move odd_fractions (square_most wv) (square_most wt) squares in
      w_up _ (lit≤ tt) (w_div (product v m +ℤ product t n) unit _ (lit< tt)
      (w_same _ (law v t m n (product v m) (product t n) (pos unit)) (w_sub (w_sub (w_mul s (alt_rest odd_fractions (square_most wv))) (w_mul wt d)) (w_add (product_rest v m) (product_rest t n)))))
    where
      law : (v t m n a b U : ℤ) → (v +ℤ t) *ℤ m -ℤ t *ℤ (m -ℤ n) -ℤ ((v *ℤ m -ℤ a *ℤ U) +ℤ (t *ℤ n -ℤ b *ℤ U)) ≡ (a +ℤ b) *ℤ U
      law v t m n a b U = ring (v ∷ t ∷ m ∷ n ∷ a ∷ b ∷ U ∷ []) λ ρ e1 e2 e3 e4 e5 e6 e7. simp (Z·ring, e1, e2, e3, e4, e5, e6, e7) (by_ring _ _ _ refl)

-- for cos p of at least 1/2 and sinh q of at most 1/8 in size: d at -q and d at q sum to less than 3e-12 tick
module _ (k : Constants) (p q : ℤ) (large : unit / 2 ≤ nat_abs (cosine p)) (small : Within (hyperbolic_sine q) (unit / 8)) where
  divisor : 0 < nat_abs (cosine p)
  divisor = le_trans (lit≤ tt) large

  tangent : Within (quotient (hyperbolic_sine q) (cosine p)) (26 * unit / 100)
  tangent = w_up _ (lit≤ tt) (ratio_high (unit / 2) (ratio_div (hyperbolic_sine q) (cosine p) divisor) small large (lit< tt))

  opposite_small : Within (hyperbolic_sine (neg_ℤ q)) (unit / 8 + 2)
  opposite_small = w_same _ (law (hyperbolic_sine (neg_ℤ q)) (hyperbolic_sine q)) (w_up _ (sum (unit / 8)) (w_sub (sinh_odd q) small))
    where
      law : (a b : ℤ) → (a +ℤ b) -ℤ b ≡ a
      law a b = ring (a ∷ b ∷ []) λ ρ e1 e2. simp (Z·ring, e1, e2) (by_ring _ _ _ refl)

      sum : (x : ℕ) → 2 + x ≤ x + 2
      sum x = omega arith

  opposite : Within (quotient (hyperbolic_sine (neg_ℤ q)) (cosine p)) (26 * unit / 100)
  opposite = w_up _ (lit≤ tt) (ratio_high (unit / 2) (ratio_div (hyperbolic_sine (neg_ℤ q)) (cosine p) divisor) opposite_small large (lit< tt))

  tangents : Within (quotient (hyperbolic_sine (neg_ℤ q)) (cosine p) +ℤ quotient (hyperbolic_sine q) (cosine p)) 6
  tangents = ratio_sum 2 4 (ratio_div (hyperbolic_sine (neg_ℤ q)) (cosine p) divisor) (ratio_div (hyperbolic_sine q) (cosine p) divisor) (sinh_odd q) (le_trans (lit≤ tt) (mul-le-mul_left 4 large)) divisor

  pub difference_odd : Within ((inverse_from k p (neg_ℤ q)).d +ℤ (inverse_from k p q).d) (3 * 10 ^ 12)
  unfolding inverse_from turned_to
  difference_odd =
      w_up _ (lit≤ tt)
      (ratio_sum (11 * half_turn_in_ticks) (23 * 10 ^ 11) (ratio_div (arctan (quotient (hyperbolic_sine (neg_ℤ q)) (cosine p)) *ℤ pos half_turn_in_ticks) (pos Pi) (lit< tt)) (ratio_div (arctan (quotient (hyperbolic_sine q) (cosine p)) *ℤ pos half_turn_in_ticks) (pos Pi) (lit< tt)) angles (lit≤ tt) (lit< tt))
    where
      angles : Within (arctan (quotient (hyperbolic_sine (neg_ℤ q)) (cosine p)) *ℤ pos half_turn_in_ticks +ℤ arctan (quotient (hyperbolic_sine q) (cosine p)) *ℤ pos half_turn_in_ticks) (11 * half_turn_in_ticks)
      angles = w_same _ (law (arctan (quotient (hyperbolic_sine (neg_ℤ q)) (cosine p))) (arctan (quotient (hyperbolic_sine q) (cosine p))) (pos half_turn_in_ticks)) (w_mul (arctan_odd tangent opposite tangents) (w_num half_turn_in_ticks))
        where
          law : (a b h : ℤ) → (a +ℤ b) *ℤ h ≡ a *ℤ h +ℤ b *ℤ h
          law a b h = ring (a ∷ b ∷ h ∷ []) λ ρ e1 e2 e3. simp (Z·ring, e1, e2, e3) (by_ring _ _ _ refl)
