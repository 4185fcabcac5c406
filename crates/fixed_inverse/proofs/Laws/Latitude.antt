-- B by one series: the worked latitude against the definition's f + c2·sin 2f + c4·sin 4f + c6·sin 6f. Assumes nothing.
use Rattle.std.specs.Prelude.{◌≡◌, refl, List, [], ◌∷◌, ℕ, ◌+◌, ◌*◌, ◌/◌, ◌^◌, ◌<◌, ◌≤◌, T, ℤ, ◌+ℤ◌, ◌-ℤ◌, ◌*ℤ◌}
use Rattle.std.proofs.Common.{subst, le_trans, add-le-add, arith, lit<, lit≤}
use Rattle.std.proofs.Math.IntN.{pos}
use Rattle.arith.specs.Laws.Ring.{ring, Z·ring, by_ring, ev_num}
use Rattle.arith.specs.Within.{Within}
use Rattle.arith.specs.Laws.Within.{w_num, w_add, w_sub, w_mul}
use Rattle.rules.specs.Scaled.{unit, product, nested, sine, sine_divisors}
use Rattle.rules.specs.Systems.{Ellipsoid, GRS_80, Krasovsky, constants}
use Rattle.rules.specs.Projection.{latitude_of}
use Rattle.fixed.specs.Worked.{S60, mul60, alt60, odd_alt60}
use Rattle.fixed.specs.Nearness.{Near60, Fixed}
use Rattle.fixed.specs.Relations.{Mul60, Alternating60, falls}
use Rattle.fixed.proofs.Laws.Words.{mul60_is}
use Rattle.fixed.proofs.Laws.Loops.{alt60_is}
use Rattle.fixed.specs.Laws.Series.{top}
use Rattle.fixed.proofs.Laws.Series.{alt_top}
use Rattle.fixed.proofs.Laws.Bounds.{w_div, w_same, w_up, w_pos, w_rest}
use Rattle.fixed.specs.Laws.Products.{mul_e, slack_e}
use Rattle.fixed.proofs.Laws.Products.{near_le, near_add, near_mul, mul_high, mul_rest, product_rest}
use Rattle.fixed.specs.Laws.Nested.{all_positive, nest_b}
use Rattle.fixed_inverse.specs.Worked.{latitude_table, latitude60}
use Rattle.fixed_inverse.specs.Laws.About52.{f_high}
use Rattle.fixed_inverse.proofs.Laws.Waves.{Wave, next, weights, total, Multiple, Close, no_waves, also, total_size, total_b, near_waves, waves_e, reach, turn_e, place_e, head_e}

-- the square of a multiple, against the multiple of the square
unfoldable pub multiple_e : ℕ → ℕ
multiple_e e = e + 2 * S60

multiple : {q e : ℕ} (w : ℤ) (j : ℕ) → 0 < j * j → Near60 q (product w w) e → Multiple q (multiple_e e) (j * j) (product (pos j *ℤ w) (pos j *ℤ w))
unfolding multiple_e
multiple {q} {e} w j h n = record {
  gap = w_up _ (bound (j * j) h) (w_same _ (law (pos q) (pos j) (pos unit) (pos S60) (product w w) (product (pos j *ℤ w) (pos j *ℤ w))) (w_add (w_mul (w_num (j * j)) n.gap) (w_mul (w_num S60) squares)));
}
  where
    apart : Within ((pos (j * j) *ℤ product w w -ℤ product (pos j *ℤ w) (pos j *ℤ w)) *ℤ pos unit) ((1 + j * j) * unit)
    apart = w_up _ (size (j * j)) (w_same _ (law2 (pos j) w (product w w) (product (pos j *ℤ w) (pos j *ℤ w)) (pos unit)) (w_sub (product_rest (pos j *ℤ w) (pos j *ℤ w)) (w_mul (w_num (j * j)) (product_rest w w))))
      where
        size : (m : ℕ) → 1 * unit + m * (1 * unit) ≤ (1 + m) * unit
        size m = omega arith

        law2 : (j w x y U : ℤ) → ((j *ℤ w) *ℤ (j *ℤ w) -ℤ y *ℤ U) -ℤ (j *ℤ j) *ℤ (w *ℤ w -ℤ x *ℤ U) ≡ ((j *ℤ j) *ℤ x -ℤ y) *ℤ U
        law2 j w x y U = ring (j ∷ w ∷ x ∷ y ∷ U ∷ []) λ ρ e1 e2 e3 e4 e5. simp (Z·ring, e1, e2, e3, e4, e5) (by_ring _ _ _ refl)

    squares : Within (pos (j * j) *ℤ product w w -ℤ product (pos j *ℤ w) (pos j *ℤ w)) ((1 + j * j) * unit / unit)
    squares = w_div (pos (j * j) *ℤ product w w -ℤ product (pos j *ℤ w) (pos j *ℤ w)) unit _ (lit< tt) apart

    bound : (m : ℕ) → 0 < m → m * e + S60 * ((1 + m) * unit / unit) ≤ m * (e + 2 * S60)
    bound m k = go ((1 + m) * unit / unit) (omega arith)
      where
        go : (y : ℕ) → y ≤ 2 * m → m * e + S60 * y ≤ m * (e + 2 * S60)
        go y l = omega arith

    law : (q j U S x y : ℤ) → (j *ℤ j) *ℤ (q *ℤ U -ℤ x *ℤ S) +ℤ S *ℤ ((j *ℤ j) *ℤ x -ℤ y) ≡ q *ℤ (j *ℤ j) *ℤ U -ℤ y *ℤ S
    law q j U S x y = ring (q ∷ j ∷ U ∷ S ∷ x ∷ y ∷ []) λ ρ e1 e2 e3 e4 e5 e6. simp (Z·ring, e1, e2, e3, e4, e5, e6) (by_ring _ _ _ refl)

-- one term of the definition: c·(j·w·n), with c = C / 10^13 and n the nest at (j·w)²; two floors are lost
term : (C j : ℕ) (w n : ℤ) → Within (w *ℤ (pos (j * C) *ℤ n) -ℤ product (pos (C * 10 ^ 11)) (product (pos j *ℤ w) n) *ℤ pos (10 ^ 13 * unit)) (C * unit + 10 ^ 13 * unit)
term C j w n =
    w_same _ (law (pos C) (pos j) w n (product (pos j *ℤ w) n) (product (pos (C * 10 ^ 11)) (product (pos j *ℤ w) n)))
    (w_add (w_mul (w_num C) (product_rest (pos j *ℤ w) n)) (w_mul (w_num (10 ^ 13)) (product_rest (pos (C * 10 ^ 11)) (product (pos j *ℤ w) n))))
  where
    law : (C j w n x y : ℤ) → C *ℤ ((j *ℤ w) *ℤ n -ℤ x *ℤ pos unit) +ℤ pos (10 ^ 13) *ℤ ((C *ℤ pos (10 ^ 11)) *ℤ x -ℤ y *ℤ pos unit) ≡ w *ℤ ((j *ℤ C) *ℤ n) -ℤ y *ℤ pos (10 ^ 13 * unit)
    law C j w n x y = ring (C ∷ j ∷ w ∷ n ∷ x ∷ y ∷ []) λ ρ e1 e2 e3 e4 e5 e6. simp (Z·ring, ev_num ρ, e1, e2, e3, e4, e5, e6) (by_ring _ _ _ refl)

-- the three waves of the latitude
unfoldable pub waves : (C2 C4 C6 : ℕ) → ℤ → List Wave
waves C2 C4 C6 w =
    record { weight = 2 * C2; factor = 2 * 2; argument = product (pos 2 *ℤ w) (pos 2 *ℤ w) }
    ∷ record { weight = 4 * C4; factor = 4 * 4; argument = product (pos 4 *ℤ w) (pos 4 *ℤ w) }
    ∷ record { weight = 6 * C6; factor = 6 * 6; argument = product (pos 6 *ℤ w) (pos 6 *ℤ w) }
    ∷ []

-- what is added to f
unfoldable pub added : (C2 C4 C6 : ℕ) → ℤ → ℤ
added C2 C4 C6 w =
    product (pos (C2 * 10 ^ 11)) (sine (pos 2 *ℤ w)) +ℤ product (pos (C4 * 10 ^ 11)) (sine (pos 4 *ℤ w)) +ℤ product (pos (C6 * 10 ^ 11)) (sine (pos 6 *ℤ w))

unfoldable pub floors_e : ℕ → ℕ → ℕ → ℕ
floors_e C2 C4 C6 = (C2 + C4 + C6 + 3 * 10 ^ 13) * unit

terms : (C2 C4 C6 : ℕ) (w : ℤ) → Within (w *ℤ total (waves C2 C4 C6 w) sine_divisors -ℤ added C2 C4 C6 w *ℤ pos (10 ^ 13 * unit)) (floors_e C2 C4 C6)
unfolding waves total added sine floors_e
terms C2 C4 C6 w =
    let n2 = nested (product (pos 2 *ℤ w) (pos 2 *ℤ w)) sine_divisors in
    let n4 = nested (product (pos 4 *ℤ w) (pos 4 *ℤ w)) sine_divisors in
    let n6 = nested (product (pos 6 *ℤ w) (pos 6 *ℤ w)) sine_divisors in
    w_up _ (size C2 C4 C6)
    (w_same _ (law w (pos (2 * C2)) (pos (4 * C4)) (pos (6 * C6)) n2 n4 n6 (product (pos (C2 * 10 ^ 11)) (product (pos 2 *ℤ w) n2)) (product (pos (C4 * 10 ^ 11)) (product (pos 4 *ℤ w) n4)) (product (pos (C6 * 10 ^ 11)) (product (pos 6 *ℤ w) n6)) (pos (10 ^ 13 * unit)))
    (w_add (w_add (term C2 2 w n2) (term C4 4 w n4)) (term C6 6 w n6)))
  where
    size : (a b c : ℕ) → (a * unit + 10 ^ 13 * unit) + (b * unit + 10 ^ 13 * unit) + (c * unit + 10 ^ 13 * unit) ≤ (a + b + c + 3 * 10 ^ 13) * unit
    size a b c = omega arith

    law : (w a b c n m l x y z D : ℤ) → (w *ℤ (a *ℤ n) -ℤ x *ℤ D) +ℤ (w *ℤ (b *ℤ m) -ℤ y *ℤ D) +ℤ (w *ℤ (c *ℤ l) -ℤ z *ℤ D) ≡ w *ℤ (a *ℤ n +ℤ (b *ℤ m +ℤ (c *ℤ l +ℤ pos 0))) -ℤ (x +ℤ y +ℤ z) *ℤ D
    law w a b c n m l x y z D = ring (w ∷ a ∷ b ∷ c ∷ n ∷ m ∷ l ∷ x ∷ y ∷ z ∷ D ∷ []) λ ρ e1 e2 e3 e4 e5 e6 e7 e8 e9 e10 e11. simp (Z·ring, ev_num ρ, e1, e2, e3, e4, e5, e6, e7, e8, e9, e10, e11) (by_ring _ _ _ refl)

-- r = f·v, less by under 2, against what the definition adds
unfoldable pub added_e : (hf ef ev size floors : ℕ) → ℕ
added_e hf ef ev size floors = (hf * unit * ev + size * S60 * ef + S60 * S60 * floors + 10 ^ 13 * unit * unit * (2 * S60)) / (S60 * (10 ^ 13 * unit))

module _ (C2 C4 C6 : ℕ) {f q v r ef hf : ℕ} {w : ℤ} {cs : List ℕ} (nf : Near60 f w ef) (hi : f ≤ hf) (mq : Mul60 f f q) (a : Alternating60 q cs v) (mr : Mul60 f v r) where
  -- the error of f², and the bound of f²
  abbrev square_e : ℕ
  square_e = multiple_e (mul_e hf ef hf ef)

  abbrev square_h : ℕ
  square_h = hf * hf / S60

  close : Close q square_e (waves C2 C4 C6 w)
  unfolding waves
  close = let n = near_mul mq hi hi nf nf in also (multiple w 2 (lit< tt) n) (also (multiple w 4 (lit< tt) n) (also (multiple w 6 (lit< tt) n) no_waves))

  positive : T (all_positive sine_divisors)
  unfolding all_positive sine_divisors
  positive = tt

  pub near_added : Near60 r (added C2 C4 C6 w) (added_e hf ef (waves_e square_h square_e (10 ^ 13) cs sine_divisors (waves C2 C4 C6 w)) (total_b square_h square_e (waves C2 C4 C6 w) sine_divisors) (floors_e C2 C4 C6))
  unfolding added_e
  near_added = record {
    gap = w_div (pos r *ℤ pos unit -ℤ added C2 C4 C6 w *ℤ pos S60) (S60 * (10 ^ 13 * unit)) _ (lit< tt)
        (w_same _ (law (pos f) w (pos v) (pos r) (pos (10 ^ 13)) (pos unit) (pos S60) (total (waves C2 C4 C6 w) sine_divisors) (added C2 C4 C6 w))
        (w_sub (w_add (w_add (w_mul (w_mul (w_pos hi) (w_num unit)) (near_waves (10 ^ 13) sine_divisors positive (mul_high mq hi hi) close a).gap) (w_mul (w_mul (total_size sine_divisors positive (mul_high mq hi hi) close) (w_num S60)) nf.gap)) (w_mul (w_num (S60 * S60)) (terms C2 C4 C6 w))) (w_mul (w_num (10 ^ 13 * unit * unit)) (w_rest (f * v) (r * S60) (2 * S60) mr.lo (mul_rest mr)))));
  }
    where
      law : (f w v r D U S t p : ℤ) → (f *ℤ U) *ℤ (v *ℤ D *ℤ U -ℤ t *ℤ S) +ℤ (t *ℤ S) *ℤ (f *ℤ U -ℤ w *ℤ S) +ℤ (S *ℤ S) *ℤ (w *ℤ t -ℤ p *ℤ (D *ℤ U)) -ℤ (D *ℤ U *ℤ U) *ℤ (f *ℤ v -ℤ r *ℤ S) ≡ (r *ℤ U -ℤ p *ℤ S) *ℤ (S *ℤ (D *ℤ U))
      law f w v r D U S t p = ring (f ∷ w ∷ v ∷ r ∷ D ∷ U ∷ S ∷ t ∷ p ∷ []) λ ρ e1 e2 e3 e4 e5 e6 e7 e8 e9. simp (Z·ring, e1, e2, e3, e4, e5, e6, e7, e8, e9) (by_ring _ _ _ refl)

latitude_sum : (C2 C4 C6 : ℕ) {f r e e' : ℕ} (w : ℤ) → Near60 f w e → Near60 r (added C2 C4 C6 w) e' → Near60 (f + r) (w +ℤ product (pos (C2 * 10 ^ 11)) (sine (pos 2 *ℤ w)) +ℤ product (pos (C4 * 10 ^ 11)) (sine (pos 4 *ℤ w)) +ℤ product (pos (C6 * 10 ^ 11)) (sine (pos 6 *ℤ w))) (e + e')
unfolding added
latitude_sum C2 C4 C6 {f} {r} {e} {e'} w h k = subst (λ z. Near60 (f + r) z (e + e')) (law w (product (pos (C2 * 10 ^ 11)) (sine (pos 2 *ℤ w))) (product (pos (C4 * 10 ^ 11)) (sine (pos 4 *ℤ w))) (product (pos (C6 * 10 ^ 11)) (sine (pos 6 *ℤ w)))) (near_add h k)
  where
    law : (w x y z : ℤ) → w +ℤ (x +ℤ y +ℤ z) ≡ w +ℤ x +ℤ y +ℤ z
    law w x y z = ring (w ∷ x ∷ y ∷ z ∷ []) λ ρ e1 e2 e3 e4. simp (Z·ring, e1, e2, e3, e4) (by_ring _ _ _ refl)

-- ---- the worked latitude, of an f that is within 95901 units
table_falls : (E : Ellipsoid) → T (falls S60 (latitude_table E))
unfolding latitude_table
table_falls GRS_80 = tt
table_falls Krasovsky = tt

table_top : (E : Ellipsoid) → top (latitude_table E) ≤ 7770110264294487
unfolding latitude_table top
table_top GRS_80 = lit≤ tt
table_top Krasovsky = lit≤ tt

near_sum : (E : Ellipsoid) {f q v r : ℕ} {w : ℤ} → Near60 f w (95901 * unit) → f ≤ f_high → Mul60 f f q → Alternating60 q (latitude_table E) v → Mul60 f v r → Near60 (f + r) (latitude_of (constants E) w) (98500 * unit)
unfolding latitude_table latitude_of constants added_e multiple_e slack_e waves_e total_b floors_e waves next weights reach turn_e place_e head_e nest_b sine_divisors
near_sum GRS_80 {w = w} n h mq a mr = near_le (98500 * unit) (latitude_sum 33565514856 65718731 176466 w n (near_added 33565514856 65718731 176466 n h mq a mr)) tt
near_sum Krasovsky {w = w} n h mq a mr = near_le (98500 * unit) (latitude_sum 33560696018 65699863 176390 w n (near_added 33560696018 65699863 176390 n h mq a mr)) tt

-- the numbers that the code works out, and that they fit
pub record LatitudeOf (E : Ellipsoid) (f : ℕ) : Type 0 where
  pub square : Mul60 f f (mul60 f f)
  pub nest : Alternating60 (mul60 f f) (latitude_table E) (alt60 (mul60 f f) (latitude_table E))
  pub times : Mul60 f (alt60 (mul60 f f) (latitude_table E)) (mul60 f (alt60 (mul60 f f) (latitude_table E)))
  pub high : latitude60 E f ≤ 1003 * S60 / 1000

pub latitude_is : (E : Ellipsoid) {f : ℕ} → f ≤ f_high → LatitudeOf E f
unfolding latitude60 odd_alt60
latitude_is E {f} h =
    let sq = mul60_is f f (le_trans h (lit≤ tt)) (le_trans h (lit≤ tt)) in
    let q_high : mul60 f f ≤ S60 = le_trans (mul_high sq h h) (lit≤ tt) in
    let a = (alt60_is (mul60 f f) S60 (latitude_table E) (lit≤ tt) (table_falls E) q_high).is in
    let v_high = le_trans (alt_top a) (table_top E) in
    let m = mul60_is f (alt60 (mul60 f f) (latitude_table E)) (le_trans h (lit≤ tt)) (le_trans v_high (lit≤ tt)) in
    record { square = sq; nest = a; times = m; high = le_trans (add-le-add h (mul_high m h v_high)) (lit≤ tt) }

pub near_latitude : (E : Ellipsoid) {f lo : ℕ} {w : ℤ} → Fixed f w (95901 * unit) lo f_high → Fixed (latitude60 E f) (latitude_of (constants E) w) (98500 * unit) 0 (1003 * S60 / 1000)
unfolding latitude60 odd_alt60
near_latitude E {f} g = let i = latitude_is E g.high in record { near = near_sum E g.near g.high i.square i.nest i.times; low = least_of (f + odd_alt60 f (latitude_table E)); high = i.high }
  where
    least_of : (n : ℕ) → 0 ≤ n
    least_of n = omega arith
