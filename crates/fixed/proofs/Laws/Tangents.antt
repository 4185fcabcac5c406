-- The tangent difference rule about 52°, as a quotient of what the code has: for a tangent t that is nearly N / M, (t − c)/(1 + t·c) is nearly
-- (N − M·c)/(M + N·c). Assumes nothing.
use Rattle.std.specs.Prelude.{Bool, true, false, not, ◌≡◌, refl, [], ◌∷◌, ℕ, ◌+◌, ◌*◌, ◌-◌, ◌/◌, ◌^◌, ◌<◌, ◌≤◌, T, ltb, ℤ, pos, neg_ℤ, ◌+ℤ◌, ◌-ℤ◌, ◌*ℤ◌, nat_abs}
use Rattle.std.proofs.Common.{sym, ◌∙◌, ap, subst, le_trans, le_of_eq, le_refl, le_of_mul-le-mul_right, mul-le-mul_left, div-mul-le_self, arith, leb→le, ltb→lt, nltb→le, le→leb, lit<, lit≤}
use Rattle.arith.specs.Laws.Order.{abs_mul}
use Rattle.arith.specs.Laws.Ring.{ring, Z·ring, by_ring}
use Rattle.arith.specs.Within.{Within}
use Rattle.arith.specs.Laws.Within.{w_num, w_add, w_sub, w_mul, w_le}
use Rattle.rules.specs.Scaled.{unit, product, quotient, radians, nested, sine_divisors, cosine_divisors, sine, cosine, at_52, tan_52}
use Rattle.fixed.specs.Worked.{S60, mul60, Tan52, apart, tilt60, tilt_south}
use Rattle.fixed.specs.Nearness.{Near60, Fixed, Ratio, turned}
use Rattle.fixed.proofs.Laws.Bounds.{w_div, w_same, w_up, w_floor, triangle}
use Rattle.fixed.specs.Laws.Products.{off_at, most}
use Rattle.fixed.proofs.Laws.Products.{near_le, near_sub, near_most, fix_const, fix_add, product_rest}
use Rattle.fixed.specs.Laws.Quotients.{least}
use Rattle.fixed.proofs.Laws.Quotients.{ratio_div, ratio_high, near_least, fix_mul_double, fix_quot_double}
use Rattle.fixed.proofs.Laws.Turned.{ratio_turned}
use Rattle.fixed.specs.Laws.Tangents.{TiltTest, slant, tilt_den_e, tilt_den_l, tilt_e, tilt_num_h}

-- v = (t − c)/b with b = 1 + t·c, where t = n/m: v = (n − m·c)/(m + n·c)
diff_id : (v b t c n m p q U : ℤ)
    → (U *ℤ U) *ℤ (t *ℤ m -ℤ n *ℤ U) -ℤ (U *ℤ U) *ℤ (m *ℤ c -ℤ p *ℤ U) +ℤ (m *ℤ U) *ℤ (v *ℤ b -ℤ (t -ℤ c) *ℤ U) +ℤ (v *ℤ m) *ℤ ((U *ℤ U +ℤ t *ℤ c) -ℤ b *ℤ U) -ℤ (v *ℤ c) *ℤ (t *ℤ m -ℤ n *ℤ U) -ℤ (v *ℤ U) *ℤ (n *ℤ c -ℤ q *ℤ U)
    ≡ (v *ℤ (m +ℤ q) -ℤ (n -ℤ p) *ℤ U) *ℤ (U *ℤ U)
diff_id v b t c n m p q U =
    ring (v ∷ b ∷ t ∷ c ∷ n ∷ m ∷ p ∷ q ∷ U ∷ []) λ ρ e1 e2 e3 e4 e5 e6 e7 e8 e9. simp (Z·ring, e1, e2, e3, e4, e5, e6, e7, e8, e9) (by_ring _ _ _ refl)

-- b is not small: b·m = m + n·c, nearly
base_id : (b t c n m q U : ℤ)
    → (U *ℤ U) *ℤ (m +ℤ q) -ℤ (b *ℤ U) *ℤ m ≡ ((U *ℤ U +ℤ t *ℤ c) -ℤ b *ℤ U) *ℤ m -ℤ c *ℤ (t *ℤ m -ℤ n *ℤ U) -ℤ U *ℤ (n *ℤ c -ℤ q *ℤ U)
base_id b t c n m q U = ring (b ∷ t ∷ c ∷ n ∷ m ∷ q ∷ U ∷ []) λ ρ e1 e2 e3 e4 e5 e6 e7. simp (Z·ring, e1, e2, e3, e4, e5, e6, e7) (by_ring _ _ _ refl)

base_core : (U Y b M j : ℕ) → 0 < U * U → U * U * Y ≤ b * U * M + (1 * U * (2 * U) + 2 * U * (j * U) + U * (1 * U)) → M ≤ 2 * U → Y ≤ 2 * b + 2 * j + 3
base_core U Y b M j hu h k = le_of_mul-le-mul_right (go (mul-le-mul_left (b * U) k)) hu
  where
    go : b * U * M ≤ b * U * (2 * U) → Y * (U * U) ≤ (2 * b + 2 * j + 3) * (U * U)
    go x = omega arith

-- t is n/m within j, and m + n·c is above 2
module _ (j : ℕ) (t c n m : ℤ) (ht : Within (t *ℤ m -ℤ n *ℤ pos unit) (j * unit)) (wt : Within t (4 * unit)) (wc : Within c (2 * unit)) (wm : Within m (2 * unit))
    (big : 2 * unit + 2 * j + 5 ≤ nat_abs (m +ℤ product n c)) where
  abbrev base : ℤ
  base = pos unit +ℤ product t c

  base_rest : Within ((pos unit *ℤ pos unit +ℤ t *ℤ c) -ℤ base *ℤ pos unit) (1 * unit)
  base_rest = w_same _ (law (t *ℤ c) (product t c) (pos unit)) (product_rest t c)
    where
      law : (x y U : ℤ) → x -ℤ y *ℤ U ≡ (U *ℤ U +ℤ x) -ℤ (U +ℤ y) *ℤ U
      law x y U = ring (x ∷ y ∷ U ∷ []) λ ρ e1 e2 e3. simp (Z·ring, e1, e2, e3) (by_ring _ _ _ refl)

  base_gap : Within ((pos unit *ℤ pos unit) *ℤ (m +ℤ product n c) -ℤ (base *ℤ pos unit) *ℤ m) (1 * unit * (2 * unit) + 2 * unit * (j * unit) + unit * (1 * unit))
  base_gap = w_same _ (sym (base_id base t c n m (product n c) (pos unit))) (w_sub (w_sub (w_mul base_rest wm) (w_mul wc ht)) (w_mul (w_num unit) (product_rest n c)))

  base_low : unit + 1 ≤ nat_abs base
  base_low =
      go (nat_abs (m +ℤ product n c)) (nat_abs base) big
      (base_core unit (nat_abs (m +ℤ product n c)) (nat_abs base) (nat_abs m) j (lit< tt)
      (le_trans (le_of_eq (sym (abs_mul (pos unit *ℤ pos unit) (m +ℤ product n c))))
      (le_trans (triangle ((pos unit *ℤ pos unit) *ℤ (m +ℤ product n c)) ((base *ℤ pos unit) *ℤ m) _ base_gap.within).0
      (more _ (le_of_eq (abs_mul (base *ℤ pos unit) m ∙ ap (λ z. z * nat_abs m) (abs_mul base (pos unit)))))))
      wm.within)
    where
      go : (Y b : ℕ) → 2 * unit + 2 * j + 5 ≤ Y → Y ≤ 2 * b + 2 * j + 3 → unit + 1 ≤ b
      go Y b h k = omega arith

      more : {a b : ℕ} (z : ℕ) → a ≤ b → a + z ≤ b + z
      more z h = omega arith

  base_high : Within base (10 * unit)
  unfolding product
  base_high = w_up _ (lit≤ tt) (w_add (w_num unit) (w_floor unit (lit< tt) (w_mul wt wc)))

  ratio_of_t : Ratio (quotient (t -ℤ c) base) (t -ℤ c) base 1
  ratio_of_t = ratio_div (t -ℤ c) base (le_trans (lit≤ tt) base_low)

  high : Within (quotient (t -ℤ c) base) (8 * unit)
  high = w_up _ (lit≤ tt) (ratio_high unit ratio_of_t (w_sub wt wc) (le_trans (lit≤ tt) base_low) (lit< tt))

  diff_gap : Within (quotient (t -ℤ c) base *ℤ (m +ℤ product n c) -ℤ (n -ℤ product m c) *ℤ pos unit) ((17 * j + 45) * unit)
  diff_gap = w_up _ (go j)
      (w_div (quotient (t -ℤ c) base *ℤ (m +ℤ product n c) -ℤ (n -ℤ product m c) *ℤ pos unit) (unit * unit) _ (lit< tt)
      (w_same _ (diff_id (quotient (t -ℤ c) base) base t c n m (product m c) (product n c) (pos unit))
      (w_sub
      (w_sub
      (w_add
      (w_add (w_sub (w_mul (w_num (unit * unit)) ht) (w_mul (w_num (unit * unit)) (product_rest m c))) (w_mul (w_mul wm (w_num unit)) (w_up (1 * (10 * unit)) (mul-le-mul_left 1 base_high.within) ratio_of_t.gap)))
      (w_mul (w_mul high wm) base_rest))
      (w_mul (w_mul high wc) ht))
      (w_mul (w_mul high (w_num unit)) (product_rest n c)))))
    where
      whole : (x d : ℕ) → 0 < d → x * d / d ≤ x
      whole x d h = le_of_mul-le-mul_right (div-mul-le_self (x * d) d) h

      sum_is : (j U : ℕ) → U * U * (j * U) + U * U * (1 * U) + 2 * U * U * (1 * (10 * U)) + 8 * U * (2 * U) * (1 * U) + 8 * U * (2 * U) * (j * U) + 8 * U * U * (1 * U) ≡ (17 * j + 45) * U * (U * U)
      sum_is j U = omega arith

      go : (j : ℕ) → (unit * unit * (j * unit) + unit * unit * (1 * unit) + 2 * unit * unit * (1 * (10 * unit)) + 8 * unit * (2 * unit) * (1 * unit) + 8 * unit * (2 * unit) * (j * unit) + 8 * unit * unit * (1 * unit)) / (unit * unit) ≤ (17 * j + 45) * unit
      go j = subst (λ z. z / (unit * unit) ≤ (17 * j + 45) * unit) (sym (sum_is j unit)) (whole ((17 * j + 45) * unit) (unit * unit) (lit< tt))

  pub diff_ratio : Ratio (quotient (t -ℤ c) (pos unit +ℤ product t c)) (n -ℤ product m c) (m +ℤ product n c) (17 * j + 45)
  diff_ratio = record { gap = w_up _ (mul-le-mul_left (17 * j + 45) (large (nat_abs (m +ℤ product n c)) big)) diff_gap }
    where
      large : (x : ℕ) → 2 * unit + 2 * j + 5 ≤ x → unit ≤ x
      large x h = omega arith

-- ---- how far two numbers are apart, and on which side
apart_turned : {x y : ℤ} {ea la ha eb lb hb : ℕ} (a b : ℕ)
    → Fixed (2 * a) x ea la ha
    → Fixed (2 * b) y eb lb hb
    → (s : Bool)
    → ltb a b ≡ s
    → Fixed (2 * apart a b) (turned s (x -ℤ y)) (ea + eb) 0 ((ha - lb) + (hb - la))
unfolding turned
apart_turned {x} {y} {ea} {eb = eb} a b f g true e =
    let h = ltb→lt a b (subst T (sym e) tt) in
    record {
      near = subst (λ z. Near60 (2 * apart a b) z (ea + eb)) (flip x y) (near_le (ea + eb) (near_sub (omega arith) g.near f.near) (le→leb (eb + ea) (ea + eb) (omega arith)));
      low = omega arith;
      high = omega (arith, f.low, g.high);
    }
  where
    flip : (x y : ℤ) → y -ℤ x ≡ neg_ℤ (x -ℤ y)
    flip x y = ring (x ∷ y ∷ []) λ ρ ex ey. simp (Z·ring, ex, ey) (by_ring _ _ _ refl)
apart_turned a b f g false e =
    let h = nltb→le a b (subst (λ t. T (not t)) (sym e) tt) in
    record { near = near_sub (omega arith) f.near g.near; low = omega arith; high = omega (arith, f.high, g.low) }

-- ---- tan 52°
near_tan : Near60 Tan52 tan_52 unit
unfolding off_at tan_52 at_52 quotient sine cosine radians product nested sine_divisors cosine_divisors
near_tan = near_le unit (fix_const Tan52 tan_52).near tt

pub fix_tan : Fixed Tan52 tan_52 unit Tan52 Tan52
fix_tan = record { near = near_tan; low = le_refl Tan52; high = le_refl Tan52 }

tan_small : Within tan_52 (2 * unit)
unfolding most
tan_small = w_le (2 * unit) (near_most near_tan (le_refl Tan52)) tt

pub fix_tilt : {en ln hn em lm hm : ℕ} (j n m : ℕ) (N M t : ℤ)
    → Fixed (2 * n) N en ln hn
    → Fixed (2 * m) M em lm hm
    → Within (t *ℤ M -ℤ N *ℤ pos unit) (j * unit)
    → Within t (4 * unit)
    → TiltTest j en ln hn em lm hm
    → Fixed (tilt60 n m) (turned (tilt_south n m) (slant t)) (tilt_e j en ln hn em lm hm) 0 (tilt_num_h ln hn lm hm * S60 / tilt_den_l ln lm)
unfolding tilt60 tilt_south slant
fix_tilt {en} {ln} {hn} {em} {lm} {hm} j n m N M t fn fm ht wt tests =
    let ftm = fix_mul_double m (product M tan_52) (product_rest M tan_52) fm fix_tan tests.1 tt in
    let fg = fix_mul_double n (product N tan_52) (product_rest N tan_52) fn fix_tan tests.0 tt in
    let fden = subst (λ z. Fixed z (M +ℤ product N tan_52) (tilt_den_e en hn em) (tilt_den_l ln lm) (hm + hn * Tan52 / S60)) (both_doubled m (mul60 n Tan52)) (fix_add fm fg) in
    let fnum = apart_turned n (mul60 m Tan52) fn ftm (tilt_south n m) refl in
    let big = le_trans (leb→le (2 * unit + 2 * j + 5) (least (tilt_den_l ln lm) (tilt_den_e en hn em)) tests.3) (near_least fden.near fden.low) in
    let r = diff_ratio j t tan_52 N M ht wt wc (w_le (2 * unit) (near_most fm.near fm.high) tests.2) big in
    zero_low (fix_quot_double (apart n (mul60 m Tan52)) (m + mul60 n Tan52) (ratio_turned (tilt_south n m) r) fnum fden tests.4 tests.5)
  where
    both_doubled : (a b : ℕ) → 2 * a + 2 * b ≡ 2 * (a + b)
    both_doubled a b = omega arith

    wc : Within tan_52 (2 * unit)
    wc = tan_small

    zero_low : {v : ℕ} {w : ℤ} {e lo hi : ℕ} → Fixed v w e lo hi → Fixed v w e 0 hi
    zero_low f = record { near = f.near; low = omega arith; high = f.high }
