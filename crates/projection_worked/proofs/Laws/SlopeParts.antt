-- The derivative's first part times 0.000002 and its slope, as whole numbers at scale 2^60: near the definition's. Assumes nothing.
use Rattle.std.specs.Prelude.{Bool, true, false, ◌≡◌, refl, List, [], ◌∷◌, ℕ, ◌+◌, ◌-◌, ◌*◌, ◌/◌, ◌^◌, ◌≤◌, ◌<◌, ℤ, pos, negsuc, neg_ℤ, nat_abs, ◌+ℤ◌, ◌-ℤ◌, ◌*ℤ◌, ◌≤ℤ◌}
use Rattle.std.proofs.Common.{sym, ◌∙◌, ap, ap₂, subst, le_of_eq, mul-pos, mul-le-mul, mul-le-mul_right, mul-le-mul_left, le_of_mul-le-mul_right, add-le-add, div-mul-le_self, le-div_iff_mul-le, le_of_lt, lit<, lit≤, leb→le}
use Rattle.std.proofs.Math.Nat.{le_trans, le_of_mul-le-mul_left, lt-div-mul-add}
use native.Mathlib.Omega.{arith}
use Rattle.arith.specs.Laws.Diff.{◌⊖◌, Z·ℕ, lin}
use Rattle.arith.specs.Laws.Ring.{ring, Z·ring, by_ring, ev_num}
use Rattle.arith.specs.Laws.Order.{abs_mul, abs_add, abs_sub, abs_sub_comm}
use Rattle.arith.specs.Floor.{floor}
use Rattle.arith.specs.Within.{Within}
use Rattle.arith.specs.Laws.Close.{Close, close_trans, close_sym, close_over, close_same, close_floor, close_le, close_neg}
use Rattle.rules.specs.Scaled.{unit, product, quotient}
use Rattle.rules.specs.Projection.{two_millionths}
use Rattle.rules.specs.Polynomial.{double_unit}
use Rattle.double.specs.declared.Pair.{Pair}
use Rattle.double.specs.Value.{value}
use Rattle.double.proofs.Laws.Operations.{double_unit_pos}
use Rattle.metres.specs.Millimetres.{truncated}
use Rattle.metres.specs.Laws.Plane.{truncated_near}
use Rattle.fixed.specs.Worked.{S60, mul60, quot60}
use Rattle.fixed.specs.Relations.{Mul60, Quot60}
use Rattle.fixed.specs.Nearness.{NearAt, Near60, Fixed, turned}
use Rattle.fixed.proofs.Laws.Words.{mul60_is, quot60_is}
use Rattle.fixed.proofs.Laws.Turned.{turned_twice}
use Rattle.projection_worked.specs.Worked.{first41, second41, grain, first60, slope60}
use Rattle.projection_worked.proofs.Laws.Argument.{part_close}
use Rattle.projection_worked.specs.Bounds.{Sloped}

apart_by : (x y k : ℕ) → x ≤ y → y ≤ x + k → nat_abs (pos x -ℤ pos y) ≤ k
apart_by x y k h g = simp Z·ℕ (omega arith)

-- a size cut to whole multiples of 2^-41
cut_close : (v : ℤ) → Close (pos (truncated 41 v)) (2 ^ 41) (pos (nat_abs v)) double_unit 1 (2 ^ 41)
cut_close v = let h = truncated_near 41 v in record { gap = go (truncated 41 v * double_unit) (nat_abs v * 2 ^ 41) double_unit h.0 h.1 }
  where
    gap : (a b u : ℕ) → a ≤ b → b < a + u → nat_abs (pos a -ℤ pos b) ≤ u
    gap a b u h k = simp Z·ℕ (omega arith)

    go : (a b u : ℕ) → a ≤ b → b < a + u → 2 ^ 41 * nat_abs (pos a -ℤ pos b) ≤ 1 * (2 ^ 41 * u)
    go a b u h k = let g = gap a b u h k in omega arith

near_of : {v : ℕ} {w : ℤ} (k : ℕ) → Close (pos v) S60 w unit k S60 → Near60 v w (k * unit)
near_of {v} {w} k c = record { gap = record { within = le_of_mul-le-mul_left {k = S60} (le_trans c.gap (le_of_eq (go k S60 unit))) (lit< tt) } }
  where
    go : (k s t : ℕ) → k * (s * t) ≡ s * (k * t)
    go k s t = omega arith

close_turned : (s : Bool) {v w : ℤ} {p q e d : ℕ} → Close v p w q e d → Close (turned s v) p (turned s w) q e d
unfolding turned
close_turned true c = close_neg c
close_turned false c = c

-- ---- sizes of the cut parts
positive_size : (v : ℤ) (K : ℕ) → pos K ≤ℤ v → (K ≤ nat_abs v) × (v ≡ pos (nat_abs v))
positive_size (pos n) K h = (leb→le K n h.le, refl)
positive_size (negsuc n) K h = absurd h.le

cut_low : (v : ℤ) (K : ℕ) → K * double_unit ≤ nat_abs v → K * 2 ^ 41 ≤ truncated 41 v
unfolding truncated
cut_low v K h = (le-div_iff_mul-le double_unit_pos).1 (go (nat_abs v) K double_unit h)
  where
    go : (n K u : ℕ) → K * u ≤ n → K * 2 ^ 41 * u ≤ n * 2 ^ 41
    go n K u h = omega arith

cut_high : (v : ℤ) (K : ℕ) → nat_abs v ≤ K * double_unit → truncated 41 v ≤ K * 2 ^ 41
unfolding truncated
cut_high v K h = le_of_mul-le-mul_right {k = double_unit} (le_trans (div-mul-le_self (nat_abs v * 2 ^ 41) double_unit) (go (nat_abs v) K double_unit h)) double_unit_pos
  where
    go : (n K u : ℕ) → n ≤ K * u → n * 2 ^ 41 ≤ K * 2 ^ 41 * u
    go n K u h = omega arith

pub record Parted (H : Pair) : Type 0 where
  pub low : 499000 * 2 ^ 41 ≤ first41 H
  pub high : first41 H ≤ 501000 * 2 ^ 41
  pub second : second41 H ≤ 137 * 2 ^ 41

pub parted : (H : Pair) → Sloped H → Parted H
parted H s = record {
  low = cut_low (value H.re) 499000 (positive_size (value H.re) (499000 * double_unit) s.first_low).0;
  high = cut_high (value H.re) 501000 s.first_high;
  second = cut_high (value H.im) 137 s.second_high;
}

-- ---- the first part times 0.000002
abbrev grain_rest : ℕ
grain_rest = grain * (500000 * 2 ^ 41) - S60 * S60

grain_close : (a : ℕ) → a ≤ 501000 * 2 ^ 41 → Close (pos (a * grain)) (S60 * S60) (pos a) (500000 * 2 ^ 41) 1 (10 ^ 18)
grain_close a h = record { gap = le_trans (le_of_eq (ap (λ n. 10 ^ 18 * n) (ap nat_abs (law (pos a)) ∙ abs_mul (pos a) (pos grain_rest)))) (le_trans (mul-le-mul_left (10 ^ 18) (mul-le-mul_right grain_rest h)) (lit≤ tt)) }
  where
    law : (a : ℤ) → a *ℤ pos grain *ℤ pos (500000 * 2 ^ 41) -ℤ a *ℤ pos (S60 * S60) ≡ a *ℤ pos grain_rest
    law a = ring (a ∷ []) λ ρ ea. simp (Z·ring, ea, ev_num ρ) (by_ring _ _ _ refl)

product_close : {a b r : ℕ} → Mul60 a b r → Close (pos r) S60 (pos (a * b)) (S60 * S60) 2 S60
product_close {a} {b} {r} m = record { gap = go r (a * b) S60 m.lo m.hi }
  where
    first : (r p s : ℕ) → r * s ≤ p → r * (s * s) ≤ p * s
    first r p s h = let a = mul-le-mul_right s h in omega arith

    second : (r p s : ℕ) → p < (r + 2) * s → p * s ≤ r * (s * s) + 2 * (s * s)
    second r p s h = let a = mul-le-mul_right s (le_of_lt h) in omega arith

    times : (s k g : ℕ) → g ≤ 2 * (s * s) → s * g ≤ 2 * (s * (s * s))
    times s k g h = let a = mul-le-mul_left s h in omega arith

    go : (r p s : ℕ) → r * s ≤ p → p < (r + 2) * s → s * nat_abs (pos r *ℤ pos (s * s) -ℤ pos p *ℤ pos s) ≤ 2 * (s * (s * s))
    go r p s h k = times s 0 _ (apart_by (r * (s * s)) (p * s) (2 * (s * s)) (first r p s h) (second r p s k))

-- a quotient at scale 2^60, of numbers at any one scale
quotient_close : {a b q : ℕ} → Quot60 a b q → Close (pos q) S60 (pos a) b 9 S60
quotient_close {a} {b} {q} m = record { gap = go q a b S60 m.lo m.hi }
  where
    wide : (q a b s : ℕ) → a * s < (q + 9) * b → a * s ≤ q * b + 9 * b
    wide q a b s h = omega arith

    times : (s b g : ℕ) → g ≤ 9 * b → s * g ≤ 9 * (s * b)
    times s b g h = let a = mul-le-mul_left s h in omega arith

    go : (q a b s : ℕ) → q * b ≤ a * s → a * s < (q + 9) * b → s * nat_abs (pos q *ℤ pos b -ℤ pos a *ℤ pos s) ≤ 9 * (s * b)
    go q a b s h k = times s b _ (apart_by (q * b) (a * s) (9 * b) h (wide q a b s k))

-- two sizes x and y over u, each cut to whole multiples a and b of 1/k: their quotient moves by 2/b at most, where x ≤ y
cut_quotient : (a b x y u k : ℕ) → 0 < u → a * u ≤ x * k → x * k < a * u + u → b * u ≤ y * k → y * k < b * u + u → x ≤ y → nat_abs (pos a *ℤ pos y -ℤ pos x *ℤ pos b) ≤ 2 * y
cut_quotient a b x y u k U h1 h2 h3 h4 l =
    le_of_mul-le-mul_right {k = u} (le_trans (le_of_eq (sym (abs_mul (pos a *ℤ pos y -ℤ pos x *ℤ pos b) (pos u)))) (go (pos a) (pos b) (pos x) (pos y) (pos u) (pos k))) U
  where
    law : (a b x y u k : ℤ) → (a *ℤ y -ℤ x *ℤ b) *ℤ u ≡ x *ℤ (y *ℤ k -ℤ b *ℤ u) -ℤ y *ℤ (x *ℤ k -ℤ a *ℤ u)
    law a b x y u k = ring (a ∷ b ∷ x ∷ y ∷ u ∷ k ∷ []) λ ρ e1 e2 e3 e4 e5 e6. simp (Z·ring, e1, e2, e3, e4, e5, e6) (by_ring _ _ _ refl)

    small : (c d e : ℕ) → c ≤ d → d < c + e → nat_abs (pos d -ℤ pos c) ≤ e
    small c d e h k = simp Z·ℕ (omega arith)

    sum : (p q x y u : ℕ) → p ≤ u → q ≤ u → x ≤ y → x * p + y * q ≤ 2 * y * u
    sum p q x y u h k l = let a = mul-le-mul l h in let b = mul-le-mul_left y k in omega arith

    go : (a' b' x' y' u' k' : ℤ) → nat_abs ((pos a *ℤ pos y -ℤ pos x *ℤ pos b) *ℤ pos u) ≤ 2 * y * u
    go a' b' x' y' u' k' =
        le_trans (le_of_eq (ap nat_abs (law (pos a) (pos b) (pos x) (pos y) (pos u) (pos k))))
        (le_trans (abs_sub (pos x *ℤ (pos y *ℤ pos k -ℤ pos b *ℤ pos u)) (pos y *ℤ (pos x *ℤ pos k -ℤ pos a *ℤ pos u)))
        (le_trans (add-le-add (le_of_eq (abs_mul (pos x) (pos y *ℤ pos k -ℤ pos b *ℤ pos u))) (le_of_eq (abs_mul (pos y) (pos x *ℤ pos k -ℤ pos a *ℤ pos u))))
        (sum _ _ x y u (small (b * u) (y * k) u h3 h4) (small (a * u) (x * k) u h1 h2) l)))

-- two values over u near two of the definition's over t: their quotients are near, where the divisors are large
values_quotient : (v2 v1 h2 h1 : ℤ) (V1 k1 : ℕ) → v1 ≡ pos V1 → h1 ≡ pos k1 → Close v2 double_unit h2 unit 11 (10 ^ 8) → Close v1 double_unit h1 unit 11 (10 ^ 8)
    → 499000 * double_unit ≤ V1 → nat_abs h2 ≤ k1 → Close v2 V1 h2 k1 5 (10 ^ 13)
values_quotient v2 v1 h2 h1 V1 k1 e f a b l g =
    record { gap = le_of_mul-le-mul_right {k = unit} (final _ V1 k1 (nat_abs h2) _ _ double_unit unit total a.gap (subst (λ z. 10 ^ 8 * nat_abs z ≤ 11 * (double_unit * unit)) (ap₂ (λ x y. x *ℤ pos unit -ℤ y *ℤ pos double_unit) e f) b.gap) l g) (lit< tt) }
  where
    law : (v2 h2 W k u t : ℤ) → (v2 *ℤ k -ℤ h2 *ℤ W) *ℤ t ≡ (v2 *ℤ t -ℤ h2 *ℤ u) *ℤ k -ℤ h2 *ℤ (W *ℤ t -ℤ k *ℤ u)
    law v2 h2 W k u t = ring (v2 ∷ h2 ∷ W ∷ k ∷ u ∷ t ∷ []) λ ρ e1 e2 e3 e4 e5 e6. simp (Z·ring, e1, e2, e3, e4, e5, e6) (by_ring _ _ _ refl)

    total : nat_abs (v2 *ℤ pos k1 -ℤ h2 *ℤ pos V1) * unit ≤ nat_abs (v2 *ℤ pos unit -ℤ h2 *ℤ pos double_unit) * k1 + nat_abs h2 * nat_abs (pos V1 *ℤ pos unit -ℤ pos k1 *ℤ pos double_unit)
    total =
        le_trans (le_of_eq (sym (abs_mul (v2 *ℤ pos k1 -ℤ h2 *ℤ pos V1) (pos unit)) ∙ ap nat_abs (law v2 h2 (pos V1) (pos k1) (pos double_unit) (pos unit))))
        (le_trans (abs_sub ((v2 *ℤ pos unit -ℤ h2 *ℤ pos double_unit) *ℤ pos k1) (h2 *ℤ (pos V1 *ℤ pos unit -ℤ pos k1 *ℤ pos double_unit)))
        (add-le-add (le_of_eq (abs_mul (v2 *ℤ pos unit -ℤ h2 *ℤ pos double_unit) (pos k1))) (le_of_eq (abs_mul h2 (pos V1 *ℤ pos unit -ℤ pos k1 *ℤ pos double_unit)))))

    both : (x k h d q u t : ℕ) → x * t ≤ d * k + h * q → 10 ^ 8 * d ≤ 11 * (u * t) → 10 ^ 8 * q ≤ 11 * (u * t) → h ≤ k → 10 ^ 8 * (x * t) ≤ 22 * (u * k * t)
    both x k h d q u t s i j g = let a = mul-le-mul_right k i in let b = mul-le-mul_left h j in let c = mul-le-mul_right (11 * (u * t)) g in omega arith

    final : (x W k h d q u t : ℕ) → x * t ≤ d * k + h * q → 10 ^ 8 * d ≤ 11 * (u * t) → 10 ^ 8 * q ≤ 11 * (u * t) → 499000 * u ≤ W → h ≤ k → 10 ^ 13 * x * t ≤ 5 * (W * k) * t
    final x W k h d q u t s i j l g = let a = both x k h d q u t s i j g in let b = mul-le-mul_right (k * t) l in omega arith

-- the definition's quotient by a positive number
quotient_floor : (h2 : ℤ) (k1 : ℕ) → 0 < k1 → Close h2 k1 (quotient h2 (pos k1)) unit 1 unit
unfolding quotient
quotient_floor h2 k1 h = close_sym (close_trans (mul-pos (lit< tt) h) (close_floor (h2 *ℤ pos unit) k1 unit h) (close_same unit (law h2 (pos k1))))
  where
    law : (h2 k : ℤ) → h2 *ℤ pos unit *ℤ k ≡ h2 *ℤ (pos unit *ℤ k)
    law h2 k = ring (h2 ∷ k ∷ []) λ ρ e1 e2. simp (Z·ring, e1, e2, ev_num ρ) (by_ring _ _ _ refl)

size_turned : (b : Bool) (v : ℤ) → turned b (pos (nat_abs v)) ≡ v → turned b v ≡ pos (nat_abs v)
size_turned b v e = ap (turned b) (sym e) ∙ turned_twice b (pos (nat_abs v))

module _ (H : Pair) (p : Parted H) (s : Sloped H) where
  first_mul : Mul60 (first41 H) grain (first60 H)
  unfolding first60
  first_mul = mul60_is (first41 H) grain (le_trans p.high (lit≤ tt)) (lit≤ tt)

  pub first_near : (h1 : ℤ) → Close (value H.re) double_unit h1 unit 11 (10 ^ 8) → Near60 (first60 H) (product h1 two_millionths) (300000 * unit)
  first_near h1 c =
      near_of 300000
      (close_le 300000 S60
      (close_trans (lit< tt)
      (close_trans (mul-pos (lit< tt) double_unit_pos)
      (close_trans (lit< tt)
      (close_trans (lit< tt) (close_le 2 (10 ^ 18) (product_close first_mul) tt tt) (grain_close (first41 H) p.high))
      (close_le 1 (10 ^ 18) (close_over 500000 (cut_close (value H.re))) tt tt))
      (subst (λ v. Close v (500000 * double_unit) h1 (500000 * unit) 220000 (10 ^ 18)) (positive_size (value H.re) (499000 * double_unit) s.first_low).1 (close_le 220000 (10 ^ 18) (close_over 500000 c) tt tt)))
      (close_le 1 (10 ^ 18) (part_close h1) tt tt))
      tt tt)

  -- ---- the slope
  slope_quot : Quot60 (second41 H) (first41 H) (slope60 H)
  unfolding slope60
  slope_quot = quot60_is (second41 H) (first41 H) (le_trans (lit≤ tt) p.low, le_trans p.high (lit≤ tt), go (second41 H) (first41 H) p.second p.low)
    where
      go : (a b : ℕ) → a ≤ 137 * 2 ^ 41 → 499000 * 2 ^ 41 ≤ b → 4 * a ≤ 5 * b
      go a b h k = omega arith

  pub slope_high : slope60 H ≤ 30 * S60 / 100000
  slope_high = le_of_mul-le-mul_right {k = 499000 * 2 ^ 41} (le_trans (mul-le-mul_left (slope60 H) p.low) (le_trans slope_quot.lo (le_trans (mul-le-mul_right S60 p.second) (lit≤ tt)))) (lit< tt)

  pub first_low_60 : 99 * S60 / 100 ≤ first60 H
  first_low_60 = go (first60 H) (first41 H) p.low first_mul.hi
    where
      go : (r a : ℕ) → 499000 * 2 ^ 41 ≤ a → a * grain < (r + 2) * S60 → 99 * S60 / 100 ≤ r
      go r a h k = let b = mul-le-mul_right grain h in omega arith

  pub first_high_60 : first60 H ≤ 101 * S60 / 100
  first_high_60 = go (first60 H) (first41 H) p.high first_mul.lo
    where
      go : (r a : ℕ) → a ≤ 501000 * 2 ^ 41 → r * S60 ≤ a * grain → r ≤ 101 * S60 / 100
      go r a h k = let b = mul-le-mul_right grain h in omega arith

  -- b says on which side of 0 the second part lies
  pub slope_near : (b : Bool) → turned b (pos (nat_abs (value H.im))) ≡ value H.im → (side : Bool) (h2 : ℤ) (k1 : ℕ) → Close (turned side (value H.im)) double_unit h2 unit 11 (10 ^ 8) → Close (value H.re) double_unit (pos k1) unit 11 (10 ^ 8) → nat_abs h2 ≤ k1 → 0 < k1
      → Near60 (slope60 H) (turned b (turned side (quotient h2 (pos k1)))) (2000000 * unit)
  slope_near b sized side h2 k1 c e g pos_k =
      let v2 = value H.im in
      let V1 = nat_abs (value H.re) in
      let z = positive_size (value H.re) (499000 * double_unit) s.first_low in
      let x = truncated_near 41 v2 in
      let y = truncated_near 41 (value H.re) in
      let small : nat_abs v2 ≤ V1 = le_trans s.second_high (le_trans (few double_unit) z.0) in
      let cut : Close (pos (second41 H)) (first41 H) (pos (nat_abs v2)) V1 2 (2 ^ 59) = record { gap = wide _ (first41 H) V1 (cut_quotient (second41 H) (first41 H) (nat_abs v2) V1 double_unit (2 ^ 41) double_unit_pos x.0 x.1 y.0 y.1 small) (le_trans (lit≤ tt) p.low) } in
      let q = values_quotient (turned side v2) (value H.re) h2 (pos k1) V1 k1 z.1 refl c e z.0 g in
      let t : Close (pos (nat_abs v2)) V1 (turned b (turned side h2)) k1 5 (10 ^ 13) = subst (λ w. Close w V1 (turned b (turned side h2)) k1 5 (10 ^ 13)) (ap (turned b) (turned_twice side v2) ∙ size_turned b v2 sized) (close_turned b (close_turned side q)) in
      near_of 2000000
      (close_le 2000000 S60
      (close_trans pos_k
      (close_trans (le_trans (mul-pos (lit< tt) double_unit_pos) z.0)
      (close_trans (le_trans (lit≤ tt) p.low) (close_le 8 (10 ^ 18) (quotient_close slope_quot) tt tt) (close_le 4 (10 ^ 18) cut tt tt))
      (close_le 500000 (10 ^ 18) t tt tt))
      (close_turned b (close_turned side (close_le 1 (10 ^ 18) (quotient_floor h2 k1 pos_k) tt tt))))
      tt tt)
    where
      few : (u : ℕ) → 137 * u ≤ 499000 * u
      few u = omega arith

      wide : (n b y : ℕ) → n ≤ 2 * y → 2 ^ 59 ≤ b → 2 ^ 59 * n ≤ 2 * (b * y)
      wide n b y h k = let a = mul-le-mul_left (2 ^ 59) h in let c = mul-le-mul_right y k in omega arith
