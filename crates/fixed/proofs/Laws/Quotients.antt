-- A quotient, against any value that is nearly the quotient of the definition's two; and halved and doubled numbers. Assumes nothing.
use Rattle.std.specs.Prelude.{◌≡◌, refl, [], ◌∷◌, ℕ, suc, ◌+◌, ◌*◌, ◌-◌, ◌/◌, ◌^◌, ◌<◌, ◌≤◌, T, leb, ltb, ℤ, pos, negsuc, neg_ℤ, ◌+ℤ◌, ◌-ℤ◌, ◌*ℤ◌, nat_abs}
use Rattle.std.proofs.Common.{sym, ◌∙◌, ap, subst, mul-le-mul, le_trans, le_of_eq, le_refl, le-div_iff_mul-le, le_of_mul-le-mul_right, div-mul-le_self, mul-le-mul_left, mul-le-mul_right, arith, leb→le, ltb→lt, lit<}
use Rattle.std.proofs.Math.Decide.{dec_le}
use Rattle.arith.specs.Laws.Order.{abs_mul}
use Rattle.arith.specs.Laws.Ring.{ring, Z·ring, by_ring, ev_num}
use Rattle.arith.specs.Floor.{floor}
use Rattle.arith.specs.Within.{Within}
use Rattle.arith.specs.Laws.Within.{by_abs, w_num, w_add, w_sub, w_neg, w_mul}
use Rattle.rules.specs.Scaled.{unit, product, quotient}
use Rattle.fixed.specs.Worked.{S60, mul60, quot60}
use Rattle.fixed.specs.Nearness.{Near60, Fixed, Ratio}
use Rattle.fixed.specs.Relations.{Quot60}
use Rattle.fixed.proofs.Laws.Words.{mul60_is, quot60_is, QuotPre}
use Rattle.fixed.proofs.Laws.Bounds.{w_div, w_same, w_up, w_rest, w_floor_rest, triangle}
use Rattle.fixed.specs.Laws.Products.{slack_e}
use Rattle.fixed.proofs.Laws.Products.{near_add, near_mul_slack, product_rest}
use Rattle.fixed.specs.Laws.Quotients.{QuotTest, QuotTestDouble, least, quot_e}

-- ---- the gap of a quotient
quot_id : (S U a b q A B R : ℤ)
    → (a *ℤ U -ℤ A *ℤ S) *ℤ (b *ℤ U) -ℤ (a *ℤ U) *ℤ (b *ℤ U -ℤ B *ℤ S) -ℤ (a *ℤ S -ℤ q *ℤ b) *ℤ (U *ℤ B) -ℤ (R *ℤ B -ℤ A *ℤ U) *ℤ (S *ℤ b)
    ≡ (q *ℤ U -ℤ R *ℤ S) *ℤ (b *ℤ B)
quot_id S U a b q A B R =
    ring (S ∷ U ∷ a ∷ b ∷ q ∷ A ∷ B ∷ R ∷ []) λ ρ e1 e2 e3 e4 e5 e6 e7 e8. simp (Z·ring, e1, e2, e3, e4, e5, e6, e7, e8) (by_ring _ _ _ refl)

-- |gap|·b·|B| ≤ ea·bU + aU·eb + 9b·U|B| + k|B|·Sb
quot_raw : (S U a b q k : ℕ) (A B R : ℤ) {ea eb : ℕ}
    → Within (pos a *ℤ pos U -ℤ A *ℤ pos S) ea
    → Within (pos b *ℤ pos U -ℤ B *ℤ pos S) eb
    → Within (pos a *ℤ pos S -ℤ pos q *ℤ pos b) (9 * b)
    → Within (R *ℤ B -ℤ A *ℤ pos U) (k * nat_abs B)
    → nat_abs (pos q *ℤ pos U -ℤ R *ℤ pos S) * (b * nat_abs B) ≤ ea * (b * U) + a * U * eb + 9 * b * (U * nat_abs B) + k * nat_abs B * (S * b)
quot_raw S U a b q k A B R na nb rest ratio =
    le_trans (le_of_eq (sym (abs_mul (pos q *ℤ pos U -ℤ R *ℤ pos S) (pos b *ℤ B) ∙ ap (λ t. nat_abs (pos q *ℤ pos U -ℤ R *ℤ pos S) * t) (abs_mul (pos b) B))))
    (w_same _ (quot_id (pos S) (pos U) (pos a) (pos b) (pos q) A B R)
    (w_sub
    (w_sub (w_sub (w_mul na (w_mul (w_num b) (w_num U))) (w_mul (w_mul (w_num a) (w_num U)) nb)) (w_mul rest (w_mul (w_num U) (by_abs B (le_refl _)))))
    (w_mul ratio (w_mul (w_num S) (w_num b))))).within

-- b comes off, by n·a ≤ m·b; then |B|, by l ≤ |B|
quot_core : (S U a b B d ea eb k n m l : ℕ)
    → 0 < b
    → n * a ≤ m * b
    → l ≤ B
    → 0 < n * l
    → (d + (9 * U + k * S)) * (b * B) ≤ ea * (b * U) + a * U * eb + 9 * b * (U * B) + k * B * (S * b)
    → d ≤ (n * ea + m * eb) * U / (n * l)
quot_core S U a b B d ea eb k n m l hb hr hl hn h =
    (le-div_iff_mul-le hn).1
    (le_trans (mul-le-mul_left d (mul-le-mul_left n hl)) (le_of_mul-le-mul_right (go (mul-le-mul_left n h) (mul-le-mul_right (U * eb) hr)) hb))
  where
    go : n * ((d + (9 * U + k * S)) * (b * B)) ≤ n * (ea * (b * U) + a * U * eb + 9 * b * (U * B) + k * B * (S * b)) → n * a * (U * eb) ≤ m * b * (U * eb) → d * (n * B) * b ≤ (n * ea + m * eb) * U * b
    go x y = omega arith

quot_fin : (S U a b B g ea eb k n m l : ℕ)
    → 0 < b
    → n * a ≤ m * b
    → l ≤ B
    → 0 < n * l
    → g * (b * B) ≤ ea * (b * U) + a * U * eb + 9 * b * (U * B) + k * B * (S * b)
    → g ≤ (n * ea + m * eb) * U / (n * l) + (9 * U + k * S)
quot_fin S U a b B g ea eb k n m l hb hr hl hn h = go (dec_le (9 * U + k * S) g)
  where
    go : Dec (9 * U + k * S ≤ g) → g ≤ (n * ea + m * eb) * U / (n * l) + (9 * U + k * S)
    go (no r) = omega arith
    go (yes r) =
        let e : g ≡ (g - (9 * U + k * S)) + (9 * U + k * S) = omega arith in
        let d : g - (9 * U + k * S) ≤ (n * ea + m * eb) * U / (n * l) = quot_core S U a b B (g - (9 * U + k * S)) ea eb k n m l hb hr hl hn (rw e at h) in
        omega arith

pub near_least : {v : ℕ} {w : ℤ} {e lo : ℕ} → Near60 v w e → lo ≤ v → least lo e ≤ nat_abs w
unfolding least
near_least {v} {w} {e} {lo} h k =
    go (nat_abs w) (nat_abs (w *ℤ pos S60)) ((lo * unit - e) / S60) (abs_mul w (pos S60)) (div-mul-le_self (lo * unit - e) S60)
    (triangle (pos (v * unit)) (w *ℤ pos S60) e h.gap.within).0 (mul-le-mul_right unit k)
  where
    go : (W Y L : ℕ) → Y ≡ W * S60 → L * S60 ≤ lo * unit - e → v * unit ≤ Y + e → lo * unit ≤ v * unit → L ≤ W
    go W Y L e1 e2 e3 e4 = le_of_mul-le-mul_right (le_trans e2 (fin (lo * unit) (v * unit) (W * S60) (subst (λ y. v * unit ≤ y + e) e1 e3) e4)) (lit< tt)
      where
        fin : (p r s : ℕ) → r ≤ s + e → p ≤ r → p - e ≤ s
        fin p r s x y = omega arith

pub near_quot : {a b q : ℕ} {w x y : ℤ} {ea eb lo k : ℕ} (m n : ℕ)
    → Quot60 a b q
    → Ratio w x y k
    → Near60 a x ea
    → Near60 b y eb
    → lo ≤ b
    → 0 < b
    → T (ltb 0 (n * least lo eb))
    → n * a ≤ m * b
    → Near60 q w (quot_e ea lo eb k m n)
unfolding quot_e
near_quot {a} {b} {q} {w} {x} {y} {ea} {eb} {lo} {k} m n d r na nb hl hb t hr = record {
  gap = record {
    within = quot_fin S60 unit a b (nat_abs y) _ ea eb k n m (least lo eb) hb hr (near_least nb hl) (ltb→lt 0 (n * least lo eb) t)
        (quot_raw S60 unit a b q k x y w na.gap nb.gap (w_rest (a * S60) (q * b) (9 * b) d.lo (go (a * S60) d.hi)) r.gap);
  };
}
  where
    go : (z : ℕ) → z < (q + 9) * b → z ≤ q * b + 9 * b
    go z h = omega arith

pub quot_high : {a b q : ℕ} (m n : ℕ) → Quot60 a b q → 0 < n → 0 < b → n * a ≤ m * b → q ≤ m * S60 / n
quot_high {a} {b} {q} m n d hn hb hr =
    (le-div_iff_mul-le hn).1 (le_of_mul-le-mul_right (go (mul-le-mul_left n d.lo) (mul-le-mul_right S60 hr)) hb)
  where
    go : n * (q * b) ≤ n * (a * S60) → n * a * S60 ≤ m * b * S60 → q * n * b ≤ m * S60 * b
    go x y = omega arith

-- ---- the same with bounds: the slope a/b is at most ha/lb
slope : (a b ha lb : ℕ) → a ≤ ha → lb ≤ b → lb * a ≤ ha * b
slope a b ha lb h k = le_trans (mul-le-mul k h) (le_of_eq (go b ha))
  where
    go : (b ha : ℕ) → b * ha ≡ ha * b
    go b ha = omega arith

quot_pre : (a b ha lb hb : ℕ) → QuotTest lb ha hb → a ≤ ha → lb ≤ b → b ≤ hb → QuotPre a b
quot_pre a b ha lb hb t p q r = go (leb→le (2 ^ 59) lb t.0) (leb→le hb (2 ^ 61) t.1) (leb→le (4 * ha) (5 * lb) t.2)
  where
    go : 2 ^ 59 ≤ lb → hb ≤ 2 ^ 61 → 4 * ha ≤ 5 * lb → QuotPre a b
    go x y z = (omega arith, omega arith, omega arith)

quot_low : {a b q : ℕ} (la hb : ℕ) → Quot60 a b q → la ≤ a → b ≤ hb → 0 < hb → la * S60 / hb - 9 ≤ q
quot_low {a} {b} {q} la hb d h k z =
    fin (la * S60 / hb) (le_of_mul-le-mul_right (le_trans (div-mul-le_self (la * S60) hb) (le_trans (mul-le-mul_right S60 h) (le_trans (below (a * S60) d.hi) (mul-le-mul_left (q + 9) k)))) z)
  where
    below : (x : ℕ) → x < (q + 9) * b → x ≤ (q + 9) * b
    below x l = omega arith

    fin : (x : ℕ) → x ≤ q + 9 → x - 9 ≤ q
    fin x l = omega arith

pub fix_quot : {a b : ℕ} {w x y : ℤ} {ea la ha eb lb hb k : ℕ}
    → Ratio w x y k
    → Fixed a x ea la ha
    → Fixed b y eb lb hb
    → QuotTest lb ha hb
    → T (ltb 0 (lb * least lb eb))
    → Fixed (quot60 a b) w (quot_e ea lb eb k ha lb) (la * S60 / hb - 9) (ha * S60 / lb)
fix_quot {a} {b} {la = la} {ha = ha} {lb = lb} {hb = hb} r fa fb t u =
    let d = quot60_is a b (quot_pre a b ha lb hb t fa.high fb.low fb.high) in
    let l = large (leb→le (2 ^ 59) lb t.0) in
    record {
      near = near_quot ha lb d r fa.near fb.near fb.low (le_trans l fb.low) u (slope a b ha lb fa.high fb.low);
      low = quot_low la hb d fa.low fb.high (le_trans l (le_trans fb.low fb.high));
      high = quot_high ha lb d l (le_trans l fb.low) (slope a b ha lb fa.high fb.low);
    }
  where
    large : 2 ^ 59 ≤ lb → 0 < lb
    large x = omega arith

-- ---- what is a quotient. The definition's own
pub ratio_div : (x y : ℤ) → 0 < nat_abs y → Ratio (quotient x y) x y 1
unfolding quotient
ratio_div x (pos b) h = record {
  gap = w_same _ (law (x *ℤ pos unit) (floor (x *ℤ pos unit) b *ℤ pos b)) (w_neg (w_up (1 * b) (omega arith) (w_floor_rest (x *ℤ pos unit) b h)));
}
  where
    law : (x y : ℤ) → neg_ℤ (x -ℤ y) ≡ y -ℤ x
    law x y = ring (x ∷ y ∷ []) λ ρ ex ey. simp (Z·ring, ex, ey) (by_ring _ _ _ refl)
ratio_div x (negsuc b) h = record {
  gap = w_same _ (law x (floor (neg_ℤ x *ℤ pos unit) (suc b)) (pos (suc b)) (pos unit)) (w_up (1 * suc b) (omega arith) (w_floor_rest (neg_ℤ x *ℤ pos unit) (suc b) h));
}
  where
    law : (x w y U : ℤ) → neg_ℤ x *ℤ U -ℤ w *ℤ y ≡ w *ℤ neg_ℤ y -ℤ x *ℤ U
    law x w y U = ring (x ∷ w ∷ y ∷ U ∷ []) λ ρ e1 e2 e3 e4. simp (Z·ring, e1, e2, e3, e4) (by_ring _ _ _ refl)

-- a quotient times a number: w·z is v/y, where w is x/y and v is x·z
ratio_mul_id : (w z r y x v U : ℤ) → (w *ℤ y -ℤ x *ℤ U) *ℤ z -ℤ (w *ℤ z -ℤ r *ℤ U) *ℤ y +ℤ (x *ℤ z -ℤ v *ℤ U) *ℤ U ≡ (r *ℤ y -ℤ v *ℤ U) *ℤ U
ratio_mul_id w z r y x v U =
    ring (w ∷ z ∷ r ∷ y ∷ x ∷ v ∷ U ∷ []) λ ρ e1 e2 e3 e4 e5 e6 e7. simp (Z·ring, e1, e2, e3, e4, e5, e6, e7) (by_ring _ _ _ refl)

shrink : (U Y D k h j i : ℕ) → 0 < U → D * U ≤ k * Y * (h * U) + 1 * U * Y + j * U * U → U ≤ i * Y → D ≤ (k * h + 1 + j * i) * Y
shrink U Y D k h j i hu e g = le_of_mul-le-mul_right (go (mul-le-mul_left (j * U) g)) hu
  where
    go : j * U * U ≤ j * U * (i * Y) → D * U ≤ (k * h + 1 + j * i) * Y * U
    go x = omega arith

-- where y is at least 1/i
pub ratio_mul_by : {w x y : ℤ} (i : ℕ) (z v : ℤ) (h j : ℕ) {k : ℕ}
    → Ratio w x y k
    → Within z (h * unit)
    → unit ≤ i * nat_abs y
    → Within (x *ℤ z -ℤ v *ℤ pos unit) (j * unit)
    → Ratio (product w z) v y (k * h + 1 + j * i)
ratio_mul_by {w} {x} {y} i z v h j {k} r hz hy hv = record {
  gap = w_up _ (shrink unit (nat_abs y) ((k * nat_abs y * (h * unit) + 1 * unit * nat_abs y + j * unit * unit) / unit) k h j i (lit< tt) (div-mul-le_self _ unit) hy)
      (w_div (product w z *ℤ y -ℤ v *ℤ pos unit) unit _ (lit< tt)
      (w_same _ (ratio_mul_id w z (product w z) y x v (pos unit))
      (w_add (w_sub (w_mul r.gap hz) (w_mul (product_rest w z) (by_abs y (le_refl _)))) (w_mul hv (w_num unit)))));
}

pub ratio_mul : {w x y : ℤ} (z : ℤ) (h : ℕ) {k : ℕ} → Ratio w x y k → Within z (h * unit) → unit ≤ nat_abs y → Ratio (product w z) (product x z) y (k * h + 1 + 1)
ratio_mul {w} {x} {y} z h r hz hy = ratio_mul_by 1 z (product x z) h 1 r hz (le_trans hy (le_of_eq (once (nat_abs y)))) (product_rest x z)
  where
    once : (n : ℕ) → n ≡ 1 * n
    once n = omega arith

-- how large a quotient is, at most and at least
high_core : (U W X Y k L : ℕ) → 0 < L → L ≤ Y → W * Y ≤ X * U + k * Y → W ≤ X * U / L + k
high_core U W X Y k L h_l h_y h = go (dec_le k W)
  where
    go : Dec (k ≤ W) → W ≤ X * U / L + k
    go (no r) = omega arith
    go (yes r) =
        let e : W ≡ (W - k) + k = omega arith in
        let d : W - k ≤ X * U / L = (le-div_iff_mul-le h_l).1 (le_trans (mul-le-mul_left (W - k) h_y) (fin (W - k) (rw e at h))) in
        omega arith
      where
        fin : (d : ℕ) → (d + k) * Y ≤ X * U + k * Y → d * Y ≤ X * U
        fin d g = omega arith

pub ratio_high : {w x y : ℤ} {k X : ℕ} (L : ℕ) → Ratio w x y k → Within x X → L ≤ nat_abs y → 0 < L → Within w (X * unit / L + k)
ratio_high {w} {x} {y} {k} {X} L r hx hy h_l = record {
  within = high_core unit (nat_abs w) X (nat_abs y) k L h_l hy
      (le_trans (le_of_eq (sym (abs_mul w y)))
      (le_trans (triangle (w *ℤ y) (x *ℤ pos unit) (k * nat_abs y) r.gap.within).0
      (more (k * nat_abs y) (le_trans (le_of_eq (abs_mul x (pos unit))) (mul-le-mul_right unit hx.within)))));
}
  where
    more : {a b : ℕ} (c : ℕ) → a ≤ b → a + c ≤ b + c
    more c h = omega arith

low_core : (U W X Y k H x : ℕ) → 0 < H → Y ≤ H → x ≤ X → X * U ≤ W * Y + k * Y → x * U / H ≤ W + k
low_core U W X Y k H x h_h h_y hx h =
    le_of_mul-le-mul_right (le_trans (div-mul-le_self (x * U) H) (le_trans (mul-le-mul_right U hx) (le_trans (go h) (mul-le-mul_left (W + k) h_y)))) h_h
  where
    go : X * U ≤ W * Y + k * Y → X * U ≤ (W + k) * Y
    go g = omega arith

pub ratio_low : {w x y : ℤ} {k : ℕ} (l H : ℕ) → Ratio w x y k → l ≤ nat_abs x → nat_abs y ≤ H → 0 < H → l * unit / H ≤ nat_abs w + k
ratio_low {w} {x} {y} {k} l H r hx hy h_h =
    low_core unit (nat_abs w) (nat_abs x) (nat_abs y) k H l h_h hy hx
    (le_trans (le_of_eq (sym (abs_mul x (pos unit))))
    (le_trans (triangle (w *ℤ y) (x *ℤ pos unit) (k * nat_abs y) r.gap.within).1 (more (k * nat_abs y) (le_of_eq (abs_mul w y)))))
  where
    more : {a b : ℕ} (c : ℕ) → a ≤ b → a + c ≤ b + c
    more c h = omega arith

-- ---- doubled numbers: where the code halves a numerator and a denominator, the double stands for the definition's
pub quot_double : {a b q : ℕ} → Quot60 a b q → Quot60 (2 * a) (2 * b) q
quot_double {a} {b} {q} d = record { lo = omega (arith, d.lo); hi = omega (arith, d.hi) }

double_is : (x : ℤ) → x +ℤ x ≡ pos 2 *ℤ x
double_is x = ring (x ∷ []) λ ρ e. simp (Z·ring, ev_num ρ, e) (by_ring _ _ _ refl)

pub fix_twice : {a : ℕ} {x : ℤ} {e lo hi : ℕ} → Fixed a x e lo hi → Fixed (2 * a) (pos 2 *ℤ x) (e + e) (2 * lo) (2 * hi)
fix_twice {a} {x} {e} f = record {
  near = subst (λ t. Near60 t (pos 2 *ℤ x) (e + e)) (twice a) (subst (λ z. Near60 (a + a) z (e + e)) (double_is x) (near_add f.near f.near));
  low = mul-le-mul_left 2 f.low;
  high = mul-le-mul_left 2 f.high;
}
  where
    twice : (a : ℕ) → a + a ≡ 2 * a
    twice a = omega arith

-- back from the double
pub fix_half : {e lo hi : ℕ} (v : ℕ) (w : ℤ) → Fixed (2 * v) (pos 2 *ℤ w) e lo hi → Fixed v w (e / 2) (lo / 2) (hi / 2)
fix_half {e} v w f = record {
  near = record { gap = w_div (pos v *ℤ pos unit -ℤ w *ℤ pos S60) 2 e (lit< tt) (w_same _ (law (pos v) w (pos unit) (pos S60)) f.near.gap) };
  low = omega (arith, f.low);
  high = omega (arith, f.high);
}
  where
    law : (v w U S : ℤ) → pos 2 *ℤ v *ℤ U -ℤ pos 2 *ℤ w *ℤ S ≡ (v *ℤ U -ℤ w *ℤ S) *ℤ pos 2
    law v w U S = ring (v ∷ w ∷ U ∷ S ∷ []) λ ρ e1 e2 e3 e4. simp (Z·ring, ev_num ρ, e1, e2, e3, e4) (by_ring _ _ _ refl)

-- twice the half of a number is it, or one less
pub fix_halved : {a : ℕ} {x : ℤ} {e lo hi : ℕ} → Fixed a x e lo hi → Fixed (2 * (a / 2)) x (e + unit) (lo - 1) hi
fix_halved {a} {x} {e} f = record { near = less; low = omega (arith, f.low); high = omega (arith, f.high) }
  where
    law : (a r U y : ℤ) → (a *ℤ U -ℤ y) -ℤ (a -ℤ r) *ℤ U ≡ r *ℤ U -ℤ y
    law a r U y = ring (a ∷ r ∷ U ∷ y ∷ []) λ ρ e1 e2 e3 e4. simp (Z·ring, e1, e2, e3, e4) (by_ring _ _ _ refl)

    less : Near60 (2 * (a / 2)) x (e + unit)
    less = record {
      gap = w_same _ (law (pos a) (pos (2 * (a / 2))) (pos unit) (x *ℤ pos S60))
          (w_up _ (omega arith) (w_sub f.near.gap (w_mul (w_rest a (2 * (a / 2)) 1 (omega arith) (omega arith)) (w_num unit))));
    }

-- a product with a doubled factor
pub fix_mul_double : {b : ℕ} {x y : ℤ} {ea la ha eb lb hb : ℕ} (a : ℕ) (z : ℤ)
    → Within (x *ℤ y -ℤ z *ℤ pos unit) (1 * unit)
    → Fixed (2 * a) x ea la ha
    → Fixed b y eb lb hb
    → T (leb ha (2 ^ 62))
    → T (leb hb (2 ^ 61))
    → Fixed (2 * mul60 a b) z (slack_e S60 4 ha ea hb eb) (la * lb / S60 - 4) (ha * hb / S60)
fix_mul_double {b} {la = la} {ha = ha} {lb = lb} {hb = hb} a z hz h k t u =
    let m = mul60_is a b (half h.high (leb→le ha (2 ^ 62) t)) (le_trans k.high (leb→le hb (2 ^ 61) u)) in
    let l = lo (mul60 a b) m.lo in
    let g = hi (mul60 a b) m.hi in
    record {
      near = near_mul_slack z 4 l g h.high k.high h.near k.near hz;
      low = least_of (2 * mul60 a b) (2 * a * b) (la * lb) (la * lb / S60) (mul-le-mul h.low k.low) g (div-mul-le_self (la * lb) S60);
      high = (le-div_iff_mul-le (lit< tt)).1 (le_trans l (mul-le-mul h.high k.high));
    }
  where
    half : 2 * a ≤ ha → ha ≤ 2 ^ 62 → a ≤ 2 ^ 61
    half x y = omega arith

    lo : (r : ℕ) → r * S60 ≤ a * b → 2 * r * S60 ≤ 2 * a * b
    lo r x = omega arith

    hi : (r : ℕ) → a * b < (r + 2) * S60 → 2 * a * b ≤ 2 * r * S60 + 4 * S60
    hi r x = omega arith

    least_of : (r p l q : ℕ) → l ≤ p → p ≤ r * S60 + 4 * S60 → q * S60 ≤ l → q - 4 ≤ r
    least_of r p l q x y z = omega arith

double_pre : (a b ha lb hb : ℕ) → QuotTestDouble lb ha hb → 2 * a ≤ ha → lb ≤ 2 * b → 2 * b ≤ hb → QuotPre a b
double_pre a b ha lb hb t p q r = go (leb→le (2 ^ 60) lb t.0) (leb→le hb (2 ^ 62) t.1) (leb→le (4 * ha) (5 * lb) t.2)
  where
    go : 2 ^ 60 ≤ lb → hb ≤ 2 ^ 62 → 4 * ha ≤ 5 * lb → QuotPre a b
    go x y z = (omega arith, omega arith, omega arith)

pub fix_quot_double : {w x y : ℤ} {ea la ha eb lb hb k : ℕ} (a b : ℕ)
    → Ratio w x y k
    → Fixed (2 * a) x ea la ha
    → Fixed (2 * b) y eb lb hb
    → QuotTestDouble lb ha hb
    → T (ltb 0 (lb * least lb eb))
    → Fixed (quot60 a b) w (quot_e ea lb eb k ha lb) (la * S60 / hb - 9) (ha * S60 / lb)
fix_quot_double {la = la} {ha = ha} {lb = lb} {hb = hb} a b r fa fb t u =
    let d = quot_double (quot60_is a b (double_pre a b ha lb hb t fa.high fb.low fb.high)) in
    let l = large (leb→le (2 ^ 60) lb t.0) in
    record {
      near = near_quot ha lb d r fa.near fb.near fb.low (le_trans l fb.low) u (slope (2 * a) (2 * b) ha lb fa.high fb.low);
      low = quot_low la hb d fa.low fb.high (le_trans l (le_trans fb.low fb.high));
      high = quot_high ha lb d l (le_trans l fb.low) (slope (2 * a) (2 * b) ha lb fa.high fb.low);
    }
  where
    large : 2 ^ 60 ≤ lb → 0 < lb
    large x = omega arith
