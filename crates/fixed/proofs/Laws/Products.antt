-- From how near the parts are, how near a constant, a sum, a difference and a product are. The errors and bounds are functions of those of the parts, which
-- compute; `fix-le` takes the result to round numbers, with `tt` for each comparison. Assumes nothing.
use Rattle.std.specs.Prelude.{◌≡◌, refl, [], ◌∷◌, ℕ, ◌+◌, ◌*◌, ◌-◌, ◌/◌, ◌^◌, ◌<◌, ◌≤◌, T, leb, ltb, ℤ, pos, neg_ℤ, ◌+ℤ◌, ◌-ℤ◌, ◌*ℤ◌, nat_abs, ◌≤ℤ◌}
use Rattle.std.proofs.Common.{sym, ap, subst, mul-le-mul, le_trans, le_refl, le-div_iff_mul-le, div-mul-le_self, arith, leb→le, ltb→lt, lit<}
use Rattle.std.proofs.Math.IntN.{*ℤ_comm}
use Rattle.arith.specs.Laws.Diff.{◌⊖◌, Z·ℕ, lin}
use Rattle.arith.specs.Laws.Ring.{ring, Z·ring, by_ring, ev_num}
use Rattle.arith.specs.Floor.{floor}
use Rattle.arith.specs.Laws.Floor.{≤-floor_iff}
use Rattle.arith.specs.Within.{Within}
use Rattle.arith.specs.Laws.Within.{w_num, w_add, w_sub, w_neg, w_mul}
use Rattle.rules.specs.Scaled.{unit, product}
use Rattle.fixed.specs.Worked.{S60, mul60}
use Rattle.fixed.specs.Nearness.{NearAt, Near60, Fixed}
use Rattle.fixed.specs.Relations.{Mul60}
use Rattle.fixed.proofs.Laws.Words.{mul60_is}
use Rattle.fixed.proofs.Laws.Bounds.{w_div, w_same, w_up, w_pos, w_rest, w_from, w_floor_rest}
use Rattle.fixed.specs.Laws.Products.{most, mul_e, off_at, self, slack_e}

-- ---- weakening, constants, sums, differences, at any scale
pub near_le : {s : ℕ} {v w : ℤ} {e : ℕ} (e' : ℕ) → NearAt s v w e → T (leb e e') → NearAt s v w e'
near_le {e = e} e' h t = record { gap = w_up e' (leb→le e e' t) h.gap }

pub near_const : (s : ℕ) (c x : ℤ) → NearAt s c x (off_at s c x)
unfolding off_at
near_const s c x = record { gap = record { within = le_refl _ } }

add_id : (S U a b A B : ℤ) → (a *ℤ U -ℤ A *ℤ S) +ℤ (b *ℤ U -ℤ B *ℤ S) ≡ (a +ℤ b) *ℤ U -ℤ (A +ℤ B) *ℤ S
add_id S U a b A B = ring (S ∷ U ∷ a ∷ b ∷ A ∷ B ∷ []) λ ρ e1 e2 e3 e4 e5 e6. simp (Z·ring, e1, e2, e3, e4, e5, e6) (by_ring _ _ _ refl)

pub near_add : {s : ℕ} {a b x y : ℤ} {ea eb : ℕ} → NearAt s a x ea → NearAt s b y eb → NearAt s (a +ℤ b) (x +ℤ y) (ea + eb)
near_add {s} {a} {b} {x} {y} h k = record { gap = w_same _ (add_id (pos s) (pos unit) a b x y) (w_add h.gap k.gap) }

neg_id : (S U a A : ℤ) → neg_ℤ (a *ℤ U -ℤ A *ℤ S) ≡ neg_ℤ a *ℤ U -ℤ neg_ℤ A *ℤ S
neg_id S U a A = ring (S ∷ U ∷ a ∷ A ∷ []) λ ρ e1 e2 e3 e4. simp (Z·ring, e1, e2, e3, e4) (by_ring _ _ _ refl)

pub near_neg : {s : ℕ} {a x : ℤ} {e : ℕ} → NearAt s a x e → NearAt s (neg_ℤ a) (neg_ℤ x) e
near_neg {s} {a} {x} h = record { gap = w_same _ (neg_id (pos s) (pos unit) a x) (w_neg h.gap) }

pub near_minus : {s : ℕ} {a b x y : ℤ} {ea eb : ℕ} → NearAt s a x ea → NearAt s b y eb → NearAt s (a -ℤ b) (x -ℤ y) (ea + eb)
near_minus h k = near_add h (near_neg k)

-- r = a − b of natural numbers
pub near_sub : {a b r : ℕ} {x y : ℤ} {ea eb : ℕ} → r + b ≡ a → Near60 a x ea → Near60 b y eb → Near60 r (x -ℤ y) (ea + eb)
near_sub {a} {b} {r} {x} {y} {ea} {eb} e h k = go (subst (λ n. Near60 n x ea) (sym e) h)
  where
    law : (r b : ℤ) → (r +ℤ b) -ℤ b ≡ r
    law r b = ring (r ∷ b ∷ []) λ ρ e1 e2. simp (Z·ring, e1, e2) (by_ring _ _ _ refl)

    go : Near60 (r + b) x ea → Near60 r (x -ℤ y) (ea + eb)
    go g = subst (λ z. NearAt S60 z (x -ℤ y) (ea + eb)) (law (pos r) (pos b)) (near_minus g k)

-- what is small is near nothing
pub near_zero : {w : ℤ} {n : ℕ} → Within w n → Near60 0 w (n * S60)
near_zero {w} h = record { gap = w_same _ (law w (pos S60)) (w_neg (w_mul h (w_num S60))) }
  where
    law : (w s : ℤ) → neg_ℤ (w *ℤ s) ≡ pos 0 -ℤ w *ℤ s
    law w s = ring (w ∷ s ∷ []) λ ρ ew es. simp (Z·ring, ev_num ρ, ew, es) (by_ring _ _ _ refl)

pub near_none : {v n : ℕ} → v ≤ n → Near60 v (pos 0) (n * unit)
near_none {v} h = record { gap = w_same _ (law (pos v *ℤ pos unit) (pos S60)) (w_mul (w_pos h) (w_num unit)) }
  where
    law : (x s : ℤ) → x ≡ x -ℤ pos 0 *ℤ s
    law x s = ring (x ∷ s ∷ []) λ ρ ex es. simp (Z·ring, ev_num ρ, ex, es) (by_ring _ _ _ refl)

pub near_most : {v : ℕ} {w : ℤ} {e hi : ℕ} → Near60 v w e → v ≤ hi → Within w (most hi e)
unfolding most
near_most {v} {w} h k = w_div w S60 _ (lit< tt) (w_from (w_mul (w_pos k) (w_num unit)) h.gap)

-- the same number is near any value close to one it is near
pub near_shift : {s : ℕ} {v w : ℤ} {e k : ℕ} (z : ℤ) → NearAt s v w e → Within (w -ℤ z) k → NearAt s v z (e + k * s)
near_shift {s} {v} {w} z h g = record { gap = w_same _ (law v w z (pos unit) (pos s)) (w_add h.gap (w_mul g (w_num s))) }
  where
    law : (v w z U S : ℤ) → (v *ℤ U -ℤ w *ℤ S) +ℤ (w -ℤ z) *ℤ S ≡ v *ℤ U -ℤ z *ℤ S
    law v w z U S = ring (v ∷ w ∷ z ∷ U ∷ S ∷ []) λ ρ e1 e2 e3 e4 e5. simp (Z·ring, e1, e2, e3, e4, e5) (by_ring _ _ _ refl)

-- a value that a large number is near is not negative
pub near_positive : {v : ℕ} {e lo : ℕ} (w : ℤ) → Near60 v w e → lo ≤ v → T (ltb e (lo * unit)) → pos 0 ≤ℤ w
near_positive {v} {e} {lo} w h k t = go (v * unit) w h.gap.within (le_trans (ltb→lt e (lo * unit) t) (mul-le-mul k (le_refl unit)))
  where
    go : (x : ℕ) (w : ℤ) → nat_abs (pos x -ℤ w *ℤ pos S60) ≤ e → e < x → pos 0 ≤ℤ w
    go x w = lin (w ∷ []) λ u v ew. simp (Z·ℕ, ew) (omega arith)

pub near_self : (v e : ℕ) → T (leb S60 e) → Near60 v (self v) e
near_self v e t = record { gap = w_up e (leb→le S60 e t) (w_floor_rest (pos v *ℤ pos unit) S60 (lit< tt)) }

-- ---- a product: a at scale S, b and r at scale Z
mul_id : (S Z U a b r A B R : ℤ)
    → (a *ℤ U) *ℤ (b *ℤ U -ℤ B *ℤ Z) +ℤ (a *ℤ U -ℤ A *ℤ S) *ℤ (b *ℤ U) -ℤ (a *ℤ U -ℤ A *ℤ S) *ℤ (b *ℤ U -ℤ B *ℤ Z) -ℤ (U *ℤ U) *ℤ (a *ℤ b -ℤ r *ℤ S) +ℤ (S *ℤ Z) *ℤ (A *ℤ B -ℤ R *ℤ U)
    ≡ (r *ℤ U -ℤ R *ℤ Z) *ℤ (S *ℤ U)
mul_id S Z U a b r A B R =
    ring (S ∷ Z ∷ U ∷ a ∷ b ∷ r ∷ A ∷ B ∷ R ∷ []) λ ρ e1 e2 e3 e4 e5 e6 e7 e8 e9. simp (Z·ring, e1, e2, e3, e4, e5, e6, e7, e8, e9) (by_ring _ _ _ refl)

pub mul_gen : (S Z U j i a b r : ℕ) (A B R : ℤ) {ha hb ea eb : ℕ}
    → 0 < S * U
    → Within (pos a) ha
    → Within (pos b) hb
    → Within (pos a *ℤ pos U -ℤ A *ℤ pos S) ea
    → Within (pos b *ℤ pos U -ℤ B *ℤ pos Z) eb
    → Within (pos a *ℤ pos b -ℤ pos r *ℤ pos S) (j * S)
    → Within (A *ℤ B -ℤ R *ℤ pos U) (i * U)
    → Within (pos r *ℤ pos U -ℤ R *ℤ pos Z) ((ha * U * eb + ea * (hb * U) + ea * eb + U * U * (j * S) + S * Z * (i * U)) / (S * U))
mul_gen S Z U j i a b r A B R h wa wb na nb rest floor_rest =
    w_div (pos r *ℤ pos U -ℤ R *ℤ pos Z) (S * U) _ h
    (w_same _ (mul_id (pos S) (pos Z) (pos U) (pos a) (pos b) (pos r) A B R)
    (w_add
    (w_sub (w_sub (w_add (w_mul (w_mul wa (w_num U)) nb) (w_mul na (w_mul wb (w_num U)))) (w_mul na nb)) (w_mul (w_num (U * U)) rest))
    (w_mul (w_num (S * Z)) floor_rest)))

pub near_mul_slack : {Z a b r : ℕ} {x y : ℤ} {ea eb ha hb : ℕ} (z : ℤ) (j : ℕ)
    → r * S60 ≤ a * b
    → a * b ≤ r * S60 + j * S60
    → a ≤ ha
    → b ≤ hb
    → Near60 a x ea
    → NearAt Z (pos b) y eb
    → Within (x *ℤ y -ℤ z *ℤ pos unit) (1 * unit)
    → NearAt Z (pos r) z (slack_e Z j ha ea hb eb)
unfolding slack_e
near_mul_slack {Z} {a} {b} {r} {x} {y} z j lo hi ha hb na nb hz = record {
  gap = mul_gen S60 Z unit j 1 a b r x y z (lit< tt) (w_pos ha) (w_pos hb) na.gap nb.gap (w_rest (a * b) (r * S60) (j * S60) lo hi) hz;
}

pub mul_rest : {a b r : ℕ} → Mul60 a b r → a * b ≤ r * S60 + 2 * S60
mul_rest {a} {b} {r} m = go (a * b) m.hi
  where
    go : (x : ℕ) → x < (r + 2) * S60 → x ≤ r * S60 + 2 * S60
    go x h = omega arith

pub product_rest : (x y : ℤ) → Within (x *ℤ y -ℤ product x y *ℤ pos unit) (1 * unit)
unfolding product
product_rest x y = w_floor_rest (x *ℤ y) unit (lit< tt)

pub product_comm : (x y : ℤ) → product x y ≡ product y x
unfolding product
product_comm x y = ap (λ z. floor z unit) (*ℤ_comm x y)

-- a product of two numbers that are not negative is not negative
pub product_nonneg : (x y : ℤ) → pos 0 ≤ℤ (x *ℤ y) → pos 0 ≤ℤ product x y
unfolding product
product_nonneg x y h = (≤-floor_iff (pos 0) (x *ℤ y) unit (lit< tt)).1 h

-- a product with a sum, against the sum of the products
pub product_sum : (x y z : ℤ) → Within ((product x y +ℤ product x z) -ℤ product x (y +ℤ z)) 3
product_sum x y z =
    w_div ((product x y +ℤ product x z) -ℤ product x (y +ℤ z)) unit _ (lit< tt)
    (w_same _ (law x y z (product x y) (product x z) (product x (y +ℤ z)) (pos unit)) (w_sub (w_sub (product_rest x (y +ℤ z)) (product_rest x y)) (product_rest x z)))
  where
    law : (x y z a b c U : ℤ) → (x *ℤ (y +ℤ z) -ℤ c *ℤ U) -ℤ (x *ℤ y -ℤ a *ℤ U) -ℤ (x *ℤ z -ℤ b *ℤ U) ≡ ((a +ℤ b) -ℤ c) *ℤ U
    law x y z a b c U = ring (x ∷ y ∷ z ∷ a ∷ b ∷ c ∷ U ∷ []) λ ρ e1 e2 e3 e4 e5 e6 e7. simp (Z·ring, e1, e2, e3, e4, e5, e6, e7) (by_ring _ _ _ refl)

-- against any value z within one of x·y
pub near_mul_to : {Z a b r : ℕ} {x y : ℤ} {ea eb ha hb : ℕ} (z : ℤ)
    → Mul60 a b r
    → a ≤ ha
    → b ≤ hb
    → Near60 a x ea
    → NearAt Z (pos b) y eb
    → Within (x *ℤ y -ℤ z *ℤ pos unit) (1 * unit)
    → NearAt Z (pos r) z (slack_e Z 2 ha ea hb eb)
near_mul_to z m = near_mul_slack z 2 m.lo (mul_rest m)

pub near_mul : {Z a b r : ℕ} {x y : ℤ} {ea eb ha hb : ℕ}
    → Mul60 a b r
    → a ≤ ha
    → b ≤ hb
    → Near60 a x ea
    → NearAt Z (pos b) y eb
    → NearAt Z (pos r) (product x y) (slack_e Z 2 ha ea hb eb)
near_mul {x = x} {y = y} m ha hb na nb = near_mul_to (product x y) m ha hb na nb (product_rest x y)

-- ---- the same with bounds
pub mul_high : {a b r ha hb : ℕ} → Mul60 a b r → a ≤ ha → b ≤ hb → r ≤ ha * hb / S60
mul_high m h k = (le-div_iff_mul-le (lit< tt)).1 (le_trans m.lo (mul-le-mul h k))

pub mul_low : {a b r la lb : ℕ} → Mul60 a b r → la ≤ a → lb ≤ b → la * lb / S60 - 1 ≤ r
mul_low {a} {b} {r} {la} {lb} m h k = go (mul-le-mul h k) (div-mul-le_self (la * lb) S60)
  where
    go : la * lb ≤ a * b → la * lb / S60 * S60 ≤ la * lb → la * lb / S60 - 1 ≤ r
    go g d = omega (arith, m.hi)

pub fix_const : (c : ℕ) (x : ℤ) → Fixed c x (off_at S60 (pos c) x) c c
fix_const c x = record { near = near_const S60 (pos c) x; low = le_refl c; high = le_refl c }

pub fix_add : {a b : ℕ} {x y : ℤ} {ea la ha eb lb hb : ℕ} → Fixed a x ea la ha → Fixed b y eb lb hb → Fixed (a + b) (x +ℤ y) (ea + eb) (la + lb) (ha + hb)
fix_add h k = record { near = near_add h.near k.near; low = omega (arith, h.low, k.low); high = omega (arith, h.high, k.high) }

pub fix_sub : {a b : ℕ} {x y : ℤ} {ea la ha eb lb hb : ℕ} → Fixed a x ea la ha → Fixed b y eb lb hb → b ≤ a → Fixed (a - b) (x -ℤ y) (ea + eb) (la - hb) (ha - lb)
fix_sub h k l = record { near = near_sub (omega arith) h.near k.near; low = omega (arith, h.low, k.high); high = omega (arith, h.high, k.low) }

-- the same where the bounds say that b is at most a
pub fix_minus : {a b : ℕ} {x y : ℤ} {ea la ha eb lb hb : ℕ} → Fixed a x ea la ha → Fixed b y eb lb hb → T (leb hb la) → Fixed (a - b) (x -ℤ y) (ea + eb) (la - hb) (ha - lb)
fix_minus {la = la} {hb = hb} h k t = fix_sub h k (le_trans k.high (le_trans (leb→le hb la t) h.low))

pub fix_le : {v : ℕ} {w : ℤ} {e lo hi : ℕ} (e' lo' hi' : ℕ) → Fixed v w e lo hi → T (leb e e') → T (leb lo' lo) → T (leb hi hi') → Fixed v w e' lo' hi'
fix_le {lo = lo} {hi = hi} e' lo' hi' h t u s = record {
  near = near_le e' h.near t;
  low = le_trans (leb→le lo' lo u) h.low;
  high = le_trans h.high (leb→le hi hi' s);
}

pub fix_to : {v : ℕ} {w : ℤ} {e hi : ℕ} → Near60 v w e → v ≤ hi → Fixed v w e 0 hi
fix_to n k = record { near = n; low = omega arith; high = k }

pub fix_shift : {v : ℕ} {w : ℤ} {e lo hi k : ℕ} (z : ℤ) → Fixed v w e lo hi → Within (w -ℤ z) k → Fixed v z (e + k * S60) lo hi
fix_shift z f h = record { near = near_shift z f.near h; low = f.low; high = f.high }

pub fix_self : (v : ℕ) {lo hi : ℕ} → lo ≤ v → v ≤ hi → Fixed v (self v) S60 lo hi
fix_self v h k = record { near = near_self v S60 tt; low = h; high = k }

-- a bound that is a computed number
pub up_to : {v hi : ℕ} (h : ℕ) → v ≤ hi → T (leb hi h) → v ≤ h
up_to {hi = hi} h k t = le_trans k (leb→le hi h t)

pub fixed_mul : {a b : ℕ} {x y : ℤ} {ea la ha eb lb hb : ℕ} → Fixed a x ea la ha → Fixed b y eb lb hb → T (leb ha (2 ^ 61)) → T (leb hb (2 ^ 61)) → Mul60 a b (mul60 a b)
fixed_mul {a} {b} h k t u = mul60_is a b (up_to (2 ^ 61) h.high t) (up_to (2 ^ 61) k.high u)

-- a·b of two numbers whose bounds are at most 2
pub fix_mul : {a b : ℕ} {x y : ℤ} {ea la ha eb lb hb : ℕ}
    → Fixed a x ea la ha
    → Fixed b y eb lb hb
    → T (leb ha (2 ^ 61))
    → T (leb hb (2 ^ 61))
    → Fixed (mul60 a b) (product x y) (mul_e ha ea hb eb) (la * lb / S60 - 1) (ha * hb / S60)
fix_mul h k t u =
    let m = fixed_mul h k t u in
    record { near = near_mul m h.high k.high h.near k.near; low = mul_low m h.low k.low; high = mul_high m h.high k.high }
