-- Signs. A worked number is a size; that it stands for a definition's value at a negative argument is said by `turned`. The definition's floors go down on
-- both sides of 0, so an odd function is odd to within a unit, which the laws of a product already allow. Assumes nothing.
use Rattle.std.specs.Prelude.{Bool, true, false, ◌≡◌, refl, [], ◌∷◌, ℕ, ◌*◌, ◌-◌, ◌/◌, ◌^◌, ◌≤◌, T, leb, ℤ, pos, negsuc, neg_ℤ, ◌-ℤ◌, ◌*ℤ◌, nat_abs}
use Rattle.std.proofs.Common.{ap, subst}
use Rattle.arith.specs.Laws.Ring.{ring, Z·ring, by_ring}
use Rattle.arith.specs.Floor.{floor}
use Rattle.arith.specs.Within.{Within}
use Rattle.arith.specs.Laws.Within.{w_neg}
use Rattle.rules.specs.Scaled.{unit, product}
use Rattle.fixed.specs.Worked.{S60, mul60}
use Rattle.fixed.specs.Nearness.{NearAt, Near60, Fixed, Ratio, turned}
use Rattle.fixed.specs.Relations.{Mul60}
use Rattle.fixed.proofs.Laws.Bounds.{w_same}
use Rattle.fixed.specs.Laws.Products.{slack_e, mul_e}
use Rattle.fixed.proofs.Laws.Products.{near_neg, near_mul, near_mul_to, product_rest, fixed_mul, mul_low, mul_high}
use Rattle.fixed.specs.Laws.Turned.{below_zero}

pub turned_size : (z : ℤ) → turned (below_zero z) (pos (nat_abs z)) ≡ z
unfolding turned
turned_size (pos n) = refl
turned_size (negsuc n) = refl

pub turned_twice : (s : Bool) (z : ℤ) → turned s (turned s z) ≡ z
unfolding turned
turned_twice false z = refl
turned_twice true z = go z
  where
    go : (z : ℤ) → neg_ℤ (neg_ℤ z) ≡ z
    go z = ring (z ∷ []) λ ρ e. simp (Z·ring, e) (by_ring _ _ _ refl)

pub turned_within : {z : ℤ} {n : ℕ} (s : Bool) → Within z n → Within (turned s z) n
unfolding turned
turned_within false h = h
turned_within true h = w_neg h

pub within_turned : {n : ℕ} (s : Bool) (z : ℤ) → Within (turned s z) n → Within z n
within_turned {n} s z h = subst (λ t. Within t n) (turned_twice s z) (turned_within s h)

pub turned_square : (s : Bool) (x : ℤ) → product (turned s x) (turned s x) ≡ product x x
unfolding turned product
turned_square false x = refl
turned_square true x = ap (λ z. floor z unit) (go x)
  where
    go : (x : ℤ) → neg_ℤ x *ℤ neg_ℤ x ≡ x *ℤ x
    go x = ring (x ∷ []) λ ρ ex. simp (Z·ring, ex) (by_ring _ _ _ refl)

pub near_turn : {v : ℕ} {Z : ℕ} {e : ℕ} (s : Bool) (x : ℤ) → NearAt Z (pos v) (turned s x) e → NearAt Z (turned s (pos v)) x e
unfolding turned
near_turn false x h = h
near_turn {v} {Z} {e} true x h = subst (λ z. NearAt Z (neg_ℤ (pos v)) z e) (twice x) (near_neg h)
  where
    twice : (z : ℤ) → neg_ℤ (neg_ℤ z) ≡ z
    twice z = ring (z ∷ []) λ ρ e. simp (Z·ring, e) (by_ring _ _ _ refl)

-- x·y and y·x with a turned x
pub turned_rest : (s : Bool) (x y : ℤ) → Within (turned s x *ℤ y -ℤ turned s (product x y) *ℤ pos unit) (1 * unit)
unfolding turned
turned_rest false x y = product_rest x y
turned_rest true x y = w_same _ (law x y (product x y) (pos unit)) (w_neg (product_rest x y))
  where
    law : (x y z U : ℤ) → neg_ℤ (x *ℤ y -ℤ z *ℤ U) ≡ neg_ℤ x *ℤ y -ℤ neg_ℤ z *ℤ U
    law x y z U = ring (x ∷ y ∷ z ∷ U ∷ []) λ ρ e1 e2 e3 e4. simp (Z·ring, e1, e2, e3, e4) (by_ring _ _ _ refl)

pub turned_rest_right : (s : Bool) (x y : ℤ) → Within (x *ℤ turned s y -ℤ turned s (product x y) *ℤ pos unit) (1 * unit)
unfolding turned
turned_rest_right false x y = product_rest x y
turned_rest_right true x y = w_same _ (law x y (product x y) (pos unit)) (w_neg (product_rest x y))
  where
    law : (x y z U : ℤ) → neg_ℤ (x *ℤ y -ℤ z *ℤ U) ≡ x *ℤ neg_ℤ y -ℤ neg_ℤ z *ℤ U
    law x y z U = ring (x ∷ y ∷ z ∷ U ∷ []) λ ρ e1 e2 e3 e4. simp (Z·ring, e1, e2, e3, e4) (by_ring _ _ _ refl)

-- a product whose first (second) factor is turned
pub near_mul_turned : {Z a b r : ℕ} {y : ℤ} {ea eb ha hb : ℕ} (s : Bool) (x : ℤ)
    → Mul60 a b r
    → a ≤ ha
    → b ≤ hb
    → Near60 a (turned s x) ea
    → NearAt Z (pos b) y eb
    → NearAt Z (pos r) (turned s (product x y)) (slack_e Z 2 ha ea hb eb)
near_mul_turned {y = y} s x m ha hb na nb = near_mul_to (turned s (product x y)) m ha hb na nb (turned_rest s x y)

pub near_mul_turned_right : {Z a b r : ℕ} {x : ℤ} {ea eb ha hb : ℕ} (s : Bool) (y : ℤ)
    → Mul60 a b r
    → a ≤ ha
    → b ≤ hb
    → Near60 a x ea
    → NearAt Z (pos b) (turned s y) eb
    → NearAt Z (pos r) (turned s (product x y)) (slack_e Z 2 ha ea hb eb)
near_mul_turned_right {x = x} s y m ha hb na nb = near_mul_to (turned s (product x y)) m ha hb na nb (turned_rest_right s x y)

pub fix_mul_turned : {a b : ℕ} {y : ℤ} {ea la ha eb lb hb : ℕ} (s : Bool) (x : ℤ)
    → Fixed a (turned s x) ea la ha
    → Fixed b y eb lb hb
    → T (leb ha (2 ^ 61))
    → T (leb hb (2 ^ 61))
    → Fixed (mul60 a b) (turned s (product x y)) (mul_e ha ea hb eb) (la * lb / S60 - 1) (ha * hb / S60)
fix_mul_turned s x h k t u =
    let m = fixed_mul h k t u in
    record { near = near_mul_turned s x m h.high k.high h.near k.near; low = mul_low m h.low k.low; high = mul_high m h.high k.high }

-- the square of a turned number
pub fix_square_turned : {a : ℕ} {ea la ha : ℕ} (s : Bool) (x : ℤ)
    → Fixed a (turned s x) ea la ha
    → T (leb ha (2 ^ 61))
    → Fixed (mul60 a a) (product x x) (mul_e ha ea ha ea) (la * la / S60 - 1) (ha * ha / S60)
fix_square_turned {a} {ea} {la} {ha} s x h t =
    let m = fixed_mul h h t t in
    subst (λ z. Fixed (mul60 a a) z (mul_e ha ea ha ea) (la * la / S60 - 1) (ha * ha / S60)) (turned_square s x)
    (record { near = near_mul m h.high h.high h.near h.near; low = mul_low m h.low h.low; high = mul_high m h.high h.high })

pub ratio_turned : {w x y : ℤ} {k : ℕ} (s : Bool) → Ratio w x y k → Ratio (turned s w) (turned s x) y k
unfolding turned
ratio_turned false r = r
ratio_turned {w} {x} {y} true r = record { gap = w_same _ (law w x y (pos unit)) (w_neg r.gap) }
  where
    law : (w x y U : ℤ) → neg_ℤ (w *ℤ y -ℤ x *ℤ U) ≡ neg_ℤ w *ℤ y -ℤ neg_ℤ x *ℤ U
    law w x y U = ring (w ∷ x ∷ y ∷ U ∷ []) λ ρ e1 e2 e3 e4. simp (Z·ring, e1, e2, e3, e4) (by_ring _ _ _ refl)
