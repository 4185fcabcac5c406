-- The sum, the difference and the product of two doubles are the exact ones but for one part in 2 ^ 53. Assumes nothing.
use Rattle.std.specs.Prelude.{◌≡◌, refl, ℕ, zero, suc, ◌+◌, ◌-◌, ◌*◌, ◌/◌, ◌%◌, ◌^◌, ◌≤◌, ◌<◌, Bool, true, false, not, ◌&&◌, cond, T, leb, ltb, eqb, ℤ, pos, negsuc, neg_ℤ, nat_abs, ◌+ℤ◌, ◌-ℤ◌, ◌*ℤ◌, Float}
use Rattle.std.proofs.Common.{sym, ap, ◌∙◌, subst, le_trans, le_of_eq, lt_of_lt_of_le, not-le_of_lt, zero-mul, mul_comm, mul_assoc, mul_right_comm, add-mul, mul-pos, mul-le-mul_right, mul-lt-mul_of_pos_right, lt_of_mul-lt-mul_right, le_of_mul-le-mul_right, mul-div_cancel, mul-zero, le-add_right, le-add_left, arith, leb→le, ltb→lt, nltb→le, lit≤, pow-add, pow_pos}
use Rattle.std.proofs.Math.Nat.{zero-div, mul-sub, mul-mul-mul_comm}
use Rattle.std.proofs.Math.Pow.{pow-lt}
use Rattle.std.proofs.Math.IntN.{neg_ℤ-neg_ℤ}
use Rattle.std.specs.Float.{nan, inf, fin, binary64}
use Rattle.std.specs.Float.Ieee.{up, down, unlike, round, sum, add, sub, mul, neg, fits}
use Rattle.std.specs.Float.Ieee.Fits.{down_pos, and_l, and_r, round-fits, neg-fits}
use Rattle.std.specs.Float.Ieee.Exact.{HasValue}
use Rattle.std.specs.Float.Ieee.Scale.{round_same}
use Rattle.double.specs.Value.{limit, finite, signed, magnitude, negative, value, Number, plus, minus, Near}
use Rattle.arith.specs.Laws.Diff.{is_add, up_neg, dn_neg}
use Rattle.rules.specs.Polynomial.{double_unit}
use Rattle.double.proofs.Laws.Rounding.{grid, grid_near, grid_whole, grid_under, round_is_grid}

pub double_unit_pos : 0 < double_unit
unfolding double_unit
double_unit_pos = pow_pos 1074

-- ---- a double is a whole number of units
down_whole : (m k : ℕ) → k ≤ 1074 → m * 2 ^ 1074 / 2 ^ k * 2 ^ k ≡ m * 2 ^ 1074
down_whole m k h =
    let e : m * 2 ^ 1074 ≡ m * 2 ^ (1074 - k) * 2 ^ k = ap (λ (x : ℕ). m * 2 ^ x) (sym (back 1074 k h)) ∙ ap (λ (x : ℕ). m * x) (pow-add 2 (1074 - k) k) ∙ sym (mul_assoc m (2 ^ (1074 - k)) (2 ^ k)) in
    ap (λ (x : ℕ). x * 2 ^ k) (ap (λ (x : ℕ). x / 2 ^ k) e ∙ mul-div_cancel (m * 2 ^ (1074 - k)) (pow_pos k)) ∙ sym e
  where
    back : (a l : ℕ) → l ≤ a → a - l + l ≡ a
    back a l h = omega arith

low_enough : (k : ℕ) → 2 ^ k ≤ 2 ^ 1074 → k ≤ 1074
low_enough k h = go (ltb 1074 k) (ltb→lt 1074 k) (nltb→le 1074 k)
  where
    go : (b : Bool) → (T b → 1074 < k) → (T (not b) → k ≤ 1074) → k ≤ 1074
    go true l n = absurd (not-le_of_lt (pow-lt (l tt)) h)
    go false l n = n tt

whole_at : (w : ℕ) (e : ℤ) → down e ≤ 2 ^ 1074 → w * 2 ^ 1074 / down e * down e ≡ w * 2 ^ 1074
whole_at w (pos k) h = down_whole w 0 (omega arith)
whole_at w (negsuc k) h = down_whole w (suc k) (low_enough (suc k) h)

pub whole : (s : Bool) (m : ℕ) (e : ℤ) → T (fits binary64 (fin s m e)) → magnitude (fin s m e) * down e ≡ m * up e * double_unit
unfolding magnitude double_unit fits
whole s zero e h =
    let z : 0 * up e * 2 ^ 1074 ≡ 0 = ap (λ (x : ℕ). x * 2 ^ 1074) (zero-mul (up e)) ∙ zero-mul (2 ^ 1074) in
    ap (λ (x : ℕ). x * down e) (ap (λ (x : ℕ). x / down e) z ∙ zero-div (down e)) ∙ zero-mul (down e) ∙ sym z
whole s (suc m) e h =
    let a : Bool = eqb (suc m % 2) 1 && ltb (suc m) (2 ^ 53) in
    let c : Bool = leb (down e) (2 ^ 1074) in
    let d : Bool = ltb (suc m * up e) (2 ^ 1024 * down e) in
    whole_at (suc m * up e) e (leb→le (down e) (2 ^ 1074) (and_r a c (and_l (a && c) d h)))

-- ---- a value with its sign
pub value_of : (x : Float) (s : Bool) (g : ℕ) → HasValue x s g double_unit → T (finite x) × (value x ≡ signed s g)
unfolding value magnitude
value_of nan s g v = absurd v
value_of (inf t) s g v = absurd v
value_of (fin t m e) s g v = (tt, ap (λ (b : Bool). signed b (m * up e * double_unit / down e)) v.0 ∙ ap (λ (a : ℕ). signed s a) (ap (λ (a : ℕ). a / down e) v.1 ∙ mul-div_cancel g (down_pos e)))

pub signed_plus : (s : Bool) (a : ℕ) → plus (signed s a) ≡ cond s 0 a
signed_plus true a = up_neg (pos a)
signed_plus false a = refl

pub signed_minus : (s : Bool) (a : ℕ) → minus (signed s a) ≡ cond s a 0
signed_minus true a = dn_neg (pos a)
signed_minus false a = refl

-- ---- `round`, with its sign
round_value : (s : Bool) (num den : ℕ) → grid (num * double_unit) den < 2 ^ 2098 → HasValue (round binary64 s num den) s (grid (num * double_unit) den) double_unit
unfolding double_unit
round_value s num den h = round_is_grid s num den h

pub round_number : (s : Bool) (num den q : ℕ) → 0 < den → num * double_unit ≤ q → 2 ^ 52 * den ≤ q → q < 2 * limit * den
    → Number (round binary64 s num den) × (value (round binary64 s num den) ≡ signed s (grid (num * double_unit) den))
unfolding limit
round_number s num den q D a b c =
    let v = value_of (round binary64 s num den) s (grid (num * double_unit) den) (round_value s num den (grid_under (num * double_unit) den q (2 ^ 2098) D a b (room q den c))) in
    (record { is_finite = v.0; is_held = round-fits binary64 s num den }, v.1)
  where
    dbl : (q w : ℕ) → q < w → 2 * q < 2 * w
    dbl q w h = omega arith

    room : (q den : ℕ) → q < 2 ^ 2097 * den → 2 * q < 2 ^ 2098 * den
    room q den c = lt_of_lt_of_le (dbl q (2 ^ 2097 * den) c) (le_of_eq (sym (mul_assoc 2 (2 ^ 2097) den)))

-- from magnitudes with one sign to the numbers
pub signed_near : (s : Bool) (g w q : ℕ) (a b : ℤ) → a ≡ signed s g → plus b + minus (signed s w) ≡ plus (signed s w) + minus b
    → (2 ^ 53 * g ≤ 2 ^ 53 * w + q) × (2 ^ 53 * w ≤ 2 ^ 53 * g + q) → Near a b q
signed_near true g w q a b e f h =
    let p = ap plus e ∙ signed_plus true g in let m = ap minus e ∙ signed_minus true g in let r = signed_plus true w in let t = signed_minus true w in omega arith
signed_near false g w q a b e f h =
    let p = ap plus e in let m = ap minus e in omega arith

-- ---- a sum is `round` of the exact sum's magnitude with its sign
record Exact (r : Float) (z : ℤ) : Type 0 where
  sign : Bool
  size : ℕ
  is : r ≡ round binary64 sign size double_unit
  value : plus z + minus (signed sign size) ≡ plus (signed sign size) + minus z

same_sum : (a b c x y u : ℕ) → a * u ≡ x * c → b * u ≡ y * c → (a + b) * u ≡ (x + y) * c
same_sum a b c x y u e f = let p = add-mul a b u in let q = add-mul x y c in omega arith

same_dif : (a b c x y u : ℕ) → a * u ≡ x * c → b * u ≡ y * c → (a - b) * u ≡ (x - y) * c
same_dif a b c x y u e f =
    mul_comm (a - b) u ∙ mul-sub u a b ∙ ap (λ (z : ℕ). z - u * b) (mul_comm u a ∙ e ∙ mul_comm x c) ∙ ap (λ (z : ℕ). c * x - z) (mul_comm u b ∙ f ∙ mul_comm y c) ∙ sym (mul-sub c x y) ∙ mul_comm c (x - y)

pub same_lt : (a b c x y u : ℕ) → 0 < u → a * u ≡ x * c → b * u ≡ y * c → a < b → x < y
same_lt a b c x y u U e f h = lt_of_mul-lt-mul_right c (subst (λ (z : ℕ). z < y * c) e (subst (λ (z : ℕ). a * u < z) f (mul-lt-mul_of_pos_right h U)))

pub same_le : (a b c x y u : ℕ) → 0 < c → a * u ≡ x * c → b * u ≡ y * c → a ≤ b → x ≤ y
same_le a b c x y u C e f h = le_of_mul-le-mul_right (subst (λ (z : ℕ). z ≤ y * c) e (subst (λ (z : ℕ). a * u ≤ z) f (mul-le-mul_right u h))) C

-- z is x - y
dif_exact : (a b c x y : ℕ) → 0 < c → a * double_unit ≡ x * c → b * double_unit ≡ y * c → (z : ℤ) → plus z + y ≡ minus z + x
    → Exact (cond (ltb a b) (round binary64 true (b - a) c) (round binary64 false (a - b) c)) z
dif_exact a b c x y C e f z h = go (ltb a b) (ltb→lt a b) (nltb→le a b)
  where
    go : (o : Bool) → (T o → a < b) → (T (not o) → b ≤ a) → Exact (cond o (round binary64 true (b - a) c) (round binary64 false (a - b) c)) z
    go true l k =
        let g = same_lt a b c x y double_unit double_unit_pos e f (l tt) in
        let p = signed_plus true (y - x) in let m = signed_minus true (y - x) in
        record { sign = true; size = y - x; is = round_same binary64 true (b - a) c (y - x) double_unit C double_unit_pos (same_dif b a c y x double_unit f e); value = omega arith }
    go false l k =
        let g = same_le b a c y x double_unit C f e (k tt) in
        record { sign = false; size = x - y; is = round_same binary64 false (a - b) c (x - y) double_unit C double_unit_pos (same_dif a b c x y double_unit e f); value = omega arith }

-- z is y - x
dif_exact' : (a b c x y : ℕ) → 0 < c → a * double_unit ≡ x * c → b * double_unit ≡ y * c → (z : ℤ) → plus z + x ≡ minus z + y
    → Exact (cond (ltb a b) (round binary64 false (b - a) c) (round binary64 (ltb b a) (a - b) c)) z
dif_exact' a b c x y C e f z h = go (ltb a b) (ltb→lt a b) (nltb→le a b)
  where
    back : (o : Bool) → (T o → b < a) → (T (not o) → a ≤ b) → b ≤ a → Exact (round binary64 o (a - b) c) z
    back true l k n =
        let g = same_lt b a c y x double_unit double_unit_pos f e (l tt) in
        let p = signed_plus true (x - y) in let m = signed_minus true (x - y) in
        record { sign = true; size = x - y; is = round_same binary64 true (a - b) c (x - y) double_unit C double_unit_pos (same_dif a b c x y double_unit e f); value = omega arith }
    back false l k n =
        let g = same_le b a c y x double_unit C f e n in
        let i = same_le a b c x y double_unit C e f (k tt) in
        record { sign = false; size = x - y; is = round_same binary64 false (a - b) c (x - y) double_unit C double_unit_pos (same_dif a b c x y double_unit e f); value = omega arith }

    go : (o : Bool) → (T o → a < b) → (T (not o) → b ≤ a) → Exact (cond o (round binary64 false (b - a) c) (round binary64 (ltb b a) (a - b) c)) z
    go true l k =
        let g = same_lt a b c x y double_unit double_unit_pos e f (l tt) in
        record { sign = false; size = y - x; is = round_same binary64 false (b - a) c (y - x) double_unit C double_unit_pos (same_dif b a c y x double_unit f e); value = omega arith }
    go false l k = back (ltb b a) (ltb→lt b a) (nltb→le b a) (k tt)

sum_exact : (s t : Bool) (a b c x y : ℕ) → 0 < c → a * double_unit ≡ x * c → b * double_unit ≡ y * c → Exact (sum binary64 s a t b c) (signed s x +ℤ signed t y)
unfolding sum
sum_exact true true a b c x y C e f =
    let h = is_add (signed true x) (signed true y) in
    let p = signed_plus true x in let m = signed_minus true x in let p' = signed_plus true y in let m' = signed_minus true y in
    let p'' = signed_plus true (x + y) in let m'' = signed_minus true (x + y) in
    record { sign = true; size = x + y; is = round_same binary64 true (a + b) c (x + y) double_unit C double_unit_pos (same_sum a b c x y double_unit e f); value = omega arith }
sum_exact true false a b c x y C e f =
    let h = is_add (signed true x) (pos y) in let p = signed_plus true x in let m = signed_minus true x in
    dif_exact' a b c x y C e f (signed true x +ℤ pos y) (omega arith)
sum_exact false true a b c x y C e f =
    let h = is_add (pos x) (signed true y) in let p = signed_plus true y in let m = signed_minus true y in
    dif_exact a b c x y C e f (pos x +ℤ signed true y) (omega arith)
sum_exact false false a b c x y C e f =
    record { sign = false; size = x + y; is = round_same binary64 false (a + b) c (x + y) double_unit C double_unit_pos (same_sum a b c x y double_unit e f); value = omega arith }

-- ---- the sum
-- the numerators of a sum over the common denominator
pub over_common : (m u d d' x : ℕ) → x * d ≡ m * u * double_unit → m * u * d' * double_unit ≡ x * (d * d')
over_common m u d d' x h = mul_right_comm (m * u) d' double_unit ∙ ap (λ (z : ℕ). z * d') (sym h) ∙ mul_assoc x d d'

add_exact : (x y : Float) → Number x → Number y → Exact (add binary64 x y) (value x +ℤ value y)
unfolding add value
add_exact nan y p q = absurd p.is_finite
add_exact (inf s) y p q = absurd p.is_finite
add_exact (fin s m e) nan p q = absurd q.is_finite
add_exact (fin s m e) (inf t) p q = absurd q.is_finite
add_exact (fin s m e) (fin t n d) p q =
    sum_exact s t (m * up e * down d) (n * up d * down e) (down e * down d) (magnitude (fin s m e)) (magnitude (fin t n d)) (mul-pos (down_pos e) (down_pos d))
    (over_common m (up e) (down e) (down d) (magnitude (fin s m e)) (whole s m e p.is_held))
    (over_common n (up d) (down d) (down e) (magnitude (fin t n d)) (whole t n d q.is_held) ∙ ap (λ (z : ℕ). magnitude (fin t n d) * z) (mul_comm (down d) (down e)))

-- r is the exact z, rounded: it is a number, and z but for one part in 2 ^ 53
pub record Rounded (r : Float) (z : ℤ) (q : ℕ) : Type 0 where
  pub number : Number r
  pub near : Near (value r) z q

size_abs : (s : Bool) (w : ℕ) (z : ℤ) → plus z + minus (signed s w) ≡ plus (signed s w) + minus z → nat_abs z ≡ w
size_abs true w (pos n) h = let p = signed_plus true w in let m = signed_minus true w in omega arith
size_abs true w (negsuc n) h = let p = signed_plus true w in let m = signed_minus true w in omega arith
size_abs false w (pos n) h = omega arith
size_abs false w (negsuc n) h = omega arith

pub limit_pos : 0 < limit
unfolding limit
limit_pos = pow_pos 2096

limit_large : 2 ^ 52 ≤ limit
unfolding limit
limit_large = lit≤ tt

exact_rounded : (r : Float) (z : ℤ) → Exact r z → nat_abs z < limit → Rounded r z (nat_abs z)
exact_rounded r z x l =
    let s = x.sign in
    let w = x.size in
    let e : nat_abs z ≡ w = size_abs s w z x.value in
    let n = round_number s w double_unit ((w + 2 ^ 52) * double_unit) double_unit_pos (mul-le-mul_right double_unit (le-add_right w (2 ^ 52))) (mul-le-mul_right double_unit (le-add_left (2 ^ 52) w))
    (mul-lt-mul_of_pos_right (room w limit (subst (λ (k : ℕ). k < limit) e l) limit_large) double_unit_pos) in
    record {
      number = subst Number (sym x.is) n.0;
      near = signed_near s (grid (w * double_unit) double_unit) w (nat_abs z) (value r) z (ap value x.is ∙ n.1) x.value (subst (λ (k : ℕ). (2 ^ 53 * grid (w * double_unit) double_unit ≤ 2 ^ 53 * w + k) × (2 ^ 53 * w ≤ 2 ^ 53 * grid (w * double_unit) double_unit + k)) (sym e) (grid_whole w double_unit double_unit_pos));
    }
  where
    room : (w l : ℕ) → w < l → 2 ^ 52 ≤ l → w + 2 ^ 52 < 2 * l
    room w l a b = omega arith

pub add_near : (x y : Float) → Number x → Number y → nat_abs (value x +ℤ value y) < limit → Rounded (add binary64 x y) (value x +ℤ value y) (nat_abs (value x +ℤ value y))
add_near x y p q l = exact_rounded (add binary64 x y) (value x +ℤ value y) (add_exact x y p q) l

-- ---- the difference
neg_signed : (s : Bool) (a : ℕ) → signed (not s) a ≡ neg_ℤ (signed s a)
neg_signed true a = sym (neg_ℤ-neg_ℤ (pos a))
neg_signed false a = refl

pub neg_value : (x : Float) → Number x → value (neg x) ≡ neg_ℤ (value x)
unfolding neg value magnitude
neg_value nan p = absurd p.is_finite
neg_value (inf s) p = absurd p.is_finite
neg_value (fin s m e) p = neg_signed s (m * up e * double_unit / down e)

neg_finite : (x : Float) → T (finite x) → T (finite (neg x))
unfolding neg
neg_finite nan t = t
neg_finite (inf s) t = t
neg_finite (fin s m e) t = t

pub neg_num : (x : Float) → Number x → Number (neg x)
neg_num x p = record { is_finite = neg_finite x p.is_finite; is_held = neg-fits binary64 x p.is_held }

pub sub_near : (x y : Float) → Number x → Number y → nat_abs (value x -ℤ value y) < limit → Rounded (sub binary64 x y) (value x -ℤ value y) (nat_abs (value x -ℤ value y))
unfolding sub
sub_near x y p q l =
    subst (λ (v : ℤ). Rounded (add binary64 x (neg y)) (value x +ℤ v) (nat_abs (value x +ℤ v))) (neg_value y q)
    (add_near x (neg y) p (neg_num y q) (subst (λ (v : ℤ). nat_abs (value x +ℤ v) < limit) (sym (neg_value y q)) l))

-- ---- the product
pub signed_mul : (s t : Bool) (a b : ℕ) → signed s a *ℤ signed t b ≡ signed (unlike s t) (a * b)
signed_mul true true zero zero = refl
signed_mul true true zero (suc b) = ap (λ (k : ℕ). neg_ℤ (pos k)) (zero-mul (suc b)) ∙ sym (ap pos (zero-mul (suc b)))
signed_mul true true (suc a) zero = ap (λ (k : ℕ). neg_ℤ (pos k)) (mul-zero (suc a)) ∙ sym (ap pos (mul-zero (suc a)))
signed_mul true true (suc a) (suc b) = refl
signed_mul true false zero b = ap pos (zero-mul b) ∙ sym (ap (λ (k : ℕ). neg_ℤ (pos k)) (zero-mul b))
signed_mul true false (suc a) b = refl
signed_mul false true a zero = ap pos (mul-zero a) ∙ sym (ap (λ (k : ℕ). neg_ℤ (pos k)) (mul-zero a))
signed_mul false true a (suc b) = refl
signed_mul false false a b = refl

pub signed_abs : (s : Bool) (a : ℕ) → nat_abs (signed s a) ≡ a
signed_abs true zero = refl
signed_abs true (suc a) = refl
signed_abs false a = refl

-- r is the exact z, a number of units' squares, rounded
pub record RoundedProduct (r : Float) (z : ℤ) (q : ℕ) : Type 0 where
  pub number : Number r
  pub near : Near (value r *ℤ pos double_unit) z q

-- 2 ^ 53 * (g * (u * u)) ≤ 2 ^ 53 * (w * u) + q * u, with u taken out
per_double_unit : (g w q u : ℕ) → 0 < u → 2 ^ 53 * (g * (u * u)) ≤ 2 ^ 53 * (w * u) + q * u → 2 ^ 53 * (g * u) ≤ 2 ^ 53 * w + q
per_double_unit g w q u U h =
    le_of_mul-le-mul_right
    (le_trans (le_of_eq (mul_assoc (2 ^ 53) (g * u) u ∙ ap (λ (z : ℕ). 2 ^ 53 * z) (mul_assoc g u u)))
    (le_trans h (le_of_eq (ap (λ (z : ℕ). z + q * u) (sym (mul_assoc (2 ^ 53) w u)) ∙ sym (add-mul (2 ^ 53 * w) q u))))) U

per_double_unit' : (g w q u : ℕ) → 0 < u → 2 ^ 53 * (w * u) ≤ 2 ^ 53 * (g * (u * u)) + q * u → 2 ^ 53 * w ≤ 2 ^ 53 * (g * u) + q
per_double_unit' g w q u U h =
    le_of_mul-le-mul_right
    (le_trans (le_of_eq (mul_assoc (2 ^ 53) w u))
    (le_trans h (le_of_eq (ap (λ (z : ℕ). 2 ^ 53 * z + q * u) (sym (mul_assoc g u u)) ∙ ap (λ (z : ℕ). z + q * u) (sym (mul_assoc (2 ^ 53) (g * u) u)) ∙ sym (add-mul (2 ^ 53 * (g * u)) q u))))) U

-- `round` of a product of two magnitudes
product : (s : Bool) (w q : ℕ) → w ≤ q → 2 ^ 52 * double_unit ≤ q → q < limit * double_unit → RoundedProduct (round binary64 s w (double_unit * double_unit)) (signed s w) q
product s w q a b c =
    let u = double_unit in
    let U = double_unit_pos in
    let D = mul-pos U U in
    let a' : w * u ≤ q * u = mul-le-mul_right u a in
    let b' : 2 ^ 52 * (u * u) ≤ q * u = le_trans (le_of_eq (sym (mul_assoc (2 ^ 52) u u))) (mul-le-mul_right u b) in
    let c' : q * u < 2 * limit * (u * u) = lt_of_lt_of_le (mul-lt-mul_of_pos_right c U) (le_trans (le_of_eq (mul_assoc limit u u)) (mul-le-mul_right (u * u) (dbl limit))) in
    let n = round_number s w (u * u) (q * u) D a' b' c' in
    let g = grid (w * u) (u * u) in
    let h = grid_near (w * u) (u * u) (q * u) D a' b' in
    record {
      number = n.0;
      near = signed_near s (g * u) w q (value (round binary64 s w (u * u)) *ℤ pos u) (signed s w) (ap (λ (z : ℤ). z *ℤ pos u) n.1 ∙ signed_mul s false g u ∙ ap (λ (t : Bool). signed t (g * u)) (unlike_false s)) refl (per_double_unit g w q u U h.0, per_double_unit' g w q u U h.1);
    }
  where
    dbl : (l : ℕ) → l ≤ 2 * l
    dbl l = omega arith

    unlike_false : (s : Bool) → unlike s false ≡ s
    unlike_false true = refl
    unlike_false false = refl

-- a product is `round` of the magnitudes' product
pub mul_is : (x y : Float) → Number x → Number y → mul binary64 x y ≡ round binary64 (unlike (negative x) (negative y)) (magnitude x * magnitude y) (double_unit * double_unit)
unfolding mul
mul_is nan y p r = absurd p.is_finite
mul_is (inf s) y p r = absurd p.is_finite
mul_is (fin s m e) nan p r = absurd r.is_finite
mul_is (fin s m e) (inf t) p r = absurd r.is_finite
mul_is (fin s m e) (fin t n d) p r =
    let X = magnitude (fin s m e) in
    let Y = magnitude (fin t n d) in
    let same : m * up e * (n * up d) * (double_unit * double_unit) ≡ X * Y * (down e * down d) =
    mul-mul-mul_comm (m * up e) (n * up d) double_unit double_unit ∙ ap (λ (z : ℕ). z * (n * up d * double_unit)) (sym (whole s m e p.is_held)) ∙ ap (λ (z : ℕ). X * down e * z) (sym (whole t n d r.is_held)) ∙ mul-mul-mul_comm X (down e) Y (down d) in
    round_same binary64 (unlike s t) (m * up e * (n * up d)) (down e * down d) (X * Y) (double_unit * double_unit) (mul-pos (down_pos e) (down_pos d)) (mul-pos double_unit_pos double_unit_pos) same

pub mul_near : (x y : Float) → Number x → Number y → (q : ℕ) → nat_abs (value x) * nat_abs (value y) ≤ q → 2 ^ 52 * double_unit ≤ q → q < limit * double_unit → RoundedProduct (mul binary64 x y) (value x *ℤ value y) q
unfolding value
mul_near x y p r q a b c =
    let X = magnitude x in
    let Y = magnitude y in
    let s = negative x in
    let t = negative y in
    let small : X * Y ≤ q = subst (λ (k : ℕ). k * Y ≤ q) (signed_abs s X) (subst (λ (k : ℕ). nat_abs (signed s X) * k ≤ q) (signed_abs t Y) a) in
    subst (λ (f : Float). RoundedProduct f (signed s X *ℤ signed t Y) q) (sym (mul_is x y p r))
    (subst (λ (z : ℤ). RoundedProduct (round binary64 (unlike s t) (X * Y) (double_unit * double_unit)) z q) (sym (signed_mul s t X Y)) (product (unlike s t) (X * Y) q small b c))
