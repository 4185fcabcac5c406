-- The signs of a product and of a sum turn with the operands'. Assumes nothing.
use Rattle.std.specs.Prelude.{◌≡◌, ◌⊎◌, Bool, not, ◌&&◌, cond, T, eqb, List, [], ◌∷◌, ℤ, pos, neg_ℤ, Float}
use Rattle.std.proofs.Math.Path.{refl, sym, ap}
use Rattle.std.proofs.Common.{◌∙◌, inr, le_of_eq, lt_of_le_of_lt, lt_irrefl, zero-mul, mul-pos, pow_pos, ltb→lt, lt→ltb, nltb→le}
use Rattle.std.proofs.Math.Logic.{inl}
use Prim.Native.Nat.compare
use Prim.Native.Nat.{ℕ, zero, suc, ◌+◌, ◌-◌, ◌*◌, ◌/◌, ◌%◌, ◌^◌, ◌≤◌, ◌<◌, compare, Ordering}
use Rattle.std.proofs.Math.Nat as NatL
use Rattle.std.proofs.Math.Nat.{zero-div, zero-mod}
use native.Mathlib.Omega.{arith}
use Rattle.std.proofs.Math.Bool.{true, false}
use Rattle.std.specs.Bool.{beq}
use Rattle.std.proofs.Math.Dec.{ltb}
use Rattle.std.specs.Float.Ieee.{nan, prec, emax, low, up, down, unlike, nearest, odd, units, round, sum, add, sub, mul, neg}
use Rattle.std.specs.Float.{inf, fin, Format, binary64}
use Rattle.std.specs.Float.Ieee.Fits.{round_is, down_pos}
use Rattle.std.specs.Float.Ieee.Nearest.{closest}
use Rattle.std.specs.Float.Ieee.Order.{drop, kept}
use Rattle.std.specs.Float.Ieee.Scale.{round_same}
use Rattle.rules.specs.Polynomial.{double_unit}
use Rattle.double.specs.Value.{signed, magnitude, value, Number, plain, Keeps, Flips}
use Rattle.double.specs.declared.Pair.{Pair}
use Rattle.double.specs.Complex.{horner, Numbers}
use Rattle.double.proofs.Laws.Operations.{neg_value}

-- ---- `round`
odd_neg : (d : ℕ) (s : Bool) (q k l : ℕ) → odd d (not s) q k l ≡ neg (odd d s q k l)
unfolding odd neg
odd_neg d s zero k l = refl
odd_neg d s (suc q) k l = refl

units_neg : (f : Format) (s : Bool) (q k : ℕ) → units f (not s) q k ≡ neg (units f s q k)
unfolding units neg
units_neg f s q k = go (ltb (q * 2 ^ k) (2 ^ (low f + suc (emax f))))
  where
    go : (b : Bool) → cond b (odd (suc (prec f)) (not s) q k (low f)) (inf (not s)) ≡ neg (cond b (odd (suc (prec f)) s q k (low f)) (inf s))
    go true = odd_neg (suc (prec f)) s q k (low f)
    go false = refl

pub round_neg : (f : Format) (s : Bool) (a c : ℕ) → round f (not s) a c ≡ neg (round f s a c)
round_neg f s a c =
    round_is f (not s) a c ∙ units_neg f s (kept (prec f) (a * 2 ^ low f) c) (drop (prec f) (a * 2 ^ low f) c) ∙ sym (ap neg (round_is f s a c))

-- ---- the product: at every x and y, NaNs, infinities and zeros among them
unlike_not : (s t : Bool) → unlike (not s) t ≡ not (unlike s t)
unlike_not true true = refl
unlike_not true false = refl
unlike_not false true = refl
unlike_not false false = refl

cond_neg : (b : Bool) (s : Bool) → cond b nan (inf (not s)) ≡ neg (cond b nan (inf s))
unfolding neg
cond_neg true s = refl
cond_neg false s = refl

pub mul_neg : (f : Format) (x y : Float) → mul f (neg x) y ≡ neg (mul f x y)
unfolding mul neg
mul_neg f nan y = refl
mul_neg f (inf s) nan = refl
mul_neg f (inf s) (inf t) = ap inf (unlike_not s t)
mul_neg f (inf s) (fin t n d) = ap (λ (b : Bool). cond (eqb n 0) nan (inf b)) (unlike_not s t) ∙ cond_neg (eqb n 0) (unlike s t)
mul_neg f (fin s m e) nan = refl
mul_neg f (fin s m e) (inf t) = ap (λ (b : Bool). cond (eqb m 0) nan (inf b)) (unlike_not s t) ∙ cond_neg (eqb m 0) (unlike s t)
mul_neg f (fin s m e) (fin t n d) = ap (λ (b : Bool). round f b (m * up e * (n * up d)) (down e * down d)) (unlike_not s t) ∙ round_neg f (unlike s t) (m * up e * (n * up d)) (down e * down d)

unlike_comm : (s t : Bool) → unlike s t ≡ unlike t s
unlike_comm true true = refl
unlike_comm true false = refl
unlike_comm false true = refl
unlike_comm false false = refl

pub mul_comm : (f : Format) (x y : Float) → mul f x y ≡ mul f y x
unfolding mul
mul_comm f nan nan = refl
mul_comm f nan (inf t) = refl
mul_comm f nan (fin t n d) = refl
mul_comm f (inf s) nan = refl
mul_comm f (inf s) (inf t) = ap inf (unlike_comm s t)
mul_comm f (inf s) (fin t n d) = ap (λ (b : Bool). cond (eqb n 0) nan (inf b)) (unlike_comm s t)
mul_comm f (fin s m e) nan = refl
mul_comm f (fin s m e) (inf t) = ap (λ (b : Bool). cond (eqb m 0) nan (inf b)) (unlike_comm s t)
mul_comm f (fin s m e) (fin t n d) =
    ap (λ (b : Bool). round f b (m * up e * (n * up d)) (down e * down d)) (unlike_comm s t)
    ∙ ap (λ (k : ℕ). round f (unlike t s) k (down e * down d)) (NatL.mul_comm (m * up e) (n * up d))
    ∙ ap (λ (k : ℕ). round f (unlike t s) (n * up d * (m * up e)) k) (NatL.mul_comm (down e) (down d))

pub mul_neg_right : (f : Format) (x y : Float) → mul f x (neg y) ≡ neg (mul f x y)
mul_neg_right f x y = mul_comm f x (neg y) ∙ mul_neg f y x ∙ ap neg (mul_comm f y x)

-- ---- the sum
-- 0 / c rounds to a zero of the sign that is asked
units_zero : (f : Format) (s : Bool) (k : ℕ) → units f s 0 k ≡ fin s 0 (pos 0)
unfolding units odd
units_zero f s k = go (ltb (0 * 2 ^ k) (2 ^ (low f + suc (emax f)))) (lt→ltb (0 * 2 ^ k) (2 ^ (low f + suc (emax f))) (lt_of_le_of_lt (le_of_eq (zero-mul (2 ^ k))) (pow_pos (low f + suc (emax f)))))
  where
    go : (b : Bool) → T b → cond b (odd (suc (prec f)) s 0 k (low f)) (inf s) ≡ fin s 0 (pos 0)
    go true t = refl
    go false t = absurd t

above_zero : (u : ℕ) → 0 < u → compare 0 u ≡ Ordering.lt
above_zero zero h = absurd (lt_irrefl 0 h)
above_zero (suc u) h = compare.zero-suc u

pub closest_zero : (u : ℕ) → 0 < u → closest 0 u ≡ 0
closest_zero u U =
    ap (λ (x : ℕ). nearest x (compare (0 % u * 2) u)) (zero-div u)
    ∙ ap (λ (x : ℕ). nearest 0 (compare (x * 2) u)) (zero-mod u)
    ∙ ap (λ (o : Ordering). nearest 0 o) (above_zero u U)

pub round_zero : (f : Format) (s : Bool) (c : ℕ) → 0 < c → round f s 0 c ≡ fin s 0 (pos 0)
round_zero f s c C =
    let k = drop (prec f) (0 * 2 ^ low f) c in
    round_is f s 0 c
    ∙ ap (λ (n : ℕ). units f s (closest n (c * 2 ^ k)) k) (zero-mul (2 ^ low f))
    ∙ ap (λ (q : ℕ). units f s q k) (closest_zero (c * 2 ^ k) (mul-pos C (pow_pos k)))
    ∙ units_zero f s k

-- r' is -r; or both are +0, as a sum of two numbers that cancel is
abbrev pub Turned : Float → Float → Type 0
Turned r r' = (r' ≡ neg r) ⊎ ((r ≡ fin false 0 (pos 0)) × (r' ≡ fin false 0 (pos 0)))

module _ (f : Format) (a b c : ℕ) (C : 0 < c) where
  abbrev other : Bool → Bool → Float
  other s t = cond (ltb a b) (round f t (b - a) c) (round f (s && ltb b a) (a - b) c)

  unlike_turned : (s : Bool) → Turned (other s (not s)) (other (not s) s)
  unlike_turned s = go (ltb a b) (ltb b a) (ltb→lt a b) (nltb→le a b) (nltb→le b a) s
    where
      back : (o p : Bool) → (T (not o) → b ≤ a) → (T (not p) → a ≤ b) → T (not o) → T (not p) → a - b ≡ 0
      back o p h k t u = let x = h t in let y = k u in omega arith

      go : (o p : Bool) → (T o → a < b) → (T (not o) → b ≤ a) → (T (not p) → a ≤ b) → (s : Bool)
          → Turned (cond o (round f (not s) (b - a) c) (round f (s && p) (a - b) c)) (cond o (round f s (b - a) c) (round f (not s && p) (a - b) c))
      go true p h k l true = inl (round_neg f false (b - a) c)
      go true p h k l false = inl (round_neg f true (b - a) c)
      go false true h k l true = inl (round_neg f true (a - b) c)
      go false true h k l false = inl (round_neg f false (a - b) c)
      go false false h k l true = let e = ap (λ (n : ℕ). round f false n c) (back false false k l tt tt) ∙ round_zero f false c C in inr (e, e)
      go false false h k l false = let e = ap (λ (n : ℕ). round f false n c) (back false false k l tt tt) ∙ round_zero f false c C in inr (e, e)

  sum_turned : (s t : Bool) → Turned (sum f s a t b c) (sum f (not s) a (not t) b c)
  unfolding sum
  sum_turned true true = inl (round_neg f true (a + b) c)
  sum_turned true false = unlike_turned true
  sum_turned false true = unlike_turned false
  sum_turned false false = inl (round_neg f false (a + b) c)

inf_turned : (s t : Bool) → cond (beq (not s) (not t)) (inf (not s)) nan ≡ neg (cond (beq s t) (inf s) nan)
unfolding neg
inf_turned true true = refl
inf_turned true false = refl
inf_turned false true = refl
inf_turned false false = refl

pub add_turned : (f : Format) (x y : Float) → Turned (add f x y) (add f (neg x) (neg y))
unfolding add neg
add_turned f nan y = inl refl
add_turned f (inf s) nan = inl refl
add_turned f (inf s) (inf t) = inl (inf_turned s t)
add_turned f (inf s) (fin t n d) = inl refl
add_turned f (fin s m e) nan = inl refl
add_turned f (fin s m e) (inf t) = inl refl
add_turned f (fin s m e) (fin t n d) = sum_turned f (m * up e * down d) (n * up d * down e) (down e * down d) (mul-pos (down_pos e) (down_pos d)) s t

-- ---- a zero's sign has no say in a result but in a zero's sign
module _ (f : Format) where
  plain_zero : (s : Bool) (a c : ℕ) → a ≡ 0 → 0 < c → plain (round f s a c) ≡ fin false 0 (pos 0)
  plain_zero s a c e C = ap (λ (n : ℕ). plain (round f s n c)) e ∙ ap plain (round_zero f s c C)

  zero_sum : (s t : Bool) (a b c : ℕ) → a ≡ 0 → 0 < c → plain (sum f s a t b c) ≡ plain (round f t b c)
  unfolding sum
  zero_sum s t a b c z C = ap (λ (n : ℕ). plain (sum f s n t b c)) z ∙ go s t
    where
      apart : (s t : Bool) → plain (cond (ltb 0 b) (round f t (b - 0) c) (round f (s && ltb b 0) (0 - b) c)) ≡ plain (round f t b c)
      apart s t = at (ltb 0 b) (nltb→le 0 b)
        where
          none : b ≤ 0 → b ≡ 0
          none h = omega arith

          less : 0 - b ≡ 0
          less = omega arith

          at : (o : Bool) → (T (not o) → b ≤ 0) → plain (cond o (round f t (b - 0) c) (round f (s && ltb b 0) (0 - b) c)) ≡ plain (round f t b c)
          at true h = ap (λ (n : ℕ). plain (round f t n c)) (NatL.sub-zero b)
          at false h = plain_zero (s && ltb b 0) (0 - b) c less C ∙ sym (plain_zero t b c (none (h tt)) C)

      go : (s t : Bool) → plain (cond (beq s t) (round f s (0 + b) c) (cond (ltb 0 b) (round f t (b - 0) c) (round f (s && ltb b 0) (0 - b) c))) ≡ plain (round f t b c)
      go true true = ap (λ (n : ℕ). plain (round f true n c)) (NatL.zero-add b)
      go true false = apart true false
      go false true = apart false true
      go false false = ap (λ (n : ℕ). plain (round f false n c)) (NatL.zero-add b)

  zero_times : (x y : ℕ) → 0 * x * y ≡ 0
  zero_times x y = ap (λ (n : ℕ). n * y) (zero-mul x) ∙ zero-mul y

  zero_add_is : (s : Bool) (e : ℤ) (t : Bool) (n : ℕ) (d : ℤ) → plain (add f (fin s 0 e) (fin t n d)) ≡ plain (round f t (n * up d) (down d))
  unfolding add
  zero_add_is s e t n d =
      zero_sum s t (0 * up e * down d) (n * up d * down e) (down e * down d) (zero_times (up e) (down d)) (mul-pos (down_pos e) (down_pos d))
      ∙ ap plain (round_same f t (n * up d * down e) (down e * down d) (n * up d) (down d) (mul-pos (down_pos e) (down_pos d)) (down_pos d) (NatL.mul_assoc (n * up d) (down e) (down d)))

  add_plain : (x y : Float) → plain (add f (plain x) y) ≡ plain (add f x y)
  unfolding add
  add_plain nan y = refl
  add_plain (inf s) y = refl
  add_plain (fin s zero e) nan = refl
  add_plain (fin s zero e) (inf t) = refl
  add_plain (fin s zero e) (fin t n d) = zero_add_is false (pos 0) t n d ∙ sym (zero_add_is s e t n d)
  add_plain (fin s (suc m) e) y = refl

  zero_mul_is : (s : Bool) (e : ℤ) (t : Bool) (n : ℕ) (d : ℤ) → plain (mul f (fin s 0 e) (fin t n d)) ≡ fin false 0 (pos 0)
  unfolding mul
  zero_mul_is s e t n d = plain_zero (unlike s t) (0 * up e * (n * up d)) (down e * down d) (zero_times (up e) (n * up d)) (mul-pos (down_pos e) (down_pos d))

  mul_plain : (x y : Float) → plain (mul f (plain x) y) ≡ plain (mul f x y)
  unfolding mul
  mul_plain nan y = refl
  mul_plain (inf s) y = refl
  mul_plain (fin s zero e) nan = refl
  mul_plain (fin s zero e) (inf t) = refl
  mul_plain (fin s zero e) (fin t n d) = zero_mul_is false (pos 0) t n d ∙ sym (zero_mul_is s e t n d)
  mul_plain (fin s (suc m) e) y = refl

  neg_plain : (x : Float) → plain (neg (plain x)) ≡ plain (neg x)
  unfolding neg
  neg_plain nan = refl
  neg_plain (inf s) = refl
  neg_plain (fin s zero e) = refl
  neg_plain (fin s (suc m) e) = refl

  neg_neg : (x : Float) → neg (neg x) ≡ x
  unfolding neg
  neg_neg nan = refl
  neg_neg (inf true) = refl
  neg_neg (inf false) = refl
  neg_neg (fin true m e) = refl
  neg_neg (fin false m e) = refl

  -- the order of a sum's operands
  apart_comm : (a b c : ℕ) → cond (ltb a b) (round f false (b - a) c) (round f (ltb b a) (a - b) c) ≡ cond (ltb b a) (round f true (a - b) c) (round f false (b - a) c)
  apart_comm a b c = go (ltb a b) (ltb b a) (ltb→lt a b) (ltb→lt b a) (nltb→le a b) (nltb→le b a)
    where
      clash : a < b → b < a → ⊥
      clash h k = omega arith

      level : b ≤ a → a ≤ b → a - b ≡ b - a
      level h k = omega arith

      go : (o p : Bool) → (T o → a < b) → (T p → b < a) → (T (not o) → b ≤ a) → (T (not p) → a ≤ b) → cond o (round f false (b - a) c) (round f p (a - b) c) ≡ cond p (round f true (a - b) c) (round f false (b - a) c)
      go true true h k l m = absurd (clash (h tt) (k tt))
      go true false h k l m = refl
      go false true h k l m = refl
      go false false h k l m = ap (λ (n : ℕ). round f false n c) (level (l tt) (m tt))

  sum_comm : (s t : Bool) (a b c : ℕ) → sum f s a t b c ≡ sum f t b s a c
  unfolding sum
  sum_comm true true a b c = ap (λ (n : ℕ). round f true n c) (NatL.add_comm a b)
  sum_comm false false a b c = ap (λ (n : ℕ). round f false n c) (NatL.add_comm a b)
  sum_comm true false a b c = apart_comm a b c
  sum_comm false true a b c = sym (apart_comm b a c)

  inf_comm : (s t : Bool) → cond (beq s t) (inf s) nan ≡ cond (beq t s) (inf t) nan
  inf_comm true true = refl
  inf_comm true false = refl
  inf_comm false true = refl
  inf_comm false false = refl

  pub add_comm : (x y : Float) → add f x y ≡ add f y x
  unfolding add
  add_comm nan nan = refl
  add_comm nan (inf t) = refl
  add_comm nan (fin t n d) = refl
  add_comm (inf s) nan = refl
  add_comm (inf s) (inf t) = inf_comm s t
  add_comm (inf s) (fin t n d) = refl
  add_comm (fin s m e) nan = refl
  add_comm (fin s m e) (inf t) = refl
  add_comm (fin s m e) (fin t n d) = sum_comm s t (m * up e * down d) (n * up d * down e) (down e * down d) ∙ ap (λ (k : ℕ). sum f t (n * up d * down e) s (m * up e * down d) k) (NatL.mul_comm (down e) (down d))

  add_plains : (x y : Float) → plain (add f (plain x) (plain y)) ≡ plain (add f x y)
  add_plains x y = add_plain x (plain y) ∙ ap plain (add_comm x (plain y)) ∙ add_plain y x ∙ ap plain (add_comm y x)

  mul_plains : (x y : Float) → plain (mul f (plain x) (plain y)) ≡ plain (mul f x y)
  mul_plains x y = mul_plain x (plain y) ∙ ap plain (mul_comm f x (plain y)) ∙ mul_plain y x ∙ ap plain (mul_comm f y x)

  turned_plain : (r r' : Float) → Turned r r' → plain (neg r) ≡ plain r'
  unfolding neg
  turned_plain r r' (inl e) = ap plain (sym e)
  turned_plain r r' (inr e) = ap (λ (z : Float). plain (neg z)) e.0 ∙ sym (ap plain e.1)

  -- ---- which results stay and which turn
  pub keep_keep_add : {x x' y y' : Float} → Keeps x x' → Keeps y y' → Keeps (add f x y) (add f x' y')
  keep_keep_add {x} {x'} {y} {y'} p q = record {
    kept =
        sym (add_plains x y) ∙ ap (λ (z : Float). plain (add f z (plain y))) p.kept ∙ ap (λ (z : Float). plain (add f (plain x') z)) q.kept ∙ add_plains x' y';
  }

  pub flip_flip_add : {x x' y y' : Float} → Flips x x' → Flips y y' → Flips (add f x y) (add f x' y')
  flip_flip_add {x} {x'} {y} {y'} p q = record {
    flipped =
        turned_plain (add f x y) (add f (neg x) (neg y)) (add_turned f x y) ∙ sym (add_plains (neg x) (neg y)) ∙ ap (λ (z : Float). plain (add f z (plain (neg y)))) p.flipped ∙ ap (λ (z : Float). plain (add f (plain x') z)) q.flipped ∙ add_plains x' y';
  }

  pub keep_keep_mul : {x x' y y' : Float} → Keeps x x' → Keeps y y' → Keeps (mul f x y) (mul f x' y')
  keep_keep_mul {x} {x'} {y} {y'} p q = record {
    kept =
        sym (mul_plains x y) ∙ ap (λ (z : Float). plain (mul f z (plain y))) p.kept ∙ ap (λ (z : Float). plain (mul f (plain x') z)) q.kept ∙ mul_plains x' y';
  }

  pub flip_keep_mul : {x x' y y' : Float} → Flips x x' → Keeps y y' → Flips (mul f x y) (mul f x' y')
  flip_keep_mul {x} {x'} {y} {y'} p q = record {
    flipped =
        ap plain (sym (mul_neg f x y)) ∙ sym (mul_plains (neg x) y) ∙ ap (λ (z : Float). plain (mul f z (plain y))) p.flipped ∙ ap (λ (z : Float). plain (mul f (plain x') z)) q.kept ∙ mul_plains x' y';
  }

  pub keep_flip_mul : {x x' y y' : Float} → Keeps x x' → Flips y y' → Flips (mul f x y) (mul f x' y')
  keep_flip_mul {x} {x'} {y} {y'} p q = record { flipped = ap (λ (z : Float). plain (neg z)) (mul_comm f x y) ∙ (flip_keep_mul q p).flipped ∙ ap plain (mul_comm f y' x') }

  pub flip_neg : {x x' : Float} → Flips x x' → Keeps (neg x) x'
  flip_neg p = record { kept = p.flipped }

  pub keep_neg : {x x' : Float} → Keeps x x' → Flips x (neg x')
  keep_neg {x} {x'} p = record { flipped = sym (neg_plain x) ∙ ap (λ (z : Float). plain (neg z)) p.kept ∙ neg_plain x' }

  pub neg_keep : {x x' : Float} → Keeps x x' → Keeps (neg x) (neg x')
  neg_keep p = record { kept = (keep_neg p).flipped }

  pub neg_flip : {x x' : Float} → Flips x x' → Flips (neg x) (neg x')
  neg_flip {x} {x'} p = record { flipped = sym (neg_plain (neg x)) ∙ ap (λ (z : Float). plain (neg z)) p.flipped ∙ neg_plain x' }

  pub flip_flip_mul : {x x' y y' : Float} → Flips x x' → Flips y y' → Keeps (mul f x y) (mul f x' y')
  flip_flip_mul {x} {x'} {y} {y'} p q = record {
    kept =
        ap plain (sym (neg_neg (mul f x y)) ∙ ap neg (sym (mul_neg f x y)) ∙ sym (mul_neg_right f (neg x) y)) ∙ (keep_keep_mul (flip_neg p) (flip_neg q)).kept;
  }

  pub keep_keep_sub : {x x' y y' : Float} → Keeps x x' → Keeps y y' → Keeps (sub f x y) (sub f x' y')
  unfolding sub
  keep_keep_sub p q = keep_keep_add p (neg_keep q)

pub keep : (x : Float) → Keeps x x
keep x = record { kept = refl }

pub flip : (x : Float) → Flips x (neg x)
flip x = record { flipped = refl }

-- ---- Horner's rule at the conjugate: the first part stays and the second turns
pub record Mirrored (p p' : Pair) : Type 0 where
  pub stays : Keeps p.re p'.re
  pub turns : Flips p.im p'.im

pub horner_mirrored : (cs : List Float) (z z' : Pair) → Mirrored z z' → Mirrored (horner cs z) (horner cs z')
unfolding horner neg
horner_mirrored [] z z' h = record { stays = record { kept = refl }; turns = record { flipped = refl } }
horner_mirrored (c ∷ []) z z' h = record { stays = keep c; turns = record { flipped = refl } }
horner_mirrored (c ∷ d ∷ cs) z z' h =
    let i = horner_mirrored (d ∷ cs) z z' h in
    let f = binary64 in
    record {
      stays = keep_keep_add f (keep_keep_sub f (keep_keep_mul f i.stays h.stays) (flip_flip_mul f i.turns h.turns)) (keep c);
      turns = flip_flip_add f (keep_flip_mul f i.stays h.turns) (flip_keep_mul f i.turns h.stays);
    }

-- ---- the same of the values, in which a zero has no sign
signed_zero : (s : Bool) → signed s 0 ≡ pos 0
signed_zero true = refl
signed_zero false = refl

plain_value : (x : Float) → value (plain x) ≡ value x
unfolding value magnitude
plain_value nan = refl
plain_value (inf s) = refl
plain_value (fin s zero e) = ap pos (none (pos 0)) ∙ sym (ap (λ (n : ℕ). signed s n) (none e) ∙ signed_zero s)
  where
    none : (e : ℤ) → 0 * up e * double_unit / down e ≡ 0
    none e = ap (λ (n : ℕ). n / down e) (ap (λ (n : ℕ). n * double_unit) (zero-mul (up e)) ∙ zero-mul double_unit) ∙ zero-div (down e)
plain_value (fin s (suc m) e) = refl

pub keeps_value : {x y : Float} → Keeps x y → value y ≡ value x
keeps_value {x} {y} k = sym (plain_value y) ∙ ap value (sym k.kept) ∙ plain_value x

pub flips_value : {x y : Float} → Number x → Flips x y → value y ≡ neg_ℤ (value x)
flips_value {x} {y} X k = sym (plain_value y) ∙ ap value (sym k.flipped) ∙ plain_value (neg x) ∙ neg_value x X

-- at z and at its conjugate, with real coefficients: the first parts are equal, and the second are negatives
pub conjugate : (cs : List Float) (z : Pair) → Numbers (horner cs z) → (value (horner cs (record { re = z.re; im = neg z.im })).re ≡ value (horner cs z).re) × (value (horner cs (record { re = z.re; im = neg z.im })).im ≡ neg_ℤ (value (horner cs z).im))
conjugate cs z N =
    let h = horner_mirrored cs z (record { re = z.re; im = neg z.im }) (record { stays = keep z.re; turns = flip z.im }) in
    (keeps_value h.stays, flips_value N.im h.turns)
