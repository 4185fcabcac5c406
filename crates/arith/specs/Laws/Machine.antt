-- Signed integers of the code. A signed local holds bits, so each result is read back from its bits, `to_z w (of_z w z)`, and the goals of a function's proof are towers of those.
-- `v-sub`, `v-mul`, .. follow the code's operations; `need-sub`, .. answer that the operation fits; `is` is the equation for what is returned.
-- The bounds are numerals, so each test is `tt`. Assumes nothing.
use Rattle.std.specs.Prelude.{◌≡◌, refl, ℕ, suc, ◌+◌, ◌*◌, ◌/◌, ◌%◌, ◌^◌, ◌<◌, ◌≤◌, T, ltb, ℤ, pos, negsuc, neg_ℤ, ◌+ℤ◌, ◌-ℤ◌, ◌*ℤ◌, nat_abs, ◌≤ℤ◌, ◌<ℤ◌, true, false, not}
use Rattle.std.proofs.Common.{sym, ◌∙◌, ap, ap₂, subst, subst₂, arith, ltb→lt, ⊎_elim, le_refl, le_trans, le_of_eq, div-le_self, to_z-of_z}
use Rattle.std.specs.Int.Signed.{quot_z, rem_z, shr_z, lt_z, le_z, lt_z_yes, lt_z_no, le_z_yes}
use Rattle.std.proofs.Math.Nat.{mod-le}
use Rattle.arith.specs.Laws.Order.{≤ℤ_or-<ℤ, abs_neg}
use Rattle.std.specs.Int.{Width}
use mir.Val.{SFits, hbits, to_z, of_z}
use Rattle.arith.specs.Within.{Within}
use Rattle.arith.specs.Laws.Within.{by_abs, w_add, w_sub, w_mul, w_fits}
use Rattle.arith.specs.Machine.{Is}

inside : {x z : ℤ} {n : ℕ} → Is x z n → Within z n
inside h = record { within = h.size }

-- a parameter, `v_arg c.ranges.x (c.requires ..)`
pub v_arg : {w : Width} {z : ℤ} {n : ℕ} → SFits w z → nat_abs z ≤ n → Is (to_z w (of_z w z)) z n
v_arg f h = record { is = to_z-of_z f; size = h }

-- the same from the bound alone: an element of a slice, a callee's result
pub v_in : (w : Width) (z : ℤ) {n : ℕ} → nat_abs z ≤ n → T (ltb n (2 ^ hbits w)) → Is (to_z w (of_z w z)) z n
v_in w z h t = v_arg (w_fits (by_abs z h) t) h

-- a result y that is z, read back from its bits
read : {y z : ℤ} {n : ℕ} (w : Width) → y ≡ z → nat_abs z ≤ n → T (ltb n (2 ^ hbits w)) → Is (to_z w (of_z w y)) z n
read {y} {z} {n} w e h t = subst (λ a. Is (to_z w (of_z w a)) z n) (sym e) (v_in w z h t)

-- a local of a loop, by its invariant's equation
pub v_is : {x z : ℤ} {n : ℕ} → x ≡ z → nat_abs z ≤ n → Is x z n
v_is e h = record { is = e; size = h }

-- a value that stands in the goal as it is, as a callee's result
pub v_self : (z : ℤ) {n : ℕ} → nat_abs z ≤ n → Is z z n
v_self z h = record { is = refl; size = h }

-- a literal
pub v_num : (k : ℕ) → Is (pos k) (pos k) k
v_num k = record { is = refl; size = le_refl k }

-- another name for the value, or a larger bound
pub v_eq : {x z : ℤ} {n : ℕ} (t : ℤ) → Is x z n → z ≡ t → Is x t n
v_eq {x} {z} {n} t h e = record { is = h.is ∙ e; size = subst (λ y. nat_abs y ≤ n) e h.size }

pub v_le : {x z : ℤ} {m : ℕ} (n : ℕ) → nat_abs z ≤ n → Is x z m → Is x z n
v_le n l h = record { is = h.is; size = l }

-- ---- an operation fits
pub need_add : {w : Width} {x y z t : ℤ} {m n : ℕ} → Is x z m → Is y t n → T (ltb (m + n) (2 ^ hbits w)) → SFits w (x +ℤ y)
need_add {w} h k l = subst₂ (λ a b. SFits w (a +ℤ b)) (sym h.is) (sym k.is) (w_fits (w_add (inside h) (inside k)) l)

pub need_sub : {w : Width} {x y z t : ℤ} {m n : ℕ} → Is x z m → Is y t n → T (ltb (m + n) (2 ^ hbits w)) → SFits w (x -ℤ y)
need_sub {w} h k l = subst₂ (λ a b. SFits w (a -ℤ b)) (sym h.is) (sym k.is) (w_fits (w_sub (inside h) (inside k)) l)

pub need_mul : {w : Width} {x y z t : ℤ} {m n : ℕ} → Is x z m → Is y t n → T (ltb (m * n) (2 ^ hbits w)) → SFits w (x *ℤ y)
need_mul {w} h k l = subst₂ (λ a b. SFits w (a *ℤ b)) (sym h.is) (sym k.is) (w_fits (w_mul (inside h) (inside k)) l)

-- ---- its result
pub v_add : {x y z t : ℤ} {m n : ℕ} (w : Width) → Is x z m → Is y t n → T (ltb (m + n) (2 ^ hbits w)) → Is (to_z w (of_z w (x +ℤ y))) (z +ℤ t) (m + n)
v_add w h k l = record { is = to_z-of_z (need_add h k l) ∙ ap₂ ◌+ℤ◌ h.is k.is; size = (w_add (inside h) (inside k)).within }

pub v_sub : {x y z t : ℤ} {m n : ℕ} (w : Width) → Is x z m → Is y t n → T (ltb (m + n) (2 ^ hbits w)) → Is (to_z w (of_z w (x -ℤ y))) (z -ℤ t) (m + n)
v_sub w h k l = record { is = to_z-of_z (need_sub h k l) ∙ ap₂ ◌-ℤ◌ h.is k.is; size = (w_sub (inside h) (inside k)).within }

pub v_mul : {x y z t : ℤ} {m n : ℕ} (w : Width) → Is x z m → Is y t n → T (ltb (m * n) (2 ^ hbits w)) → Is (to_z w (of_z w (x *ℤ y))) (z *ℤ t) (m * n)
v_mul w h k l = record { is = to_z-of_z (need_mul h k l) ∙ ap₂ ◌*ℤ◌ h.is k.is; size = (w_mul (inside h) (inside k)).within }

-- ---- a test of the code, as a branch leaves it: `lt_no (v_arg ..) (v_num ..) c.if-x-y.false`
pub v_fit : {w : Width} {z : ℤ} → SFits w z → Is (to_z w (of_z w z)) z (nat_abs z)
v_fit {w} {z} f = v_arg f (le_refl (nat_abs z))

pub lt_yes : {x y z t : ℤ} {m n : ℕ} → Is x z m → Is y t n → lt_z x y ≡ true → z <ℤ t
lt_yes h k e = subst₂ ◌<ℤ◌ h.is k.is (lt_z_yes (subst T (sym e) tt))

pub lt_no : {x y z t : ℤ} {m n : ℕ} → Is x z m → Is y t n → lt_z x y ≡ false → t ≤ℤ z
lt_no h k e = subst₂ ◌≤ℤ◌ k.is h.is (lt_z_no (subst (λ b. T (not b)) (sym e) tt))

pub le_yes : {x y z t : ℤ} {m n : ℕ} → Is x z m → Is y t n → le_z x y ≡ true → z ≤ℤ t
le_yes h k e = subst₂ ◌≤ℤ◌ h.is k.is (le_z_yes (subst T (sym e) tt))

pub le_no : {x y z t : ℤ} {m n : ℕ} → Is x z m → Is y t n → le_z x y ≡ false → t <ℤ z
le_no {x} {y} h k e = subst₂ ◌<ℤ◌ k.is h.is (⊎_elim (λ l. absurd (subst T e l.le)) (λ l. l) (≤ℤ_or-<ℤ x y))

-- what is known of z is known of the goal's x
pub to_goal {ℓ} : {x z : ℤ} {n : ℕ} (P : ℤ → Type ℓ) → Is x z n → P z → P x
to_goal P h p = subst P (sym h.is) p

-- ---- division toward zero, its remainder, negation, and the shift that rounds down
pub quot_size : (a b : ℤ) → nat_abs (quot_z a b) ≤ nat_abs a
quot_size (pos a) (pos b) = div-le_self a b
quot_size (pos a) (negsuc b) = omega (arith, abs_neg (pos (a / suc b)), div-le_self a (suc b))
quot_size (negsuc a) (pos b) = omega (arith, abs_neg (pos (suc a / b)), div-le_self (suc a) b)
quot_size (negsuc a) (negsuc b) = div-le_self (suc a) (suc b)

pub rem_size : (a b : ℤ) → nat_abs (rem_z a b) ≤ nat_abs a
rem_size (pos a) b = mod-le a (nat_abs b)
rem_size (negsuc a) b = omega (arith, abs_neg (pos (suc a % nat_abs b)), mod-le (suc a) (nat_abs b))

pub shr_size : (a : ℤ) (k : ℕ) → nat_abs (shr_z a k) ≤ nat_abs a
shr_size (pos a) k = div-le_self a k
shr_size (negsuc a) k = omega (arith, div-le_self a k)

-- a positive divisor's bits are not zero
pub bits_pos : (w : Width) (d : ℤ) → pos 0 <ℤ d → 0 < of_z w d
bits_pos w (pos k) h = ltb→lt 0 k h.lt
bits_pos w (negsuc k) h = absurd h.lt

-- the answer for `/` and for `%`, where the divisor is a positive parameter d
pub need_div : {w : Width} {x y z : ℤ} {m n : ℕ} (d : ℤ) → Is x z m → Is y d n → pos 0 <ℤ d → T (ltb m (2 ^ hbits w)) → (0 < of_z w d) × SFits w (quot_z x y)
need_div {w} {x} {y} {z} {m} d h k p l = (bits_pos w d p, subst₂ (λ a b. SFits w (quot_z a b)) (sym h.is) (sym k.is) (w_fits (by_abs (quot_z z d) (le_trans (quot_size z d) h.size)) l))

pub v_div : {x y z t : ℤ} {m n : ℕ} (w : Width) → Is x z m → Is y t n → T (ltb m (2 ^ hbits w)) → Is (to_z w (of_z w (quot_z x y))) (quot_z z t) m
v_div {x} {y} {z} {t} w h k l = read w (ap₂ quot_z h.is k.is) (le_trans (quot_size z t) h.size) l

pub v_rem : {x y z t : ℤ} {m n : ℕ} (w : Width) → Is x z m → Is y t n → T (ltb m (2 ^ hbits w)) → Is (to_z w (of_z w (rem_z x y))) (rem_z z t) m
v_rem {x} {y} {z} {t} w h k l = read w (ap₂ rem_z h.is k.is) (le_trans (rem_size z t) h.size) l

pub v_shr : {x z : ℤ} {m : ℕ} (w : Width) (k : ℕ) → Is x z m → T (ltb m (2 ^ hbits w)) → Is (to_z w (of_z w (shr_z x k))) (shr_z z k) m
v_shr {x} {z} w k h l = read w (ap (λ a. shr_z a k) h.is) (le_trans (shr_size z k) h.size) l

pub v_neg : {x z : ℤ} {m : ℕ} (w : Width) → Is x z m → T (ltb m (2 ^ hbits w)) → Is (to_z w (of_z w (neg_ℤ x))) (neg_ℤ z) m
v_neg {x} {z} w h l = read w (ap neg_ℤ h.is) (le_trans (le_of_eq (abs_neg z)) h.size) l

-- an `==` of signed integers is one of their bits
pub same_bits : {w : Width} {a b : ℤ} → SFits w a → SFits w b → of_z w a ≡ of_z w b → a ≡ b
same_bits {w} f g e = sym (to_z-of_z f) ∙ ap (to_z w) e ∙ to_z-of_z g
