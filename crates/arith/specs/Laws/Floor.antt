-- Laws of division rounded down: it is the only one, it keeps the order, and how far floors are apart. Assumes nothing.
use Rattle.std.specs.Prelude.{◌≡◌, refl, [], ◌∷◌, ◌↔◌, ◌⊎◌, ℕ, suc, ◌+◌, ◌*◌, ◌/◌, ◌%◌, ◌<◌, ◌≤◌, ℤ, pos, negsuc, neg_ℤ, ◌+ℤ◌, ◌-ℤ◌, ◌*ℤ◌, nat_abs, ◌≤ℤ◌, ◌<ℤ◌}
use Rattle.std.proofs.Common.{sym, ◌∙◌, ap, subst, subst₂, inl, inr, div-add-mod', mod-lt, lt_of_mul-lt-mul_right, arith, ltb→lt}
use Rattle.std.proofs.Math.Nat.{div-div-eq-div-mul, add-mul-div_right}
use Rattle.std.proofs.Math.IntN.{*ℤ_comm}
use Rattle.std.specs.Int.Signed.{quot_z, rem_z}
use Rattle.arith.specs.Laws.Diff.{◌⊖◌, Z·ℕ, diffs, lin}
use Rattle.arith.specs.Laws.Order.{≤ℤ_trans, ≤ℤ-<ℤ_trans, ≤ℤ_antisym, *ℤ_cancel-<, *ℤ_mono_left, ≤ℤ_or-<ℤ, abs_mul, abs_neg}
use Rattle.arith.specs.Floor.{floor, IsFloor}

pub floor_is : (n : ℤ) (d : ℕ) → 0 < d → IsFloor n d (floor n d)
floor_is (pos a) d h = go (a / d) (a % d) (div-add-mod' a d) (mod-lt a h)
  where
    go : (q r : ℕ) → q * d + r ≡ a → r < d → IsFloor (pos a) d (pos q)
    go q r e k = record { lo = simp Z·ℕ (omega arith); hi = simp Z·ℕ (omega arith) }
floor_is (negsuc a) d h = go (a / d) (a % d) (div-add-mod' a d) (mod-lt a h) (negsuc (a / d)) refl
  where
    go : (q r : ℕ) → q * d + r ≡ a → r < d → (z : ℤ) → z ≡ negsuc q → IsFloor (negsuc a) d z
    go q r e k z ez = diffs (z ∷ []) λ x y ex.
        let f = simp (Z·ℕ, ex) at ez in
        let g = ap (λ t. t * d) f in
        record { lo = simp (Z·ℕ, ex) (omega arith); hi = simp (Z·ℕ, ex) (omega arith) }

-- a factor d > 0 comes off
shrink : (d : ℕ) (q r : ℤ) → (q *ℤ pos d) <ℤ ((r +ℤ pos 1) *ℤ pos d) → q ≤ℤ r
shrink d q r t = last (*ℤ_cancel-< (pos d) q (r +ℤ pos 1) (zero_le d) (subst₂ ◌<ℤ◌ (*ℤ_comm q (pos d)) (*ℤ_comm (r +ℤ pos 1) (pos d)) t))
  where
    zero_le : (d : ℕ) → pos 0 ≤ℤ pos d
    zero_le d = simp Z·ℕ (omega arith)

    last : q <ℤ (r +ℤ pos 1) → q ≤ℤ r
    last = diffs (q ∷ r ∷ []) λ a b ea c e eb. simp (Z·ℕ, ea, eb) (omega arith)

-- only one number is
below : {n m : ℤ} (d : ℕ) {q r : ℤ} → IsFloor n d q → IsFloor m d r → n ≤ℤ m → q ≤ℤ r
below d {q} {r} f g h = shrink d q r (≤ℤ-<ℤ_trans (≤ℤ_trans f.lo h) g.hi)

≤-refl : (n : ℤ) → n ≤ℤ n
≤-refl n = diffs (n ∷ []) λ a b e. simp (Z·ℕ, e) (omega arith)

pub floor_unique : {n : ℤ} {d : ℕ} {q r : ℤ} → IsFloor n d q → IsFloor n d r → q ≡ r
floor_unique {n} {d} f g = ≤ℤ_antisym (below d f g (≤-refl n)) (below d g f (≤-refl n))

pub floor_eq : (n : ℤ) (d : ℕ) (q : ℤ) → 0 < d → (q *ℤ pos d) ≤ℤ n → n <ℤ ((q +ℤ pos 1) *ℤ pos d) → floor n d ≡ q
floor_eq n d q h a b = floor_unique (floor_is n d h) (record { lo = a; hi = b })

pub floor_mono : (d : ℕ) {n m : ℤ} → 0 < d → n ≤ℤ m → floor n d ≤ℤ floor m d
floor_mono d {n} {m} h k = below d (floor_is n d h) (floor_is m d h) k

-- a multiple of d comes out
pub floor_add : (n k : ℤ) (d : ℕ) → 0 < d → floor (n +ℤ k *ℤ pos d) d ≡ floor n d +ℤ k
floor_add n k d h = floor_eq (n +ℤ k *ℤ pos d) d (floor n d +ℤ k) h (lo' (floor n d) (floor_is n d h).lo) (hi' (floor n d) (floor_is n d h).hi)
  where
    lo' : (q : ℤ) → (q *ℤ pos d) ≤ℤ n → ((q +ℤ k) *ℤ pos d) ≤ℤ (n +ℤ k *ℤ pos d)
    lo' q = diffs (q ∷ n ∷ k ∷ []) λ a b ea c e eb x y ek. simp (Z·ℕ, ea, eb, ek) (omega arith)

    hi' : (q : ℤ) → n <ℤ ((q +ℤ pos 1) *ℤ pos d) → (n +ℤ k *ℤ pos d) <ℤ ((q +ℤ k +ℤ pos 1) *ℤ pos d)
    hi' q = diffs (q ∷ n ∷ k ∷ []) λ a b ea c e eb x y ek. simp (Z·ℕ, ea, eb, ek) (omega arith)

-- what rounding loses: 0 ≤ n − q·d < d
pub floor_rest : (n : ℤ) (d : ℕ) → 0 < d → (pos 0 ≤ℤ (n -ℤ floor n d *ℤ pos d)) × ((n -ℤ floor n d *ℤ pos d) <ℤ pos d)
floor_rest n d h = go (floor n d) (floor_is n d h).lo (floor_is n d h).hi
  where
    go : (q : ℤ) → (q *ℤ pos d) ≤ℤ n → n <ℤ ((q +ℤ pos 1) *ℤ pos d) → (pos 0 ≤ℤ (n -ℤ q *ℤ pos d)) × ((n -ℤ q *ℤ pos d) <ℤ pos d)
    go q = diffs (q ∷ n ∷ []) λ a b ea c e eb. simp (Z·ℕ, ea, eb) (omega arith)

pub floor_rest_abs : (n : ℤ) (d : ℕ) → 0 < d → nat_abs (n -ℤ floor n d *ℤ pos d) < d
floor_rest_abs n d h = go (floor n d) (floor_is n d h).lo (floor_is n d h).hi
  where
    go : (q : ℤ) → (q *ℤ pos d) ≤ℤ n → n <ℤ ((q +ℤ pos 1) *ℤ pos d) → nat_abs (n -ℤ q *ℤ pos d) < d
    go q = diffs (q ∷ n ∷ []) λ a b ea c e eb. simp (Z·ℕ, ea, eb) (omega arith)

-- two quotients differ by less than the dividends over d, plus one
pub floor_near : (n m : ℤ) (d : ℕ) → 0 < d → nat_abs (floor n d -ℤ floor m d) * d < nat_abs (n -ℤ m) + d
floor_near n m d h = subst (λ x. x < nat_abs (n -ℤ m) + d) (abs_mul (floor n d -ℤ floor m d) (pos d)) (go (floor n d) (floor m d) (floor_is n d h).lo (floor_is n d h).hi (floor_is m d h).lo (floor_is m d h).hi)
  where
    go : (q r : ℤ) → (q *ℤ pos d) ≤ℤ n → n <ℤ ((q +ℤ pos 1) *ℤ pos d) → (r *ℤ pos d) ≤ℤ m → m <ℤ ((r +ℤ pos 1) *ℤ pos d) → nat_abs ((q -ℤ r) *ℤ pos d) < nat_abs (n -ℤ m) + d
    go q r = diffs (q ∷ r ∷ n ∷ m ∷ []) λ a b ea c e eb x y en u v em. simp (Z·ℕ, ea, eb, en, em) (omega arith)

pub floor_near_div : (n m : ℤ) (d : ℕ) → 0 < d → nat_abs (floor n d -ℤ floor m d) ≤ nat_abs (n -ℤ m) / d + 1
floor_near_div n m d h = go (nat_abs (floor n d -ℤ floor m d)) (nat_abs (n -ℤ m)) (nat_abs (n -ℤ m) / d) (nat_abs (n -ℤ m) % d) (div-add-mod' (nat_abs (n -ℤ m)) d) (mod-lt (nat_abs (n -ℤ m)) h) (floor_near n m d h)
  where
    go : (q x y r : ℕ) → y * d + r ≡ x → r < d → q * d < x + d → q ≤ y + 1
    go q x y r e l k = let z : q < y + 2 = lt_of_mul-lt-mul_right d (omega arith) in omega arith

-- a quotient of a quotient
pub floor_floor : (n : ℤ) (a b : ℕ) → floor (floor n a) b ≡ floor n (a * b)
floor_floor (pos n) a b = ap pos (div-div-eq-div-mul n a b)
floor_floor (negsuc n) a b = ap negsuc (div-div-eq-div-mul n a b)

-- ---- the code's `/` and `%` at an i64, which round toward zero, by a positive number
pub quot_rem : (n : ℤ) (d : ℕ) → quot_z n (pos d) *ℤ pos d +ℤ rem_z n (pos d) ≡ n
quot_rem (pos a) d = ap pos (div-add-mod' a d)
quot_rem (negsuc a) d = go (suc a / d) (suc a % d) (div-add-mod' (suc a) d) (neg_ℤ (pos (suc a / d))) (neg_ℤ (pos (suc a % d))) refl refl
  where
    go : (q r : ℕ) → q * d + r ≡ suc a → (x y : ℤ) → x ≡ neg_ℤ (pos q) → y ≡ neg_ℤ (pos r) → x *ℤ pos d +ℤ y ≡ negsuc a
    go q r e x y ex ey = diffs (x ∷ y ∷ []) λ p n fx u v fy.
        let gx = ap (λ t. t * d) (simp (Z·ℕ, fx) at ex) in
        let gy = simp (Z·ℕ, fy) at ey in
        simp (Z·ℕ, fx, fy) (omega arith)

pub rem_abs : (n : ℤ) (d : ℕ) → 0 < d → nat_abs (rem_z n (pos d)) < d
rem_abs (pos a) d h = mod-lt a h
rem_abs (negsuc a) d h = subst (λ x. x < d) (sym (abs_neg (pos (suc a % d)))) (mod-lt (suc a) h)

-- the quotient is the floor where the remainder is not negative, and one more where it is
pub quot_floor : (n : ℤ) (d : ℕ) → 0 < d → pos 0 ≤ℤ rem_z n (pos d) → floor n d ≡ quot_z n (pos d)
quot_floor n d h k = floor_eq n d (quot_z n (pos d)) h (lo' n (quot_z n (pos d)) (rem_z n (pos d)) (quot_rem n d) (rem_abs n d h) k) (hi' n (quot_z n (pos d)) (rem_z n (pos d)) (quot_rem n d) (rem_abs n d h) k)
  where
    lo' : (n q r : ℤ) → q *ℤ pos d +ℤ r ≡ n → nat_abs r < d → pos 0 ≤ℤ r → (q *ℤ pos d) ≤ℤ n
    lo' n q r = diffs (n ∷ q ∷ r ∷ []) λ a b ea c e eb x y ek. simp (Z·ℕ, ea, eb, ek) (omega arith)

    hi' : (n q r : ℤ) → q *ℤ pos d +ℤ r ≡ n → nat_abs r < d → pos 0 ≤ℤ r → n <ℤ ((q +ℤ pos 1) *ℤ pos d)
    hi' n q r = diffs (n ∷ q ∷ r ∷ []) λ a b ea c e eb x y ek. simp (Z·ℕ, ea, eb, ek) (omega arith)

pub quot_floor_neg : (n : ℤ) (d : ℕ) → 0 < d → rem_z n (pos d) <ℤ pos 0 → floor n d ≡ quot_z n (pos d) -ℤ pos 1
quot_floor_neg n d h k = floor_eq n d (quot_z n (pos d) -ℤ pos 1) h (lo' n (quot_z n (pos d)) (rem_z n (pos d)) (quot_rem n d) (rem_abs n d h) k) (hi' n (quot_z n (pos d)) (rem_z n (pos d)) (quot_rem n d) (rem_abs n d h) k)
  where
    lo' : (n q r : ℤ) → q *ℤ pos d +ℤ r ≡ n → nat_abs r < d → r <ℤ pos 0 → ((q -ℤ pos 1) *ℤ pos d) ≤ℤ n
    lo' n q r = diffs (n ∷ q ∷ r ∷ []) λ a b ea c e eb x y ek. simp (Z·ℕ, ea, eb, ek) (omega arith)

    hi' : (n q r : ℤ) → q *ℤ pos d +ℤ r ≡ n → nat_abs r < d → r <ℤ pos 0 → n <ℤ ((q -ℤ pos 1 +ℤ pos 1) *ℤ pos d)
    hi' n q r = diffs (n ∷ q ∷ r ∷ []) λ a b ea c e eb x y ek. simp (Z·ℕ, ea, eb, ek) (omega arith)

-- the same at a divisor of the code
pub quot_is_floor : (n d : ℤ) → pos 0 <ℤ d → pos 0 ≤ℤ rem_z n d → quot_z n d ≡ floor n (nat_abs d)
quot_is_floor n (pos k) h r = sym (quot_floor n k (ltb→lt 0 k h.lt) r)
quot_is_floor n (negsuc k) h r = absurd h.lt

pub quot_less_is_floor : (n d : ℤ) → pos 0 <ℤ d → rem_z n d <ℤ pos 0 → quot_z n d -ℤ pos 1 ≡ floor n (nat_abs d)
quot_less_is_floor n (pos k) h r = sym (quot_floor_neg n k (ltb→lt 0 k h.lt) r)
quot_less_is_floor n (negsuc k) h r = absurd h.lt

-- ---- the floor as a bound: q ≤ ⌊n/d⌋ where q·d ≤ n, and only there
grow : (d : ℕ) (q r : ℤ) → q ≤ℤ r → (q *ℤ pos d) ≤ℤ (r *ℤ pos d)
grow d q r h = subst₂ ◌≤ℤ◌ (*ℤ_comm (pos d) q) (*ℤ_comm (pos d) r) (*ℤ_mono_left (pos d) (zero_le d) h)
  where
    zero_le : (d : ℕ) → pos 0 ≤ℤ pos d
    zero_le d = simp Z·ℕ (omega arith)

pub ≤-floor_iff : (q n : ℤ) (d : ℕ) → 0 < d → (q ≤ℤ floor n d) ↔ ((q *ℤ pos d) ≤ℤ n)
≤-floor_iff q n d h = (
  λ k. ≤ℤ_trans (grow d q (floor n d) k) (floor_is n d h).lo,
  λ k. shrink d q (floor n d) (≤ℤ-<ℤ_trans k (floor_is n d h).hi),
)

pub floor-<-iff : (q n : ℤ) (d : ℕ) → 0 < d → (floor n d <ℤ q) ↔ (n <ℤ (q *ℤ pos d))
floor-<-iff q n d h = (λ k. go (≤ℤ_or-<ℤ (q *ℤ pos d) n) k, λ k. back (≤ℤ_or-<ℤ q (floor n d)) k)
  where
    clash : (x y : ℤ) → x <ℤ y → y ≤ℤ x → ⊥
    clash x y = diffs (x ∷ y ∷ []) λ a b ea c e eb. simp (Z·ℕ, ea, eb) (omega arith)

    go : ((q *ℤ pos d) ≤ℤ n) ⊎ (n <ℤ (q *ℤ pos d)) → floor n d <ℤ q → n <ℤ (q *ℤ pos d)
    go (inl l) k = absurd (clash (floor n d) q k ((≤-floor_iff q n d h).1 l))
    go (inr l) k = l

    back : (q ≤ℤ floor n d) ⊎ (floor n d <ℤ q) → n <ℤ (q *ℤ pos d) → floor n d <ℤ q
    back (inl l) k = absurd (clash n (q *ℤ pos d) k ((≤-floor_iff q n d h).0 l))
    back (inr l) k = l

-- ⌊a/d⌋ + ⌊b/d⌋ ≤ ⌊(a + b)/d⌋ ≤ ⌊a/d⌋ + ⌊b/d⌋ + 1
pub floor_sum_lo : (a b : ℤ) (d : ℕ) → 0 < d → (floor a d +ℤ floor b d) ≤ℤ floor (a +ℤ b) d
floor_sum_lo a b d h = (≤-floor_iff (floor a d +ℤ floor b d) (a +ℤ b) d h).1 (go a b (floor a d) (floor b d) (floor_is a d h).lo (floor_is b d h).lo)
  where
    go : (a b p q : ℤ) → (p *ℤ pos d) ≤ℤ a → (q *ℤ pos d) ≤ℤ b → ((p +ℤ q) *ℤ pos d) ≤ℤ (a +ℤ b)
    go a b p q = lin (a ∷ b ∷ p ∷ q ∷ []) λ u v ea eb ep eq. simp (Z·ℕ, ea, eb, ep, eq) (omega arith)

pub floor_sum_hi : (a b : ℤ) (d : ℕ) → 0 < d → floor (a +ℤ b) d ≤ℤ (floor a d +ℤ floor b d +ℤ pos 1)
floor_sum_hi a b d h = shrink d (floor (a +ℤ b) d) (floor a d +ℤ floor b d +ℤ pos 1) (go a b (floor a d) (floor b d) (floor (a +ℤ b) d) (floor_is a d h).hi (floor_is b d h).hi (floor_is (a +ℤ b) d h).lo)
  where
    go : (a b p q r : ℤ) → a <ℤ ((p +ℤ pos 1) *ℤ pos d) → b <ℤ ((q +ℤ pos 1) *ℤ pos d) → (r *ℤ pos d) ≤ℤ (a +ℤ b) → (r *ℤ pos d) <ℤ ((p +ℤ q +ℤ pos 1 +ℤ pos 1) *ℤ pos d)
    go a b p q r = lin (a ∷ b ∷ p ∷ q ∷ r ∷ []) λ u v ea eb ep eq er. simp (Z·ℕ, ea, eb, ep, eq, er) (omega arith)

-- to the nearest: r = ⌊(2n + d)/2d⌋ is off by at most a half, 2·|r·d − n| ≤ d
pub round_near : (n : ℤ) (d : ℕ) → 0 < d → 2 * nat_abs (floor (pos 2 *ℤ n +ℤ pos d) (2 * d) *ℤ pos d -ℤ n) ≤ d
round_near n d h = go (floor (pos 2 *ℤ n +ℤ pos d) (2 * d)) (floor_is (pos 2 *ℤ n +ℤ pos d) (2 * d) (omega arith)).lo (floor_is (pos 2 *ℤ n +ℤ pos d) (2 * d) (omega arith)).hi
  where
    go : (r : ℤ) → (r *ℤ pos (2 * d)) ≤ℤ (pos 2 *ℤ n +ℤ pos d) → (pos 2 *ℤ n +ℤ pos d) <ℤ ((r +ℤ pos 1) *ℤ pos (2 * d)) → 2 * nat_abs (r *ℤ pos d -ℤ n) ≤ d
    go r = lin (n ∷ r ∷ []) λ u v en er. simp (Z·ℕ, en, er) (omega arith)

-- the whole part and the rest, each times k, divide as the product does
pub divided : (a M k : ℕ) → 0 < M → a / M * k + a % M * k / M ≡ a * k / M
divided a M k h = sym (ap (λ n. n * k / M) (sym (div-add-mod' a M)) ∙ ap (λ n. n / M) (turn (a / M) (a % M) M k) ∙ add-mul-div_right (a % M * k) (a / M * k) h ∙ swap (a % M * k / M) (a / M * k))
  where
    turn : (q r M k : ℕ) → (q * M + r) * k ≡ r * k + q * k * M
    turn q r M k = omega arith

    swap : (a b : ℕ) → a + b ≡ b + a
    swap a b = omega arith
