-- Complex whole numbers by their modulus: of a sum and of a product, Cauchy's inequality, and how far two are apart. Assumes nothing.
use Rattle.std.specs.Prelude.{◌≡◌, refl, Bool, true, false, not, [], ◌∷◌, ℕ, zero, suc, ◌+◌, ◌-◌, ◌*◌, ◌^◌, ◌≤◌, ◌<◌, T, leb, ℤ, pos, negsuc, nat_abs, ◌+ℤ◌, ◌-ℤ◌, ◌*ℤ◌}
use Rattle.std.proofs.Common.{sym, ap, ap₂, ◌∙◌, subst, zero-le, le_trans, le_of_eq, le_refl, le_of_lt, lt_of_le_of_lt, lt_of_not-le, not-le_of_lt, le_of_suc-le-suc, mul_comm, mul-add, add-mul, mul-pos, mul-le-mul, mul-le-mul_left, mul-lt-mul_of_pos_right, le_of_mul-le-mul_right, le-add_right, le-add_left, add-le-add, add-sub_of_le, arith, leb→le}
use Rattle.std.proofs.Math.Nat.{mul-mul-mul_comm}
use Rattle.std.proofs.Math.Dec.{nleb→lt}
use Rattle.arith.specs.Laws.Integers.{pos_inj}
use Rattle.arith.specs.Laws.Order.{abs_mul, abs_add}
use Rattle.arith.specs.Laws.Ring.{ring, Z·ring, by_ring, ev_num}
use Rattle.rules.specs.Scaled.{Pair}
use Rattle.double.specs.Value.{Near}
use Rattle.double.specs.Pairs.{◌⊕◌, ◌⊗◌, ◌⊙◌, ◌⊞◌, square, Modulus, Close}
use Rattle.double.proofs.Laws.Nearness.{near_size}

pub same_pair : {a b c d : ℤ} → a ≡ c → b ≡ d → ◌≡◌ {A = Pair} (record { first = a; second = b }) (record { first = c; second = d })
same_pair e f = ap₂ (λ (x y : ℤ). record { first = x; second = y }) e f

-- ---- squares of naturals
pub square_le : (m n : ℕ) → m * m ≤ n * n → m ≤ n
square_le m n h = le_of_suc-le-suc (lt_of_not-le (λ (g : suc n ≤ m). not-le_of_lt (less n m g) h))
  where
    less : (m n : ℕ) → m < n → m * m < n * n
    less m n h = lt_of_le_of_lt (mul-le-mul_left m (le_of_lt h)) (mul-lt-mul_of_pos_right h (lt_of_le_of_lt zero-le h))

pub square_add : (a b : ℕ) → (a + b) * (a + b) ≡ a * a + 2 * (a * b) + b * b
square_add a b = let e = add-mul a b (a + b) in let f = mul-add a a b in let g = mul-add b a b in let h = mul_comm b a in omega arith

twice_product : (u v : ℕ) → 2 * (u * v) ≤ u * u + v * v
twice_product u v = go (leb u v) (leb→le u v) (nleb→lt u v)
  where
    up : (u k : ℕ) → 2 * (u * (u + k)) ≤ u * u + (u + k) * (u + k)
    up u k = let e = mul-add u u k in let f = square_add u k in omega arith

    go : (b : Bool) → (T b → u ≤ v) → (T (not b) → v < u) → 2 * (u * v) ≤ u * u + v * v
    go true h k = subst (λ (w : ℕ). 2 * (u * w) ≤ u * u + w * w) (add-sub_of_le (h tt)) (up u (v - u))
    go false h k =
        let e : 2 * (v * u) ≤ v * v + u * u = subst (λ (w : ℕ). 2 * (v * w) ≤ v * v + w * w) (add-sub_of_le (le_of_lt (k tt))) (up v (u - v)) in
        let f = mul_comm u v in omega arith

-- (a c + b d) ^ 2 ≤ (a a + b b) (c c + d d)
cauchy_squares : (a b c d : ℕ) → (a * c + b * d) * (a * c + b * d) ≤ (a * a + b * b) * (c * c + d * d)
cauchy_squares a b c d =
    let e = square_add (a * c) (b * d) in
    let f = add-mul (a * a) (b * b) (c * c + d * d) in
    let g = mul-add (a * a) (c * c) (d * d) in
    let h = mul-add (b * b) (c * c) (d * d) in
    let i = mul-mul-mul_comm a c a c in
    let j = mul-mul-mul_comm b d b d in
    let k = mul-mul-mul_comm a d a d in
    let l = mul-mul-mul_comm b c b c in
    let m = twice_product (a * d) (b * c) in
    let n : a * d * (b * c) ≡ a * c * (b * d) = mul-mul-mul_comm a d b c ∙ ap (λ (x : ℕ). a * b * x) (mul_comm d c) ∙ mul-mul-mul_comm a b c d in
    omega arith

-- ---- the modulus
pub modulus_more : {p : Pair} {q : ℕ} (r : ℕ) → q ≤ r → Modulus p q → Modulus p r
modulus_more r l h = record { squares = le_trans h.squares (mul-le-mul l l) }

-- each part is at most the modulus, and the modulus at most the parts' sum
pub modulus_first : {p : Pair} {q : ℕ} → Modulus p q → nat_abs p.first ≤ q
modulus_first {p} {q} h = square_le (nat_abs p.first) q (le_trans (le-add_right (square p.first) (square p.second)) h.squares)

pub modulus_second : {p : Pair} {q : ℕ} → Modulus p q → nat_abs p.second ≤ q
modulus_second {p} {q} h = square_le (nat_abs p.second) q (le_trans (le-add_left (square p.second) (square p.first)) h.squares)

pub modulus_parts : (p : Pair) (a b : ℕ) → nat_abs p.first ≤ a → nat_abs p.second ≤ b → Modulus p (a + b)
modulus_parts p a b h k = record { squares = le_trans (add-le-add (mul-le-mul h h) (mul-le-mul k k)) (more a b) }
  where
    more : (a b : ℕ) → a * a + b * b ≤ (a + b) * (a + b)
    more a b = let e = square_add a b in omega arith

pub modulus_turn : {p : Pair} {q : ℕ} → Modulus p q → square p.second + square p.first ≤ q * q
modulus_turn h = omega (arith, h.squares)

-- |p₁| |r₁| + |p₂| |r₂| and |p₁| |r₂| + |p₂| |r₁| are at most the product of the moduli
cauchy_of : (a b c d q r : ℕ) → a * a + b * b ≤ q * q → c * c + d * d ≤ r * r → a * c + b * d ≤ q * r
cauchy_of a b c d q r h k = square_le (a * c + b * d) (q * r) (le_trans (cauchy_squares a b c d) (le_trans (mul-le-mul h k) (le_of_eq (mul-mul-mul_comm q q r r))))

pub cauchy : {p s : Pair} {q r : ℕ} → Modulus p q → Modulus s r → nat_abs p.first * nat_abs s.first + nat_abs p.second * nat_abs s.second ≤ q * r
cauchy {p} {s} {q} {r} h k = cauchy_of (nat_abs p.first) (nat_abs p.second) (nat_abs s.first) (nat_abs s.second) q r h.squares k.squares

pub cauchy_cross : {p s : Pair} {q r : ℕ} → Modulus p q → Modulus s r → nat_abs p.first * nat_abs s.second + nat_abs p.second * nat_abs s.first ≤ q * r
cauchy_cross {p} {s} {q} {r} h k = cauchy_of (nat_abs p.first) (nat_abs p.second) (nat_abs s.second) (nat_abs s.first) q r h.squares (modulus_turn k)

pub modulus_add : {p s : Pair} {q r : ℕ} → Modulus p q → Modulus s r → Modulus (p ⊕ s) (q + r)
modulus_add {p} {s} {q} {r} h k =
    let e = mul-le-mul (abs_add p.first s.first) (abs_add p.first s.first) in
    let f = mul-le-mul (abs_add p.second s.second) (abs_add p.second s.second) in
    let g = square_add (nat_abs p.first) (nat_abs s.first) in
    let i = square_add (nat_abs p.second) (nat_abs s.second) in
    let j = cauchy h k in
    let l = square_add q r in
    let m = h.squares in
    let n = k.squares in
    record { squares = omega arith }

pub modulus_add_real : {p : Pair} {q : ℕ} (k : ℤ) → Modulus p q → Modulus (k ⊞ p) (nat_abs k + q)
modulus_add_real {p} {q} k h =
    subst (λ (x : Pair). Modulus x (nat_abs k + q)) (same_pair refl (zero p.second)) (modulus_add {p = record { first = k; second = pos 0 }} (record { squares = omega arith }) h)
  where
    zero : (a : ℤ) → pos 0 +ℤ a ≡ a
    zero a = ring (a ∷ []) λ ρ ea. simp (Z·ring, ev_num ρ, ea) (by_ring _ _ _ refl)

square_is : (z : ℤ) → z *ℤ z ≡ pos (square z)
square_is (pos n) = refl
square_is (negsuc n) = refl

-- the square of a product's modulus is the product of the squares
product_squares : (p s : Pair) → square (p ⊗ s).first + square (p ⊗ s).second ≡ (square p.first + square p.second) * (square s.first + square s.second)
product_squares p s =
    pos_inj
    (sym (ap₂ ◌+ℤ◌ (square_is (p ⊗ s).first) (square_is (p ⊗ s).second))
    ∙ law p.first p.second s.first s.second
    ∙ ap₂ ◌*ℤ◌ (ap₂ ◌+ℤ◌ (square_is p.first) (square_is p.second)) (ap₂ ◌+ℤ◌ (square_is s.first) (square_is s.second)))
  where
    law : (a b x y : ℤ) → (a *ℤ x -ℤ b *ℤ y) *ℤ (a *ℤ x -ℤ b *ℤ y) +ℤ (a *ℤ y +ℤ b *ℤ x) *ℤ (a *ℤ y +ℤ b *ℤ x) ≡ (a *ℤ a +ℤ b *ℤ b) *ℤ (x *ℤ x +ℤ y *ℤ y)
    law a b x y = ring (a ∷ b ∷ x ∷ y ∷ []) λ ρ ea eb ex ey. simp (Z·ring, ea, eb, ex, ey) (by_ring _ _ _ refl)

pub modulus_mul : {p s : Pair} {q r : ℕ} → Modulus p q → Modulus s r → Modulus (p ⊗ s) (q * r)
modulus_mul {p} {s} {q} {r} h k = record { squares = le_trans (le_of_eq (product_squares p s)) (le_trans (mul-le-mul h.squares k.squares) (le_of_eq (mul-mul-mul_comm q q r r))) }

-- n times a pair, and back
times_squares : (p : Pair) (n : ℕ) → square (p ⊙ n).first + square (p ⊙ n).second ≡ (square p.first + square p.second) * (n * n)
times_squares p n =
    ap₂ ◌+◌ (one p.first) (one p.second) ∙ sym (add-mul (square p.first) (square p.second) (n * n))
  where
    one : (z : ℤ) → square (z *ℤ pos n) ≡ square z * (n * n)
    one z = ap (λ (k : ℕ). k * k) (abs_mul z (pos n)) ∙ mul-mul-mul_comm (nat_abs z) n (nat_abs z) n

pub modulus_times : {p : Pair} {q : ℕ} (n : ℕ) → Modulus p q → Modulus (p ⊙ n) (q * n)
modulus_times {p} {q} n h = record { squares = le_trans (le_of_eq (times_squares p n)) (le_trans (mul-le-mul h.squares (le_refl (n * n))) (le_of_eq (mul-mul-mul_comm q q n n))) }

pub modulus_over : {p : Pair} (q n : ℕ) → 0 < n → Modulus (p ⊙ n) (q * n) → Modulus p q
modulus_over {p} q n N h = record { squares = le_of_mul-le-mul_right (le_trans (le_of_eq (sym (times_squares p n))) (le_trans h.squares (le_of_eq (mul-mul-mul_comm q n q n)))) (mul-pos N N) }

-- ---- how far two are apart
size_le : (a a' : ℤ) (q : ℕ) → 2 ^ 53 * nat_abs (a -ℤ a') ≤ q → nat_abs ((a -ℤ a') *ℤ pos (2 ^ 53)) ≤ q
size_le a a' q h = le_trans (le_of_eq (abs_mul (a -ℤ a') (pos (2 ^ 53)) ∙ mul_comm (nat_abs (a -ℤ a')) (2 ^ 53))) h

pub close_parts : {p p' : Pair} {q r : ℕ} (t : ℕ) → Near p.first p'.first q → Near p.second p'.second r → q * q + r * r ≤ t * t → Close p p' t
close_parts {p} {p'} {q} {r} t h k l =
    let x = size_le p.first p'.first q (near_size h) in
    let y = size_le p.second p'.second r (near_size k) in
    record { far = record { squares = le_trans (add-le-add (mul-le-mul x x) (mul-le-mul y y)) l } }

pub close_first : {p p' : Pair} {q : ℕ} → Close p p' q → 2 ^ 53 * nat_abs (p.first -ℤ p'.first) ≤ q
close_first {p} {p'} h = le_trans (le_of_eq (mul_comm (2 ^ 53) (nat_abs (p.first -ℤ p'.first)) ∙ sym (abs_mul (p.first -ℤ p'.first) (pos (2 ^ 53))))) (modulus_first h.far)

pub close_second : {p p' : Pair} {q : ℕ} → Close p p' q → 2 ^ 53 * nat_abs (p.second -ℤ p'.second) ≤ q
close_second {p} {p'} h = le_trans (le_of_eq (mul_comm (2 ^ 53) (nat_abs (p.second -ℤ p'.second)) ∙ sym (abs_mul (p.second -ℤ p'.second) (pos (2 ^ 53))))) (modulus_second h.far)

pub close_more : {p p' : Pair} {q : ℕ} (r : ℕ) → q ≤ r → Close p p' q → Close p p' r
close_more r l h = record { far = modulus_more r l h.far }

pub close_trans : {p p' p'' : Pair} {q r : ℕ} → Close p p' q → Close p' p'' r → Close p p'' (q + r)
close_trans {p} {p'} {p''} {q} {r} h k =
    record { far = subst (λ (x : Pair). Modulus x (q + r)) (same_pair (law p.first p'.first p''.first (pos (2 ^ 53))) (law p.second p'.second p''.second (pos (2 ^ 53)))) (modulus_add h.far k.far) }
  where
    law : (a b c n : ℤ) → (a -ℤ b) *ℤ n +ℤ (b -ℤ c) *ℤ n ≡ (a -ℤ c) *ℤ n
    law a b c n = ring (a ∷ b ∷ c ∷ n ∷ []) λ ρ ea eb ec en. simp (Z·ring, ea, eb, ec, en) (by_ring _ _ _ refl)

-- times z, in front
pub close_mul : {p p' : Pair} {q m : ℕ} (z : Pair) → Close p p' q → Modulus z m → Close (z ⊗ p) (z ⊗ p') (q * m)
close_mul {p} {p'} {q} {m} z h k =
    record { far = modulus_more (q * m) (le_of_eq (mul_comm m q)) (subst (λ (x : Pair). Modulus x (m * q)) (same_pair (one z.first z.second p.first p.second p'.first p'.second (pos (2 ^ 53))) (two z.first z.second p.first p.second p'.first p'.second (pos (2 ^ 53)))) (modulus_mul k h.far)) }
  where
    one : (x y a b c d n : ℤ) → x *ℤ ((a -ℤ c) *ℤ n) -ℤ y *ℤ ((b -ℤ d) *ℤ n) ≡ (x *ℤ a -ℤ y *ℤ b -ℤ (x *ℤ c -ℤ y *ℤ d)) *ℤ n
    one x y a b c d n = ring (x ∷ y ∷ a ∷ b ∷ c ∷ d ∷ n ∷ []) λ ρ ex ey ea eb ec ed en. simp (Z·ring, ex, ey, ea, eb, ec, ed, en) (by_ring _ _ _ refl)

    two : (x y a b c d n : ℤ) → x *ℤ ((b -ℤ d) *ℤ n) +ℤ y *ℤ ((a -ℤ c) *ℤ n) ≡ (x *ℤ b +ℤ y *ℤ a -ℤ (x *ℤ d +ℤ y *ℤ c)) *ℤ n
    two x y a b c d n = ring (x ∷ y ∷ a ∷ b ∷ c ∷ d ∷ n ∷ []) λ ρ ex ey ea eb ec ed en. simp (Z·ring, ex, ey, ea, eb, ec, ed, en) (by_ring _ _ _ refl)

-- plus a real number, in front
pub close_add : {p p' : Pair} {q : ℕ} (k : ℤ) → Close p p' q → Close (k ⊞ p) (k ⊞ p') q
close_add {p} {p'} {q} k h =
    record { far = subst (λ (x : Pair). Modulus x q) (same_pair (law p.first p'.first k (pos (2 ^ 53))) refl) h.far }
  where
    law : (a b k n : ℤ) → (a -ℤ b) *ℤ n ≡ (k +ℤ a -ℤ (k +ℤ b)) *ℤ n
    law a b k n = ring (a ∷ b ∷ k ∷ n ∷ []) λ ρ ea eb ek en. simp (Z·ring, ea, eb, ek, en) (by_ring _ _ _ refl)

-- n times both
pub close_times : {p p' : Pair} {q : ℕ} (n : ℕ) → Close p p' q → Close (p ⊙ n) (p' ⊙ n) (q * n)
close_times {p} {p'} {q} n h =
    record { far = subst (λ (x : Pair). Modulus x (q * n)) (same_pair (law p.first p'.first (pos n) (pos (2 ^ 53))) (law p.second p'.second (pos n) (pos (2 ^ 53)))) (modulus_times n h.far) }
  where
    law : (a b n k : ℤ) → (a -ℤ b) *ℤ k *ℤ n ≡ (a *ℤ n -ℤ b *ℤ n) *ℤ k
    law a b n k = ring (a ∷ b ∷ n ∷ k ∷ []) λ ρ ea eb en ek. simp (Z·ring, ea, eb, en, ek) (by_ring _ _ _ refl)
