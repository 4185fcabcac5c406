-- ℤ by differences of naturals: z is `up z` less `dn z`, and `p ⊖ n` is p − n (shut: it does not compute).
-- Every law of ℤ comes down to one on ℕ, for `omega`. Assumes nothing.
use Rattle.std.specs.Prelude.{◌≡◌, refl, ◌↔◌, List, [], ◌∷◌, Bool, true, false, not, cond, ℕ, zero, suc, ◌+◌, ◌*◌, ◌-◌, ◌<◌, ◌≤◌, T, ltb, ℤ, pos, negsuc, neg_ℤ, ◌+ℤ◌, ◌*ℤ◌, nat_abs, ◌≤ℤ◌, ◌<ℤ◌}
use Rattle.std.proofs.Common.{sym, ◌∙◌, ap, arith, ltb→lt, nltb→le, le→leb, leb→le, lt→ltb}
use Rattle.std.proofs.Math.IntN.{sub_ℕ}
use Rattle.std.specs.Int.Signed.{le_z, lt_z}
use Rattle.arith.specs.Diff.{up, dn}

cond_ind : (c : Bool) (x y : ℤ) (P : ℤ → Type 0) → (T c → P x) → (T (not c) → P y) → P (cond c x y)
cond_ind true x y P f g = f tt
cond_ind false x y P f g = g tt

is_sub : (a b : ℕ) → up (sub_ℕ a b) + b ≡ a + dn (sub_ℕ a b)
is_sub a b = cond_ind (ltb a b) (negsuc (b - suc a)) (pos (a - b)) (λ z. up z + b ≡ a + dn z)
    (λ t. let h : a < b = ltb→lt a b t in omega arith) (λ t. let h : b ≤ a = nltb→le a b t in omega arith)

-- two integers with the same difference are equal
pub is_uniq : (x y : ℤ) → up x + dn y ≡ up y + dn x → x ≡ y
is_uniq (pos a) (pos b) e = ap pos (let h : a ≡ b = omega arith in h)
is_uniq (pos a) (negsuc b) e = absurd (let h : ⊥ = omega arith in h)
is_uniq (negsuc a) (pos b) e = absurd (let h : ⊥ = omega arith in h)
is_uniq (negsuc a) (negsuc b) e = ap negsuc (let h : a ≡ b = omega arith in h)

pub up_neg : (x : ℤ) → up (neg_ℤ x) ≡ dn x
up_neg (pos zero) = refl
up_neg (pos (suc n)) = refl
up_neg (negsuc n) = refl

pub dn_neg : (x : ℤ) → dn (neg_ℤ x) ≡ up x
dn_neg (pos zero) = refl
dn_neg (pos (suc n)) = refl
dn_neg (negsuc n) = refl

pub is_add : (x y : ℤ) → up (x +ℤ y) + (dn x + dn y) ≡ (up x + up y) + dn (x +ℤ y)
is_add (pos a) (pos b) = omega arith
is_add (pos a) (negsuc b) = omega (arith, is_sub a (suc b))
is_add (negsuc a) (pos b) = omega (arith, is_sub b (suc a))
is_add (negsuc a) (negsuc b) = omega arith

pub is_mul : (x y : ℤ) → up (x *ℤ y) + (up x * dn y + dn x * up y) ≡ (up x * up y + dn x * dn y) + dn (x *ℤ y)
is_mul (pos a) (pos b) = omega arith
is_mul (pos a) (negsuc b) = omega (arith, up_neg (pos (a * suc b)), dn_neg (pos (a * suc b)))
is_mul (negsuc a) (pos b) = omega (arith, up_neg (pos (suc a * b)), dn_neg (pos (suc a * b)))
is_mul (negsuc a) (negsuc b) = omega arith

-- ---- p − n
infix 60 ◌⊖◌
pub ◌⊖◌ : ℕ → ℕ → ℤ
p ⊖ n = sub_ℕ p n

pub is-⊖ : (p n : ℕ) → up (p ⊖ n) + n ≡ p + dn (p ⊖ n)
unfolding ◌⊖◌
is-⊖ p n = is_sub p n

pub ⊖-self : (x : ℤ) → x ≡ up x ⊖ dn x
⊖-self x = is_uniq x (up x ⊖ dn x) (omega (arith, is-⊖ (up x) (dn x)))

pub ⊖-cong : (p n q m : ℕ) → p + m ≡ q + n → p ⊖ n ≡ q ⊖ m
⊖-cong p n q m e = is_uniq (p ⊖ n) (q ⊖ m) (omega (arith, is-⊖ p n, is-⊖ q m))

⊖-inj : (p n q m : ℕ) → p ⊖ n ≡ q ⊖ m → p + m ≡ q + n
⊖-inj p n q m e = omega (arith, is-⊖ p n, is-⊖ q m, ap up e, ap dn e)

pub ⊖-eq : (p n q m : ℕ) → (p ⊖ n ≡ q ⊖ m) ↔ (p + m ≡ q + n)
⊖-eq p n q m = (⊖-inj p n q m, ⊖-cong p n q m)

pub ⊖-pos : (k : ℕ) → pos k ≡ k ⊖ 0
⊖-pos k = ⊖-self (pos k)

pub ⊖-negsuc : (k : ℕ) → negsuc k ≡ 0 ⊖ suc k
⊖-negsuc k = ⊖-self (negsuc k)

pub ⊖-neg : (p n : ℕ) → neg_ℤ (p ⊖ n) ≡ n ⊖ p
⊖-neg p n = is_uniq (neg_ℤ (p ⊖ n)) (n ⊖ p) (omega (arith, up_neg (p ⊖ n), dn_neg (p ⊖ n), is-⊖ p n, is-⊖ n p))

-- at a variable k, where `neg_ℤ` waits for its case
pub ⊖-neg_pos : (k : ℕ) → neg_ℤ (pos k) ≡ 0 ⊖ k
⊖-neg_pos k = is_uniq (neg_ℤ (pos k)) (0 ⊖ k) (omega (arith, up_neg (pos k), dn_neg (pos k), is-⊖ 0 k))

-- what `negsuc b +ℤ pos a` and `pos a +ℤ negsuc b` compute to (of no use to `simp`, which rewrites inside its `cond` first)
pub ⊖-subℕ : (a b : ℕ) → sub_ℕ a b ≡ a ⊖ b
⊖-subℕ a b = is_uniq (sub_ℕ a b) (a ⊖ b) (omega (arith, is_sub a b, is-⊖ a b))

pub ⊖-add : (p n q m : ℕ) → (p ⊖ n) +ℤ (q ⊖ m) ≡ (p + q) ⊖ (n + m)
⊖-add p n q m = is_uniq ((p ⊖ n) +ℤ (q ⊖ m)) ((p + q) ⊖ (n + m)) (omega (arith, is_add (p ⊖ n) (q ⊖ m), is-⊖ p n, is-⊖ q m, is-⊖ (p + q) (n + m)))

mul_eq : (a b p n c d q m : ℕ) → a + n ≡ p + b → c + m ≡ q + d → (a * c + b * d) + (p * m + n * q) ≡ (p * q + n * m) + (a * d + b * c)
mul_eq a b p n c d q m e f = omega (arith, ap (λ t. t * c) e, ap (λ t. t * d) e, ap (λ t. t * p) f, ap (λ t. t * n) f)

pub ⊖-mul : (p n q m : ℕ) → (p ⊖ n) *ℤ (q ⊖ m) ≡ (p * q + n * m) ⊖ (p * m + n * q)
⊖-mul p n q m = is_uniq ((p ⊖ n) *ℤ (q ⊖ m)) ((p * q + n * m) ⊖ (p * m + n * q)) (go (up (p ⊖ n)) (dn (p ⊖ n)) (up (q ⊖ m)) (dn (q ⊖ m)) (is-⊖ p n) (is-⊖ q m) (is_mul (p ⊖ n) (q ⊖ m)) (is-⊖ (p * q + n * m) (p * m + n * q)))
  where
    go : (a b c d : ℕ) → a + n ≡ p + b → c + m ≡ q + d → up ((p ⊖ n) *ℤ (q ⊖ m)) + (a * d + b * c) ≡ (a * c + b * d) + dn ((p ⊖ n) *ℤ (q ⊖ m)) → up ((p * q + n * m) ⊖ (p * m + n * q)) + (p * m + n * q) ≡ (p * q + n * m) + dn ((p * q + n * m) ⊖ (p * m + n * q)) → up ((p ⊖ n) *ℤ (q ⊖ m)) + dn ((p * q + n * m) ⊖ (p * m + n * q)) ≡ up ((p * q + n * m) ⊖ (p * m + n * q)) + dn ((p ⊖ n) *ℤ (q ⊖ m))
    go a b c d e f g h = omega (arith, mul_eq a b p n c d q m e f)

-- ---- the order
le_to : (x y : ℤ) → T (le_z x y) → up x + dn y ≤ up y + dn x
le_to (pos a) (pos b) t = omega (arith, leb→le)
le_to (pos a) (negsuc b) t = absurd t
le_to (negsuc a) (pos b) t = omega arith
le_to (negsuc a) (negsuc b) t = omega (arith, leb→le)

le_from : (x y : ℤ) → up x + dn y ≤ up y + dn x → T (le_z x y)
le_from (pos a) (pos b) h = omega (arith, le→leb)
le_from (pos a) (negsuc b) h = let z : ⊥ = omega arith in absurd z
le_from (negsuc a) (pos b) h = tt
le_from (negsuc a) (negsuc b) h = omega (arith, le→leb)

lt_to : (x y : ℤ) → T (lt_z x y) → up x + dn y < up y + dn x
lt_to (pos a) (pos b) t = omega (arith, ltb→lt)
lt_to (pos a) (negsuc b) t = absurd t
lt_to (negsuc a) (pos b) t = omega arith
lt_to (negsuc a) (negsuc b) t = omega (arith, ltb→lt)

lt_from : (x y : ℤ) → up x + dn y < up y + dn x → T (lt_z x y)
lt_from (pos a) (pos b) h = omega (arith, lt→ltb)
lt_from (pos a) (negsuc b) h = let z : ⊥ = omega arith in absurd z
lt_from (negsuc a) (pos b) h = tt
lt_from (negsuc a) (negsuc b) h = omega (arith, lt→ltb)

pub ≤-iff : (x y : ℤ) → (x ≤ℤ y) ↔ (up x + dn y ≤ up y + dn x)
≤-iff x y = (λ h. le_to x y h.le, λ h. record { le = le_from x y h })

pub <-iff : (x y : ℤ) → (x <ℤ y) ↔ (up x + dn y < up y + dn x)
<-iff x y = (λ h. lt_to x y h.lt, λ h. record { lt = lt_from x y h })

pub ⊖-le : (p n q m : ℕ) → ((p ⊖ n) ≤ℤ (q ⊖ m)) ↔ (p + m ≤ q + n)
⊖-le p n q m = (λ h. (let k : up (p ⊖ n) + dn (q ⊖ m) ≤ up (q ⊖ m) + dn (p ⊖ n) = (≤-iff (p ⊖ n) (q ⊖ m)).0 h in omega (arith, is-⊖ p n, is-⊖ q m)), λ h. (≤-iff (p ⊖ n) (q ⊖ m)).1 (omega (arith, is-⊖ p n, is-⊖ q m)))

pub ⊖-lt : (p n q m : ℕ) → ((p ⊖ n) <ℤ (q ⊖ m)) ↔ (p + m < q + n)
⊖-lt p n q m = (λ h. (let k : up (p ⊖ n) + dn (q ⊖ m) < up (q ⊖ m) + dn (p ⊖ n) = (<-iff (p ⊖ n) (q ⊖ m)).0 h in omega (arith, is-⊖ p n, is-⊖ q m)), λ h. (<-iff (p ⊖ n) (q ⊖ m)).1 (omega (arith, is-⊖ p n, is-⊖ q m)))

abs_up_dn : (x : ℤ) → nat_abs x ≡ (up x - dn x) + (dn x - up x)
abs_up_dn (pos a) = omega arith
abs_up_dn (negsuc a) = omega arith

pub ⊖-abs : (p n : ℕ) → nat_abs (p ⊖ n) ≡ (p - n) + (n - p)
⊖-abs p n = omega (arith, abs_up_dn (p ⊖ n), is-⊖ p n)

-- a bound on the absolute value, with no case split
pub ⊖-abs_le : (p n k : ℕ) → (nat_abs (p ⊖ n) ≤ k) ↔ ((p ≤ n + k) × (n ≤ p + k))
⊖-abs_le p n k = (λ h. omega (arith, ⊖-abs p n), λ h. omega (arith, ⊖-abs p n))

pub ⊖-abs_lt : (p n k : ℕ) → (nat_abs (p ⊖ n) < k) ↔ ((p < n + k) × (n < p + k))
⊖-abs_lt p n k = (λ h. omega (arith, ⊖-abs p n), λ h. omega (arith, ⊖-abs p n))

-- what `simp` takes a statement on ℤ to one on ℕ by. `Z·abs` is for many bounds `nat_abs z ≤ k` and `nat_abs z < k`, with k a numeral or a variable: `omega` then splits no case on them (`Z·ℕ` costs it two for each `nat_abs`, of six)
pub ruleset Z·abs = (⊖-add, ⊖-neg, ⊖-neg_pos, ⊖-mul, ⊖-pos, ⊖-negsuc, ⊖-le, ⊖-lt, ⊖-eq, ⊖-abs_le, ⊖-abs_lt)

pub ruleset Z·ℕ = (⊖-add, ⊖-neg, ⊖-neg_pos, ⊖-mul, ⊖-pos, ⊖-negsuc, ⊖-le, ⊖-lt, ⊖-eq, ⊖-abs)

-- any integer is such a difference; for a list of integers, written out: `diffs (a ∷ b ∷ []) λ p q e  p' q' e'. ..`
abbrev pub Diffs {ℓ} : List ℤ → Type ℓ → Type ℓ
Diffs [] G = G
Diffs (x ∷ xs) G = (p n : ℕ) → x ≡ p ⊖ n → Diffs xs G

pub diffs {ℓ} : {G : Type ℓ} (xs : List ℤ) → Diffs xs G → G
diffs [] g = g
diffs (x ∷ xs) f = diffs xs (f (up x) (dn x) (⊖-self x))

-- the same with fewer names: the i-th integer of the list is u i − v i. `lin (a ∷ b ∷ []) λ u v ea eb. simp (Z·ℕ, ea, eb) (omega arith)` proves what is linear over ℤ, hypotheses (as arrows of the goal) included
abbrev pub Lin {ℓ} : (ℕ → ℕ) → (ℕ → ℕ) → ℕ → List ℤ → Type ℓ → Type ℓ
Lin u v i [] G = G
Lin u v i (x ∷ xs) G = x ≡ u i ⊖ v i → Lin u v (suc i) xs G

abbrev nth : List ℤ → ℕ → ℤ
nth [] i = pos 0
nth (x ∷ xs) zero = x
nth (x ∷ xs) (suc i) = nth xs i

feed {ℓ} : {G : Type ℓ} (all xs : List ℤ) (i : ℕ) → ((k : ℕ) → nth all (i + k) ≡ nth xs k) → Lin (λ j. up (nth all j)) (λ j. dn (nth all j)) i xs G → G
feed all [] i h g = g
feed all (x ∷ xs) i h g =
    feed all xs (suc i) (λ k. ap (nth all) (step i k) ∙ h (suc k)) (g (sym (ap (nth all) (here i) ∙ h 0) ∙ ⊖-self (nth all i)))
  where
    step : (i k : ℕ) → suc i + k ≡ i + suc k
    step i k = omega arith

    here : (i : ℕ) → i ≡ i + 0
    here i = omega arith

pub lin {ℓ} : {G : Type ℓ} (xs : List ℤ) → ((u v : ℕ → ℕ) → Lin u v 0 xs G) → G
lin xs f = feed xs xs 0 (λ k. ap (nth xs) (zero_add k)) (f (λ j. up (nth xs j)) (λ j. dn (nth xs j)))
  where
    zero_add : (k : ℕ) → 0 + k ≡ k
    zero_add k = omega arith
