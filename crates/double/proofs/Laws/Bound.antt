-- The polynomial in doubles against the exact polynomial with the table's own quotients: the bound, once, over any table. Assumes nothing.
use Rattle.std.specs.Prelude.{◌≡◌, refl, List, [], ◌∷◌, ℕ, zero, suc, ◌+◌, ◌*◌, ◌^◌, ◌≤◌, ◌<◌, length, ℤ, pos, nat_abs, ◌*ℤ◌}
use Rattle.std.proofs.Common.{sym, ap, ◌∙◌, subst, le_trans, le_of_eq, le_refl, le_of_lt, lt_of_le_of_lt, mul_assoc, mul_left_comm, mul_right_comm, add-mul, mul-le-mul, mul-le-mul_left, mul-le-mul_right, mul-lt-mul_of_pos_right, le_of_mul-le-mul_right, le-add_left, le-add_right, add-le-add, pow-suc, arith, lit≤, lit<, pow_pos, pow-add, pow_mono}
use Rattle.std.proofs.Math.Nat.{mul-mul-mul_comm, le_of_mul-le-mul_left, pow-zero, pow-succ'}
use Rattle.arith.specs.Laws.Ring.{ring, Z·ring, by_ring}
use Rattle.rules.specs.Scaled as scaled
use Rattle.rules.specs.Polynomial.{double_unit, exact}
use Rattle.double.specs.declared.Pair.{Pair}
use Rattle.double.specs.Value.{limit, value}
use Rattle.double.specs.Complex.{horner, Numbers, values}
use Rattle.double.specs.Pairs.{◌⊙◌, ◌⊞◌, ◌⊗◌, Close}
use Rattle.double.specs.Exact.{at, weight, nearest_double, doubles, table_values}
use Rattle.double.specs.Bound.{Light, Inside}
use Rattle.double.proofs.Laws.Operations.{double_unit_pos}
use Rattle.double.proofs.Laws.Modulus.{same_pair, close_more, close_trans, close_times}
use Rattle.double.proofs.Laws.Horner.{heft, horner_near, double_unit_pow_pos}
use Rattle.double.proofs.Laws.Tables.{Table, stands, fine, length_doubles, floors, floors_le, table_close, table_weight}

-- `exact` of the rules
pub at_exact : (cs : List ℤ) (z : scaled.Pair) → at double_unit cs z ≡ exact cs z
unfolding at exact
at_exact [] z = refl
at_exact (c ∷ cs) z = ap (λ (w : scaled.Pair). (c *ℤ pos (double_unit ^ length cs)) ⊞ (z ⊗ w)) (at_exact cs z)

-- ---- for at most ten coefficients, and an argument of at most 2 ^ 90, nothing underflows
powers : (m n : ℕ) → m ≤ 2 ^ 90 * double_unit → m ^ n ≤ 2 ^ (90 * n) * double_unit ^ n
powers m zero h = le_of_eq (pow-zero m ∙ sym (ap (λ (k : ℕ). 1 * k) (pow-zero double_unit)))
powers m (suc n) h =
    le_trans (le_of_eq (pow-suc m n)) (le_trans (mul-le-mul (powers m n h) h)
    (le_of_eq (mul-mul-mul_comm (2 ^ (90 * n)) (double_unit ^ n) (2 ^ 90) double_unit ∙ ap (λ (k : ℕ). k * (double_unit ^ n * double_unit)) (sym (pow-add 2 (90 * n) 90) ∙ ap (λ (k : ℕ). 2 ^ k) (more n)) ∙ ap (λ (k : ℕ). 2 ^ (90 * suc n) * k) (sym (pow-suc double_unit n)))))
  where
    more : (n : ℕ) → 90 * n + 90 ≡ 90 * suc n
    more n = omega arith

small_power : (n : ℕ) → n ≤ 9 → 2 ^ 52 * 2 ^ (90 * n) ≤ double_unit
unfolding double_unit
small_power n h = le_trans (le_of_eq (sym (pow-add 2 52 (90 * n)))) (pow_mono {i = 52 + 90 * n} {j = 1074} (omega arith))

no_underflow : (m n : ℕ) → n ≤ 9 → m ≤ 2 ^ 90 * double_unit → 2 ^ 52 * m ^ n ≤ double_unit ^ suc n
no_underflow m n l h =
    le_trans (mul-le-mul_left (2 ^ 52) (powers m n h)) (le_trans (le_of_eq (sym (mul_assoc (2 ^ 52) (2 ^ (90 * n)) (double_unit ^ n)))) (le_trans (mul-le-mul_right (double_unit ^ n) (small_power n l)) (le_of_eq (sym (pow-succ' double_unit n)))))

-- ---- every coefficient of a light table has a finite double that stands for it
room : (D k n : ℕ) → 0 < D → k < 2 ^ 52 → n ≤ k * D → n * double_unit + 2 ^ 52 * D < 2 * limit * D
unfolding double_unit limit
room D k n P K h =
    lt_of_le_of_lt (le_trans (add-le-add (mul-le-mul_right (2 ^ 1074) h) (le_refl (2 ^ 52 * D))) (le_of_eq (ap (λ (x : ℕ). x + 2 ^ 52 * D) (mul_right_comm k D (2 ^ 1074)) ∙ sym (add-mul (k * 2 ^ 1074) (2 ^ 52) D))))
    (mul-lt-mul_of_pos_right (lt_of_le_of_lt (add-le-add (mul-le-mul_right (2 ^ 1074) (below k K)) (le_refl (2 ^ 52))) (lit< tt)) P)
  where
    below : (k : ℕ) → k < 2 ^ 52 → k ≤ 2 ^ 52
    below k h = omega arith

head_small : (c u w k d : ℕ) → 0 < u → c * u + w ≤ k * (d * u) → c ≤ k * d
head_small c u w k d U h = le_of_mul-le-mul_right (le_trans (le-add_right (c * u) w) (le_trans h (le_of_eq (sym (mul_assoc k d u))))) U

tail_light : (a w m u v k d : ℕ) → 0 < u → u ≤ m → a + w * m ≤ k * (d * (u * v)) → w ≤ k * (d * v)
tail_light a w m u v k d U wide h =
    le_of_mul-le-mul_right (le_trans (mul-le-mul_left w wide) (le_trans (le-add_left (w * m) a) (le_trans h (le_of_eq (go k d u v))))) U
  where
    go : (k d u v : ℕ) → k * (d * (u * v)) ≡ k * (d * v) * u
    go k d u v = omega arith

table_of : (D k : ℕ) (c : ℤ) (cs : List ℤ) (m : ℕ) → 0 < D → k < 2 ^ 52 → double_unit ≤ m → weight double_unit (c ∷ cs) m ≤ k * (D * double_unit ^ length cs) → Table D (c ∷ cs)
unfolding weight
table_of D k c [] m P K wide h = (stands D P c (room D k (nat_abs c) P K (head_small (nat_abs c) (double_unit ^ 0) (0 * m) k D (double_unit_pow_pos 0) h)), tt)
table_of D k c (d ∷ cs) m P K wide h =
    let n = length cs in
    let w = weight double_unit (d ∷ cs) m in (
      stands D P c (room D k (nat_abs c) P K (head_small (nat_abs c) (double_unit ^ suc n) (w * m) k D (double_unit_pow_pos (suc n)) h)),
      table_of D k d cs m P K wide (tail_light (nat_abs c * double_unit ^ suc n) w m double_unit (double_unit ^ n) k D double_unit_pos wide (subst (λ (x : ℕ). nat_abs c * double_unit ^ suc n + w * m ≤ k * (D * x)) (pow-succ' double_unit n) h)),
    )

-- ---- the bound, at numbers: n steps, D the denominator, v and t the n-th and the next power of a unit
floors_small : (f n m t : ℕ) → f ≤ suc n * m → 2 ^ 52 * m ≤ t → n ≤ 9 → 2 ^ 52 * f ≤ 10 * t
floors_small f n m t a b c =
    le_trans (mul-le-mul_left (2 ^ 52) a) (le_trans (le_of_eq (mul_left_comm (2 ^ 52) (suc n) m)) (le_trans (mul-le-mul_left (suc n) b) (mul-le-mul_right t (ten n c))))
  where
    ten : (n : ℕ) → n ≤ 9 → suc n ≤ 10
    ten n h = omega arith

-- the doubles weigh at most k + 1
weigh_more : (y v g e w : ℕ) → 2 ^ 53 * y ≤ 2 ^ 53 * v + (v + g) → v ≤ w → g ≤ 10 * e → 2 ^ 53 * y ≤ 2 ^ 53 * w + (w + 10 * e)
weigh_more y v g e w a b c = le_trans a (add-le-add (mul-le-mul_left (2 ^ 53) b) (add-le-add b c))

weigh_end : (w e : ℕ) → w ≤ 2 ^ 52 * e → 2 ^ 53 * w + (w + 10 * e) ≤ 2 ^ 53 * (w + e)
weigh_end w e h = omega arith

product_up : (k d t : ℕ) → k * (d * t) + d * t ≡ (k + 1) * t * d
product_up k d t = omega arith

ten_turned : (d t : ℕ) → 10 * t * d ≡ 10 * (d * t)
ten_turned d t = omega arith

doubles_weigh : (x w d u f t k : ℕ) → 0 < d → k < 2 ^ 52 → 2 ^ 53 * (x * d) ≤ 2 ^ 53 * (w * u) + (w * u + 2 ^ 52 * d * f) → w * u ≤ k * (d * t) → 2 ^ 52 * f ≤ 10 * t → x ≤ (k + 1) * t
doubles_weigh x w d u f t k P K h a b =
    let g : 2 ^ 52 * d * f ≤ 10 * (d * t) = le_trans (le_of_eq (mul_right_comm (2 ^ 52) d f)) (le_trans (mul-le-mul_right d b) (le_of_eq (ten_turned d t))) in
    let i : 2 ^ 53 * (x * d) ≤ 2 ^ 53 * (k * (d * t) + d * t) = le_trans (weigh_more (x * d) (w * u) (2 ^ 52 * d * f) (d * t) (k * (d * t)) h a g) (weigh_end (k * (d * t)) (d * t) (mul-le-mul_right (d * t) (le_of_lt K))) in
    le_of_mul-le-mul_right (le_trans (le_of_mul-le-mul_left {k = 2 ^ 53} i (pow_pos 53)) (le_of_eq (product_up k d t))) P

scale_up : (k d u v t : ℕ) → t ≡ u * v → k * (d * v) * u ≡ k * (d * t)
scale_up k d u v t e = subst (λ (x : ℕ). k * (d * v) * u ≡ k * (d * x)) (sym e) (go k d u v)
  where
    go : (k d u v : ℕ) → k * (d * v) * u ≡ k * (d * (u * v))
    go k d u v = omega arith

heft_small : (w x y t k : ℕ) → w ≤ (k + 1) * t → x ≡ y → y ≤ t → w + x ≤ (k + 2) * t
heft_small w x y t k a b c = omega arith

fits : (k : ℕ) → k < 2 ^ 52 → 4 * ((k + 2) * double_unit) ≤ limit
unfolding double_unit limit
fits k h = le_trans (mul-le-mul_left 4 (mul-le-mul_right (2 ^ 1074) (below k h))) (lit≤ tt)
  where
    below : (k : ℕ) → k < 2 ^ 52 → k + 2 ≤ 2 ^ 53
    below k h = omega arith

-- the two errors together
together : (n8 h w d f t k : ℕ) → h ≤ (k + 2) * t → w ≤ k * (d * t) → 2 ^ 52 * f ≤ 10 * t → n8 * h * d + (w + 2 ^ 52 * d * f) ≤ (n8 * (k + 2) + (k + 10)) * (d * t)
together n8 h w d f t k a b c =
    let x : n8 * h * d ≤ n8 * ((k + 2) * t) * d = mul-le-mul_right d (mul-le-mul_left n8 a) in
    let y : 2 ^ 52 * d * f ≤ 10 * (d * t) = le_trans (le_of_eq (mul_right_comm (2 ^ 52) d f)) (le_trans (mul-le-mul_right d c) (le_of_eq (ten_turned d t))) in
    le_trans (add-le-add x (add-le-add b y)) (le_of_eq (go n8 d t k))
  where
    go : (n d t k : ℕ) → n * ((k + 2) * t) * d + (k * (d * t) + 10 * (d * t)) ≡ (n * (k + 2) + (k + 10)) * (d * t)
    go n d t k = omega arith

-- ---- the bound, in parts in 2 ^ 53 of the weight k: 8 for each coefficient after the first, and one for the doubles' own rounding
pub record Parted (D : ℕ) (c : ℤ) (cs : List ℤ) (z answer : Pair) (k : ℕ) : Type 0 where
  pub numbers : Numbers answer
  pub close : Close (values answer ⊙ (D * double_unit ^ length cs)) (at double_unit (c ∷ cs) (values z) ⊙ double_unit) ((length cs * 8 * (k + 2) + (k + 10)) * (D * double_unit ^ suc (length cs)))

pub polynomial_near : (D : ℕ) (c : ℤ) (cs : List ℤ) (z : Pair) (m k : ℕ) → k < 2 ^ 52 → Light D c cs m k → Inside z m → Parted D c cs z (horner (doubles D (c ∷ cs)) z) k
unfolding doubles table_values
polynomial_near D c cs z m k K light inside =
    let n = length cs in
    let t = double_unit ^ suc n in
    let d = nearest_double D c in
    let ds = doubles D cs in
    let vs = table_values ds in
    let W = weight double_unit (c ∷ cs) m in
    let F = floors double_unit m (suc n) in
    let under : 2 ^ 52 * m ^ n ≤ t = no_underflow m n light.few light.not_huge in
    let F_small : 2 ^ 52 * F ≤ 10 * t = floors_small F n (m ^ n) t (floors_le double_unit m n light.one) under light.few in
    let table = table_of D k c cs m light.over K light.one light.weighs in
    let W_small : W * double_unit ≤ k * (D * t) = le_trans (mul-le-mul_right double_unit light.weighs) (le_of_eq (scale_up k D double_unit (double_unit ^ n) t (pow-succ' double_unit n))) in
    let v_small : weight double_unit (value d ∷ vs) m ≤ (k + 1) * t = doubles_weigh (weight double_unit (value d ∷ vs) m) W D double_unit F t k light.over K (table_weight D (c ∷ cs) m table) W_small F_small in
    let same : length vs ≡ n = length_doubles D cs in
    let H : heft (value d) vs m ≤ (k + 2) * t = heft_small (weight double_unit (value d ∷ vs) m) (2 ^ 52 * m ^ length vs) (2 ^ 52 * m ^ n) t k v_small (ap (λ (i : ℕ). 2 ^ 52 * m ^ i) same) under in
    let g = horner_near d ds z m ((k + 2) * double_unit) (fine D (c ∷ cs) table) inside.numbers inside.modulus light.one (le_trans (le_of_eq same) (le_trans light.few (lit≤ tt))) (fits k K)
    (le_trans H (le_of_eq (ap (λ (i : ℕ). (k + 2) * i) (pow-succ' double_unit n ∙ ap (λ (i : ℕ). double_unit * double_unit ^ i) (sym same)) ∙ sym (mul_assoc (k + 2) double_unit (double_unit ^ length vs))))) in
    let one = close_times D g.near in
    let two = table_close D (c ∷ cs) (values z) m inside.modulus table in
    record {
      numbers = g.numbers;
      close = close_more ((n * 8 * (k + 2) + (k + 10)) * (D * t)) (le_trans (le_of_eq (ap (λ (i : ℕ). i * 8 * heft (value d) vs m * D + (W * double_unit + 2 ^ 52 * D * F)) same)) (together (n * 8) (heft (value d) vs m) (W * double_unit) D F t k H W_small F_small))
          (subst (λ (x : scaled.Pair). Close x (at double_unit (c ∷ cs) (values z) ⊙ double_unit) (length vs * 8 * heft (value d) vs m * D + (W * double_unit + 2 ^ 52 * D * F))) (same_pair (turn (value (horner (doubles D (c ∷ cs)) z).re) (double_unit ^ length vs) (double_unit ^ n) (ap (λ (i : ℕ). double_unit ^ i) same)) (turn (value (horner (doubles D (c ∷ cs)) z).im) (double_unit ^ length vs) (double_unit ^ n) (ap (λ (i : ℕ). double_unit ^ i) same)))
          (close_trans one two));
    }
  where
    turn : (a : ℤ) (p q : ℕ) → p ≡ q → a *ℤ pos p *ℤ pos D ≡ a *ℤ pos (D * q)
    turn a p q e = law a (pos p) (pos D) ∙ ap (λ (i : ℕ). a *ℤ pos (D * i)) e
      where
        law : (a p d : ℤ) → a *ℤ p *ℤ d ≡ a *ℤ (d *ℤ p)
        law a p d = ring (a ∷ p ∷ d ∷ []) λ ρ ea ep ed. simp (Z·ring, ea, ep, ed) (by_ring _ _ _ refl)
