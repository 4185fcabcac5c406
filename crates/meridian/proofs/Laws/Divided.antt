-- Models of quotients and roots: whatever polynomial is taken, what it leaves bounds how far it is off. Assumes nothing.
use Rattle.std.specs.Prelude.{◌≡◌, refl, List, [], ◌∷◌, ℕ, zero, suc, ◌+◌, ◌*◌, ◌-◌, ◌/◌, ◌%◌, ◌<◌, ◌≤◌, T, ltb, ℤ, pos, negsuc, neg_ℤ, nat_abs, ◌+ℤ◌, ◌-ℤ◌, ◌*ℤ◌, ◌≤ℤ◌}
use Rattle.std.proofs.Common.{sym, ◌∙◌, ap, ap₂, subst, le_trans, le_refl, le_of_eq, div-add-mod', mod-lt, mul-le-mul, mul-le-mul_right, arith, ltb→lt, leb→le}
use Rattle.std.proofs.Math.Decide.{dec_le}
use Rattle.std.proofs.Math.IntN.{*ℤ_comm}
use Rattle.arith.specs.Laws.Diff.{◌⊖◌, Z·ℕ, lin}
use Rattle.arith.specs.Laws.Order.{abs_mul, nn_num, ≤ℤ_trans, mul_nonneg_nonpos}
use Rattle.arith.specs.Laws.Ring.{ring, Z·ring, by_ring}
use Rattle.arith.specs.Within.{Within}
use Rattle.arith.specs.Laws.Within.{by_abs, w_num, w_add, w_sub, w_neg, w_mul}
use Rattle.rules.specs.Scaled.{unit, root, sqrt, quotient}
use Rattle.rules.proofs.Laws.Root.{root_is}
use Rattle.fixed.proofs.Laws.Bounds.{w_same, w_up, w_rest}
use Rattle.fixed.proofs.Laws.Quotients.{ratio_div}
use Rattle.fixed_bands.specs.Worked.{width}
use Rattle.fixed_bands.specs.Polynomials.{at, reach, multiple, times, minus}
use Rattle.fixed_bands.proofs.Laws.Polynomials.{at_reach, at_multiple, at_times, at_minus}
use Rattle.fixed_bands.specs.Models.{Model, fine, Follows}
use Rattle.fixed_bands.proofs.Laws.Rows.{first_of, second_of}
use Rattle.meridian.specs.Models.{least, room, positive, divided, quotient_line, quotient_model, root_model, rooted}

-- ---- z·k is at most A, but for C times k, and k is at least l: z is at most A / l + C
pub shared : (z k : ℤ) (A C l : ℕ) → nat_abs (z *ℤ k) ≤ A + C * nat_abs k → l ≤ nat_abs k → 0 < l → Within z (A / l + C)
shared z k A C l h g p = by_abs z (go (nat_abs z) (nat_abs k) (A / l) (A % l) (div-add-mod' A l) (mod-lt A p) (le_trans (le_of_eq (sym (abs_mul z k))) h) g)
  where
    go : (x y q r : ℕ) → q * l + r ≡ A → r < l → x * y ≤ A + C * y → l ≤ y → x ≤ q + C
    go x y q r e k h g = by (dec_le x (q + C))
      where
        by : Dec (x ≤ q + C) → x ≤ q + C
        by (yes a) = a
        by (no a) = absurd (clash (mul-le-mul_right y (more a)) (mul-le-mul (le_refl (q + 1)) g))
          where
            more : ¬ (x ≤ q + C) → q + C + 1 ≤ x
            more a = omega arith

            clash : (q + C + 1) * y ≤ x * y → (q + 1) * l ≤ (q + 1) * y → ⊥
            clash a b = omega arith

-- ---- how large a polynomial is at the least
pub at_least : (p : List ℤ) (h : ℕ) → h ≤ width → 0 < least p → pos (least p) ≤ℤ at p (pos h)
unfolding least at
at_least [] h l k = nn_num 0
at_least (pos c ∷ cs) h l k = go (pos h *ℤ at cs (pos h)) c (width * reach width cs) (w_mul (w_up width l (w_num h)) (at_reach cs h width l)).within k
  where
    go : (y : ℤ) (c r : ℕ) → nat_abs y ≤ r → 0 < c - r → pos (c - r) ≤ℤ (pos c +ℤ y)
    go y c r = lin (y ∷ []) λ u v ey. simp (Z·ℕ, ey) (omega arith)
at_least (negsuc c ∷ cs) h l k = absurd (none k)
  where
    none : 0 < 0 → ⊥
    none k = omega arith

pub has_room : {h : ℕ} {b : ℤ} (m : Model) → h ≤ width → T (positive m) → Follows h b m → pos (room m) ≤ℤ (b *ℤ pos fine)
unfolding room positive
has_room {h} {b} m l t f = go (b *ℤ pos fine) (at m.line (pos h)) (least m.line) m.error f.gap.within (at_least m.line h l (above (least m.line) m.error (ltb→lt 0 _ t))) (ltb→lt 0 _ t)
  where
    above : (a e : ℕ) → 0 < a - e → 0 < a
    above a e k = omega arith

    go : (x y : ℤ) (a e : ℕ) → nat_abs (x -ℤ y) ≤ e → pos a ≤ℤ y → 0 < a - e → pos (a - e) ≤ℤ x
    go x y a e = lin (x ∷ y ∷ []) λ u v ex ey. simp (Z·ℕ, ex, ey) (omega arith)

size_of : (x : ℤ) (n : ℕ) → pos n ≤ℤ x → n ≤ nat_abs x
size_of x n = lin (x ∷ []) λ u v ex. simp (Z·ℕ, ex) (omega arith)

positive_of : (b : ℤ) {n : ℕ} → 0 < n → pos n ≤ℤ (b *ℤ pos fine) → 0 < nat_abs b
positive_of b {n} p h = go (nat_abs b) fine (le_trans (size_of (b *ℤ pos fine) n h) (le_of_eq (abs_mul b (pos fine)))) p
  where
    go : {n : ℕ} (x f : ℕ) → n ≤ x * f → 0 < n → 0 < x
    go zero f h p = absurd (none h p)
      where
        none : {n : ℕ} → n ≤ 0 * f → 0 < n → ⊥
        none h p = omega arith
    go (suc x) f h p = some x
      where
        some : (x : ℕ) → 0 < suc x
        some x = omega arith

-- ---- a quotient
quotient_id : (q b a U F x y z : ℤ)
    → F *ℤ F *ℤ (q *ℤ b -ℤ a *ℤ U) +ℤ (U *ℤ F *ℤ (a *ℤ F -ℤ x) -ℤ z *ℤ (b *ℤ F -ℤ y) +ℤ (U *ℤ F *ℤ x -ℤ z *ℤ y)) ≡ (q *ℤ F -ℤ z) *ℤ (b *ℤ F)
quotient_id q b a U F x y z = ring (q ∷ b ∷ a ∷ U ∷ F ∷ x ∷ y ∷ z ∷ []) λ ρ e1 e2 e3 e4 e5 e6 e7 e8. simp (Z·ring, e1, e2, e3, e4, e5, e6, e7, e8) (by_ring _ _ _ refl)

-- what the polynomial r leaves of p / q, at h
leaves : (p q r : List ℤ) (s h : ℕ) → h ≤ width → Within (pos s *ℤ at p (pos h) -ℤ at r (pos h) *ℤ at q (pos h)) (reach width (minus (multiple (pos s) p) (times r q)))
leaves p q r s h l =
    w_same _ (at_minus (multiple (pos s) p) (times r q) (pos h) ∙ ap₂ ◌-ℤ◌ (at_multiple (pos s) p (pos h)) (at_times r q (pos h))) (at_reach (minus (multiple (pos s) p) (times r q)) h width l)

-- F²·|b| is F times the size of b·F
turned_over : (b : ℤ) (F A : ℕ) → F * F * (1 * nat_abs b) + A ≤ A + F * nat_abs (b *ℤ pos F)
turned_over b F A = le_trans (go (nat_abs b)) (le_of_eq (ap (λ n. A + F * n) (sym (abs_mul b (pos F)))))
  where
    go : (x : ℕ) → F * F * (1 * x) + A ≤ A + F * (x * F)
    go x = omega arith

pub follows_quotient : {h : ℕ} {a b : ℤ} (m n : Model) → h ≤ width → T (positive n) → Follows h a m → Follows h b n → Follows h (quotient a b) (quotient_model m n)
unfolding quotient_model quotient_line positive
follows_quotient {h} {a} {b} m n l t f g =
    let p = m.line in
    let q = n.line in
    let u = multiple (pos (unit * fine)) p in
    let r = divided 8 u q in
    let k = ltb→lt 0 (room n) t in
    let low = has_room n l t g in
    record {
      gap =
          shared (quotient a b *ℤ pos fine -ℤ at r (pos h)) (b *ℤ pos fine) _ fine (room n)
          (le_trans
          (w_same _ (quotient_id (quotient a b) b a (pos unit) (pos fine) (at p (pos h)) (at q (pos h)) (at r (pos h)))
          (w_add (w_mul (w_num (fine * fine)) (ratio_div a b (positive_of b k low)).gap)
          (w_add (w_sub (w_mul (w_num (unit * fine)) f.gap) (w_mul (at_reach r h width l) g.gap)) (leaves p q r (unit * fine) h l)))).within
          (turned_over b fine (unit * fine * m.error + reach width r * n.error + reach width (minus u (times r q)))))
          (size_of (b *ℤ pos fine) (room n) low) k;
    }

-- ---- a root
root_id : (s x U F y z : ℤ) → F *ℤ F *ℤ (s *ℤ s -ℤ x *ℤ U) +ℤ (U *ℤ F *ℤ (x *ℤ F -ℤ y) +ℤ (U *ℤ F *ℤ y -ℤ z *ℤ z)) ≡ (s *ℤ F -ℤ z) *ℤ (s *ℤ F +ℤ z)
root_id s x U F y z = ring (s ∷ x ∷ U ∷ F ∷ y ∷ z ∷ []) λ ρ e1 e2 e3 e4 e5 e6. simp (Z·ring, e1, e2, e3, e4, e5, e6) (by_ring _ _ _ refl)

-- the square of a root of x lies within twice the root of x·10^24
root_rest : (n : ℕ) → Within (pos (root (n * unit)) *ℤ pos (root (n * unit)) -ℤ pos n *ℤ pos unit) (2 * root (n * unit))
root_rest n = w_same _ (back (pos (n * unit)) (pos r *ℤ pos r)) (w_neg (w_rest (n * unit) (r * r) (2 * r) (root_is (n * unit)).not_above (go (n * unit) (root_is (n * unit)).next_above)))
  where
    r : ℕ
    r = root (n * unit)

    go : (x : ℕ) → x < (r + 1) * (r + 1) → x ≤ r * r + 2 * r
    go x h = omega arith

    back : (x y : ℤ) → neg_ℤ (x -ℤ y) ≡ y -ℤ x
    back x y = ring (x ∷ y ∷ []) λ ρ e1 e2. simp (Z·ring, e1, e2) (by_ring _ _ _ refl)

module _ (s : ℕ) (z : ℤ) (F A l : ℕ) (h : pos l ≤ℤ z) where
  grown : s * F ≤ nat_abs (pos (s * F) +ℤ z)
  grown = go (s * F) z h
    where
      go : (x : ℕ) (z : ℤ) → pos l ≤ℤ z → x ≤ nat_abs (pos x +ℤ z)
      go x z = lin (z ∷ []) λ u v ez. simp (Z·ℕ, ez) (omega arith)

  root_low : l ≤ nat_abs (pos s *ℤ pos F +ℤ z)
  root_low = go (s * F) z h
    where
      go : (x : ℕ) (z : ℤ) → pos l ≤ℤ z → l ≤ nat_abs (pos x +ℤ z)
      go x z = lin (z ∷ []) λ u v ez. simp (Z·ℕ, ez) (omega arith)

  -- F²·2s is at most 2·F times the root's sum with its polynomial
  root_over : F * F * (2 * s) + A ≤ A + 2 * F * nat_abs (pos s *ℤ pos F +ℤ z)
  root_over = go (nat_abs (pos s *ℤ pos F +ℤ z)) (mul-le-mul (le_refl (2 * F)) grown)
    where
      go : (y : ℕ) → 2 * F * (s * F) ≤ 2 * F * y → F * F * (2 * s) + A ≤ A + 2 * F * y
      go y h = omega arith

not_below : (n k : ℕ) → 0 < k → pos k ≤ℤ (negsuc n *ℤ pos fine) → ⊥
not_below n k p h = go k p (leb→le k 0 (≤ℤ_trans h (subst (λ x. x ≤ℤ pos 0) (*ℤ_comm (pos fine) (negsuc n)) (mul_nonneg_nonpos {a = pos fine} {b = negsuc n} (nn_num fine) (record { le = tt })))).le)
  where
    go : (k : ℕ) → 0 < k → k ≤ 0 → ⊥
    go k p h = omega arith

by_sign : {h : ℕ} (x : ℤ) (r : List ℤ) (m : Model) → h ≤ width → T (positive m) → T (ltb 0 (least r)) → Follows h x m → Follows h (sqrt x) (root_model r m)
unfolding sqrt root_model positive
by_sign {h} (negsuc n) r m l t u f = absurd (not_below n (room m) (ltb→lt 0 (room m) t) (has_room m l t f))
by_sign {h} (pos n) r m l t u f =
    let s = root (n * unit) in
    let y = at m.line (pos h) in
    let z = at r (pos h) in
    let low = at_least r h l (ltb→lt 0 (least r) u) in
    record {
      gap =
          shared (pos s *ℤ pos fine -ℤ z) (pos s *ℤ pos fine +ℤ z) _ (2 * fine) (least r)
          (le_trans
          (w_same _ (root_id (pos s) (pos n) (pos unit) (pos fine) y z)
          (w_add (w_mul (w_num (fine * fine)) (root_rest n)) (w_add (w_mul (w_num (unit * fine)) f.gap) (leaves m.line r r (unit * fine) h l)))).within
          (root_over s z fine (unit * fine * m.error + reach width (minus (multiple (pos (unit * fine)) m.line) (times r r))) (least r) low))
          (root_low s z fine 0 (least r) low) (ltb→lt 0 (least r) u);
    }

pub follows_root : {h : ℕ} {x : ℤ} (r : List ℤ) (m : Model) → h ≤ width → T (rooted r m) → Follows h x m → Follows h (sqrt x) (root_model r m)
unfolding rooted
follows_root {h} {x} r m l t f = by_sign x r m l (first_of _ _ t) (second_of _ _ t) f
