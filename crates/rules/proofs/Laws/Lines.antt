-- An edge a-b and a line p-q that share no point. Assumes nothing.
--
-- With d = b - a, r = p - a, s = q - a as vectors from a:
--   A = side p q a,  P = side a b p,  Q = side a b q,  side p q b = A + P - Q,   and A d + P s = Q r in X and in Y.
-- Where -A, A + P - Q, P and -Q are none of them negative and P - Q is positive, the two share a point: m = P - Q, i = -A, j = P.
-- Where the two lie over one another in X, two of those signs give the other two; all four may be turned round.
use Rattle.std.specs.Prelude.{◌≡◌, refl, Bool, true, false, not, List, [], ◌∷◌, ℕ, ◌+◌, ◌*◌, ◌-◌, ◌<◌, ◌≤◌, T, ℤ, pos, ◌+ℤ◌, ◌-ℤ◌, ◌*ℤ◌, neg_ℤ, ◌≤ℤ◌, ◌<ℤ◌}
use Rattle.std.proofs.Common.{sym, ◌∙◌, ap, ap₂, arith}
use Rattle.std.proofs.Math.IntN.{+ℤ_comm}
use Rattle.std.specs.Int.Signed.{lt_z, lt_z_no, lt_z_yes}
use Rattle.arith.specs.Laws.Diff.{◌⊖◌, Z·ℕ, lin}
use Rattle.arith.specs.Laws.Ring.{ring, Z·ring, by_ring}
use Rattle.rules.proofs.Laws.Signs.{≥0, >0, Nat, nat, Minus, minus, as_nat, as_minus, quotient, quotient⁺}
use Rattle.rules.specs.Rings.{Corner, D, Share}

-- ---- numbers: what A d + P s = Q r says about each of the four points
abbrev Forms : ℤ → ℤ → ℤ → ℤ → ℤ → ℤ → Type 0
Forms A P Q d r s =
    (neg_ℤ A *ℤ d ≡ neg_ℤ Q *ℤ r +ℤ P *ℤ s)
    × ((A +ℤ P -ℤ Q) *ℤ d ≡ neg_ℤ Q *ℤ (d -ℤ r) +ℤ P *ℤ (d -ℤ s))
    × (neg_ℤ A *ℤ (d -ℤ r) ≡ P *ℤ (s -ℤ r) +ℤ (A +ℤ P -ℤ Q) *ℤ r)
    × (neg_ℤ Q *ℤ (d -ℤ r) ≡ P *ℤ (s -ℤ d) +ℤ (A +ℤ P -ℤ Q) *ℤ d)
    × (neg_ℤ P *ℤ s ≡ A *ℤ d +ℤ Q *ℤ neg_ℤ r)
    × (neg_ℤ (A +ℤ P -ℤ Q) *ℤ s ≡ A *ℤ (d -ℤ s) +ℤ Q *ℤ (s -ℤ r))
    × (neg_ℤ Q *ℤ (s -ℤ r) ≡ neg_ℤ A *ℤ (s -ℤ d) +ℤ (A +ℤ P -ℤ Q) *ℤ s)
    × (P *ℤ (s -ℤ r) ≡ neg_ℤ A *ℤ (d -ℤ r) +ℤ (A +ℤ P -ℤ Q) *ℤ neg_ℤ r)

forms : (A P Q d r s : ℤ) → A *ℤ d +ℤ P *ℤ s ≡ Q *ℤ r → Forms A P Q d r s
forms A P Q d r s = lin (A ∷ P ∷ Q ∷ d ∷ r ∷ s ∷ []) λ u v e_a e_p e_q ed er es. simp (Z·ℕ, e_a, e_p, e_q, ed, er, es) (omega arith)

abbrev pub Opposite : ℤ → ℤ → ℤ → Type 0
Opposite A P Q = ≥0 (neg_ℤ A) × ≥0 (A +ℤ P -ℤ Q) × ≥0 P × ≥0 (neg_ℤ Q) × >0 (P -ℤ Q)

-- how the four numbers lie, about a: what each case below asks for
order_3 : (a b p q : ℤ) → a ≤ℤ p → p ≤ℤ q → q <ℤ b
    → >0 (b -ℤ a) × ≥0 (p -ℤ a) × ≥0 (q -ℤ a) × ≥0 ((b -ℤ a) -ℤ (p -ℤ a)) × ≥0 ((b -ℤ a) -ℤ (q -ℤ a))
order_3 a b p q = lin (a ∷ b ∷ p ∷ q ∷ []) λ u v ea eb ep eq. simp (Z·ℕ, ea, eb, ep, eq) (omega arith)

order_4 : (a b p q : ℤ) → a ≤ℤ p → p <ℤ b → b ≤ℤ q
    → >0 ((b -ℤ a) -ℤ (p -ℤ a)) × ≥0 ((q -ℤ a) -ℤ (p -ℤ a)) × ≥0 (p -ℤ a) × ≥0 ((q -ℤ a) -ℤ (b -ℤ a)) × ≥0 (b -ℤ a)
order_4 a b p q = lin (a ∷ b ∷ p ∷ q ∷ []) λ u v ea eb ep eq. simp (Z·ℕ, ea, eb, ep, eq) (omega arith)

order_5 : (a b p q : ℤ) → p <ℤ a → a ≤ℤ q → q <ℤ b
    → ≥0 (q -ℤ a) × >0 (b -ℤ a) × >0 (neg_ℤ (p -ℤ a)) × >0 ((b -ℤ a) -ℤ (q -ℤ a)) × >0 ((q -ℤ a) -ℤ (p -ℤ a))
order_5 a b p q = lin (a ∷ b ∷ p ∷ q ∷ []) λ u v ea eb ep eq. simp (Z·ℕ, ea, eb, ep, eq) (omega arith)

order_6 : (a b p q : ℤ) → p <ℤ a → a ≤ℤ b → b ≤ℤ q
    → >0 ((q -ℤ a) -ℤ (p -ℤ a)) × ≥0 ((q -ℤ a) -ℤ (b -ℤ a)) × ≥0 (q -ℤ a) × ≥0 ((b -ℤ a) -ℤ (p -ℤ a)) × ≥0 (neg_ℤ (p -ℤ a))
order_6 a b p q = lin (a ∷ b ∷ p ∷ q ∷ []) λ u v ea eb ep eq. simp (Z·ℕ, ea, eb, ep, eq) (omega arith)

more_4 : (A P Q : ℤ) → ≥0 P → ≥0 (A +ℤ P -ℤ Q) → >0 (P +ℤ (A +ℤ P -ℤ Q)) → ≥0 (neg_ℤ A) → ≥0 (neg_ℤ Q) → Opposite A P Q
more_4 A P Q = lin (A ∷ P ∷ Q ∷ []) λ u v e_a e_p e_q. simp (Z·ℕ, e_a, e_p, e_q) (omega arith)

more_5 : (A P Q : ℤ) → ≥0 A → ≥0 Q → >0 (A +ℤ Q) → ≥0 (neg_ℤ P) → ≥0 (neg_ℤ (A +ℤ P -ℤ Q)) → Opposite (neg_ℤ A) (neg_ℤ P) (neg_ℤ Q)
more_5 A P Q = lin (A ∷ P ∷ Q ∷ []) λ u v e_a e_p e_q. simp (Z·ℕ, e_a, e_p, e_q) (omega arith)

more_6 : (A P Q : ℤ) → ≥0 (neg_ℤ A) → ≥0 (A +ℤ P -ℤ Q) → >0 ((A +ℤ P -ℤ Q) -ℤ A) → ≥0 P → ≥0 (neg_ℤ Q) → Opposite A P Q
more_6 A P Q = lin (A ∷ P ∷ Q ∷ []) λ u v e_a e_p e_q. simp (Z·ℕ, e_a, e_p, e_q) (omega arith)

-- the four ways in which the two can lie over one another, from left to right
module _ (a b p q A P Q : ℤ) (z : A *ℤ (b -ℤ a) +ℤ P *ℤ (q -ℤ a) ≡ Q *ℤ (p -ℤ a)) where
  f : Forms A P Q (b -ℤ a) (p -ℤ a) (q -ℤ a)
  f = forms A P Q (b -ℤ a) (p -ℤ a) (q -ℤ a) z

  -- a p q b
  case_3 : a ≤ℤ p → p ≤ℤ q → q <ℤ b → ≥0 P → ≥0 (neg_ℤ Q) → >0 (P -ℤ Q) → Opposite A P Q
  case_3 h k l np nq more =
      let (d, r, s, dr, ds) = order_3 a b p q h k l in
      (quotient (neg_ℤ A) d nq r np s f.0, quotient (A +ℤ P -ℤ Q) d nq dr np ds f.1, np, nq, more)

  -- a p b q
  case_4 : a ≤ℤ p → p <ℤ b → b ≤ℤ q → ≥0 P → ≥0 (A +ℤ P -ℤ Q) → >0 (P +ℤ (A +ℤ P -ℤ Q)) → Opposite A P Q
  case_4 h k l np nb more =
      let (dr, sr, r, sd, d) = order_4 a b p q h k l in
      more_4 A P Q np nb more (quotient (neg_ℤ A) dr np sr nb r f.2) (quotient (neg_ℤ Q) dr np sd nb d f.3)

  -- p a q b
  case_5 : p <ℤ a → a ≤ℤ q → q <ℤ b → ≥0 A → ≥0 Q → >0 (A +ℤ Q) → Opposite (neg_ℤ A) (neg_ℤ P) (neg_ℤ Q)
  case_5 h k l na nq more =
      let (s, d, r, ds, sr) = order_5 a b p q h k l in
      more_5 A P Q na nq more (quotient⁺ (neg_ℤ P) s na d nq r more f.4) (quotient⁺ (neg_ℤ (A +ℤ P -ℤ Q)) s na ds nq sr more f.5)

  -- p a b q
  case_6 : p <ℤ a → a ≤ℤ b → b ≤ℤ q → ≥0 (neg_ℤ A) → ≥0 (A +ℤ P -ℤ Q) → >0 ((A +ℤ P -ℤ Q) -ℤ A) → Opposite A P Q
  case_6 h k l na nb more =
      let (sr, sd, s, dr, r) = order_6 a b p q h k l in
      more_6 A P Q na nb more (quotient P sr na dr nb r f.7) (quotient (neg_ℤ Q) sr na sd nb s f.6)

-- ---- corners: the numbers of an edge a-b and a line p-q, and the same with all signs changed
pub record Net (a b p q : Corner) (A P Q : ℤ) : Type 0 where
  pub in_x : A *ℤ (b.x -ℤ a.x) +ℤ P *ℤ (q.x -ℤ a.x) ≡ Q *ℤ (p.x -ℤ a.x)
  pub in_y : A *ℤ (b.y -ℤ a.y) +ℤ P *ℤ (q.y -ℤ a.y) ≡ Q *ℤ (p.y -ℤ a.y)

turned : (A P Q d r s : ℤ) → A *ℤ d +ℤ P *ℤ s ≡ Q *ℤ r → neg_ℤ A *ℤ d +ℤ neg_ℤ P *ℤ s ≡ neg_ℤ Q *ℤ r
turned A P Q d r s = lin (A ∷ P ∷ Q ∷ d ∷ r ∷ s ∷ []) λ u v e_a e_p e_q ed er es. simp (Z·ℕ, e_a, e_p, e_q, ed, er, es) (omega arith)

pub net_neg : {a b p q : Corner} {A P Q : ℤ} → Net a b p q A P Q → Net a b p q (neg_ℤ A) (neg_ℤ P) (neg_ℤ Q)
net_neg {A = A} {P = P} {Q = Q} t = record { in_x = turned A P Q _ _ _ t.in_x; in_y = turned A P Q _ _ _ t.in_y }

-- the line's test of a, in vectors from a; and the two identities of three vectors in the plane, (r × s) d + (d × r) s = (d × s) r
pub from_a : (ax ay px py qx qy : ℤ)
    → (qx -ℤ px) *ℤ (ay -ℤ py) -ℤ (ax -ℤ px) *ℤ (qy -ℤ py) ≡ (px -ℤ ax) *ℤ (qy -ℤ ay) -ℤ (qx -ℤ ax) *ℤ (py -ℤ ay)
from_a ax ay px py qx qy =
    ring (ax ∷ ay ∷ px ∷ py ∷ qx ∷ qy ∷ []) λ ρ e1 e2 e3 e4 e5 e6. simp (Z·ring, e1, e2, e3, e4, e5, e6) (by_ring _ _ _ refl)

plane_x : (dx dy rx ry sx sy : ℤ)
    → (rx *ℤ sy -ℤ sx *ℤ ry) *ℤ dx +ℤ (dx *ℤ ry -ℤ rx *ℤ dy) *ℤ sx ≡ (dx *ℤ sy -ℤ sx *ℤ dy) *ℤ rx
plane_x dx dy rx ry sx sy =
    ring (dx ∷ dy ∷ rx ∷ ry ∷ sx ∷ sy ∷ []) λ ρ e1 e2 e3 e4 e5 e6. simp (Z·ring, e1, e2, e3, e4, e5, e6) (by_ring _ _ _ refl)

plane_y : (dx dy rx ry sx sy : ℤ)
    → (rx *ℤ sy -ℤ sx *ℤ ry) *ℤ dy +ℤ (dx *ℤ ry -ℤ rx *ℤ dy) *ℤ sy ≡ (dx *ℤ sy -ℤ sx *ℤ dy) *ℤ ry
plane_y dx dy rx ry sx sy =
    ring (dx ∷ dy ∷ rx ∷ ry ∷ sx ∷ sy ∷ []) λ ρ e1 e2 e3 e4 e5 e6. simp (Z·ring, e1, e2, e3, e4, e5, e6) (by_ring _ _ _ refl)

pub net : (a b p q : Corner) → Net a b p q (D p q a) (D a b p) (D a b q)
unfolding D
net a b p q = record {
  in_x = ap (λ z. z *ℤ (b.x -ℤ a.x) +ℤ D a b p *ℤ (q.x -ℤ a.x)) (from_a a.x a.y p.x p.y q.x q.y)
      ∙ plane_x (b.x -ℤ a.x) (b.y -ℤ a.y) (p.x -ℤ a.x) (p.y -ℤ a.y) (q.x -ℤ a.x) (q.y -ℤ a.y);
  in_y = ap (λ z. z *ℤ (b.y -ℤ a.y) +ℤ D a b p *ℤ (q.y -ℤ a.y)) (from_a a.x a.y p.x p.y q.x q.y)
      ∙ plane_y (b.x -ℤ a.x) (b.y -ℤ a.y) (p.x -ℤ a.x) (p.y -ℤ a.y) (q.x -ℤ a.x) (q.y -ℤ a.y);
}

from_b : (ax ay bx by px py qx qy : ℤ)
    → (qx -ℤ px) *ℤ (by -ℤ py) -ℤ (bx -ℤ px) *ℤ (qy -ℤ py)
    ≡ ((qx -ℤ px) *ℤ (ay -ℤ py) -ℤ (ax -ℤ px) *ℤ (qy -ℤ py)) +ℤ ((bx -ℤ ax) *ℤ (py -ℤ ay) -ℤ (px -ℤ ax) *ℤ (by -ℤ ay)) -ℤ ((bx -ℤ ax) *ℤ (qy -ℤ ay) -ℤ (qx -ℤ ax) *ℤ (by -ℤ ay))
from_b ax ay bx by px py qx qy =
    ring (ax ∷ ay ∷ bx ∷ by ∷ px ∷ py ∷ qx ∷ qy ∷ []) λ ρ e1 e2 e3 e4 e5 e6 e7 e8. simp (Z·ring, e1, e2, e3, e4, e5, e6, e7, e8) (by_ring _ _ _ refl)

pub side_b : (a b p q : Corner) → D p q b ≡ D p q a +ℤ D a b p -ℤ D a b q
unfolding D
side_b a b p q = from_b a.x a.y b.x b.y p.x p.y q.x q.y

-- ---- the shared point
point : (a b p q : ℤ) (i n j k : ℕ) → n + i ≡ j + k → (0 ⊖ i) *ℤ (b -ℤ a) +ℤ pos j *ℤ (q -ℤ a) ≡ (0 ⊖ k) *ℤ (p -ℤ a)
    → pos n *ℤ a +ℤ pos i *ℤ b ≡ pos k *ℤ p +ℤ pos j *ℤ q
point a b p q i n j k z = lin (a ∷ b ∷ p ∷ q ∷ []) λ u v ea eb ep eq.
    simp (Z·ℕ, ea, eb, ep, eq) (omega (arith, ap (λ t. t * u 0) z, ap (λ t. t * v 0) z))

pub share : {a b p q : Corner} {A P Q : ℤ} → Net a b p q A P Q → Opposite A P Q → Share a b p q
share {a} {b} {p} {q} {A} {P} {Q} t o = go t.in_x t.in_y (as_minus A o.0) (as_nat o.2) (as_minus Q o.3) o.1 o.4
  where
    go : {A P Q : ℤ} → A *ℤ (b.x -ℤ a.x) +ℤ P *ℤ (q.x -ℤ a.x) ≡ Q *ℤ (p.x -ℤ a.x) → A *ℤ (b.y -ℤ a.y) +ℤ P *ℤ (q.y -ℤ a.y) ≡ Q *ℤ (p.y -ℤ a.y)
        → Minus A → Nat P → Minus Q → ≥0 (A +ℤ P -ℤ Q) → >0 (P -ℤ Q) → Share a b p q
    go x y (minus i) (nat j) (minus k) nb more =
        let nb' = simp Z·ℕ at nb in
        let more' = simp Z·ℕ at more in
        let n = (j + k) - i in
        let e : (j + k) - j ≡ k = omega arith in
        record {
          m = j + k;
          i = i;
          j = j;
          some = omega arith;
          i_in = omega arith;
          j_in = omega arith;
          same_x = rw e (point a.x b.x p.x q.x i n j k (omega arith) x);
          same_y = rw e (point a.y b.y p.y q.y i n j k (omega arith) y);
        }

-- either line may be given from its other end
turn_round : {m i : ℕ} (x y : ℤ) → i ≤ m → pos (m - (m - i)) *ℤ x +ℤ pos (m - i) *ℤ y ≡ pos (m - i) *ℤ y +ℤ pos i *ℤ x
turn_round {m} {i} x y h = let e : m - (m - i) ≡ i = omega arith in rw e (+ℤ_comm (pos i *ℤ x) (pos (m - i) *ℤ y))

pub share_ab : {a b p q : Corner} → Share b a p q → Share a b p q
share_ab {a} {b} s = record {
  m = s.m;
  i = s.m - s.i;
  j = s.j;
  some = s.some;
  i_in = omega arith;
  j_in = s.j_in;
  same_x = turn_round a.x b.x s.i_in ∙ s.same_x;
  same_y = turn_round a.y b.y s.i_in ∙ s.same_y;
}

pub share_pq : {a b p q : Corner} → Share a b q p → Share a b p q
share_pq {p = p} {q = q} s = record {
  m = s.m;
  i = s.i;
  j = s.m - s.j;
  some = s.some;
  i_in = s.i_in;
  j_in = omega arith;
  same_x = s.same_x ∙ sym (turn_round p.x q.x s.j_in);
  same_y = s.same_y ∙ sym (turn_round p.y q.y s.j_in);
}

-- ---- two tests that agree, since otherwise there would be a shared point
pub agree : (x y : Bool) → (T x → T (not y) → ⊥) → (T (not x) → T y → ⊥) → x ≡ y
agree true true f g = refl
agree true false f g = absurd (f tt tt)
agree false true f g = absurd (g tt tt)
agree false false f g = refl

-- the signs that the cases ask for, from the tests, and from the tests' other outcome
sign_3 : (P Q : ℤ) → >0 P → Q ≤ℤ pos 0 → ≥0 P × ≥0 (neg_ℤ Q) × >0 (P -ℤ Q)
sign_3 P Q = lin (P ∷ Q ∷ []) λ u v e_p e_q. simp (Z·ℕ, e_p, e_q) (omega arith)

sign_3⁻ : (P Q : ℤ) → P ≤ℤ pos 0 → >0 Q → ≥0 (neg_ℤ P) × ≥0 (neg_ℤ (neg_ℤ Q)) × >0 (neg_ℤ P -ℤ neg_ℤ Q)
sign_3⁻ P Q = lin (P ∷ Q ∷ []) λ u v e_p e_q. simp (Z·ℕ, e_p, e_q) (omega arith)

sign_4 : (P B : ℤ) → >0 P → ≥0 B → ≥0 P × ≥0 B × >0 (P +ℤ B)
sign_4 P B = lin (P ∷ B ∷ []) λ u v e_p e_b. simp (Z·ℕ, e_p, e_b) (omega arith)

sign_4⁻ : (A P Q : ℤ) → P ≤ℤ pos 0 → (A +ℤ P -ℤ Q) <ℤ pos 0
    → ≥0 (neg_ℤ P) × ≥0 (neg_ℤ A +ℤ neg_ℤ P -ℤ neg_ℤ Q) × >0 (neg_ℤ P +ℤ (neg_ℤ A +ℤ neg_ℤ P -ℤ neg_ℤ Q))
sign_4⁻ A P Q = lin (A ∷ P ∷ Q ∷ []) λ u v e_a e_p e_q. simp (Z·ℕ, e_a, e_p, e_q) (omega arith)

sign_5 : (Q A : ℤ) → >0 Q → ≥0 A → ≥0 A × ≥0 Q × >0 (A +ℤ Q)
sign_5 Q A = lin (Q ∷ A ∷ []) λ u v e_q e_a. simp (Z·ℕ, e_q, e_a) (omega arith)

sign_5⁻ : (Q A : ℤ) → Q ≤ℤ pos 0 → A <ℤ pos 0 → ≥0 (neg_ℤ A) × ≥0 (neg_ℤ Q) × >0 (neg_ℤ A +ℤ neg_ℤ Q)
sign_5⁻ Q A = lin (Q ∷ A ∷ []) λ u v e_q e_a. simp (Z·ℕ, e_q, e_a) (omega arith)

sign_6 : (A B : ℤ) → A <ℤ pos 0 → ≥0 B → ≥0 (neg_ℤ A) × ≥0 B × >0 (B -ℤ A)
sign_6 A B = lin (A ∷ B ∷ []) λ u v e_a e_b. simp (Z·ℕ, e_a, e_b) (omega arith)

sign_6⁻ : (A P Q : ℤ) → ≥0 A → (A +ℤ P -ℤ Q) <ℤ pos 0
    → ≥0 (neg_ℤ (neg_ℤ A)) × ≥0 (neg_ℤ A +ℤ neg_ℤ P -ℤ neg_ℤ Q) × >0 ((neg_ℤ A +ℤ neg_ℤ P -ℤ neg_ℤ Q) -ℤ neg_ℤ A)
sign_6⁻ A P Q = lin (A ∷ P ∷ Q ∷ []) λ u v e_a e_p e_q. simp (Z·ℕ, e_a, e_p, e_q) (omega arith)

module _ {a b p q : Corner} {A P Q : ℤ} (t : Net a b p q A P Q) (apart : ¬ Share a b p q) where
  t⁻ : Net a b p q (neg_ℤ A) (neg_ℤ P) (neg_ℤ Q)
  t⁻ = net_neg t

  -- a p q b: p and q lie on one side of a-b
  pub key_3 : a.x ≤ℤ p.x → p.x ≤ℤ q.x → q.x <ℤ b.x → lt_z (pos 0) P ≡ lt_z (pos 0) Q
  key_3 h k l = agree _ _
      (λ y n. let s = sign_3 P Q (lt_z_yes y) (lt_z_no n) in apart (share t (case_3 _ _ _ _ A P Q t.in_x h k l s.0 s.1 s.2)))
      (λ n y. let s = sign_3⁻ P Q (lt_z_no n) (lt_z_yes y) in apart (share t⁻ (case_3 _ _ _ _ (neg_ℤ A) (neg_ℤ P) (neg_ℤ Q) t⁻.in_x h k l s.0 s.1 s.2)))

  -- a p b q: a-b passes below p where b is below p-q
  pub key_4 : a.x ≤ℤ p.x → p.x <ℤ b.x → b.x ≤ℤ q.x → lt_z (pos 0) P ≡ lt_z (A +ℤ P -ℤ Q) (pos 0)
  key_4 h k l = agree _ _
      (λ y n. let s = sign_4 P (A +ℤ P -ℤ Q) (lt_z_yes y) (lt_z_no n) in apart (share t (case_4 _ _ _ _ A P Q t.in_x h k l s.0 s.1 s.2)))
      (λ n y. let s = sign_4⁻ A P Q (lt_z_no n) (lt_z_yes y) in apart (share t⁻ (case_4 _ _ _ _ (neg_ℤ A) (neg_ℤ P) (neg_ℤ Q) t⁻.in_x h k l s.0 s.1 s.2)))

  -- p a q b: a-b passes below q where a is below p-q
  pub key_5 : p.x <ℤ a.x → a.x ≤ℤ q.x → q.x <ℤ b.x → lt_z (pos 0) Q ≡ lt_z A (pos 0)
  key_5 h k l = agree _ _
      (λ y n. let s = sign_5 Q A (lt_z_yes y) (lt_z_no n) in apart (share t⁻ (case_5 _ _ _ _ A P Q t.in_x h k l s.0 s.1 s.2)))
      (λ n y. let s = sign_5⁻ Q A (lt_z_no n) (lt_z_yes y) in apart (share (net_neg t⁻) (case_5 _ _ _ _ (neg_ℤ A) (neg_ℤ P) (neg_ℤ Q) t⁻.in_x h k l s.0 s.1 s.2)))

  -- p a b q: a and b lie on one side of p-q
  pub key_6 : p.x <ℤ a.x → a.x ≤ℤ b.x → b.x ≤ℤ q.x → lt_z A (pos 0) ≡ lt_z (A +ℤ P -ℤ Q) (pos 0)
  key_6 h k l = agree _ _
      (λ y n. let s = sign_6 A (A +ℤ P -ℤ Q) (lt_z_yes y) (lt_z_no n) in apart (share t (case_6 _ _ _ _ A P Q t.in_x h k l s.0 s.1 s.2)))
      (λ n y. let s = sign_6⁻ A P Q (lt_z_no n) (lt_z_yes y) in apart (share t⁻ (case_6 _ _ _ _ (neg_ℤ A) (neg_ℤ P) (neg_ℤ Q) t⁻.in_x h k l s.0 s.1 s.2)))
