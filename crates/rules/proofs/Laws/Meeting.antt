-- The test `meets` is right: it passes exactly where the two edges share a point. Assumes nothing.
use Rattle.std.specs.Prelude.{◌≡◌, refl, Bool, true, false, not, ◌&&◌, ◌||◌, ◌⊎◌, ◌↔◌, List, [], ◌∷◌, ℕ, zero, suc, ◌+◌, ◌*◌, ◌-◌, ◌<◌, ◌≤◌, T, ℤ, pos, negsuc, ◌+ℤ◌, ◌-ℤ◌, ◌*ℤ◌, neg_ℤ, ◌≤ℤ◌, ◌<ℤ◌}
use Rattle.std.proofs.Common.{sym, ◌∙◌, ap, ap₂, subst, inl, inr, ⊎_elim, arith, T_not, ltb→lt}
use Rattle.std.proofs.Math.Dec.{not_T}
use Rattle.std.specs.Int.Signed.{le_z, lt_z, lt_z_no, lt_z_yes, ≤ℤ_refl}
use Rattle.arith.specs.Laws.Diff.{◌⊖◌, Z·ℕ, lin}
use Rattle.arith.specs.Laws.Ring.{ring, Z·ring, by_ring}
use Rattle.arith.specs.Laws.Order.{≤ℤ_or-<ℤ, tricho, ≤ℤ_antisym, *ℤ_mono_left, +ℤ_mono, <ℤ→≤ℤ}
use Rattle.rules.proofs.Laws.Signs.{≥0, >0, Plus, plus, as_plus, nat_le}
use Rattle.rules.specs.Rings.{Corner, Edge, D, Share}
use Rattle.rules.specs.Crossing.{before, overlap, aside, meets}
use Rattle.rules.proofs.Laws.Sums.{side_back}
use Rattle.rules.proofs.Laws.Lines.{Net, net, net_neg, Opposite, share, share_ab, share_pq, side_b, from_a}

-- ---- tests
pub T_and : (x y : Bool) → T (x && y) → T x × T y
T_and true true t = (tt, tt)
T_and true false t = absurd t
T_and false y t = absurd t

pub and_T : (x y : Bool) → T x → T y → T (x && y)
and_T true true s t = tt
and_T true false s t = t
and_T false y s t = s

pub T_or : (x y : Bool) → T (x || y) → T x ⊎ T y
T_or true y t = inl tt
T_or false y t = inr t

pub or_T : (x y : Bool) → (T x ⊎ T y) → T (x || y)
or_T true y t = tt
or_T false y (inl t) = absurd t
or_T false y (inr t) = t

-- neither pair of numbers lies before the other
abbrev pub Over : ℤ → ℤ → ℤ → ℤ → Type 0
Over a b c d = (a <ℤ c → a <ℤ d → b <ℤ c → b <ℤ d → ⊥) × (c <ℤ a → c <ℤ b → d <ℤ a → d <ℤ b → ⊥)

before_T : (a b c d : ℤ) → a <ℤ c → a <ℤ d → b <ℤ c → b <ℤ d → T (before a b c d)
unfolding before
before_T a b c d h k l m =
    and_T (lt_z a c && lt_z a d) (lt_z b c && lt_z b d) (and_T (lt_z a c) (lt_z a d) h.lt k.lt) (and_T (lt_z b c) (lt_z b d) l.lt m.lt)

T_before : (a b c d : ℤ) → T (before a b c d) → (a <ℤ c) × (a <ℤ d) × (b <ℤ c) × (b <ℤ d)
unfolding before
T_before a b c d t =
    let s = T_and (lt_z a c && lt_z a d) (lt_z b c && lt_z b d) t in
    let u = T_and (lt_z a c) (lt_z a d) s.0 in
    let v = T_and (lt_z b c) (lt_z b d) s.1 in
    (lt_z_yes u.0, lt_z_yes u.1, lt_z_yes v.0, lt_z_yes v.1)

over : (a b c d : ℤ) → T (overlap a b c d) → Over a b c d
unfolding overlap
over a b c d t =
    let s = T_and (not (before a b c d)) (not (before c d a b)) t in (
      (λ h k l m. T_not (before a b c d) s.0 (before_T a b c d h k l m)),
      (λ h k l m. T_not (before c d a b) s.1 (before_T c d a b h k l m)),
    )

over_T : (a b c d : ℤ) → Over a b c d → T (overlap a b c d)
unfolding overlap
over_T a b c d o = and_T (not (before a b c d)) (not (before c d a b))
    (not_T (before a b c d) (λ t. let s = T_before a b c d t in o.0 s.0 s.1 s.2 s.3))
    (not_T (before c d a b) (λ t. let s = T_before c d a b t in o.1 s.0 s.1 s.2 s.3))

-- two numbers are not both positive, and not both negative
abbrev Astride : ℤ → ℤ → Type 0
Astride s t = (>0 s → >0 t → ⊥) × (s <ℤ pos 0 → t <ℤ pos 0 → ⊥)

aside_T : (s t : ℤ) → (T (lt_z (pos 0) s) × T (lt_z (pos 0) t)) ⊎ (T (lt_z s (pos 0)) × T (lt_z t (pos 0))) → T (aside s t)
unfolding aside
aside_T s t (inl u) = or_T (lt_z (pos 0) s && lt_z (pos 0) t) (lt_z s (pos 0) && lt_z t (pos 0)) (inl (and_T (lt_z (pos 0) s) (lt_z (pos 0) t) u.0 u.1))
aside_T s t (inr u) = or_T (lt_z (pos 0) s && lt_z (pos 0) t) (lt_z s (pos 0) && lt_z t (pos 0)) (inr (and_T (lt_z s (pos 0)) (lt_z t (pos 0)) u.0 u.1))

astride : (s t : ℤ) → T (not (aside s t)) → Astride s t
astride s t n = (
  (λ h k. T_not (aside s t) n (aside_T s t (inl (h.lt, k.lt)))),
  (λ h k. T_not (aside s t) n (aside_T s t (inr (h.lt, k.lt)))),
)

astride_T : (s t : ℤ) → Astride s t → T (not (aside s t))
unfolding aside
astride_T s t o = not_T (aside s t) (λ n. go (T_or (lt_z (pos 0) s && lt_z (pos 0) t) (lt_z s (pos 0) && lt_z t (pos 0)) n))
  where
    go : (T (lt_z (pos 0) s && lt_z (pos 0) t) ⊎ T (lt_z s (pos 0) && lt_z t (pos 0))) → ⊥
    go (inl u) = let v = T_and (lt_z (pos 0) s) (lt_z (pos 0) t) u in o.0 (lt_z_yes v.0) (lt_z_yes v.1)
    go (inr u) = let v = T_and (lt_z s (pos 0)) (lt_z t (pos 0)) u in o.1 (lt_z_yes v.0) (lt_z_yes v.1)

-- ---- four corners on one line, a left of b: one of them lies on the other edge
zero_1 : (dx dy rx ry sx sy : ℤ) → dx *ℤ ry -ℤ rx *ℤ dy ≡ pos 0
    → (neg_ℤ rx *ℤ dx +ℤ pos 0 *ℤ sx ≡ neg_ℤ dx *ℤ rx) × (neg_ℤ rx *ℤ dy +ℤ pos 0 *ℤ sy ≡ neg_ℤ dx *ℤ ry)
zero_1 dx dy rx ry sx sy = lin (dx ∷ dy ∷ rx ∷ ry ∷ sx ∷ sy ∷ []) λ u v e1 e2 e3 e4 e5 e6. simp (Z·ℕ, e1, e2, e3, e4, e5, e6) (omega arith)

zero_2 : (dx dy rx ry sx sy : ℤ) → dx *ℤ sy -ℤ sx *ℤ dy ≡ pos 0
    → (neg_ℤ sx *ℤ dx +ℤ dx *ℤ sx ≡ pos 0 *ℤ rx) × (neg_ℤ sx *ℤ dy +ℤ dx *ℤ sy ≡ pos 0 *ℤ ry)
zero_2 dx dy rx ry sx sy = lin (dx ∷ dy ∷ rx ∷ ry ∷ sx ∷ sy ∷ []) λ u v e1 e2 e3 e4 e5 e6. simp (Z·ℕ, e1, e2, e3, e4, e5, e6) (omega arith)

zero_3 : (dx dy rx ry sx sy : ℤ) → rx *ℤ sy -ℤ sx *ℤ ry ≡ pos 0
    → (pos 0 *ℤ dx +ℤ neg_ℤ rx *ℤ sx ≡ neg_ℤ sx *ℤ rx) × (pos 0 *ℤ dy +ℤ neg_ℤ rx *ℤ sy ≡ neg_ℤ sx *ℤ ry)
zero_3 dx dy rx ry sx sy = lin (dx ∷ dy ∷ rx ∷ ry ∷ sx ∷ sy ∷ []) λ u v e1 e2 e3 e4 e5 e6. simp (Z·ℕ, e1, e2, e3, e4, e5, e6) (omega arith)

in_1 : (a b p : ℤ) → a ≤ℤ p → p ≤ℤ b → a <ℤ b → Opposite (neg_ℤ (p -ℤ a)) (pos 0) (neg_ℤ (b -ℤ a))
in_1 a b p = lin (a ∷ b ∷ p ∷ []) λ u v e1 e2 e3. simp (Z·ℕ, e1, e2, e3) (omega arith)

in_2 : (a b q : ℤ) → a ≤ℤ q → q ≤ℤ b → a <ℤ b → Opposite (neg_ℤ (q -ℤ a)) (b -ℤ a) (pos 0)
in_2 a b q = lin (a ∷ b ∷ q ∷ []) λ u v e1 e2 e3. simp (Z·ℕ, e1, e2, e3) (omega arith)

in_3 : (a p q : ℤ) → p <ℤ a → a <ℤ q → Opposite (pos 0) (neg_ℤ (p -ℤ a)) (neg_ℤ (q -ℤ a))
in_3 a p q = lin (a ∷ p ∷ q ∷ []) λ u v e1 e2 e3. simp (Z·ℕ, e1, e2, e3) (omega arith)

no_lt : (x y : ℤ) → (x <ℤ y → ⊥) → y ≤ℤ x
no_lt x y n = ⊎_elim (λ h. h) (λ h. absurd (n h)) (≤ℤ_or-<ℤ y x)

lt_trans : (x y z : ℤ) → x <ℤ y → y <ℤ z → x <ℤ z
lt_trans x y z = lin (x ∷ y ∷ z ∷ []) λ u v e1 e2 e3. simp (Z·ℕ, e1, e2, e3) (omega arith)

-- both corners of each edge lie on the other edge's line
pub record Flat (a b p q : Corner) : Type 0 where
  pub fp : D a b p ≡ pos 0
  pub fq : D a b q ≡ pos 0
  pub fa : D p q a ≡ pos 0
  pub fb : D p q b ≡ pos 0

at_p : (a b p q : Corner) → D a b p ≡ pos 0 → a.x ≤ℤ p.x → p.x ≤ℤ b.x → a.x <ℤ b.x → Share a b p q
unfolding D
at_p a b p q z h k l =
    let e = zero_1 (b.x -ℤ a.x) (b.y -ℤ a.y) (p.x -ℤ a.x) (p.y -ℤ a.y) (q.x -ℤ a.x) (q.y -ℤ a.y) z in
    share {A = neg_ℤ (p.x -ℤ a.x)} {P = pos 0} {Q = neg_ℤ (b.x -ℤ a.x)} (record { in_x = e.0; in_y = e.1 }) (in_1 a.x b.x p.x h k l)

at_q : (a b p q : Corner) → D a b q ≡ pos 0 → a.x ≤ℤ q.x → q.x ≤ℤ b.x → a.x <ℤ b.x → Share a b p q
unfolding D
at_q a b p q z h k l =
    let e = zero_2 (b.x -ℤ a.x) (b.y -ℤ a.y) (p.x -ℤ a.x) (p.y -ℤ a.y) (q.x -ℤ a.x) (q.y -ℤ a.y) z in
    share {A = neg_ℤ (q.x -ℤ a.x)} {P = b.x -ℤ a.x} {Q = pos 0} (record { in_x = e.0; in_y = e.1 }) (in_2 a.x b.x q.x h k l)

at_a : (a b p q : Corner) → D p q a ≡ pos 0 → p.x <ℤ a.x → a.x <ℤ q.x → Share a b p q
unfolding D
at_a a b p q z h k =
    let e = zero_3 (b.x -ℤ a.x) (b.y -ℤ a.y) (p.x -ℤ a.x) (p.y -ℤ a.y) (q.x -ℤ a.x) (q.y -ℤ a.y) (sym (from_a a.x a.y p.x p.y q.x q.y) ∙ z) in
    share {A = pos 0} {P = neg_ℤ (p.x -ℤ a.x)} {Q = neg_ℤ (q.x -ℤ a.x)} (record { in_x = e.0; in_y = e.1 }) (in_3 a.x p.x q.x h k)

flat_x : (a b p q : Corner) → Flat a b p q → Over a.x b.x p.x q.x → a.x <ℤ b.x → Share a b p q
flat_x a b p q f o l = go (≤ℤ_or-<ℤ a.x p.x) (≤ℤ_or-<ℤ p.x b.x) (≤ℤ_or-<ℤ a.x q.x) (≤ℤ_or-<ℤ q.x b.x)
  where
    go : (a.x ≤ℤ p.x) ⊎ (p.x <ℤ a.x) → (p.x ≤ℤ b.x) ⊎ (b.x <ℤ p.x) → (a.x ≤ℤ q.x) ⊎ (q.x <ℤ a.x) → (q.x ≤ℤ b.x) ⊎ (b.x <ℤ q.x) → Share a b p q
    go (inl h) (inl k) m n = at_p a b p q f.fp h k l
    go (inl h) (inr k) (inl m) (inl n) = at_q a b p q f.fq m n l
    go (inl h) (inr k) (inl m) (inr n) = absurd (o.0 (lt_trans _ _ _ l k) (lt_trans _ _ _ l n) k n)
    go (inl h) (inr k) (inr m) n = share_pq (at_a a b q p (side_back p q a ∙ ap neg_ℤ f.fa) m (lt_trans _ _ _ l k))
    go (inr h) k (inl m) (inl n) = at_q a b p q f.fq m n l
    go (inr h) k (inl m) (inr n) = at_a a b p q f.fa h (lt_trans _ _ _ l n)
    go (inr h) k (inr m) n = absurd (o.1 h (lt_trans _ _ _ h l) m (lt_trans _ _ _ m l))

-- ---- four corners on one line, in general: by X, by Y, or all one corner
flat_ab : {a b p q : Corner} → Flat a b p q → Flat b a p q
flat_ab {a} {b} {p} {q} f = record { fp = side_back a b p ∙ ap neg_ℤ f.fp; fq = side_back a b q ∙ ap neg_ℤ f.fq; fa = f.fb; fb = f.fa }

flat_swap : {a b p q : Corner} → Flat a b p q → Flat p q a b
flat_swap f = record { fp = f.fa; fq = f.fb; fa = f.fp; fb = f.fq }

pub share_swap : {a b p q : Corner} → Share p q a b → Share a b p q
share_swap s = record
    { m = s.m; i = s.j; j = s.i; some = s.some; i_in = s.j_in; j_in = s.i_in; same_x = sym s.same_x; same_y = sym s.same_y }

-- X and Y changed about
flip : Corner → Corner
flip c = record { x = c.y; y = c.x }

flip_side : (a b p : Corner) → D (flip a) (flip b) (flip p) ≡ neg_ℤ (D a b p)
unfolding D flip
flip_side a b p = go a.x a.y b.x b.y p.x p.y
  where
    go : (ax ay bx by px py : ℤ) → (by -ℤ ay) *ℤ (px -ℤ ax) -ℤ (py -ℤ ay) *ℤ (bx -ℤ ax) ≡ neg_ℤ ((bx -ℤ ax) *ℤ (py -ℤ ay) -ℤ (px -ℤ ax) *ℤ (by -ℤ ay))
    go ax ay bx by px py = ring (ax ∷ ay ∷ bx ∷ by ∷ px ∷ py ∷ []) λ ρ e1 e2 e3 e4 e5 e6. simp (Z·ring, e1, e2, e3, e4, e5, e6) (by_ring _ _ _ refl)

flat_flip : {a b p q : Corner} → Flat a b p q → Flat (flip a) (flip b) (flip p) (flip q)
flat_flip {a} {b} {p} {q} f = record {
  fp = flip_side a b p ∙ ap neg_ℤ f.fp;
  fq = flip_side a b q ∙ ap neg_ℤ f.fq;
  fa = flip_side p q a ∙ ap neg_ℤ f.fa;
  fb = flip_side p q b ∙ ap neg_ℤ f.fb;
}

share_flip : {a b p q : Corner} → Share (flip a) (flip b) (flip p) (flip q) → Share a b p q
unfolding flip
share_flip s = record
    { m = s.m; i = s.i; j = s.j; some = s.some; i_in = s.i_in; j_in = s.j_in; same_x = s.same_y; same_y = s.same_x }

-- an edge that is not upright
flat_ab_x : (a b p q : Corner) → Flat a b p q → Over a.x b.x p.x q.x → ((a.x <ℤ b.x) ⊎ (b.x <ℤ a.x)) → Share a b p q
flat_ab_x a b p q f o (inl l) = flat_x a b p q f o l
flat_ab_x a b p q f o (inr l) = share_ab (flat_x b a p q (flat_ab f) ((λ h k m n. o.0 m n h k), (λ h k m n. o.1 k h n m)) l)

-- either is not upright, or both stand at one X
flat_by_x : (a b p q : Corner) → Flat a b p q → Over a.x b.x p.x q.x → Share a b p q ⊎ ((a.x ≡ b.x) × (a.x ≡ p.x) × (a.x ≡ q.x))
flat_by_x a b p q f o = go (tricho a.x b.x) (tricho p.x q.x)
  where
    swapped : ((p.x <ℤ q.x) ⊎ (q.x <ℤ p.x)) → Share a b p q
    swapped l = share_swap (flat_ab_x p q a b (flat_swap f) (o.1, o.0) l)

    one : (a b p q : ℤ) → a ≡ b → p ≡ q → Over a b p q → a ≡ p
    one a b p q e g o = ≤ℤ_antisym (no_lt p a (λ h. o.1 h (rw (← e) h) (rw (← g) h) (rw (← g, ← e) h))) (no_lt a p (λ h. o.0 h (rw (← g) h) (rw (← e) h) (rw (← e, ← g) h)))

    go : (a.x <ℤ b.x) ⊎ ((a.x ≡ b.x) ⊎ (b.x <ℤ a.x)) → (p.x <ℤ q.x) ⊎ ((p.x ≡ q.x) ⊎ (q.x <ℤ p.x)) → Share a b p q ⊎ ((a.x ≡ b.x) × (a.x ≡ p.x) × (a.x ≡ q.x))
    go (inl l) t = inl (flat_ab_x a b p q f o (inl l))
    go (inr (inr l)) t = inl (flat_ab_x a b p q f o (inr l))
    go (inr (inl e)) (inl l) = inl (swapped (inl l))
    go (inr (inl e)) (inr (inr l)) = inl (swapped (inr l))
    go (inr (inl e)) (inr (inl g)) = inr (e, one _ _ _ _ e g o, one _ _ _ _ e g o ∙ g)

one_corner : (a b p q : ℤ) → a ≡ p → pos (1 - 0) *ℤ a +ℤ pos 0 *ℤ b ≡ pos (1 - 0) *ℤ p +ℤ pos 0 *ℤ q
one_corner a b p q = lin (a ∷ b ∷ p ∷ q ∷ []) λ u v e1 e2 e3 e4. simp (Z·ℕ, e1, e2, e3, e4) (omega arith)

pub flat : (a b p q : Corner) → Flat a b p q → Over a.x b.x p.x q.x → Over a.y b.y p.y q.y → Share a b p q
unfolding flip
flat a b p q f ox oy =
    ⊎_elim (λ s. s)
    (λ ex. ⊎_elim (λ s. share_flip s)
    (λ ey. record {
      m = 1;
      i = 0;
      j = 0;
      some = omega arith;
      i_in = omega arith;
      j_in = omega arith;
      same_x = one_corner a.x b.x p.x q.x ex.1;
      same_y = one_corner a.y b.y p.y q.y ey.1;
    })
    (flat_by_x (flip a) (flip b) (flip p) (flip q) (flat_flip f) oy))
    (flat_by_x a b p q f ox)

-- ---- the test passed: a shared point
opposite : (A P Q : ℤ) → A ≤ℤ pos 0 → ≥0 (A +ℤ P -ℤ Q) → ≥0 P → Q ≤ℤ pos 0 → Q <ℤ P → Opposite A P Q
opposite A P Q = lin (A ∷ P ∷ Q ∷ []) λ u v e1 e2 e3. simp (Z·ℕ, e1, e2, e3) (omega arith)

opposite⁻ : (A P Q : ℤ) → ≥0 A → (A +ℤ P -ℤ Q) ≤ℤ pos 0 → P ≤ℤ pos 0 → ≥0 Q → P <ℤ Q → Opposite (neg_ℤ A) (neg_ℤ P) (neg_ℤ Q)
opposite⁻ A P Q = lin (A ∷ P ∷ Q ∷ []) λ u v e1 e2 e3. simp (Z·ℕ, e1, e2, e3) (omega arith)

-- what the order of P and Q says of A and of A + P - Q
drift : (A P Q : ℤ) → (Q <ℤ P → (>0 A → >0 (A +ℤ P -ℤ Q)) × ((A +ℤ P -ℤ Q) <ℤ pos 0 → A <ℤ pos 0))
    × (P <ℤ Q → (A <ℤ pos 0 → (A +ℤ P -ℤ Q) <ℤ pos 0) × (>0 (A +ℤ P -ℤ Q) → >0 A))
drift A P Q = lin (A ∷ P ∷ Q ∷ []) λ u v e1 e2 e3. simp (Z·ℕ, e1, e2, e3) (omega arith)

level : (A P Q : ℤ) → P ≡ Q → A +ℤ P -ℤ Q ≡ A
level A P Q = lin (A ∷ P ∷ Q ∷ []) λ u v e1 e2 e3. simp (Z·ℕ, e1, e2, e3) (omega arith)

zero_of : (s t : ℤ) → s ≡ t → Astride s t → s ≡ pos 0
zero_of s t e o = ≤ℤ_antisym (no_lt (pos 0) s (λ h. o.0 h (rw e at h))) (no_lt s (pos 0) (λ h. o.1 h (rw e at h)))

sound' : {a b p q : Corner} (A P Q : ℤ) → Net a b p q A P Q → Astride P Q → Astride A (A +ℤ P -ℤ Q)
    → (P ≡ pos 0 → Q ≡ pos 0 → A ≡ pos 0 → A +ℤ P -ℤ Q ≡ pos 0 → Share a b p q) → Share a b p q
sound' {a} {b} {p} {q} A P Q n s t flat = go (tricho P Q)
  where
    go : (P <ℤ Q) ⊎ ((P ≡ Q) ⊎ (Q <ℤ P)) → Share a b p q
    go (inl l) = share (net_neg n) (opposite⁻ A P Q
        (no_lt A (pos 0) (λ h. t.1 h (((drift A P Q).1 l).0 h)))
        (no_lt (pos 0) (A +ℤ P -ℤ Q) (λ h. t.0 (((drift A P Q).1 l).1 h) h))
        (no_lt (pos 0) P (λ h. s.0 h (lt_trans (pos 0) P Q h l)))
        (no_lt Q (pos 0) (λ h. s.1 (lt_trans P Q (pos 0) l h) h)) l)
    go (inr (inr l)) = share n (opposite A P Q
        (no_lt (pos 0) A (λ h. t.0 h (((drift A P Q).0 l).0 h)))
        (no_lt (A +ℤ P -ℤ Q) (pos 0) (λ h. t.1 (((drift A P Q).0 l).1 h) h))
        (no_lt P (pos 0) (λ h. s.1 h (lt_trans Q P (pos 0) l h)))
        (no_lt (pos 0) Q (λ h. s.0 (lt_trans (pos 0) Q P h l) h)) l)
    go (inr (inl e)) =
        let zp : P ≡ pos 0 = zero_of P Q e s in
        let za : A ≡ pos 0 = zero_of A (A +ℤ P -ℤ Q) (sym (level A P Q e)) t in
        flat zp (sym e ∙ zp) za (level A P Q e ∙ za)

sound : (a b p q : Corner) → Over a.x b.x p.x q.x → Over a.y b.y p.y q.y
    → Astride (D a b p) (D a b q) → Astride (D p q a) (D p q b) → Share a b p q
sound a b p q ox oy s t = sound' (D p q a) (D a b p) (D a b q) (net a b p q) s (rw (side_b a b p q) at t)
    (λ zp zq za zb. flat a b p q (record { fp = zp; fq = zq; fa = za; fb = side_b a b p q ∙ zb }) ox oy)

-- ---- a shared point: the test passes
-- the point lies on the edge a-b, so p and q are not both on one side
pub moment : (a b p q : ℤ) (n i k j : ℕ) → n + i ≡ k + j → pos n *ℤ a +ℤ pos i *ℤ b ≡ pos k *ℤ p +ℤ pos j *ℤ q
    → pos k *ℤ (p -ℤ a) +ℤ pos j *ℤ (q -ℤ a) ≡ pos i *ℤ (b -ℤ a)
moment a b p q n i k j z = lin (a ∷ b ∷ p ∷ q ∷ []) λ u v ea eb ep eq.
    simp (Z·ℕ, ea, eb, ep, eq) (omega (arith, ap (λ t. t * u 0) z, ap (λ t. t * v 0) z))

spread : (k j dx dy rx ry sx sy : ℤ)
    → k *ℤ (dx *ℤ ry -ℤ rx *ℤ dy) +ℤ j *ℤ (dx *ℤ sy -ℤ sx *ℤ dy) ≡ dx *ℤ (k *ℤ ry +ℤ j *ℤ sy) -ℤ (k *ℤ rx +ℤ j *ℤ sx) *ℤ dy
spread k j dx dy rx ry sx sy =
    ring (k ∷ j ∷ dx ∷ dy ∷ rx ∷ ry ∷ sx ∷ sy ∷ []) λ ρ e1 e2 e3 e4 e5 e6 e7 e8. simp (Z·ring, e1, e2, e3, e4, e5, e6, e7, e8) (by_ring _ _ _ refl)

pub gone : (i dx dy : ℤ) → dx *ℤ (i *ℤ dy) -ℤ (i *ℤ dx) *ℤ dy ≡ pos 0
gone i dx dy = lin (i ∷ dx ∷ dy ∷ []) λ u v e1 e2 e3. simp (Z·ℕ, e1, e2, e3) (omega arith)

balance : (a b p q : Corner) (s : Share a b p q) → pos (s.m - s.j) *ℤ D a b p +ℤ pos s.j *ℤ D a b q ≡ pos 0
unfolding D
balance a b p q s =
    let e : (s.m - s.i) + s.i ≡ (s.m - s.j) + s.j = omega arith in
    spread (pos (s.m - s.j)) (pos s.j) (b.x -ℤ a.x) (b.y -ℤ a.y) (p.x -ℤ a.x) (p.y -ℤ a.y) (q.x -ℤ a.x) (q.y -ℤ a.y)
    ∙ ap₂ (λ y x. (b.x -ℤ a.x) *ℤ y -ℤ x *ℤ (b.y -ℤ a.y))
    (moment a.y b.y p.y q.y (s.m - s.i) s.i (s.m - s.j) s.j e s.same_y)
    (moment a.x b.x p.x q.x (s.m - s.i) s.i (s.m - s.j) s.j e s.same_x)
    ∙ gone (pos s.i) (b.x -ℤ a.x) (b.y -ℤ a.y)

weigh : (k j : ℕ) (P Q : ℤ) → 0 < k + j → pos k *ℤ P +ℤ pos j *ℤ Q ≡ pos 0 → Astride P Q
weigh k j P Q h e = (λ x y. up (as_plus x) (as_plus y) e, λ x y. down P Q x.lt y.lt e)
  where
    up : {P Q : ℤ} → Plus P → Plus Q → pos k *ℤ P +ℤ pos j *ℤ Q ≡ pos 0 → ⊥
    up (plus x) (plus y) e = let z = simp Z·ℕ at e in omega arith

    down : (P Q : ℤ) → T (lt_z P (pos 0)) → T (lt_z Q (pos 0)) → pos k *ℤ P +ℤ pos j *ℤ Q ≡ pos 0 → ⊥
    down (pos x) Q s t e = let z = ltb→lt x 0 s in omega arith
    down (negsuc x) (pos y) s t e = let z = ltb→lt y 0 t in omega arith
    down (negsuc x) (negsuc y) s t e = let z = simp Z·ℕ at e in omega arith

shared_astride : (a b p q : Corner) → Share a b p q → Astride (D a b p) (D a b q)
shared_astride a b p q s = weigh (s.m - s.j) s.j (D a b p) (D a b q) (omega arith) (balance a b p q s)

-- the point lies within both edges' boxes
most : (k j : ℕ) (a b z : ℤ) → a ≤ℤ z → b ≤ℤ z → (pos k *ℤ a +ℤ pos j *ℤ b) ≤ℤ (pos k *ℤ z +ℤ pos j *ℤ z)
most k j a b z h l = +ℤ_mono (*ℤ_mono_left (pos k) (nat_le k) h) (*ℤ_mono_left (pos j) (nat_le j) l)

least : (k j : ℕ) (a b z : ℤ) → z ≤ℤ a → z ≤ℤ b → (pos k *ℤ z +ℤ pos j *ℤ z) ≤ℤ (pos k *ℤ a +ℤ pos j *ℤ b)
least k j a b z h l = +ℤ_mono (*ℤ_mono_left (pos k) (nat_le k) h) (*ℤ_mono_left (pos j) (nat_le j) l)

-- a mean of a and b, both at most z, is not a mean of c and d, both above z
no_mean : (n i k j : ℕ) (a b c d z : ℤ) → n + i ≡ k + j → 0 < n + i → a ≤ℤ z → b ≤ℤ z → z <ℤ c → z <ℤ d → pos n *ℤ a +ℤ pos i *ℤ b ≡ pos k *ℤ c +ℤ pos j *ℤ d → ⊥
no_mean n i k j a b c d z e o h l f g w =
    clash z e o (subst (λ t. t ≤ℤ (pos n *ℤ z +ℤ pos i *ℤ z)) w (most n i a b z h l)) (least k j c d (z +ℤ pos 1) (next z c f) (next z d g))
  where
    next : (z c : ℤ) → z <ℤ c → (z +ℤ pos 1) ≤ℤ c
    next z c = lin (z ∷ c ∷ []) λ u v e1 e2. simp (Z·ℕ, e1, e2) (omega arith)

    clash : {t : ℤ} (z : ℤ) → n + i ≡ k + j → 0 < n + i → t ≤ℤ (pos n *ℤ z +ℤ pos i *ℤ z) → (pos k *ℤ (z +ℤ pos 1) +ℤ pos j *ℤ (z +ℤ pos 1)) ≤ℤ t → ⊥
    clash {t} z e o = lin (z ∷ t ∷ []) λ u v e1 e2. simp (Z·ℕ, e1, e2) (λ x y. let x' = x in let y' = y in omega (arith, ap (λ q. q * u 0) e, ap (λ q. q * v 0) e))

greater : (a b : ℤ) → (z : ℤ) × (a ≤ℤ z) × (b ≤ℤ z) × ((c : ℤ) → a <ℤ c → b <ℤ c → z <ℤ c)
greater a b = ⊎_elim (λ h. (b, h, ≤ℤ_refl b, λ c k l. l)) (λ h. (a, ≤ℤ_refl a, <ℤ→≤ℤ h, λ c k l. k)) (≤ℤ_or-<ℤ a b)

no_mean' : (n i k j : ℕ) (a b c d : ℤ) → n + i ≡ k + j → 0 < n + i → pos n *ℤ a +ℤ pos i *ℤ b ≡ pos k *ℤ c +ℤ pos j *ℤ d → a <ℤ c → a <ℤ d → b <ℤ c → b <ℤ d → ⊥
no_mean' n i k j a b c d e o w ac ad bc bd =
    let g = greater a b in no_mean n i k j a b c d g.0 e o g.1 g.2 (g.3 c ac bc) (g.3 d ad bd) w

mean_over : (n i k j : ℕ) (a b c d : ℤ) → n + i ≡ k + j → 0 < n + i → pos n *ℤ a +ℤ pos i *ℤ b ≡ pos k *ℤ c +ℤ pos j *ℤ d → Over a b c d
mean_over n i k j a b c d e o w = (
  no_mean' n i k j a b c d e o w,
  no_mean' k j n i c d a b (sym e) (omega arith) (sym w),
)

-- ---- the test and the rule
pub meets_share : (e f : Edge) → T (meets e f) ↔ Share e.tail e.head f.tail f.head
unfolding meets
meets_share e f = (there, back)
  where
    a : Corner
    a = e.tail

    b : Corner
    b = e.head

    p : Corner
    p = f.tail

    q : Corner
    q = f.head

    ox : Bool
    ox = overlap a.x b.x p.x q.x

    oy : Bool
    oy = overlap a.y b.y p.y q.y

    s : Bool
    s = not (aside (D a b p) (D a b q))

    t : Bool
    t = not (aside (D p q a) (D p q b))

    there : T ((ox && oy) && (s && t)) → Share a b p q
    there h =
        let u = T_and (ox && oy) (s && t) h in
        let v = T_and ox oy u.0 in
        let w = T_and s t u.1 in
        sound a b p q (over a.x b.x p.x q.x v.0) (over a.y b.y p.y q.y v.1) (astride (D a b p) (D a b q) w.0) (astride (D p q a) (D p q b) w.1)

    back : Share a b p q → T ((ox && oy) && (s && t))
    back h =
        let z : (h.m - h.i) + h.i ≡ (h.m - h.j) + h.j = omega arith in
        let o : 0 < (h.m - h.i) + h.i = omega arith in
        and_T (ox && oy) (s && t)
        (and_T ox oy
        (over_T a.x b.x p.x q.x (mean_over (h.m - h.i) h.i (h.m - h.j) h.j a.x b.x p.x q.x z o h.same_x))
        (over_T a.y b.y p.y q.y (mean_over (h.m - h.i) h.i (h.m - h.j) h.j a.y b.y p.y q.y z o h.same_y)))
        (and_T s t
        (astride_T (D a b p) (D a b q) (shared_astride a b p q h))
        (astride_T (D p q a) (D p q b) (shared_astride p q a b (share_swap h))))
