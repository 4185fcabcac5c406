-- A whole point of an edge, as a mean of the edge's ends: what a line to it shares the edge shares, and two edges with a point in common share it. Assumes nothing.
use Rattle.std.specs.Prelude.{◌≡◌, refl, ◌&&◌, ◌||◌, List, [], ◌∷◌, ℕ, zero, suc, ◌+◌, ◌*◌, ◌-◌, ◌<◌, T, ℤ, pos, ◌+ℤ◌, ◌-ℤ◌, ◌*ℤ◌}
use Rattle.std.proofs.Common.{sym, ◌∙◌, ap, inl, inr, ⊎_elim, arith}
use Rattle.std.specs.Int.Signed.{le_z, le_z_yes, clash_ℤ, ≤ℤ_refl}
use Rattle.arith.specs.Laws.Diff.{Z·ℕ, lin}
use Rattle.arith.specs.Laws.Ring.{ring, Z·ring, by_ring}
use Rattle.arith.specs.Laws.Order.{≤ℤ_or-<ℤ, <ℤ→≤ℤ}
use Rattle.rules.specs.Rings.{Corner, Edge, D, is_zero, between, on, Share}
use Rattle.rules.proofs.Laws.Meeting.{T_and, and_T, T_or, or_T, Over, Flat, flat}
use Rattle.rules.proofs.Laws.Folding.{T_zero, zero_T}

-- p lies on a-b: n parts of a and i parts of b are n + i parts of p
pub record At (a b p : Corner) : Type 0 where
  pub n : ℕ
  pub i : ℕ
  pub some : 0 < n + i
  pub at_x : pos n *ℤ a.x +ℤ pos i *ℤ b.x ≡ pos (n + i) *ℤ p.x
  pub at_y : pos n *ℤ a.y +ℤ pos i *ℤ b.y ≡ pos (n + i) *ℤ p.y

-- a shared point by its parts
shares : {a b p q : Corner} (n i k j : ℕ) → 0 < n + i → n + i ≡ k + j → pos n *ℤ a.x +ℤ pos i *ℤ b.x ≡ pos k *ℤ p.x +ℤ pos j *ℤ q.x
    → pos n *ℤ a.y +ℤ pos i *ℤ b.y ≡ pos k *ℤ p.y +ℤ pos j *ℤ q.y → Share a b p q
shares n i k j o e x y =
    let first : (n + i) - i ≡ n = omega arith in
    let second : (n + i) - j ≡ k = omega arith in
    record { m = n + i; i = i; j = j; some = o; i_in = omega arith; j_in = omega arith; same_x = rw (first, second) x; same_y = rw (first, second) y }

-- ---- the paper's border, "p lies on an edge if D = 0 and p is within the edge's own box", says so
amid : (a b p : ℤ) → T (between a b p) → Over a b p p
unfolding between
amid a b p t = ⊎_elim
    (λ s. let u = T_and (le_z a p) (le_z p b) s in (λ h k l m. clash_ℤ l (le_z_yes u.1), λ h k l m. clash_ℤ h (le_z_yes u.0)))
    (λ s. let u = T_and (le_z b p) (le_z p a) s in (λ h k l m. clash_ℤ h (le_z_yes u.1), λ h k l m. clash_ℤ k (le_z_yes u.0)))
    (T_or (le_z a p && le_z p b) (le_z b p && le_z p a) t)

-- every corner is on a line of no length
on_none : (p c : Corner) → D p p c ≡ pos 0
unfolding D
on_none p c = go p.x p.y c.x c.y
  where
    go : (px py cx cy : ℤ) → (px -ℤ px) *ℤ (cy -ℤ py) -ℤ (cx -ℤ px) *ℤ (py -ℤ py) ≡ pos 0
    go px py cx cy = lin (px ∷ py ∷ cx ∷ cy ∷ []) λ u v e1 e2 e3 e4. simp (Z·ℕ, e1, e2, e3, e4) (omega arith)

of_one : (n i k j : ℕ) (a b p : ℤ) → n + i ≡ k + j → pos n *ℤ a +ℤ pos i *ℤ b ≡ pos k *ℤ p +ℤ pos j *ℤ p → pos n *ℤ a +ℤ pos i *ℤ b ≡ pos (n + i) *ℤ p
of_one n i k j a b p e = lin (a ∷ b ∷ p ∷ []) λ u v ea eb ep. simp (Z·ℕ, ea, eb, ep) (λ h. let h' = h in omega (arith, ap (λ q. q * u 2) e, ap (λ q. q * v 2) e))

at_one : {a b p : Corner} → Share a b p p → At a b p
at_one {a} {b} {p} s =
    let e : (s.m - s.i) + s.i ≡ (s.m - s.j) + s.j = omega arith in
    record {
      n = s.m - s.i;
      i = s.i;
      some = omega arith;
      at_x = of_one (s.m - s.i) s.i (s.m - s.j) s.j a.x b.x p.x e s.same_x;
      at_y = of_one (s.m - s.i) s.i (s.m - s.j) s.j a.y b.y p.y e s.same_y;
    }

pub on_at : (p : Corner) (e : Edge) → T (on p e) → At e.tail e.head p
unfolding on
on_at p e t =
    let s = T_and (is_zero (D e.tail e.head p)) (between e.tail.x e.head.x p.x && between e.tail.y e.head.y p.y) t in
    let u = T_and (between e.tail.x e.head.x p.x) (between e.tail.y e.head.y p.y) s.1 in
    let z = T_zero (D e.tail e.head p) s.0 in
    at_one (flat e.tail e.head p p (record { fp = z; fq = z; fa = on_none p e.tail; fb = on_none p e.head })
    (amid e.tail.x e.head.x p.x u.0) (amid e.tail.y e.head.y p.y u.1))

-- the tail of an edge is on it
start_on : (a b : Corner) → D a b a ≡ pos 0
unfolding D
start_on a b = go a.x a.y b.x b.y
  where
    go : (ax ay bx by : ℤ) → (bx -ℤ ax) *ℤ (ay -ℤ ay) -ℤ (ax -ℤ ax) *ℤ (by -ℤ ay) ≡ pos 0
    go ax ay bx by = lin (ax ∷ ay ∷ bx ∷ by ∷ []) λ u v e1 e2 e3 e4. simp (Z·ℕ, e1, e2, e3, e4) (omega arith)

start_between : (a b : ℤ) → T (between a b a)
unfolding between
start_between a b = or_T (le_z a a && le_z a b) (le_z b a && le_z a a) (⊎_elim
    (λ h. inl (and_T (le_z a a) (le_z a b) (≤ℤ_refl a).le h.le))
    (λ h. inr (and_T (le_z b a) (le_z a a) (<ℤ→≤ℤ h).le (≤ℤ_refl a).le))
    (≤ℤ_or-<ℤ a b))

pub tail_on : (e : Edge) → T (on e.tail e)
unfolding on
tail_on e = and_T (is_zero (D e.tail e.head e.tail)) (between e.tail.x e.head.x e.tail.x && between e.tail.y e.head.y e.tail.y)
    (zero_T (D e.tail e.head e.tail) (start_on e.tail e.head))
    (and_T (between e.tail.x e.head.x e.tail.x) (between e.tail.y e.head.y e.tail.y) (start_between e.tail.x e.head.x) (start_between e.tail.y e.head.y))

-- ---- sums of parts, taken so many times
times : (t n i c d : ℤ) → (t *ℤ n) *ℤ c +ℤ (t *ℤ i) *ℤ d ≡ t *ℤ (n *ℤ c +ℤ i *ℤ d)
times t n i c d = ring (t ∷ n ∷ i ∷ c ∷ d ∷ []) λ ρ e1 e2 e3 e4 e5. simp (Z·ring, e1, e2, e3, e4, e5) (by_ring _ _ _ refl)

last_out : (t k j a p : ℤ) → t *ℤ (k *ℤ a +ℤ j *ℤ p) ≡ (t *ℤ k) *ℤ a +ℤ j *ℤ (t *ℤ p)
last_out t k j a p = ring (t ∷ k ∷ j ∷ a ∷ p ∷ []) λ ρ e1 e2 e3 e4 e5. simp (Z·ring, e1, e2, e3, e4, e5) (by_ring _ _ _ refl)

last_in : (w j u v a b : ℤ) → w *ℤ a +ℤ j *ℤ (u *ℤ a +ℤ v *ℤ b) ≡ (w +ℤ j *ℤ u) *ℤ a +ℤ (j *ℤ v) *ℤ b
last_in w j u v a b = ring (w ∷ j ∷ u ∷ v ∷ a ∷ b ∷ []) λ ρ e1 e2 e3 e4 e5 e6. simp (Z·ring, e1, e2, e3, e4, e5, e6) (by_ring _ _ _ refl)

changed : (s t p : ℤ) → t *ℤ (s *ℤ p) ≡ s *ℤ (t *ℤ p)
changed s t p = ring (s ∷ t ∷ p ∷ []) λ ρ e1 e2 e3. simp (Z·ring, e1, e2, e3) (by_ring _ _ _ refl)

-- no part is lost
many : (t m : ℕ) → 0 < t → 0 < m → 0 < t * m
many (suc t) (suc m) h g = omega arith
many zero m h g = absurd (omega arith)
many (suc t) zero h g = absurd (omega arith)

parts : (t n i : ℕ) → 0 < t → 0 < n + i → 0 < t * n + t * i
parts t n i h g = let m = many t (n + i) h g in let e : t * (n + i) ≡ t * n + t * i = omega arith in omega (arith, m, e)

-- ---- what a line from a to a point of a-b shares with c-d, a-b shares with it
on_number : (c d a b p n i k j u v t : ℤ) → n *ℤ c +ℤ i *ℤ d ≡ k *ℤ a +ℤ j *ℤ p → u *ℤ a +ℤ v *ℤ b ≡ t *ℤ p
    → (t *ℤ n) *ℤ c +ℤ (t *ℤ i) *ℤ d ≡ (t *ℤ k +ℤ j *ℤ u) *ℤ a +ℤ (j *ℤ v) *ℤ b
on_number c d a b p n i k j u v t g h =
    times t n i c d ∙ ap (λ z. t *ℤ z) g ∙ last_out t k j a p ∙ ap (λ z. (t *ℤ k) *ℤ a +ℤ j *ℤ z) (sym h) ∙ last_in (t *ℤ k) j u v a b

on_parts : (n i k j u v : ℕ) → n + i ≡ k + j → (u + v) * n + (u + v) * i ≡ ((u + v) * k + j * u) + j * v
on_parts n i k j u v e = omega (arith, ap (λ q. (u + v) * q) e)

pub share_on : {c d a b p : Corner} → At a b p → Share c d a p → Share c d a b
share_on {c} {d} {a} {b} {p} h s =
    let t = h.n + h.i in
    let k = s.m - s.j in
    let w = s.m - s.i in
    shares (t * w) (t * s.i) (t * k + s.j * h.n) (s.j * h.i) (parts t w s.i h.some (omega arith)) (on_parts w s.i k s.j h.n h.i (omega arith))
    (on_number c.x d.x a.x b.x p.x (pos w) (pos s.i) (pos k) (pos s.j) (pos h.n) (pos h.i) (pos t) s.same_x h.at_x)
    (on_number c.y d.y a.y b.y p.y (pos w) (pos s.i) (pos k) (pos s.j) (pos h.n) (pos h.i) (pos t) s.same_y h.at_y)

-- ---- a point of two edges: they share it
both_number : (c d a b p n i m u v t : ℤ) → n *ℤ c +ℤ i *ℤ d ≡ m *ℤ p → u *ℤ a +ℤ v *ℤ b ≡ t *ℤ p
    → (t *ℤ n) *ℤ c +ℤ (t *ℤ i) *ℤ d ≡ (m *ℤ u) *ℤ a +ℤ (m *ℤ v) *ℤ b
both_number c d a b p n i m u v t g h = times t n i c d ∙ ap (λ z. t *ℤ z) g ∙ changed m t p ∙ ap (λ z. m *ℤ z) (sym h) ∙ sym (times m u v a b)

both_parts : (n i u v : ℕ) → (u + v) * n + (u + v) * i ≡ (n + i) * u + (n + i) * v
both_parts n i u v = omega arith

pub share_both : {c d a b p : Corner} → At c d p → At a b p → Share c d a b
share_both {c} {d} {a} {b} {p} g h =
    let m = g.n + g.i in
    let t = h.n + h.i in
    shares (t * g.n) (t * g.i) (m * h.n) (m * h.i) (parts t g.n g.i h.some g.some) (both_parts g.n g.i h.n h.i)
    (both_number c.x d.x a.x b.x p.x (pos g.n) (pos g.i) (pos m) (pos h.n) (pos h.i) (pos t) g.at_x h.at_x)
    (both_number c.y d.y a.y b.y p.y (pos g.n) (pos g.i) (pos m) (pos h.n) (pos h.i) (pos t) g.at_y h.at_y)
