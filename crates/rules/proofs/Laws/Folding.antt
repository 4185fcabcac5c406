-- The test `folds` is right: an edge a-b and the edge b-c after it share a point that is not b, or a-b has no length. Assumes nothing.
use Rattle.std.specs.Prelude.{◌≡◌, refl, Bool, true, false, not, ◌&&◌, ◌||◌, ◌⊎◌, ◌↔◌, List, [], ◌∷◌, ℕ, zero, suc, ◌+◌, ◌*◌, ◌-◌, ◌<◌, ◌≤◌, T, ℤ, negsuc, ◌+ℤ◌, ◌-ℤ◌, ◌*ℤ◌, neg_ℤ, ◌≤ℤ◌, ◌<ℤ◌}
use Rattle.std.proofs.Common.{sym, ◌∙◌, subst, inl, inr, arith}
use Rattle.std.proofs.Math.Path.{ap, ap₂}
use Rattle.std.proofs.Math.Logic.{⊎_elim}
use Rattle.std.proofs.Math.IntN.{pos}
use Rattle.std.specs.Int.Signed.{le_z, lt_z, lt_z_no, lt_z_yes, le_z_yes, clash_ℤ}
use Rattle.arith.specs.Laws.Diff.{◌⊖◌, Z·ℕ, lin}
use Rattle.arith.specs.Laws.Ring.{ring, Z·ring, by_ring}
use Rattle.arith.specs.Laws.Order.{≤ℤ_or-<ℤ, ≤ℤ_antisym, ≤ℤ_of_eq, <ℤ→≤ℤ, *ℤ_cancel, sq_nonneg, mul_zero, mul_nonneg, +ℤ_mono}
use Rattle.rules.proofs.Laws.Signs.{≥0, >0, Nat, nat, Minus, minus, as_nat, as_minus, nat_le}
use Rattle.rules.specs.Rings.{Corner, Edge, ◌to◌, D, Share, ShareOff, is_zero}
use Rattle.rules.specs.Crossing.{folds}
use Rattle.rules.proofs.Laws.Meeting.{T_and, and_T, T_or, or_T, gone}

-- ---- tests
pub zero_T : (z : ℤ) → z ≡ pos 0 → T (is_zero z)
zero_T z e = subst (λ (t : ℤ). T (is_zero t)) (sym e) tt

pub T_zero : (z : ℤ) → T (is_zero z) → z ≡ pos 0
T_zero z t = let s = T_and (le_z z (pos 0)) (le_z (pos 0) z) t in ≤ℤ_antisym (le_z_yes s.0) (le_z_yes s.1)

-- ---- numbers: d = b - a, g = c - b; D = d·d and G = d·g. On one line, D g = G d
along_x : (ax ay bx by cx cy : ℤ) → ((bx -ℤ ax) *ℤ (bx -ℤ ax) +ℤ (by -ℤ ay) *ℤ (by -ℤ ay)) *ℤ (cx -ℤ bx)
    ≡ ((bx -ℤ ax) *ℤ (cx -ℤ bx) +ℤ (by -ℤ ay) *ℤ (cy -ℤ by)) *ℤ (bx -ℤ ax) +ℤ ((bx -ℤ ax) *ℤ (cy -ℤ ay) -ℤ (cx -ℤ ax) *ℤ (by -ℤ ay)) *ℤ neg_ℤ (by -ℤ ay)
along_x ax ay bx by cx cy =
    ring (ax ∷ ay ∷ bx ∷ by ∷ cx ∷ cy ∷ []) λ ρ e1 e2 e3 e4 e5 e6. simp (Z·ring, e1, e2, e3, e4, e5, e6) (by_ring _ _ _ refl)

along_y : (ax ay bx by cx cy : ℤ) → ((bx -ℤ ax) *ℤ (bx -ℤ ax) +ℤ (by -ℤ ay) *ℤ (by -ℤ ay)) *ℤ (cy -ℤ by)
    ≡ ((bx -ℤ ax) *ℤ (cx -ℤ bx) +ℤ (by -ℤ ay) *ℤ (cy -ℤ by)) *ℤ (by -ℤ ay) +ℤ ((bx -ℤ ax) *ℤ (cy -ℤ ay) -ℤ (cx -ℤ ax) *ℤ (by -ℤ ay)) *ℤ (bx -ℤ ax)
along_y ax ay bx by cx cy =
    ring (ax ∷ ay ∷ bx ∷ by ∷ cx ∷ cy ∷ []) λ ρ e1 e2 e3 e4 e5 e6. simp (Z·ring, e1, e2, e3, e4, e5, e6) (by_ring _ _ _ refl)

plus_zero : (t s : ℤ) → t +ℤ pos 0 *ℤ s ≡ t
plus_zero t s = lin (t ∷ s ∷ []) λ u v e1 e2. simp (Z·ℕ, e1, e2) (omega arith)

dot : Corner → Corner → Corner → ℤ
dot a b c = (b.x -ℤ a.x) *ℤ (c.x -ℤ b.x) +ℤ (b.y -ℤ a.y) *ℤ (c.y -ℤ b.y)

size : Corner → Corner → ℤ
size a b = (b.x -ℤ a.x) *ℤ (b.x -ℤ a.x) +ℤ (b.y -ℤ a.y) *ℤ (b.y -ℤ a.y)

size_nat : (a b : Corner) → ≥0 (size a b)
unfolding size
size_nat a b = subst (λ (t : ℤ). t ≤ℤ size a b) refl (+ℤ_mono (sq_nonneg (b.x -ℤ a.x)) (sq_nonneg (b.y -ℤ a.y)))

fold_x : (a b c : Corner) → D a b c ≡ pos 0 → size a b *ℤ (c.x -ℤ b.x) ≡ dot a b c *ℤ (b.x -ℤ a.x)
unfolding D dot size
fold_x a b c z = along_x a.x a.y b.x b.y c.x c.y ∙ ap (λ t. dot a b c *ℤ (b.x -ℤ a.x) +ℤ t *ℤ neg_ℤ (b.y -ℤ a.y)) z ∙ plus_zero (dot a b c *ℤ (b.x -ℤ a.x)) (neg_ℤ (b.y -ℤ a.y))

fold_y : (a b c : Corner) → D a b c ≡ pos 0 → size a b *ℤ (c.y -ℤ b.y) ≡ dot a b c *ℤ (b.y -ℤ a.y)
unfolding D dot size
fold_y a b c z = along_y a.x a.y b.x b.y c.x c.y ∙ ap (λ t. dot a b c *ℤ (b.y -ℤ a.y) +ℤ t *ℤ (b.x -ℤ a.x)) z ∙ plus_zero (dot a b c *ℤ (b.y -ℤ a.y)) (b.x -ℤ a.x)

-- ---- they run back on one another: m = D - G, i = j = D
back_at : (a b c : ℤ) (k n : ℕ) → pos k *ℤ (c -ℤ b) ≡ (0 ⊖ n) *ℤ (b -ℤ a) → pos n *ℤ a +ℤ pos k *ℤ b ≡ pos n *ℤ b +ℤ pos k *ℤ c
back_at a b c k n = lin (a ∷ b ∷ c ∷ []) λ u v e1 e2 e3. simp (Z·ℕ, e1, e2, e3) (omega arith)

still : (a b : ℤ) (n k : ℕ) → 0 < n → pos n *ℤ a +ℤ pos k *ℤ b ≡ pos (k + n) *ℤ b → a ≡ b
still a b n k h e = *ℤ_cancel (pos n) a b (pos_lt n h) (go a b e)
  where
    pos_lt : (n : ℕ) → 0 < n → >0 (pos n)
    pos_lt n h = simp Z·ℕ (omega arith)

    go : (a b : ℤ) → pos n *ℤ a +ℤ pos k *ℤ b ≡ pos (k + n) *ℤ b → pos n *ℤ a ≡ pos n *ℤ b
    go a b = lin (a ∷ b ∷ []) λ u v e1 e2. simp (Z·ℕ, e1, e2) (omega arith)

no_dot : (a b c : Corner) → a.x ≡ b.x → a.y ≡ b.y → dot a b c ≡ pos 0
unfolding dot
no_dot a b c ex ey = ap₂ (λ s t. (b.x -ℤ s) *ℤ (c.x -ℤ b.x) +ℤ (b.y -ℤ t) *ℤ (c.y -ℤ b.y)) ex ey ∙ go b.x b.y (c.x -ℤ b.x) (c.y -ℤ b.y)
  where
    go : (x y g h : ℤ) → (x -ℤ x) *ℤ g +ℤ (y -ℤ y) *ℤ h ≡ pos 0
    go x y g h = lin (x ∷ y ∷ g ∷ h ∷ []) λ u v e1 e2 e3 e4. simp (Z·ℕ, e1, e2, e3, e4) (omega arith)

share_off : (a b c : Corner) → D a b c ≡ pos 0 → dot a b c <ℤ pos 0 → ShareOff a b c
share_off a b c z l = go (size a b) (dot a b c) (as_nat (size_nat a b)) (as_minus (dot a b c) (neg_ge (dot a b c) l)) l (fold_x a b c z) (fold_y a b c z) (no_dot a b c)
  where
    neg_ge : (G : ℤ) → G <ℤ pos 0 → ≥0 (neg_ℤ G)
    neg_ge G = lin (G ∷ []) λ u v e. simp (Z·ℕ, e) (omega arith)

    go : (M G : ℤ) → Nat M → Minus G → G <ℤ pos 0 → M *ℤ (c.x -ℤ b.x) ≡ G *ℤ (b.x -ℤ a.x) → M *ℤ (c.y -ℤ b.y) ≡ G *ℤ (b.y -ℤ a.y)
        → (a.x ≡ b.x → a.y ≡ b.y → G ≡ pos 0) → ShareOff a b c
    go M G (nat k) (minus n) l ex ey none =
        let n>0 = simp Z·ℕ at l in
        let e : (k + n) - k ≡ n = omega arith in
        record {
          shared = record {
            m = k + n;
            i = k;
            j = k;
            some = omega arith;
            i_in = omega arith;
            j_in = omega arith;
            same_x = rw e (back_at a.x b.x c.x k n ex);
            same_y = rw e (back_at a.y b.y c.y k n ey);
          };
          off = λ w. let g = none (still a.x b.x n k (omega arith) (rw e at w.0)) (still a.y b.y n k (omega arith) (rw e at w.1)) in
              let g' = simp Z·ℕ at g in omega arith;
        }

-- ---- and the other way
-- what a shared point says of the two edges
relate : (a b c : ℤ) (n i k j : ℕ) → n + i ≡ k + j → pos n *ℤ a +ℤ pos i *ℤ b ≡ pos k *ℤ b +ℤ pos j *ℤ c → pos j *ℤ (c -ℤ b) ≡ (0 ⊖ n) *ℤ (b -ℤ a)
relate a b c n i k j z = lin (a ∷ b ∷ c ∷ []) λ u v e1 e2 e3. simp (Z·ℕ, e1, e2, e3) (omega (arith, ap (λ t. t * u 1) z, ap (λ t. t * v 1) z))

on_corner : (a b : ℤ) (n i : ℕ) → (0 ⊖ n) *ℤ (b -ℤ a) ≡ pos 0 → pos n *ℤ a +ℤ pos i *ℤ b ≡ pos (n + i) *ℤ b
on_corner a b n i = lin (a ∷ b ∷ []) λ u v e1 e2. simp (Z·ℕ, e1, e2) (omega arith)

side_by : (j ax ay bx by cx cy : ℤ) → j *ℤ ((bx -ℤ ax) *ℤ (cy -ℤ ay) -ℤ (cx -ℤ ax) *ℤ (by -ℤ ay)) ≡ (bx -ℤ ax) *ℤ (j *ℤ (cy -ℤ by)) -ℤ (j *ℤ (cx -ℤ bx)) *ℤ (by -ℤ ay)
side_by j ax ay bx by cx cy =
    ring (j ∷ ax ∷ ay ∷ bx ∷ by ∷ cx ∷ cy ∷ []) λ ρ e0 e1 e2 e3 e4 e5 e6. simp (Z·ring, e0, e1, e2, e3, e4, e5, e6) (by_ring _ _ _ refl)

dot_by : (j dx dy gx gy : ℤ) → j *ℤ (dx *ℤ gx +ℤ dy *ℤ gy) ≡ dx *ℤ (j *ℤ gx) +ℤ dy *ℤ (j *ℤ gy)
dot_by j dx dy gx gy = ring (j ∷ dx ∷ dy ∷ gx ∷ gy ∷ []) λ ρ e0 e1 e2 e3 e4. simp (Z·ring, e0, e1, e2, e3, e4) (by_ring _ _ _ refl)

size_by : (n dx dy : ℤ) → dx *ℤ (n *ℤ dx) +ℤ dy *ℤ (n *ℤ dy) ≡ n *ℤ (dx *ℤ dx +ℤ dy *ℤ dy)
size_by n dx dy = ring (n ∷ dx ∷ dy ∷ []) λ ρ e0 e1 e2. simp (Z·ring, e0, e1, e2) (by_ring _ _ _ refl)

-- a sum of two squares that is 0
no_size : (x y : ℤ) → x *ℤ x +ℤ y *ℤ y ≡ pos 0 → (x ≡ pos 0) × (y ≡ pos 0)
no_size x y e =
    let z = split (x *ℤ x) (y *ℤ y) (sq_nonneg x) (sq_nonneg y) e in
    (⊎_elim (λ h. h) (λ h. h) (mul_zero x x z.0), ⊎_elim (λ h. h) (λ h. h) (mul_zero y y z.1))
  where
    split : (s t : ℤ) → ≥0 s → ≥0 t → s +ℤ t ≡ pos 0 → (s ≡ pos 0) × (t ≡ pos 0)
    split s t = lin (s ∷ t ∷ []) λ u v e1 e2. simp (Z·ℕ, e1, e2) (omega arith)

by_zero : (n x : ℤ) → (n ≡ pos 0) ⊎ (x ≡ pos 0) → n *ℤ x ≡ pos 0
by_zero n x (inl e) = ap (λ t. t *ℤ x) e ∙ lin (x ∷ []) (λ u v e1. simp (Z·ℕ, e1) (omega arith))
by_zero n x (inr e) = ap (λ t. n *ℤ t) e ∙ lin (n ∷ []) (λ u v e1. simp (Z·ℕ, e1) (omega arith))

-- 0 ≤ j G = -n D with D not negative
no_product : (n : ℕ) (M : ℤ) → ≥0 M → ≥0 ((0 ⊖ n) *ℤ M) → (0 ⊖ n) *ℤ M ≡ pos 0
no_product n M h k = go n (as_nat h) k
  where
    go : (n : ℕ) {M : ℤ} → Nat M → ≥0 ((0 ⊖ n) *ℤ M) → (0 ⊖ n) *ℤ M ≡ pos 0
    go n (nat d) k = let k' = simp Z·ℕ at k in simp Z·ℕ (omega arith)

module _ (a b c : Corner) (o : ShareOff a b c) where
  s : Share a b b c
  s = o.shared

  n : ℕ
  n = s.m - s.i

  sums : n + s.i ≡ (s.m - s.j) + s.j
  unfolding n s
  sums = omega (arith, s.i_in, s.j_in)

  rx : pos s.j *ℤ (c.x -ℤ b.x) ≡ (0 ⊖ n) *ℤ (b.x -ℤ a.x)
  unfolding n
  rx = relate a.x b.x c.x n s.i (s.m - s.j) s.j sums s.same_x

  ry : pos s.j *ℤ (c.y -ℤ b.y) ≡ (0 ⊖ n) *ℤ (b.y -ℤ a.y)
  unfolding n
  ry = relate a.y b.y c.y n s.i (s.m - s.j) s.j sums s.same_y

  not_still : (0 ⊖ n) *ℤ (b.x -ℤ a.x) ≡ pos 0 → (0 ⊖ n) *ℤ (b.y -ℤ a.y) ≡ pos 0 → ⊥
  unfolding n s
  not_still ex ey =
      let e : n + s.i ≡ s.m = omega (arith, s.i_in) in
      o.off (on_corner a.x b.x n s.i ex ∙ ap (λ t. pos t *ℤ b.x) e, on_corner a.y b.y n s.i ey ∙ ap (λ t. pos t *ℤ b.y) e)

  one_line : D a b c ≡ pos 0
  unfolding D
  one_line = ⊎_elim (λ h. absurd (not_still (sym rx ∙ by_zero (pos s.j) (c.x -ℤ b.x) (inl h)) (sym ry ∙ by_zero (pos s.j) (c.y -ℤ b.y) (inl h)))) (λ h. h)
      (mul_zero (pos s.j) (D a b c)
      (side_by (pos s.j) a.x a.y b.x b.y c.x c.y
      ∙ ap₂ (λ t w. (b.x -ℤ a.x) *ℤ t -ℤ w *ℤ (b.y -ℤ a.y)) ry rx
      ∙ gone (0 ⊖ n) (b.x -ℤ a.x) (b.y -ℤ a.y)))

  dot_size : pos s.j *ℤ dot a b c ≡ (0 ⊖ n) *ℤ size a b
  unfolding dot size
  dot_size =
      dot_by (pos s.j) (b.x -ℤ a.x) (b.y -ℤ a.y) (c.x -ℤ b.x) (c.y -ℤ b.y)
      ∙ ap₂ (λ t w. (b.x -ℤ a.x) *ℤ t +ℤ (b.y -ℤ a.y) *ℤ w) rx ry
      ∙ size_by (0 ⊖ n) (b.x -ℤ a.x) (b.y -ℤ a.y)

  run_back : dot a b c <ℤ pos 0
  unfolding size
  run_back = ⊎_elim (λ h. absurd (stop h)) (λ h. h) (≤ℤ_or-<ℤ (pos 0) (dot a b c))
    where
      stop : ≥0 (dot a b c) → ⊥
      stop h = ⊎_elim
          (λ z. not_still (by_zero (0 ⊖ n) (b.x -ℤ a.x) (inl z)) (by_zero (0 ⊖ n) (b.y -ℤ a.y) (inl z)))
          (λ z. let w = no_size (b.x -ℤ a.x) (b.y -ℤ a.y) z in not_still (by_zero (0 ⊖ n) (b.x -ℤ a.x) (inr w.0)) (by_zero (0 ⊖ n) (b.y -ℤ a.y) (inr w.1)))
          (mul_zero (0 ⊖ n) (size a b) (no_product n (size a b) (size_nat a b) (subst (λ (t : ℤ). ≥0 t) dot_size (mul_nonneg (nat_le s.j) h))))

-- ---- the test and the rule
apart_zero : (x y : ℤ) → (y -ℤ x ≡ pos 0) ↔ (x ≡ y)
apart_zero x y = lin (x ∷ y ∷ []) λ u v e1 e2. simp (Z·ℕ, e1, e2) (omega arith)

pub folds_rule : (a b c : Corner) → T (folds (a to b) (b to c)) ↔ (ShareOff a b c ⊎ (a ≡ b))
unfolding folds dot
folds_rule a b c = (there, back)
  where
    l : Bool
    l = is_zero (D a b c)

    g : Bool
    g = lt_z (dot a b c) (pos 0)

    zx : Bool
    zx = is_zero (b.x -ℤ a.x)

    zy : Bool
    zy = is_zero (b.y -ℤ a.y)

    there : T ((l && g) || (zx && zy)) → ShareOff a b c ⊎ (a ≡ b)
    there t = ⊎_elim
        (λ h. let u = T_and l g h in inl (share_off a b c (T_zero (D a b c) u.0) (lt_z_yes u.1)))
        (λ h. let u = T_and zx zy h in
        let ex : a.x ≡ b.x = (apart_zero a.x b.x).0 (T_zero (b.x -ℤ a.x) u.0) in
        let ey : a.y ≡ b.y = (apart_zero a.y b.y).0 (T_zero (b.y -ℤ a.y) u.1) in
        inr (λ i. record { x = ex i; y = ey i }))
        (T_or (l && g) (zx && zy) t)

    back : ShareOff a b c ⊎ (a ≡ b) → T ((l && g) || (zx && zy))
    back (inl o) = or_T (l && g) (zx && zy) (inl (and_T l g (zero_T (D a b c) (one_line a b c o)) (run_back a b c o).lt))
    back (inr e) = or_T (l && g) (zx && zy) (inr (and_T zx zy
        (zero_T (b.x -ℤ a.x) ((apart_zero a.x b.x).1 (ap (λ c. c.x) e)))
        (zero_T (b.y -ℤ a.y) ((apart_zero a.y b.y).1 (ap (λ c. c.y) e)))))
