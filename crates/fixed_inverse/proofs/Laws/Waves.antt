-- One nest at scale 2^60 against a weighted sum of the definition's nests by quotients, all over one list of divisors: the law that lets a sum of sines of
-- multiples of an angle be worked as one series in the angle. The nest's coefficients are the weighted sums of the powers of the factors, over the product of
-- the divisors so far; the law takes any list of waves, of divisors and of coefficients. Assumes nothing.
use Rattle.std.specs.Prelude.{◌≡◌, refl, List, [], ◌∷◌, ℕ, ◌+◌, ◌*◌, ◌/◌, ◌<◌, ◌≤◌, T, ℤ, pos, ◌+ℤ◌, ◌-ℤ◌, ◌*ℤ◌, nat_abs}
use Rattle.std.proofs.Common.{◌∙◌, ap, subst, le_refl, mul-pos, arith, lit<}
use Rattle.arith.specs.Laws.Ring.{ring, Z·ring, by_ring, ev_num}
use Rattle.arith.specs.Floor.{floor}
use Rattle.arith.specs.Within.{Within}
use Rattle.arith.specs.Laws.Within.{by_abs, w_num, w_add, w_sub, w_mul}
use Rattle.rules.specs.Scaled.{unit, product, nested}
use Rattle.fixed.specs.Worked.{S60}
use Rattle.fixed.specs.Relations.{Mul60, Alternating60, none, step}
use Rattle.fixed.proofs.Laws.Products.{mul_rest}
use Rattle.fixed.proofs.Laws.Bounds.{w_div, w_same, w_pos, w_rest}
use Rattle.fixed.specs.Laws.Series.{top}
use Rattle.fixed.proofs.Laws.Series.{alt_top}
use Rattle.fixed.specs.Laws.Nested.{all_positive, nest_b, NearTimes}
use Rattle.fixed.proofs.Laws.Nested.{two_floors, nest_rest, near_cut, first_positive, rest_positive}

-- weight·(the definition's nest at the argument); the argument is the factor times the square of the angle, nearly
pub record Wave : Type 0 where
  pub weight : ℕ
  pub factor : ℕ
  pub argument : ℤ

-- the waves of the nest's next place: each weight times its factor
unfoldable pub next : List Wave → List Wave
next [] = []
next (w ∷ ws) = record { weight = w.weight * w.factor; factor = w.factor; argument = w.argument } ∷ next ws

unfoldable pub weights : List Wave → ℕ
weights [] = 0
weights (w ∷ ws) = w.weight + weights ws

-- the sum of weight·nest, and of weight·⌊⌊argument·nest⌋/m⌋
unfoldable pub total : List Wave → List ℕ → ℤ
total [] ms = pos 0
total (w ∷ ws) ms = pos w.weight *ℤ nested w.argument ms +ℤ total ws ms

unfoldable pub stepped : List Wave → ℕ → List ℕ → ℤ
stepped [] m ms = pos 0
stepped (w ∷ ws) m ms = pos w.weight *ℤ floor (product w.argument (nested w.argument ms)) m +ℤ stepped ws m ms

-- the argument is its factor times q, within e for each unit of the factor; and so for every wave
pub record Multiple (q e r : ℕ) (y : ℤ) : Type 0 where
  pub gap : Within (pos q *ℤ pos r *ℤ pos unit -ℤ y *ℤ pos S60) (r * e)

pub data Close (q e : ℕ) : List Wave → Type 0 where
  no_waves : Close q e []
  also : {w : Wave} {ws : List Wave} → Multiple q e w.factor w.argument → Close q e ws → Close q e (w ∷ ws)

pub close_next : {q e : ℕ} {ws : List Wave} → Close q e ws → Close q e (next ws)
unfolding next
close_next no_waves = no_waves
close_next (also h c) = also h (close_next c)

-- how large a wave's argument is
unfoldable pub reach : ℕ → ℕ → ℕ → ℕ
reach h e r = (h * r * unit + r * e) / S60

reach_law : {q h e r : ℕ} {y : ℤ} → q ≤ h → Multiple q e r y → Within y (reach h e r)
unfolding reach
reach_law {q} {h} {e} {r} {y} k c = w_div y S60 _ (lit< tt) (w_same (y *ℤ pos S60) (law (pos q *ℤ pos r *ℤ pos unit) (y *ℤ pos S60)) (w_sub (w_mul (w_mul (w_pos k) (w_num r)) (w_num unit)) c.gap))
  where
    law : (x y : ℤ) → x -ℤ (x -ℤ y) ≡ y
    law x y = ring (x ∷ y ∷ []) λ ρ ex ey. simp (Z·ring, ex, ey) (by_ring _ _ _ refl)

-- the size of the sum
unfoldable pub total_b : ℕ → ℕ → List Wave → List ℕ → ℕ
total_b h e [] ms = 0
total_b h e (w ∷ ws) ms = w.weight * nest_b (reach h e w.factor) ms + total_b h e ws ms

pub total_size : {q h e : ℕ} {ws : List Wave} (ms : List ℕ) → T (all_positive ms) → q ≤ h → Close q e ws → Within (total ws ms) (total_b h e ws ms)
unfolding total total_b
total_size ms t k no_waves = w_num 0
total_size ms t k (also {w} c cs) = w_add (w_mul (w_num w.weight) (nest_rest ms t (reach_law k c))) (total_size ms t k cs)

-- the nest's first place holds the weights, and what is taken from it the waves stepped once
total_first : (ws : List Wave) (m : ℕ) (ms : List ℕ) → pos (weights ws) *ℤ pos unit -ℤ stepped ws m ms ≡ total ws (m ∷ ms)
unfolding weights total stepped nested
total_first [] m ms = refl
total_first (w ∷ ws) m ms = law (pos w.weight) (pos (weights ws)) (pos unit) (floor (product w.argument (nested w.argument ms)) m) (stepped ws m ms) (total ws (m ∷ ms)) (total_first ws m ms)
  where
    split : (a b U z y : ℤ) → (a +ℤ b) *ℤ U -ℤ (a *ℤ z +ℤ y) ≡ a *ℤ (U -ℤ z) +ℤ (b *ℤ U -ℤ y)
    split a b U z y = ring (a ∷ b ∷ U ∷ z ∷ y ∷ []) λ ρ e1 e2 e3 e4 e5. simp (Z·ring, e1, e2, e3, e4, e5) (by_ring _ _ _ refl)

    law : (a b U z y x : ℤ) → b *ℤ U -ℤ y ≡ x → (a +ℤ b) *ℤ U -ℤ (a *ℤ z +ℤ y) ≡ a *ℤ (U -ℤ z) +ℤ x
    law a b U z y x e = split a b U z y ∙ ap (λ t. a *ℤ (U -ℤ z) +ℤ t) e

-- q times the sum of the next place, against the waves stepped once
unfoldable pub turn_e : ℕ → ℕ → ℕ → List ℕ → List Wave → ℕ
turn_e h e m ms [] = 0
turn_e h e m ms (w ∷ ws) = w.weight * (nest_b (reach h e w.factor) ms * (w.factor * e) + S60 * ((1 + m) * unit)) + turn_e h e m ms ws

turn_law : {q h e : ℕ} {ws : List Wave} (m : ℕ) (ms : List ℕ) → 0 < m → T (all_positive ms) → q ≤ h → Close q e ws → Within (pos q *ℤ pos unit *ℤ total (next ws) ms -ℤ stepped ws m ms *ℤ (pos m *ℤ pos S60 *ℤ pos unit)) (turn_e h e m ms ws)
unfolding total stepped next turn_e
turn_law {q} m ms hm t k no_waves = w_same _ (law (pos q) (pos unit) (pos m *ℤ pos S60 *ℤ pos unit)) (w_num 0)
  where
    law : (q U x : ℤ) → pos 0 ≡ q *ℤ U *ℤ pos 0 -ℤ pos 0 *ℤ x
    law q U x = ring (q ∷ U ∷ x ∷ []) λ ρ e1 e2 e3. simp (Z·ring, ev_num ρ, e1, e2, e3) (by_ring _ _ _ refl)
turn_law {q} m ms hm t k (also {w} {ws} c cs) =
    let n = nested w.argument ms in
    let z = floor (product w.argument n) m in
    w_same _ (law (pos q) (pos unit) (pos S60) (pos m) (pos w.weight) (pos w.factor) w.argument n z (total (next ws) ms) (stepped ws m ms))
    (w_add (w_mul (w_num w.weight) (w_add (w_mul (nest_rest ms t (reach_law k c)) c.gap) (w_mul (w_num S60) (two_floors w.argument n m hm)))) (turn_law m ms hm t k cs))
  where
    law : (q U S m a r y n z x v : ℤ) → a *ℤ (n *ℤ (q *ℤ r *ℤ U -ℤ y *ℤ S) +ℤ S *ℤ (y *ℤ n -ℤ z *ℤ m *ℤ U)) +ℤ (q *ℤ U *ℤ x -ℤ v *ℤ (m *ℤ S *ℤ U)) ≡ q *ℤ U *ℤ ((a *ℤ r) *ℤ n +ℤ x) -ℤ (a *ℤ z +ℤ v) *ℤ (m *ℤ S *ℤ U)
    law q U S m a r y n z x v = ring (q ∷ U ∷ S ∷ m ∷ a ∷ r ∷ y ∷ n ∷ z ∷ x ∷ v ∷ []) λ ρ e1 e2 e3 e4 e5 e6 e7 e8 e9 e10 e11. simp (Z·ring, e1, e2, e3, e4, e5, e6, e7, e8, e9, e10, e11) (by_ring _ _ _ refl)

-- one product of the code: r = q·v, less by under 2
unfoldable pub place_e : (h F m ev et : ℕ) → ℕ
place_e h F m ev et = (h * unit * ev + S60 * et + F * m * unit * unit * (2 * S60)) / (m * S60 * unit)

place_law : {q v r h e ev : ℕ} {ws : List Wave} (F m : ℕ) (ms : List ℕ) → 0 < m → 0 < m * S60 * unit → T (all_positive ms) → Mul60 q v r → q ≤ h → Close q e ws → NearTimes (F * m) v (total (next ws) ms) ev → NearTimes F r (stepped ws m ms) (place_e h F m ev (turn_e h e m ms ws))
unfolding place_e
place_law {q} {v} {r} {h} {e} {ev} {ws} F m ms hm hd t p k c w = record {
  gap = w_div (pos r *ℤ pos F *ℤ pos unit -ℤ stepped ws m ms *ℤ pos S60) (m * S60 * unit) _ hd
      (w_same _ (law (pos q) (pos v) (pos r) (pos F) (pos m) (pos unit) (pos S60) (total (next ws) ms) (stepped ws m ms))
      (w_sub (w_add (w_mul (w_mul (w_pos k) (w_num unit)) w.gap) (w_mul (w_num S60) (turn_law m ms hm t k c))) (w_mul (w_num (F * m * unit * unit)) (w_rest (q * v) (r * S60) (2 * S60) p.lo (mul_rest p)))));
}
  where
    law : (q v r F m U S W Z : ℤ) → (q *ℤ U) *ℤ (v *ℤ (F *ℤ m) *ℤ U -ℤ W *ℤ S) +ℤ S *ℤ (q *ℤ U *ℤ W -ℤ Z *ℤ (m *ℤ S *ℤ U)) -ℤ (F *ℤ m *ℤ U *ℤ U) *ℤ (q *ℤ v -ℤ r *ℤ S) ≡ (r *ℤ F *ℤ U -ℤ Z *ℤ S) *ℤ (m *ℤ S *ℤ U)
    law q v r F m U S W Z = ring (q ∷ v ∷ r ∷ F ∷ m ∷ U ∷ S ∷ W ∷ Z ∷ []) λ ρ e1 e2 e3 e4 e5 e6 e7 e8 e9. simp (Z·ring, e1, e2, e3, e4, e5, e6, e7, e8, e9) (by_ring _ _ _ refl)

-- c − r against the weights less what is stepped
unfoldable pub head_e : ℕ → ℕ → ℕ → ℕ
head_e c F a = nat_abs (pos c *ℤ pos F *ℤ pos unit -ℤ pos a *ℤ pos unit *ℤ pos S60)

head_law : {F c v r : ℕ} {y : ℤ} {e : ℕ} (a : ℕ) → v + r ≡ c → NearTimes F r y e → NearTimes F v (pos a *ℤ pos unit -ℤ y) (head_e c F a + e)
unfolding head_e
head_law {F} {c} {v} {r} {y} {e} a q n = subst (λ z. NearTimes F v (pos a *ℤ pos unit -ℤ y) (head_e z F a + e)) q (record { gap = w_same _ (law (pos v) (pos r) (pos F) (pos unit) (pos S60) y (pos a)) (w_sub (by_abs (pos (v + r) *ℤ pos F *ℤ pos unit -ℤ pos a *ℤ pos unit *ℤ pos S60) (le_refl _)) n.gap) })
  where
    law : (v r F U S y a : ℤ) → ((v +ℤ r) *ℤ F *ℤ U -ℤ a *ℤ U *ℤ S) -ℤ (r *ℤ F *ℤ U -ℤ y *ℤ S) ≡ v *ℤ F *ℤ U -ℤ (a *ℤ U -ℤ y) *ℤ S
    law v r F U S y a = ring (v ∷ r ∷ F ∷ U ∷ S ∷ y ∷ a ∷ []) λ ρ e1 e2 e3 e4 e5 e6 e7. simp (Z·ring, e1, e2, e3, e4, e5, e6, e7) (by_ring _ _ _ refl)

-- the error of the whole nest. Where the code's table ends the rest of the sum is what is missing; where the divisors end, only the last weights are left, and
-- what the code's table goes on with is too much
unfoldable pub waves_e : ℕ → ℕ → ℕ → List ℕ → List ℕ → List Wave → ℕ
waves_e h e F [] ms ws = total_b h e ws ms * S60
waves_e h e F (c ∷ []) [] ws = head_e c F (weights ws) + 0 * S60
waves_e h e F (c ∷ b ∷ cs) [] ws = c * F * unit + total_b h e ws [] * S60
waves_e h e F (c ∷ cs) (m ∷ ms) ws = head_e c F (weights ws) + place_e h F m (waves_e h e (F * m) cs ms (next ws)) (turn_e h e m ms ws)

same_value : {F v e : ℕ} {y z : ℤ} → y ≡ z → NearTimes F v y e → NearTimes F v z e
same_value {F} {v} {e} p n = subst (λ z. NearTimes F v z e) p n

scaled : (m : ℕ) → 0 < m → 0 < m * S60 * unit
scaled m h = mul-pos (mul-pos h (lit< tt)) (lit< tt)

last_law : {v c k : ℕ} {w : ℤ} (F : ℕ) → v ≤ c → Within w k → NearTimes F v w (c * F * unit + k * S60)
last_law F h k = record { gap = w_sub (w_mul (w_mul (w_pos h) (w_num F)) (w_num unit)) (w_mul k (w_num S60)) }

-- nothing times anything, against nothing
near_nothing : {q r : ℕ} (F : ℕ) → Mul60 q 0 r → NearTimes F r (pos 0) (0 * S60)
near_nothing {q} {r} F m = subst (λ z. NearTimes F z (pos 0) (0 * S60)) (go m.lo) (near_cut F (w_num 0))
  where
    go : r * S60 ≤ q * 0 → 0 ≡ r
    go k = omega arith

total_last : (ws : List Wave) → pos (weights ws) *ℤ pos unit -ℤ pos 0 ≡ total ws []
unfolding weights total nested
total_last [] = refl
total_last (w ∷ ws) = law (pos w.weight) (pos (weights ws)) (pos unit) (total ws []) (total_last ws)
  where
    split : (a b U : ℤ) → (a +ℤ b) *ℤ U -ℤ pos 0 ≡ a *ℤ U +ℤ (b *ℤ U -ℤ pos 0)
    split a b U = ring (a ∷ b ∷ U ∷ []) λ ρ e1 e2 e3. simp (Z·ring, ev_num ρ, e1, e2, e3) (by_ring _ _ _ refl)

    law : (a b U x : ℤ) → b *ℤ U -ℤ pos 0 ≡ x → (a +ℤ b) *ℤ U -ℤ pos 0 ≡ a *ℤ U +ℤ x
    law a b U x e = split a b U ∙ ap (λ t. a *ℤ U +ℤ t) e

pub near_waves : {q v h e : ℕ} {cs : List ℕ} {ws : List Wave} (F : ℕ) (ms : List ℕ) → T (all_positive ms) → q ≤ h → Close q e ws → Alternating60 q cs v → NearTimes F v (total ws ms) (waves_e h e F cs ms ws)
unfolding waves_e top
near_waves F ms t k c none = near_cut F (total_size ms t k c)
near_waves {ws = ws} F [] t k c (step none p e) = same_value (total_last ws) (head_law (weights ws) e (near_nothing F p))
near_waves F [] t k c (step (step a n d) m e) = last_law F (alt_top (step (step a n d) m e)) (total_size [] t k c)
near_waves {ws = ws} F (m ∷ ms) t k c (step a p e) = same_value (total_first ws m ms) (head_law (weights ws) e (place_law F m ms (first_positive m ms t) (scaled m (first_positive m ms t)) (rest_positive m ms t) p k c (near_waves (F * m) ms (rest_positive m ms t) k (close_next c) a)))
