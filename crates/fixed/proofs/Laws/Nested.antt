-- A sine or cosine: the worked nest by coefficients 1/k!, against the definition's nest by quotients. With F the product of the quotients so far, v·F is near
-- the definition's value. Assumes nothing.
use Rattle.std.specs.Prelude.{true, false, ◌≡◌, refl, List, [], ◌∷◌, ℕ, ◌+◌, ◌*◌, ◌-◌, ◌/◌, ◌<◌, ◌≤◌, T, leb, ltb, ℤ, pos, neg_ℤ, ◌+ℤ◌, ◌-ℤ◌, ◌*ℤ◌, nat_abs}
use Rattle.std.proofs.Common.{subst, le_of_lt, le_refl, mul-le-mul_right, arith, ltb→lt, lit<}
use Rattle.arith.specs.Laws.Ring.{ring, Z·ring, by_ring, ev_num}
use Rattle.arith.specs.Floor.{floor}
use Rattle.arith.specs.Within.{Within}
use Rattle.arith.specs.Laws.Within.{by_abs, w_num, w_add, w_sub, w_neg, w_mul}
use Rattle.rules.specs.Scaled.{unit, product, nested}
use Rattle.fixed.specs.Worked.{S60, alt60}
use Rattle.fixed.specs.Nearness.{Near60, Fixed}
use Rattle.fixed.specs.Relations.{Mul60, Alternating60, none, step, falls}
use Rattle.fixed.proofs.Laws.Loops.{both}
use Rattle.fixed.proofs.Laws.Bounds.{w_div, w_same, w_up, w_pos, w_rest, w_floor_rest, w_floor}
use Rattle.fixed.proofs.Laws.Products.{mul_gen, near_most}
use Rattle.fixed.specs.Laws.Series.{top, alt_b}
use Rattle.fixed.proofs.Laws.Series.{alt_top, alt_least, fixed_alt}
use Rattle.fixed.specs.Laws.Nested.{NearTimes, all_positive, nest_b, nest_e, prod_e}

-- ⌊⌊x·y⌋/m⌋·m against x·y
pub two_floors : (x y : ℤ) (m : ℕ) → 0 < m → Within (x *ℤ y -ℤ floor (product x y) m *ℤ pos m *ℤ pos unit) ((1 + m) * unit)
unfolding product
two_floors x y m h =
    w_up _ (go m)
    (w_same _ (law (x *ℤ y) (product x y) (floor (product x y) m *ℤ pos m) (pos unit))
    (w_add (w_floor_rest (x *ℤ y) unit (lit< tt)) (w_mul (w_floor_rest (product x y) m h) (w_num unit))))
  where
    law : (p r q U : ℤ) → (p -ℤ r *ℤ U) +ℤ (r -ℤ q) *ℤ U ≡ p -ℤ q *ℤ U
    law p r q U = ring (p ∷ r ∷ q ∷ U ∷ []) λ ρ e1 e2 e3 e4. simp (Z·ring, e1, e2, e3, e4) (by_ring _ _ _ refl)

    go : (m : ℕ) → unit + m * unit ≤ (1 + m) * unit
    go m = omega arith

pub first_positive : (m : ℕ) (ms : List ℕ) → T (all_positive (m ∷ ms)) → 0 < m
unfolding all_positive
first_positive m ms t = ltb→lt 0 m (both (ltb 0 m) (all_positive ms) t).0

pub rest_positive : (m : ℕ) (ms : List ℕ) → T (all_positive (m ∷ ms)) → T (all_positive ms)
unfolding all_positive
rest_positive m ms t = (both (ltb 0 m) (all_positive ms) t).1

pub nest_rest : {x : ℤ} {h : ℕ} (ms : List ℕ) → T (all_positive ms) → Within x h → Within (nested x ms) (nest_b h ms)
unfolding nested nest_b product
nest_rest [] t k = w_num unit
nest_rest (m ∷ ms) t k =
    w_sub (w_num unit) (w_floor m (first_positive m ms t) (w_floor unit (lit< tt) (w_mul k (nest_rest ms (rest_positive m ms t) k))))

near_prod : {q v r : ℕ} {x y : ℤ} {h e hv ev : ℕ} (F m : ℕ)
    → 0 < m
    → Mul60 q v r
    → q ≤ h
    → v ≤ hv
    → Near60 q x e
    → NearTimes (F * m) v y ev
    → NearTimes F r (floor (product x y) m) (prod_e h e F m hv ev)
unfolding prod_e
near_prod {q} {v} {r} {x} {y} {h} {e} {hv} {ev} F m hm p hq hv' n w = record {
  gap =
      w_div (pos r *ℤ pos F *ℤ pos unit -ℤ floor (product x y) m *ℤ pos S60) m _ hm
      (w_same _ (law (pos r) (pos F) (pos m) (pos unit) (floor (product x y) m) (pos S60))
      (mul_gen S60 S60 unit (2 * (F * m)) (1 + m) q (v * (F * m)) (r * (F * m)) x y (floor (product x y) m *ℤ pos m) (lit< tt) (w_pos hq)
      (w_pos (mul-le-mul_right (F * m) hv')) n.gap w.gap
      (w_rest (q * (v * (F * m))) (r * (F * m) * S60) (2 * (F * m) * S60) (lo (F * m) (mul-le-mul_right (F * m) p.lo)) (hi (F * m) (mul-le-mul_right (F * m) (le_of_lt p.hi))))
      (two_floors x y m hm)));
}
  where
    law : (r F m U R S : ℤ) → r *ℤ (F *ℤ m) *ℤ U -ℤ R *ℤ m *ℤ S ≡ (r *ℤ F *ℤ U -ℤ R *ℤ S) *ℤ m
    law r F m U R S = ring (r ∷ F ∷ m ∷ U ∷ R ∷ S ∷ []) λ ρ e1 e2 e3 e4 e5 e6. simp (Z·ring, e1, e2, e3, e4, e5, e6) (by_ring _ _ _ refl)

    lo : (g : ℕ) → r * S60 * g ≤ q * v * g → r * g * S60 ≤ q * (v * g)
    lo g k = omega arith

    hi : (g : ℕ) → q * v * g ≤ (r + 2) * S60 * g → q * (v * g) ≤ r * g * S60 + 2 * g * S60
    hi g k = omega arith

-- c − r
near_step : {F c v r : ℕ} {y : ℤ} {e : ℕ} → v + r ≡ c → NearTimes F r y e → NearTimes F v (pos unit -ℤ y) (nat_abs (pos c *ℤ pos F *ℤ pos unit -ℤ pos unit *ℤ pos S60) + e)
near_step {F} {c} {v} {r} {y} {e} q n =
    subst (λ z. NearTimes F v (pos unit -ℤ y) (nat_abs (pos z *ℤ pos F *ℤ pos unit -ℤ pos unit *ℤ pos S60) + e)) q
    (record {
      gap = w_same _ (law (pos v) (pos r) (pos F) (pos unit) (pos S60) y) (w_sub (by_abs (pos (v + r) *ℤ pos F *ℤ pos unit -ℤ pos unit *ℤ pos S60) (le_refl _)) n.gap);
    })
  where
    law : (v r F U S y : ℤ) → ((v +ℤ r) *ℤ F *ℤ U -ℤ U *ℤ S) -ℤ (r *ℤ F *ℤ U -ℤ y *ℤ S) ≡ v *ℤ F *ℤ U -ℤ (U -ℤ y) *ℤ S
    law v r F U S y = ring (v ∷ r ∷ F ∷ U ∷ S ∷ y ∷ []) λ ρ e1 e2 e3 e4 e5 e6. simp (Z·ring, e1, e2, e3, e4, e5, e6) (by_ring _ _ _ refl)

-- where the code's table ends, and where the definition's does
pub near_cut : {w : ℤ} {k : ℕ} (F : ℕ) → Within w k → NearTimes F 0 w (k * S60)
near_cut {w} F h = record { gap = w_same _ (law w (pos F) (pos unit) (pos S60)) (w_neg (w_mul h (w_num S60))) }
  where
    law : (w F U S : ℤ) → neg_ℤ (w *ℤ S) ≡ pos 0 *ℤ F *ℤ U -ℤ w *ℤ S
    law w F U S = ring (w ∷ F ∷ U ∷ S ∷ []) λ ρ e1 e2 e3 e4. simp (Z·ring, ev_num ρ, e1, e2, e3, e4) (by_ring _ _ _ refl)

near_end : {v c : ℕ} (F : ℕ) → v ≤ c → NearTimes F v (pos unit) (c * F * unit + unit * S60)
near_end F h = record { gap = w_sub (w_mul (w_mul (w_pos h) (w_num F)) (w_num unit)) (w_num (unit * S60)) }

near_nest : {q v : ℕ} {x : ℤ} {h e : ℕ} {cs : List ℕ} (F : ℕ) (ms : List ℕ) → T (all_positive ms) → Near60 q x e → q ≤ h → Alternating60 q cs v → NearTimes F v (nested x ms) (nest_e h e F cs ms)
unfolding nest_e nested top
near_nest F ms t n k none = near_cut F (nest_rest ms t (near_most n k))
near_nest F [] t n k (step a m e) = near_end F (alt_top (step a m e))
near_nest F (d ∷ ms) t n k (step a m e) =
    near_step e (near_prod F d (first_positive d ms t) m k (alt_top a) n (near_nest (F * d) ms (rest_positive d ms t) n k a))

near_quotients : {q v : ℕ} {x : ℤ} {e hi : ℕ} {cs : List ℕ} (ms : List ℕ) → T (all_positive ms) → Alternating60 q cs v → Near60 q x e → q ≤ hi → Near60 v (nested x ms) (nest_e hi e 1 cs ms)
near_quotients {v = v} {x = x} ms t a n k = record { gap = w_same _ (law (pos v) (nested x ms) (pos unit) (pos S60)) (near_nest 1 ms t n k a).gap }
  where
    law : (v w U S : ℤ) → v *ℤ pos 1 *ℤ U -ℤ w *ℤ S ≡ v *ℤ U -ℤ w *ℤ S
    law v w U S = ring (v ∷ w ∷ U ∷ S ∷ []) λ ρ e1 e2 e3 e4. simp (Z·ring, ev_num ρ, e1, e2, e3, e4) (by_ring _ _ _ refl)

-- the nest of a table that falls, at a number whose bound is at most 1, against the definition's nest by divisors
pub fix_nested : {q : ℕ} {x : ℤ} {e lo hi : ℕ} (cs ms : List ℕ)
    → T (all_positive ms)
    → T (falls S60 cs)
    → Fixed q x e lo hi
    → T (leb hi S60)
    → Fixed (alt60 q cs) (nested x ms) (nest_e hi e 1 cs ms) (alt_b false lo hi cs) (alt_b true lo hi cs)
fix_nested cs ms t s f u =
    let a = fixed_alt cs s f u in
    let r = alt_least f.low f.high a in
    record { near = near_quotients ms t a f.near f.high; low = r.0; high = r.1 }
