-- Offset and m0 undone and the centre taken off, in units of 2^-30 m: how near these lengths are to the definition's, and how large they are. Assumes nothing.
use Rattle.std.specs.Prelude.{Bool, true, false, ◌≡◌, refl, [], ◌∷◌, ℕ, ◌+◌, ◌*◌, ◌/◌, ◌^◌, ◌≤◌, ◌<◌, ℤ, neg_ℤ, nat_abs, ◌-ℤ◌, ◌*ℤ◌}
use Rattle.std.proofs.Common.{◌∙◌, ap, le_trans, le_of_eq, mul-pos, arith, lit<, lit≤}
use Rattle.std.proofs.Math.Nat.{le_of_mul-le-mul_left}
use Rattle.std.proofs.Math.IntN.{pos}
use Rattle.arith.specs.Laws.Ring.{ring, Z·ring, by_ring, ev_num}
use Rattle.arith.specs.Laws.Within.{by_abs, w_sub}
use Rattle.arith.specs.Laws.Close.{Close, close_trans, close_sym, close_neg, close_same, close_floor, close_le}
use Rattle.rules.specs.Units.{millimetres_in_metre}
use Rattle.rules.specs.Systems.{Ellipsoid, GRS_80, Krasovsky, constants}
use Rattle.rules.specs.Scaled.{unit, one, quotient}
use Rattle.fixed.specs.Nearness.{NearAt, turned}
use Rattle.fixed.specs.Laws.Turned.{below_zero}
use Rattle.fixed.proofs.Laws.Turned.{turned_size}
use Rattle.fixed.proofs.Laws.Bounds.{w_same}
use Rattle.projection_worked.specs.Inverse.{undone30, centre30, centred30}
use Rattle.projection_worked.specs.Bounds.{limit30}
use Rattle.projection_worked.proofs.Laws.InverseLengths.{within}

-- a length near the definition's, from its distance in units of 2^-30 m
pub near_of : {n w : ℤ} {k : ℕ} → Close n (2 ^ 30) w unit k (2 ^ 30) → NearAt (2 ^ 30) n w (k * unit)
near_of {n} {w} {k} c = record { gap = by_abs _ (le_of_mul-le-mul_left {k = 2 ^ 30} (le_trans c.gap (le_of_eq (go k unit))) (lit< tt)) }
  where
    go : (k t : ℕ) → k * (2 ^ 30 * t) ≡ 2 ^ 30 * (k * t)
    go k t = omega arith

-- the definition's length of a millimetres
abbrev pub defined_length : ℤ → ℤ → ℤ
defined_length a m0 = quotient (a *ℤ pos (unit / millimetres_in_metre)) m0

pub turn_close : {v w : ℤ} {s t e d : ℕ} (b : Bool) → Close v s w t e d → Close (turned b v) s (turned b w) t e d
unfolding turned
turn_close true c = close_neg c
turn_close false c = c

times : (b : Bool) (n : ℕ) → turned b (pos (n * 1000 * 2 ^ 30)) ≡ turned b (pos n) *ℤ pos 1000 *ℤ pos (2 ^ 30)
unfolding turned
times false n = refl
times true n = go (pos n)
  where
    go : (z : ℤ) → neg_ℤ (z *ℤ pos 1000 *ℤ pos (2 ^ 30)) ≡ neg_ℤ z *ℤ pos 1000 *ℤ pos (2 ^ 30)
    go z = ring (z ∷ []) λ ρ ez. simp (Z·ring, ez, ev_num ρ) (by_ring _ _ _ refl)

module _ (M : ℕ) (h : 0 < M) (a : ℤ) where
  abbrev size : ℕ
  size = nat_abs a * 1000 * 2 ^ 30

  down : Close (turned (below_zero a) (pos (undone30 M (nat_abs a)))) (2 ^ 30) (turned (below_zero a) (pos size)) (2 ^ 30 * M) 1 (2 ^ 30)
  unfolding undone30
  down = turn_close (below_zero a) (close_floor (pos size) M (2 ^ 30) h)

  same : Close (turned (below_zero a) (pos size)) (2 ^ 30 * M) (a *ℤ pos (unit / millimetres_in_metre) *ℤ one) (unit * (M * 10 ^ 18)) 0 (2 ^ 30)
  same = close_same (2 ^ 30) (ap (λ z. z *ℤ pos (unit * (M * 10 ^ 18))) out ∙ law a (pos M))
    where
      out : turned (below_zero a) (pos size) ≡ a *ℤ pos 1000 *ℤ pos (2 ^ 30)
      out = times (below_zero a) (nat_abs a) ∙ ap (λ z. z *ℤ pos 1000 *ℤ pos (2 ^ 30)) (turned_size a)

      law : (a M : ℤ) → a *ℤ pos 1000 *ℤ pos (2 ^ 30) *ℤ (pos unit *ℤ (M *ℤ pos (10 ^ 18))) ≡ a *ℤ pos (10 ^ 21) *ℤ one *ℤ (pos (2 ^ 30) *ℤ M)
      law a M = ring (a ∷ M ∷ []) λ ρ ea e_m. simp (Z·ring, ea, e_m, ev_num ρ) (by_ring _ _ _ refl)

  up : Close (a *ℤ pos (unit / millimetres_in_metre) *ℤ one) (unit * (M * 10 ^ 18)) (defined_length a (pos (M * 10 ^ 18))) unit 1 unit
  unfolding quotient
  up = close_sym (close_floor (a *ℤ pos (unit / millimetres_in_metre) *ℤ one) (M * 10 ^ 18) unit (mul-pos h (lit< tt)))

  -- m0 of M millionths undone: within 2 units of 2^-30 m
  pub undone_near : NearAt (2 ^ 30) (turned (below_zero a) (pos (undone30 M (nat_abs a)))) (defined_length a (pos (M * 10 ^ 18))) (2 * unit)
  undone_near = near_of (close_trans (mul-pos (lit< tt) (mul-pos h (lit< tt))) (close_trans (mul-pos (lit< tt) h) down same) (close_le 1 (2 ^ 30) up tt tt))

-- ---- the centre
pub centre_near : (E : Ellipsoid) → NearAt (2 ^ 30) (pos (centre30 E)) (constants E).a0 (1 * unit)
unfolding centre30 constants
centre_near GRS_80 = record { gap = record { within = lit≤ tt } }
centre_near Krasovsky = record { gap = record { within = lit≤ tt } }

near_less : {s : ℕ} {n m x y : ℤ} {e f : ℕ} → NearAt s n x e → NearAt s m y f → NearAt s (n -ℤ m) (x -ℤ y) (e + f)
near_less {s} {n} {m} {x} {y} h k = record { gap = w_same _ (law n m x y (pos s) (pos unit)) (w_sub h.gap k.gap) }
  where
    law : (n m x y s U : ℤ) → (n *ℤ U -ℤ x *ℤ s) -ℤ (m *ℤ U -ℤ y *ℤ s) ≡ (n -ℤ m) *ℤ U -ℤ (x -ℤ y) *ℤ s
    law n m x y s U = ring (n ∷ m ∷ x ∷ y ∷ s ∷ U ∷ []) λ ρ e1 e2 e3 e4 e5 e6. simp (Z·ring, e1, e2, e3, e4, e5, e6) (by_ring _ _ _ refl)

pub centred_near : (E : Ellipsoid) {g : ℕ} {x : ℤ} → NearAt (2 ^ 30) (pos g) x (2 * unit) → NearAt (2 ^ 30) (centred30 E g) (x -ℤ (constants E).a0) (3 * unit)
unfolding centred30
centred_near E h = near_less h (centre_near E)

-- ---- how large: at most 485 km from the centre
pub centred_small : (E : Ellipsoid) {g : ℕ} → 5300000 * 2 ^ 30 ≤ g → g ≤ 6250000 * 2 ^ 30 → nat_abs (centred30 E g) ≤ 485000 * 2 ^ 30
unfolding centre30
centred_small GRS_80 = within GRS_80 (485000 * 2 ^ 30) (lit≤ tt) (lit≤ tt)
centred_small Krasovsky = within Krasovsky (485000 * 2 ^ 30) (lit≤ tt) (lit≤ tt)

pub to_limit : {n : ℕ} → n ≤ 485000 * 2 ^ 30 → n ≤ limit30
to_limit h = omega arith
