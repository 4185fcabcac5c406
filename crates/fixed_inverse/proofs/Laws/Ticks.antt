-- An angle at scale 2^60 in ticks: times 648,000,000,000 / π, then to the nearest whole number, ties to even. Assumes nothing.
use Rattle.std.specs.Prelude.{Bool, true, false, ◌≡◌, refl, [], ◌∷◌, ℕ, zero, suc, ◌+◌, ◌*◌, ◌-◌, ◌/◌, ◌%◌, ◌^◌, ◌<◌, ◌≤◌, T, leb, ltb, ℤ, pos, neg_ℤ, ◌+ℤ◌, ◌-ℤ◌, ◌*ℤ◌, nat_abs}
use Rattle.std.proofs.Common.{subst, le_refl, le_trans, div-add-mod', mod-lt, arith, leb→le, ltb→lt, nltb→le, lit<, lit≤}
use Rattle.arith.specs.Laws.Diff.{◌⊖◌, Z·ℕ}
use Rattle.arith.specs.Laws.Ring.{ring, Z·ring, by_ring, ev_num}
use Rattle.arith.specs.Within.{Within}
use Rattle.arith.specs.Laws.Within.{by_abs, w_num, w_add, w_sub, w_mul}
use Rattle.rules.specs.Units.{half_turn_in_ticks}
use Rattle.rules.specs.Scaled.{unit, Pi, turned_to}
use Rattle.fixed.specs.Worked.{S60, mul60}
use Rattle.fixed.specs.Nearness.{NearAt, Near60, Ratio, turned}
use Rattle.fixed.specs.Relations.{Mul60}
use Rattle.fixed.proofs.Laws.Words.{mul60_is}
use Rattle.fixed.proofs.Laws.Bounds.{w_div, w_same, w_pos, w_rest}
use Rattle.fixed.proofs.Laws.Products.{mul_rest}
use Rattle.fixed.proofs.Laws.Quotients.{ratio_div}
use Rattle.fixed.proofs.Laws.Turned.{ratio_turned}
use Rattle.fixed_inverse.specs.Worked.{TickC, nearest_even, ticks60}

-- ---- the nearest whole number
pub record Nearest (n d r : ℕ) : Type 0 where
  pub half : 2 * nat_abs (pos r *ℤ pos d -ℤ pos n) ≤ d
  pub even : 2 * nat_abs (pos r *ℤ pos d -ℤ pos n) ≡ d → r % 2 ≡ 0

-- q = n / d with the rest r
module _ (n d q r : ℕ) (e : q * d + r ≡ n) (h : r < d) where
  gap_down : nat_abs (pos q *ℤ pos d -ℤ pos n) ≡ r
  gap_down = simp Z·ℕ (omega arith)

  gap_up : nat_abs (pos (q + 1) *ℤ pos d -ℤ pos n) ≡ d - r
  gap_up = simp Z·ℕ (omega arith)

  down : 2 * r < d → Nearest n d q
  down k = record { half = omega (arith, gap_down); even = λ t. absurd (never (nat_abs (pos q *ℤ pos d -ℤ pos n)) gap_down t) }
    where
      never : (x : ℕ) → x ≡ r → 2 * x ≡ d → ⊥
      never x a b = omega arith

  up : d < 2 * r → Nearest n d (q + 1)
  up k = record { half = omega (arith, gap_up); even = λ t. absurd (never (nat_abs (pos (q + 1) *ℤ pos d -ℤ pos n)) gap_up t) }
    where
      never : (x : ℕ) → x ≡ d - r → 2 * x ≡ d → ⊥
      never x a b = omega arith

  tie_odd : 2 * r ≡ d → q % 2 ≡ 1 → Nearest n d (q + 1)
  tie_odd k o = record { half = omega (arith, gap_up); even = λ t. next q o }
    where
      next : (q : ℕ) → q % 2 ≡ 1 → (q + 1) % 2 ≡ 0
      next q a = omega arith

  tie_even : 2 * r ≡ d → q % 2 ≡ 0 → Nearest n d (q + 0)
  tie_even k o = subst (λ z. Nearest n d z) (same q) (record { half = omega (arith, gap_down); even = λ t. o })
    where
      same : (q : ℕ) → q ≡ q + 0
      same q = omega arith

  tie : (z : ℕ) → q % 2 ≡ z → z < 2 → 2 * r ≡ d → Nearest n d (q + z)
  tie z a b k = go z a b
    where
      go : (z : ℕ) → q % 2 ≡ z → z < 2 → Nearest n d (q + z)
      go zero a b = tie_even k a
      go (suc zero) a b = tie_odd k a
      go (suc (suc z)) a b = absurd (omega arith)

pub nearest_even_is : (n d : ℕ) → 0 < d → Nearest n d (nearest_even n d)
unfolding nearest_even
nearest_even_is n d h = go (ltb (2 * (n % d)) d) (ltb d (2 * (n % d))) refl refl
  where
    go : (a b : Bool) → ltb (2 * (n % d)) d ≡ a → ltb d (2 * (n % d)) ≡ b → Nearest n d (elim a [ true ↦ n / d | false ↦ elim b [ true ↦ n / d + 1 | false ↦ n / d + n / d % 2 ] ])
    go true b x y = down n d (n / d) (n % d) (div-add-mod' n d) (mod-lt n h) (ltb→lt (2 * (n % d)) d (rw x tt))
    go false true x y = up n d (n / d) (n % d) (div-add-mod' n d) (mod-lt n h) (ltb→lt d (2 * (n % d)) (rw y tt))
    go false false x y = tie n d (n / d) (n % d) (div-add-mod' n d) (mod-lt n h) (n / d % 2) refl (mod-lt (n / d) (lit< tt)) (equal (nltb→le (2 * (n % d)) d (rw x tt)) (nltb→le d (2 * (n % d)) (rw y tt)))
      where
        equal : {a b : ℕ} → b ≤ a → a ≤ b → a ≡ b
        equal p q = omega arith

-- ---- ticks at scale 2^22: n = b·TickC / 2^60, against the definition's angle in ticks
unfoldable pub tick_e : ℕ → ℕ → ℕ
tick_e hb e = (half_turn_in_ticks * 2 ^ 22 * unit * e + hb * unit * nat_abs (pos TickC *ℤ pos Pi -ℤ pos (half_turn_in_ticks * 2 ^ 22) *ℤ pos unit) + S60 * 2 ^ 22 * (1 * Pi) + unit * Pi * (2 * S60)) / (S60 * Pi)

pub near_ticks : {b n e : ℕ} {B W : ℤ} (hb : ℕ) → Mul60 b TickC n → b ≤ hb → Near60 b B e → Ratio W (B *ℤ pos half_turn_in_ticks) (pos Pi) 1 → NearAt (2 ^ 22) (pos n) W (tick_e hb e)
unfolding tick_e
near_ticks {b} {n} {e} {B} {W} hb m k h r = record {
  gap = w_div (pos n *ℤ pos unit -ℤ W *ℤ pos (2 ^ 22)) (S60 * Pi) _ (lit< tt)
      (w_same _ (law (pos b) (pos n) (pos TickC) (pos half_turn_in_ticks) (pos Pi) (pos unit) (pos S60) B W)
      (w_sub
      (w_sub
      (w_add (w_mul (w_num (half_turn_in_ticks * 2 ^ 22 * unit)) h.gap) (w_mul (w_mul (w_pos k) (w_num unit)) (by_abs (pos TickC *ℤ pos Pi -ℤ pos (half_turn_in_ticks * 2 ^ 22) *ℤ pos unit) (le_refl _))))
      (w_mul (w_num (S60 * 2 ^ 22)) r.gap))
      (w_mul (w_num (unit * Pi)) (w_rest (b * TickC) (n * S60) (2 * S60) m.lo (mul_rest m)))));
}
  where
    law : (b n C h P U S B W : ℤ)
        → (h *ℤ pos (2 ^ 22) *ℤ U) *ℤ (b *ℤ U -ℤ B *ℤ S) +ℤ (b *ℤ U) *ℤ (C *ℤ P -ℤ (h *ℤ pos (2 ^ 22)) *ℤ U) -ℤ (S *ℤ pos (2 ^ 22)) *ℤ (W *ℤ P -ℤ (B *ℤ h) *ℤ U) -ℤ (U *ℤ P) *ℤ (b *ℤ C -ℤ n *ℤ S)
        ≡ (n *ℤ U -ℤ W *ℤ pos (2 ^ 22)) *ℤ (S *ℤ P)
    law b n C h P U S B W = ring (b ∷ n ∷ C ∷ h ∷ P ∷ U ∷ S ∷ B ∷ W ∷ []) λ ρ e1 e2 e3 e4 e5 e6 e7 e8 e9. simp (Z·ring, ev_num ρ, e1, e2, e3, e4, e5, e6, e7, e8, e9) (by_ring _ _ _ refl)

-- the definition's angle in ticks, on either side of 0
turned_times : {W y : ℤ} {k : ℕ} (s : Bool) (x h : ℤ) → Ratio W (x *ℤ h) y k → Ratio (turned s W) (turned s x *ℤ h) y k
unfolding turned
turned_times false x h r = r
turned_times {W} {y} {k} true x h r = subst (λ z. Ratio (neg_ℤ W) z y k) (law x h) (ratio_turned true r)
  where
    law : (x y : ℤ) → neg_ℤ (x *ℤ y) ≡ neg_ℤ x *ℤ y
    law x y = ring (x ∷ y ∷ []) λ ρ ex ey. simp (Z·ring, ex, ey) (by_ring _ _ _ refl)

ticks_ratio : (s : Bool) (B : ℤ) → Ratio (turned s (turned_to half_turn_in_ticks B)) (turned s B *ℤ pos half_turn_in_ticks) (pos Pi) 1
unfolding turned_to
ticks_ratio s B = turned_times s B (pos half_turn_in_ticks) (ratio_div (B *ℤ pos half_turn_in_ticks) (pos Pi) (lit< tt))

-- the answer t lies within k thousandths of a tick of the definition's value
pub record Tick (k t : ℕ) (value : ℤ) : Type 0 where
  pub bound : 1000 * nat_abs (pos t *ℤ pos unit -ℤ value) ≤ k * unit

round_law : {n t e : ℕ} {W : ℤ} (k : ℕ) → NearAt (2 ^ 22) (pos n) W e → Nearest n (2 ^ 22) t → T (leb (1000 * (2 ^ 21 * unit + e)) (k * unit * 2 ^ 22)) → Tick k t W
round_law {n} {t} {e} {W} k a r q = record { bound = fin (nat_abs (pos t *ℤ pos unit -ℤ W)) gap.within (leb→le _ (k * unit * 2 ^ 22) q) }
  where
    half : Within (pos t *ℤ pos (2 ^ 22) -ℤ pos n) (2 ^ 21)
    half = record { within = go (nat_abs (pos t *ℤ pos (2 ^ 22) -ℤ pos n)) r.half }
      where
        go : (x : ℕ) → 2 * x ≤ 2 ^ 22 → x ≤ 2 ^ 21
        go x h = omega arith

    gap : Within (pos t *ℤ pos unit -ℤ W) ((2 ^ 21 * unit + e) / 2 ^ 22)
    gap = w_div (pos t *ℤ pos unit -ℤ W) (2 ^ 22) _ (lit< tt) (w_same _ (law (pos t) (pos n) (pos unit) W) (w_add (w_mul half (w_num unit)) a.gap))
      where
        law : (t n U W : ℤ) → (t *ℤ pos (2 ^ 22) -ℤ n) *ℤ U +ℤ (n *ℤ U -ℤ W *ℤ pos (2 ^ 22)) ≡ (t *ℤ U -ℤ W) *ℤ pos (2 ^ 22)
        law t n U W = ring (t ∷ n ∷ U ∷ W ∷ []) λ ρ e1 e2 e3 e4. simp (Z·ring, ev_num ρ, e1, e2, e3, e4) (by_ring _ _ _ refl)

    fin : (x : ℕ) → x ≤ (2 ^ 21 * unit + e) / 2 ^ 22 → 1000 * (2 ^ 21 * unit + e) ≤ k * unit * 2 ^ 22 → 1000 * x ≤ k * unit
    fin x h j = omega arith

pub tick_near : {b e : ℕ} (s : Bool) (B : ℤ) (k hb : ℕ) → b ≤ hb → Near60 b (turned s B) e → T (leb hb (2 ^ 61)) → T (leb (1000 * (2 ^ 21 * unit + tick_e hb e)) (k * unit * 2 ^ 22)) → Tick k (ticks60 b) (turned s (turned_to half_turn_in_ticks B))
unfolding ticks60
tick_near {b} s B k hb h n u t = round_law k (near_ticks hb (mul60_is b TickC (le_trans h (leb→le hb (2 ^ 61) u)) (lit≤ tt)) h n (ticks_ratio s B)) (nearest_even_is (mul60 b TickC) (2 ^ 22) (lit< tt)) t
