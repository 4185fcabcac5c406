-- The tests of refusals 3 and 4 as the code makes them, against the paper's. Assumes nothing.
use Rattle.std.specs.Prelude.{Bool, true, false, ◌≡◌, refl, [], ◌∷◌, ℕ, ◌*◌, ◌^◌, ℤ, pos, neg_ℤ, nat_abs, ◌+ℤ◌, ◌-ℤ◌, ◌*ℤ◌, ◌≤ℤ◌}
use Rattle.std.proofs.Math.Bool.{◌||◌}
use Rattle.std.proofs.Common.{sym, ◌∙◌, ap, arith}
use Rattle.std.proofs.Math.Path.{ap₂}
use Rattle.std.specs.Int.Signed.{lt_z}
use Rattle.arith.specs.Laws.Diff.{Z·ℕ, lin}
use Rattle.arith.specs.Laws.Ring.{ring, Z·ring, by_ring, ev_num, ev_nneg}
use Rattle.rules.specs.Systems.{System}
use Rattle.rules.specs.Scaled.{one}
use Rattle.rules.specs.Points.{above, longitude_bad, plane_bad, metres_times_m0}
use Rattle.rules.proofs.Laws.Checks.{lt_z_false, or_false}
use Rattle.systems.specs.Zones.{beyond, Stands}
use Rattle.systems.specs.declared.Zone.{Zone}

-- "ends allowed"
low_end : beyond (pos 48) (pos 56) (pos 48) ≡ false
low_end = refl

high_end : beyond (pos 48) (pos 56) (pos 56) ≡ false
high_end = refl

-- two tests that fail together and are met together are one
same_test : (a b : Bool) → (a ≡ false → b ≡ false) → (b ≡ false → a ≡ false) → a ≡ b
same_test true true h k = refl
same_test true false h k = k refl
same_test false true h k = sym (h refl)
same_test false false h k = refl

-- the same ends and number, the same test
pub same_beyond : {a b n x y m : ℤ} → a ≡ x → b ≡ y → n ≡ m → beyond a b n ≡ beyond x y m
same_beyond {n = n} {x} {y} e f g = ap₂ (λ a b. beyond a b n) e f ∙ ap (λ t. beyond x y t) g

pub same_box : {o M n x m k : ℤ} (low high : ℤ) → o ≡ x → M ≡ m → n ≡ k → beyond (o +ℤ M *ℤ low) (o +ℤ M *ℤ high) n ≡ beyond (x +ℤ m *ℤ low) (x +ℤ m *ℤ high) k
same_box low high e f g = same_beyond (ap₂ (λ o M. o +ℤ M *ℤ low) e f) (ap₂ (λ o M. o +ℤ M *ℤ high) e f) g

-- a size above a reach is a number outside the band of that reach
pub above_band : (m r l : ℤ) → above (l -ℤ m) r ≡ beyond (m -ℤ r) (m +ℤ r) l
unfolding above
above_band m r l =
    same_test _ _
    (λ e. (or_false _ _).1 ((lt_z_false _ _).1 (down ((lt_z_false _ _).0 e)), (lt_z_false _ _).1 (up ((lt_z_false _ _).0 e))))
    (λ e. let o = (or_false _ _).0 e in (lt_z_false _ _).1 (back ((lt_z_false _ _).0 o.0) ((lt_z_false _ _).0 o.1)))
  where
    down : pos (nat_abs (l -ℤ m)) ≤ℤ r → (m -ℤ r) ≤ℤ l
    down = lin (m ∷ r ∷ l ∷ []) λ u v em er el. simp (Z·ℕ, em, er, el) (omega arith)

    up : pos (nat_abs (l -ℤ m)) ≤ℤ r → l ≤ℤ (m +ℤ r)
    up = lin (m ∷ r ∷ l ∷ []) λ u v em er el. simp (Z·ℕ, em, er, el) (omega arith)

    back : (m -ℤ r) ≤ℤ l → l ≤ℤ (m +ℤ r) → pos (nat_abs (l -ℤ m)) ≤ℤ r
    back = lin (m ∷ r ∷ l ∷ []) λ u v em er el. simp (Z·ℕ, em, er, el) (omega arith)

-- a test is the same of both numbers' 10^24-folds
unscaled : (a b : ℤ) → lt_z (a *ℤ one) (b *ℤ one) ≡ lt_z a b
unscaled a b =
    same_test _ _ (λ e. (lt_z_false _ _).1 (down ((lt_z_false _ _).0 e))) (λ e. (lt_z_false _ _).1 (up ((lt_z_false _ _).0 e)))
  where
    down : (b *ℤ one) ≤ℤ (a *ℤ one) → b ≤ℤ a
    down = lin (a ∷ b ∷ []) λ u v ea eb. simp (Z·ℕ, ea, eb) (omega arith)

    up : b ≤ℤ a → (b *ℤ one) ≤ℤ (a *ℤ one)
    up = lin (a ∷ b ∷ []) λ u v ea eb. simp (Z·ℕ, ea, eb) (omega arith)

-- X less an offset against a limit is X against the limit moved by the offset
moved_low : (X o t : ℤ) → lt_z (X -ℤ o) t ≡ lt_z X (o +ℤ t)
moved_low X o t =
    same_test _ _ (λ e. (lt_z_false _ _).1 (down ((lt_z_false _ _).0 e))) (λ e. (lt_z_false _ _).1 (up ((lt_z_false _ _).0 e)))
  where
    down : t ≤ℤ (X -ℤ o) → (o +ℤ t) ≤ℤ X
    down = lin (X ∷ o ∷ t ∷ []) λ u v e_x eo et. simp (Z·ℕ, e_x, eo, et) (omega arith)

    up : (o +ℤ t) ≤ℤ X → t ≤ℤ (X -ℤ o)
    up = lin (X ∷ o ∷ t ∷ []) λ u v e_x eo et. simp (Z·ℕ, e_x, eo, et) (omega arith)

moved_high : (X o t : ℤ) → lt_z t (X -ℤ o) ≡ lt_z (o +ℤ t) X
moved_high X o t =
    same_test _ _ (λ e. (lt_z_false _ _).1 (down ((lt_z_false _ _).0 e))) (λ e. (lt_z_false _ _).1 (up ((lt_z_false _ _).0 e)))
  where
    down : (X -ℤ o) ≤ℤ t → X ≤ℤ (o +ℤ t)
    down = lin (X ∷ o ∷ t ∷ []) λ u v e_x eo et. simp (Z·ℕ, e_x, eo, et) (omega arith)

    up : X ≤ℤ (o +ℤ t) → (X -ℤ o) ≤ℤ t
    up = lin (X ∷ o ∷ t ∷ []) λ u v e_x eo et. simp (Z·ℕ, e_x, eo, et) (omega arith)

-- a limit of k km: in millimetres times m0, a millionth of m0 is a millimetre in a km
limit : (k : ℤ) (M : ℤ) → (k *ℤ pos 1_000_000) *ℤ (M *ℤ pos (10 ^ 18)) ≡ (M *ℤ k) *ℤ one
limit k M = ring (k ∷ M ∷ []) λ ρ ek e_m. simp (Z·ring, ek, e_m, ev_num ρ) (by_ring _ _ _ refl)

size_band : (z r : ℤ) → above z r ≡ beyond (neg_ℤ r) r z
size_band z r = ap (λ t. above t r) (plain z) ∙ above_band (pos 0) r z ∙ ap₂ (λ a b. beyond a b z) (low r) (high r)
  where
    plain : (z : ℤ) → z ≡ z -ℤ pos 0
    plain z = lin (z ∷ []) λ u v ez. simp (Z·ℕ, ez) (omega arith)

    low : (r : ℤ) → pos 0 -ℤ r ≡ neg_ℤ r
    low r = lin (r ∷ []) λ u v er. simp (Z·ℕ, er) (omega arith)

    high : (r : ℤ) → pos 0 +ℤ r ≡ r
    high r = lin (r ∷ []) λ u v er. simp (Z·ℕ, er) (omega arith)

neg_times : (a b : ℤ) → neg_ℤ (a *ℤ b) ≡ neg_ℤ a *ℤ b
neg_times a b = ring (a ∷ b ∷ []) λ ρ ea eb. simp (Z·ring, ea, eb) (by_ring _ _ _ refl)

neg_limit : (M : ℤ) → neg_ℤ (M *ℤ pos 420) ≡ M *ℤ neg_ℤ (pos 420)
neg_limit M = ring (M ∷ []) λ ρ e_m. simp (Z·ring, e_m, ev_num ρ, ev_nneg ρ) (by_ring _ _ _ refl)

module _ (z : Zone) (s : System) (h : Stands z s) where
  -- the paper's limit of k km, as a multiple of 10^24
  km : (k : ℕ) → pos (k * 1_000_000) *ℤ s.m0 ≡ (z.millionths *ℤ pos k) *ℤ one
  km k = ap (λ m. pos (k * 1_000_000) *ℤ m) h.scale ∙ limit (pos k) z.millionths

  below : (X o : ℤ) (k : ℕ) → lt_z ((X -ℤ o) *ℤ one) (pos (k * 1_000_000) *ℤ s.m0) ≡ lt_z X (o +ℤ z.millionths *ℤ pos k)
  below X o k = ap (λ t. lt_z ((X -ℤ o) *ℤ one) t) (km k) ∙ unscaled (X -ℤ o) (z.millionths *ℤ pos k) ∙ moved_low X o (z.millionths *ℤ pos k)

  beyond_high : (X o : ℤ) (k : ℕ) → lt_z (pos (k * 1_000_000) *ℤ s.m0) ((X -ℤ o) *ℤ one) ≡ lt_z (o +ℤ z.millionths *ℤ pos k) X
  beyond_high X o k = ap (λ t. lt_z t ((X -ℤ o) *ℤ one)) (km k) ∙ unscaled (z.millionths *ℤ pos k) (X -ℤ o) ∙ moved_high X o (z.millionths *ℤ pos k)

  aside : (Y o : ℤ) → above ((Y -ℤ o) *ℤ one) (pos (420 * 1_000_000) *ℤ s.m0) ≡ beyond (o +ℤ z.millionths *ℤ neg_ℤ (pos 420)) (o +ℤ z.millionths *ℤ pos 420) Y
  aside Y o =
      size_band ((Y -ℤ o) *ℤ one) (pos (420 * 1_000_000) *ℤ s.m0)
      ∙ ap₂ ◌||◌
      (ap (λ t. lt_z ((Y -ℤ o) *ℤ one) t) (ap neg_ℤ (km 420) ∙ neg_times (z.millionths *ℤ pos 420) one ∙ ap (λ t. t *ℤ one) (neg_limit z.millionths))
      ∙ unscaled (Y -ℤ o) (z.millionths *ℤ neg_ℤ (pos 420)) ∙ moved_low Y o (z.millionths *ℤ neg_ℤ (pos 420)))
      (beyond_high Y o 420)

  -- refusal 4 by the code's limits
  pub plane_limits : (X Y : ℤ) → plane_bad s X Y
      ≡ (beyond (z.north +ℤ z.millionths *ℤ pos 5300) (z.north +ℤ z.millionths *ℤ pos 6250) X
      || beyond (z.east +ℤ z.millionths *ℤ neg_ℤ (pos 420)) (z.east +ℤ z.millionths *ℤ pos 420) Y)
  unfolding plane_bad metres_times_m0
  plane_limits X Y =
      ap₂ ◌||◌
      (ap₂ ◌||◌
      (ap (λ o. lt_z ((X -ℤ o) *ℤ one) (pos (5300 * 1_000_000) *ℤ s.m0)) h.north ∙ below X z.north 5300)
      (ap (λ o. lt_z (pos (6250 * 1_000_000) *ℤ s.m0) ((X -ℤ o) *ℤ one)) h.north ∙ beyond_high X z.north 6250))
      (ap (λ o. above ((Y -ℤ o) *ℤ one) (pos (420 * 1_000_000) *ℤ s.m0)) h.east ∙ aside Y z.east)

  -- refusal 3 by the code's limits
  pub longitude_limits : (L : ℤ) → longitude_bad s L ≡ beyond (z.meridian -ℤ z.reach) (z.meridian +ℤ z.reach) L
  unfolding longitude_bad
  longitude_limits L = ap₂ (λ m r. above (L -ℤ m) r) h.meridian h.reach ∙ above_band z.meridian z.reach L
