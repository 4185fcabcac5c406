-- 01, Refusal numbers and their order: "given exactly when". Each test of Points and RingAnswers fails exactly where the paper's words hold; and the checks, one after
-- the other, as equations for a proof to rewrite by. Assumes nothing.
use Rattle.std.specs.Prelude.{◌≡◌, Bool, true, false, ◌||◌, ◌↔◌, ◌⊎◌, ℕ, suc, ◌*◌, ◌^◌, ◌<◌, ◌≤◌, T, ltb, ℤ, pos, negsuc, ◌-ℤ◌, ◌*ℤ◌, nat_abs, length, ◌≤ℤ◌, ◌<ℤ◌}
use Rattle.std.proofs.Math.Path.{refl}
use Rattle.std.proofs.Common.{sym, subst, inl, inr, ⊎_elim, arith, ltb→lt, nltb→le, le→leb}
use mathlib.Core.List.Memᴰ
use mathlib.Core.List.{List, [], ◌∷◌, map, Memᴰ}
use Rattle.std.specs.Int.Signed.{lt_z, lt_z_yes, lt_z_no, clash_ℤ, ≤ℤ_refl}
use Rattle.arith.specs.Laws.Diff.{◌⊖◌, Z·ℕ, lin}
use Rattle.arith.specs.Laws.Order.{≤ℤ_trans, <ℤ→≤ℤ}
use Rattle.rules.specs.Units.{◌°◌'◌''}
use Rattle.rules.specs.Refusals.{Answer, answered, refused, crossed_at, ◌>>=◌, ◌>>◌, ◌if◌, latitude_outside, longitude_outside, plane_outside}
use Rattle.rules.specs.Systems.{System, system}
use Rattle.rules.specs.Scaled.{one}
use Rattle.rules.specs.Points.{Ticks, above, latitude_bad, longitude_bad, plane_bad, metres_times_m0, offset_X, offset_Y, forward_checks, inverse_checks, judged}
use Rattle.rules.specs.Rings.{Corner}
use Rattle.rules.specs.RingAnswers.{number_bad, count_bad, larger, smaller, largest, smallest, span, span_bad}

-- ---- tests and what they test
is_true : (b : Bool) → T b → b ≡ true
is_true true t = refl
is_true false t = absurd t

is_false : (b : Bool) → ¬ T b → b ≡ false
is_false true h = absurd (h tt)
is_false false h = refl

pub lt_z_false : (a b : ℤ) → (lt_z a b ≡ false) ↔ (b ≤ℤ a)
lt_z_false a b = (λ e. lt_z_no (rw e tt), λ h. is_false (lt_z a b) (λ t. clash_ℤ (lt_z_yes t) h))

pub lt_z_true : (a b : ℤ) → (lt_z a b ≡ true) ↔ (a <ℤ b)
lt_z_true a b = (λ e. lt_z_yes (rw e tt), λ h. is_true (lt_z a b) h.lt)

pub ltb_false : (a b : ℕ) → (ltb a b ≡ false) ↔ (b ≤ a)
ltb_false a b = (λ e. nltb→le a b (rw e tt), λ h. is_false (ltb a b) (λ t. let l = ltb→lt a b t in omega (arith, h)))

pub or_false : (x y : Bool) → ((x || y) ≡ false) ↔ ((x ≡ false) × (y ≡ false))
or_false true y = (λ e. (e, absurd (subst T e tt)), λ h. h.0)
or_false false y = (λ e. (refl, e), λ h. h.1)

-- the size of z is above n
pub above_exact : (z : ℤ) (n : ℕ) → (above z (pos n) ≡ false) ↔ (nat_abs z ≤ n)
unfolding above
above_exact z n = (λ e. (ltb_false n (nat_abs z)).0 e, λ h. (ltb_false n (nat_abs z)).1 h)

-- ---- 2: "B outside 48° to 56°, ends allowed"
pub latitude_exact : (B : ℤ) → (latitude_bad B ≡ false) ↔ ((pos (48 ° 0 ' 0 '') ≤ℤ B) × (B ≤ℤ pos (56 ° 0 ' 0 '')))
unfolding latitude_bad
latitude_exact B = (
  λ e. let o = (or_false (lt_z B (pos (48 ° 0 ' 0 ''))) (lt_z (pos (56 ° 0 ' 0 '')) B)).0 e in ((lt_z_false _ _).0 o.0, (lt_z_false _ _).0 o.1),
  λ h. (or_false (lt_z B (pos (48 ° 0 ' 0 ''))) (lt_z (pos (56 ° 0 ' 0 '')) B)).1 ((lt_z_false _ _).1 h.0, (lt_z_false _ _).1 h.1),
)

-- ---- 3: "size of L - L0 above the half-width, exact"
pub longitude_exact : (s : System) (L : ℤ) → (longitude_bad s L ≡ false) ↔ (nat_abs (L -ℤ s.L0) ≤ s.half_width)
unfolding longitude_bad
longitude_exact s L = above_exact (L -ℤ s.L0) s.half_width

-- ---- 6: "corner count outside 3 to 1,024"
pub count_exact : (r : List Corner) → (count_bad r ≡ false) ↔ ((3 ≤ length r) × (length r ≤ 1024))
unfolding count_bad
count_exact r = (
  λ e. let o = (or_false (ltb (length r) 3) (ltb 1024 (length r))).0 e in ((ltb_false (length r) 3).0 o.0, (ltb_false 1024 (length r)).0 o.1),
  λ h. (or_false (ltb (length r) 3) (ltb 1024 (length r))).1 ((ltb_false (length r) 3).1 h.0, (ltb_false 1024 (length r)).1 h.1),
)

-- ---- 7: "a corner number outside ±10^10"
pub number_exact : (z : ℤ) → (number_bad z ≡ false) ↔ (nat_abs z ≤ 10 ^ 10)
unfolding number_bad
number_exact z = above_exact z (10 ^ 10)

-- ---- the checks in their order
pub forward_1 : (code n : ℕ) (B L : ℤ) → system code ≡ refused n → forward_checks code B L ≡ refused n
unfolding forward_checks
forward_1 code n B L e = rw e refl

module _ (code : ℕ) (s : System) (B L : ℤ) (e : system code ≡ answered s) where
  pub forward_2 : latitude_bad B ≡ true → forward_checks code B L ≡ refused 2
  unfolding forward_checks
  forward_2 g = rw (e, g) refl

  pub forward_3 : latitude_bad B ≡ false → longitude_bad s L ≡ true → forward_checks code B L ≡ refused 3
  unfolding forward_checks
  forward_3 g h = rw (e, g, h) refl

  pub forward_passes : latitude_bad B ≡ false → longitude_bad s L ≡ false → forward_checks code B L ≡ answered s
  unfolding forward_checks
  forward_passes g h = rw (e, g, h) refl

pub inverse_1 : (code n : ℕ) (X Y : ℤ) → system code ≡ refused n → inverse_checks code X Y ≡ refused n
unfolding inverse_checks
inverse_1 code n X Y e = rw e refl

module _ (code : ℕ) (s : System) (X Y : ℤ) (e : system code ≡ answered s) where
  pub inverse_4 : plane_bad s X Y ≡ true → inverse_checks code X Y ≡ refused 4
  unfolding inverse_checks
  inverse_4 g = rw (e, g) refl

  pub inverse_passes : plane_bad s X Y ≡ false → inverse_checks code X Y ≡ answered s
  unfolding inverse_checks
  inverse_passes g = rw (e, g) refl

-- ---- what an answer of the checks says
passed_3 : (a : Answer System) (s : System) (B L : ℤ)
    → (a >>= λ s. latitude_outside if latitude_bad B >> (longitude_outside if longitude_bad s L >> answered s)) ≡ answered s
    → (a ≡ answered s) × (latitude_bad B ≡ false) × (longitude_bad s L ≡ false)
passed_3 (refused n) s B L e = absurd (let z : ◌≡◌ {A = ℕ} 0 1 = cc in omega arith)
passed_3 (crossed_at pair) s B L e = absurd (let z : ◌≡◌ {A = ℕ} 0 1 = cc in omega arith)
passed_3 (answered r) s B L e = go (latitude_bad B) refl (longitude_bad r L) refl e
  where
    go : (b : Bool) → latitude_bad B ≡ b → (c : Bool) → longitude_bad r L ≡ c
        → (latitude_outside if b >> (longitude_outside if c >> answered r)) ≡ answered s → (answered r ≡ answered s) × (latitude_bad B ≡ false) × (longitude_bad s L ≡ false)
    go true g c k e = absurd (let z : ◌≡◌ {A = ℕ} 0 1 = cc in omega arith)
    go false g true k e = absurd (let z : ◌≡◌ {A = ℕ} 0 1 = cc in omega arith)
    go false g false k e = let i : r ≡ s = cc in (e, g, subst (λ t. longitude_bad t L ≡ false) i k)

pub forward_passed : (code : ℕ) (s : System) (B L : ℤ) → forward_checks code B L ≡ answered s → (system code ≡ answered s) × (latitude_bad B ≡ false) × (longitude_bad s L ≡ false)
unfolding forward_checks
forward_passed code s B L e = passed_3 (system code) s B L e

passed_4 : (a : Answer System) (s : System) (X Y : ℤ) → (a >>= λ s. plane_outside if plane_bad s X Y >> answered s) ≡ answered s → (a ≡ answered s) × (plane_bad s X Y ≡ false)
passed_4 (refused n) s X Y e = absurd (let z : ◌≡◌ {A = ℕ} 0 1 = cc in omega arith)
passed_4 (crossed_at pair) s X Y e = absurd (let z : ◌≡◌ {A = ℕ} 0 1 = cc in omega arith)
passed_4 (answered r) s X Y e = go (plane_bad r X Y) refl e
  where
    go : (b : Bool) → plane_bad r X Y ≡ b → (plane_outside if b >> answered r) ≡ answered s → (answered r ≡ answered s) × (plane_bad s X Y ≡ false)
    go true g e = absurd (let z : ◌≡◌ {A = ℕ} 0 1 = cc in omega arith)
    go false g e = let i : r ≡ s = cc in (e, subst (λ t. plane_bad t X Y ≡ false) i g)

pub inverse_passed : (code : ℕ) (s : System) (X Y : ℤ) → inverse_checks code X Y ≡ answered s → (system code ≡ answered s) × (plane_bad s X Y ≡ false)
unfolding inverse_checks
inverse_passed code s X Y e = passed_4 (system code) s X Y e

pub judged_2 : (s : System) (t : Ticks) → latitude_bad t.B ≡ true → judged s t ≡ refused 2
unfolding judged
judged_2 s t e = rw e refl

pub judged_3 : (s : System) (t : Ticks) → latitude_bad t.B ≡ false → longitude_bad s t.L ≡ true → judged s t ≡ refused 3
unfolding judged
judged_3 s t e f = rw (e, f) refl

pub judged_passes : (s : System) (t : Ticks) → latitude_bad t.B ≡ false → longitude_bad s t.L ≡ false → judged s t ≡ answered t
unfolding judged
judged_passes s t e f = rw (e, f) refl

-- ---- 4: "plane point whose Gauss-Krüger X is outside 5,300,000 to 6,250,000 m or size of Y above 420,000 m, exact after offset and m0"
pub plane_exact : (s : System) (X Y : ℤ) → (plane_bad s X Y ≡ false) ↔ (
    (metres_times_m0 s 5_300_000 ≤ℤ ((X -ℤ offset_X s) *ℤ one))
    × (((X -ℤ offset_X s) *ℤ one) ≤ℤ metres_times_m0 s 6_250_000)
    × (pos (nat_abs ((Y -ℤ offset_Y s) *ℤ one)) ≤ℤ metres_times_m0 s 420_000)
    )
unfolding plane_bad above
plane_exact s X Y = (
  λ e.
      let o = (or_false _ _).0 e in
      let p = (or_false _ _).0 o.0 in
      ((lt_z_false _ _).0 p.0, (lt_z_false _ _).0 p.1, (lt_z_false _ _).0 o.1),
  λ h. (or_false _ _).1 ((or_false _ _).1 ((lt_z_false _ _).1 h.0, (lt_z_false _ _).1 h.1), (lt_z_false _ _).1 h.2),
)

-- ---- 8: "span at most 20,000,000 mm on either axis": any two numbers of the axis differ by no more
top : (a : ℤ) (l : List ℤ) → (a ≤ℤ largest a l) × ((z : ℤ) → Memᴰ z l → z ≤ℤ largest a l)
unfolding largest larger
top a [] = (≤ℤ_refl a, λ z m. absurd (Memᴰ.not-nil m))
top a (b ∷ l) = go (lt_z a b) refl (top a l) (top b l)
  where
    go : (t : Bool) → lt_z a b ≡ t → ((a ≤ℤ largest a l) × ((z : ℤ) → Memᴰ z l → z ≤ℤ largest a l)) → ((b ≤ℤ largest b l) × ((z : ℤ) → Memᴰ z l → z ≤ℤ largest b l))
        → (a ≤ℤ largest (elim t [ true ↦ b | false ↦ a ]) l) × ((z : ℤ) → Memᴰ z (b ∷ l) → z ≤ℤ largest (elim t [ true ↦ b | false ↦ a ]) l)
    go true x p q = (≤ℤ_trans (<ℤ→≤ℤ ((lt_z_true a b).0 x)) q.0, λ z m. ⊎_elim (λ e. rw e q.0) (λ n. q.1 z n) (Memᴰ.cases_cons m))
    go false x p q = (p.0, λ z m. ⊎_elim (λ e. rw e (≤ℤ_trans ((lt_z_false a b).0 x) p.0)) (λ n. p.1 z n) (Memᴰ.cases_cons m))

bottom : (a : ℤ) (l : List ℤ) → (smallest a l ≤ℤ a) × ((z : ℤ) → Memᴰ z l → smallest a l ≤ℤ z)
unfolding smallest smaller
bottom a [] = (≤ℤ_refl a, λ z m. absurd (Memᴰ.not-nil m))
bottom a (b ∷ l) = go (lt_z b a) refl (bottom a l) (bottom b l)
  where
    go : (t : Bool) → lt_z b a ≡ t → ((smallest a l ≤ℤ a) × ((z : ℤ) → Memᴰ z l → smallest a l ≤ℤ z)) → ((smallest b l ≤ℤ b) × ((z : ℤ) → Memᴰ z l → smallest b l ≤ℤ z))
        → (smallest (elim t [ true ↦ b | false ↦ a ]) l ≤ℤ a) × ((z : ℤ) → Memᴰ z (b ∷ l) → smallest (elim t [ true ↦ b | false ↦ a ]) l ≤ℤ z)
    go true x p q = (≤ℤ_trans q.0 (<ℤ→≤ℤ ((lt_z_true b a).0 x)), λ z m. ⊎_elim (λ e. rw e q.0) (λ n. q.1 z n) (Memᴰ.cases_cons m))
    go false x p q = (p.0, λ z m. ⊎_elim (λ e. rw e (≤ℤ_trans p.0 ((lt_z_false b a).0 x))) (λ n. p.1 z n) (Memᴰ.cases_cons m))

top_in : (a : ℤ) (l : List ℤ) → Memᴰ (largest a l) (a ∷ l)
unfolding largest larger
top_in a [] = Memᴰ.head refl
top_in a (b ∷ l) = go (lt_z a b) (top_in a l) (top_in b l)
  where
    go : (t : Bool) → Memᴰ (largest a l) (a ∷ l) → Memᴰ (largest b l) (b ∷ l) → Memᴰ (largest (elim t [ true ↦ b | false ↦ a ]) l) (a ∷ b ∷ l)
    go true p q = Memᴰ.tail q
    go false p q = ⊎_elim (λ e. Memᴰ.head e) (λ m. Memᴰ.tail (Memᴰ.tail m)) (Memᴰ.cases_cons p)

bottom_in : (a : ℤ) (l : List ℤ) → Memᴰ (smallest a l) (a ∷ l)
unfolding smallest smaller
bottom_in a [] = Memᴰ.head refl
bottom_in a (b ∷ l) = go (lt_z b a) (bottom_in a l) (bottom_in b l)
  where
    go : (t : Bool) → Memᴰ (smallest a l) (a ∷ l) → Memᴰ (smallest b l) (b ∷ l) → Memᴰ (smallest (elim t [ true ↦ b | false ↦ a ]) l) (a ∷ b ∷ l)
    go true p q = Memᴰ.tail q
    go false p q = ⊎_elim (λ e. Memᴰ.head e) (λ m. Memᴰ.tail (Memᴰ.tail m)) (Memᴰ.cases_cons p)

-- the span of an axis is at most n exactly when any two of its numbers differ by at most n
pub span_exact : (l : List ℤ) (n : ℕ) → (span l ≤ℤ pos n) ↔ ((y z : ℤ) → Memᴰ y l → Memᴰ z l → (y -ℤ z) ≤ℤ pos n)
unfolding span
span_exact [] n = (λ h y z m. absurd (Memᴰ.not-nil m), λ h. record { le = le→leb 0 n (omega arith) })
span_exact (a ∷ l) n = (
  λ h y z m k. between y z (largest a l) (smallest a l) (below y m) (over z k) h,
  λ h. h (largest a l) (smallest a l) (top_in a l) (bottom_in a l),
)
  where
    below : (y : ℤ) → Memᴰ y (a ∷ l) → y ≤ℤ largest a l
    below y m = ⊎_elim (λ e. rw e (top a l).0) (λ k. (top a l).1 y k) (Memᴰ.cases_cons m)

    over : (z : ℤ) → Memᴰ z (a ∷ l) → smallest a l ≤ℤ z
    over z m = ⊎_elim (λ e. rw e (bottom a l).0) (λ k. (bottom a l).1 z k) (Memᴰ.cases_cons m)

    between : (y z t b : ℤ) → y ≤ℤ t → b ≤ℤ z → (t -ℤ b) ≤ℤ pos n → (y -ℤ z) ≤ℤ pos n
    between y z t b = lin (y ∷ z ∷ t ∷ b ∷ []) λ u v ey ez et eb. simp (Z·ℕ, ey, ez, et, eb) (omega arith)

pub span_bad_exact : (r : List Corner) → (span_bad r ≡ false) ↔ (
    (span (map (λ (c : Corner). c.x) r) ≤ℤ pos 20_000_000) × (span (map (λ (c : Corner). c.y) r) ≤ℤ pos 20_000_000)
    )
unfolding span_bad
span_bad_exact r = (
  λ e. let o = (or_false _ _).0 e in ((lt_z_false _ _).0 o.0, (lt_z_false _ _).0 o.1),
  λ h. (or_false _ _).1 ((lt_z_false _ _).1 h.0, (lt_z_false _ _).1 h.1),
)

-- ---- the same the other way round: a test is met exactly when
pub or_true : (x y : Bool) → ((x || y) ≡ true) ↔ ((x ≡ true) ⊎ (y ≡ true))
or_true true y = (λ e. inl refl, λ h. refl)
or_true false y = (λ e. inr e, λ h. ⊎_elim (λ e. absurd (subst T (sym e) tt)) (λ e. e) h)

pub ltb_true : (a b : ℕ) → (ltb a b ≡ true) ↔ (a < b)
ltb_true a b = (λ e. ltb→lt a b (rw e tt), λ h. is_true (ltb a b) (le→leb (suc a) b h))

pub latitude_met : (B : ℤ) → (latitude_bad B ≡ true) ↔ ((B <ℤ pos (48 ° 0 ' 0 '')) ⊎ (pos (56 ° 0 ' 0 '') <ℤ B))
unfolding latitude_bad
latitude_met B = (
  λ e. ⊎_elim (λ f. inl ((lt_z_true _ _).0 f)) (λ f. inr ((lt_z_true _ _).0 f)) ((or_true (lt_z B (pos (48 ° 0 ' 0 ''))) (lt_z (pos (56 ° 0 ' 0 '')) B)).0 e),
  λ h. (or_true (lt_z B (pos (48 ° 0 ' 0 ''))) (lt_z (pos (56 ° 0 ' 0 '')) B)).1 (⊎_elim (λ f. inl ((lt_z_true _ _).1 f)) (λ f. inr ((lt_z_true _ _).1 f)) h),
)

pub longitude_met : (s : System) (L : ℤ) → (longitude_bad s L ≡ true) ↔ (s.half_width < nat_abs (L -ℤ s.L0))
unfolding longitude_bad above
longitude_met s L = ltb_true s.half_width (nat_abs (L -ℤ s.L0))

pub number_met : (z : ℤ) → (number_bad z ≡ true) ↔ (10 ^ 10 < nat_abs z)
unfolding number_bad above
number_met z = ltb_true (10 ^ 10) (nat_abs z)
