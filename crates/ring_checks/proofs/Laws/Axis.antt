-- Checks 7 and 8, axis by axis, are those of the rules; and by the smallest and the largest number of an axis. Assumes nothing.
use Rattle.std.specs.Prelude.{◌≡◌, Bool, true, false, ◌||◌, ℕ, ◌+◌, ◌^◌, ◌<◌, ◌≤◌, ℤ, pos, nat_abs, neg_ℤ, ◌-ℤ◌, length, ◌≤ℤ◌, ◌<ℤ◌}
use Rattle.std.proofs.Math.Path.{refl, ap, ap₂}
use Rattle.std.proofs.Common.{sym, ◌∙◌, inr, add-one, arith, drop_of_length-le, drop-cons}
use Rattle.std.proofs.Math.Bool.{cond}
use mathlib.Core.List.{List, [], ◌∷◌, map}
use Rattle.std.proofs.Math.ListN.{drop, get_or}
use Rattle.std.specs.Int.Signed.{lt_z, ≤ℤ_refl, clash_ℤ}
use Rattle.arith.specs.Laws.Diff.{Z·ℕ, Z·abs, lin}
use Rattle.arith.specs.Laws.Order.{≤ℤ_trans, <ℤ→≤ℤ, ≤ℤ_antisym}
use Rattle.rules.specs.Rings.{Corner, origin}
use Rattle.ring_corners.specs.Laws.Extremes.{min_is, max_is}
use Rattle.rules.specs.RingAnswers.{number_bad, corner_bad, any_bad, span_bad, span, larger, smaller, largest, smallest}
use Rattle.rules.proofs.Laws.Checks.{lt_z_true, lt_z_false, or_false, or_true, number_exact, number_met}
use Rattle.std.specs.Int.{int_min, int_max}
use Rattle.rules.specs.Refusals.{◌>>◌, ◌if◌}
use Rattle.ring_checks.specs.Checks.{numbers_checked, far, long}
use Rattle.ring_checks.specs.Reach.{any_outside, axis_refusal, reach_refusal, either_refusal, corners_refusal}

-- ---- the checks of a ring, axis by axis
or_four : (a b c d : Bool) → (a || b) || (c || d) ≡ (a || c) || (b || d)
or_four true b c d = refl
or_four false true true d = refl
or_four false true false d = refl
or_four false false c d = refl

pub any_axes : (r : List Corner) → any_bad r ≡ (any_outside (map (λ (c : Corner). c.x) r) || any_outside (map (λ (c : Corner). c.y) r))
unfolding any_bad corner_bad
any_axes [] = refl
any_axes (c ∷ r) =
    ap (λ (b : Bool). (number_bad c.x || number_bad c.y) || b) (any_axes r)
    ∙ or_four (number_bad c.x) (number_bad c.y) (any_outside (map (λ (c : Corner). c.x) r)) (any_outside (map (λ (c : Corner). c.y) r))

-- ---- by the smallest and the largest number
step_order : (low high a : ℤ) → low ≤ℤ high → smaller low a ≤ℤ larger high a
unfolding smaller larger
step_order low high a h = go (lt_z a low) (lt_z high a) refl refl
  where
    go : (s t : Bool) → lt_z a low ≡ s → lt_z high a ≡ t → elim s [ true ↦ a | false ↦ low ] ≤ℤ elim t [ true ↦ a | false ↦ high ]
    go true true x y = ≤ℤ_refl a
    go true false x y = (lt_z_false high a).0 y
    go false true x y = (lt_z_false a low).0 x
    go false false x y = h

pub low_high : (low high : ℤ) (l : List ℤ) → low ≤ℤ high → smallest low l ≤ℤ largest high l
unfolding smallest largest smaller larger
low_high low high [] h = h
low_high low high (a ∷ l) h = low_high (smaller low a) (larger high a) l (step_order low high a h)

agree : (x y : Bool) → (x ≡ false → y ≡ false) → (y ≡ false → x ≡ false) → x ≡ y
agree true true f g = refl
agree true false f g = g refl
agree false true f g = sym (f refl)
agree false false f g = refl

-- a number between two that are inside is inside
middle : (low high z : ℤ) (n : ℕ) → low ≤ℤ z → z ≤ℤ high → nat_abs low ≤ n → nat_abs high ≤ n → nat_abs z ≤ n
middle low high z n = lin (low ∷ high ∷ z ∷ []) λ u v e1 e2 e3. simp (Z·abs, e1, e2, e3) (omega arith)

abbrev Outside : ℤ → ℤ → Bool
Outside low high = number_bad low || number_bad high

or_assoc : (a b c : Bool) → a || (b || c) ≡ (a || b) || c
or_assoc true b c = refl
or_assoc false b c = refl

-- one number more
step_outside : (low high a : ℤ) → low ≤ℤ high → (Outside low high || number_bad a) ≡ Outside (smaller low a) (larger high a)
unfolding smaller larger
step_outside low high a h = agree _ _
    (λ e. let o = (or_false (Outside low high) (number_bad a)).0 e in
    let p = (or_false (number_bad low) (number_bad high)).0 o.0 in forth (lt_z a low) (lt_z high a) p.0 p.1 o.1)
    (λ e. let o = (or_false (number_bad (smaller low a)) (number_bad (larger high a))).0 e in
    back (lt_z a low) (lt_z high a) refl refl ((number_exact (smaller low a)).0 o.0) ((number_exact (larger high a)).0 o.1))
  where
    forth : (s t : Bool) → number_bad low ≡ false → number_bad high ≡ false → number_bad a ≡ false
        → Outside (elim s [ true ↦ a | false ↦ low ]) (elim t [ true ↦ a | false ↦ high ]) ≡ false
    forth true true p q r = (or_false _ _).1 (r, r)
    forth true false p q r = (or_false _ _).1 (r, q)
    forth false true p q r = (or_false _ _).1 (p, r)
    forth false false p q r = (or_false _ _).1 (p, q)

    inside : (z : ℤ) → nat_abs z ≤ 10 ^ 10 → number_bad z ≡ false
    inside z k = (number_exact z).1 k

    all : nat_abs low ≤ 10 ^ 10 → nat_abs high ≤ 10 ^ 10 → nat_abs a ≤ 10 ^ 10 → (Outside low high || number_bad a) ≡ false
    all p q r = (or_false _ _).1 ((or_false _ _).1 (inside low p, inside high q), inside a r)

    back : (s t : Bool) → lt_z a low ≡ s → lt_z high a ≡ t → nat_abs (elim s [ true ↦ a | false ↦ low ]) ≤ 10 ^ 10 → nat_abs (elim t [ true ↦ a | false ↦ high ]) ≤ 10 ^ 10
        → (Outside low high || number_bad a) ≡ false
    back true true x y p q = absurd (clash_ℤ ((lt_z_true a low).0 x) (≤ℤ_trans h (<ℤ→≤ℤ ((lt_z_true high a).0 y))))
    back true false x y p q = all (middle a high low (10 ^ 10) (<ℤ→≤ℤ ((lt_z_true a low).0 x)) h p q) q p
    back false true x y p q = all p (middle low a high (10 ^ 10) h (<ℤ→≤ℤ ((lt_z_true high a).0 y)) p q) q
    back false false x y p q = all p q (middle low high a (10 ^ 10) ((lt_z_false a low).0 x) ((lt_z_false high a).0 y) p q)

outside_reach : (low high : ℤ) (l : List ℤ) → low ≤ℤ high → (Outside low high || any_outside l) ≡ Outside (smallest low l) (largest high l)
unfolding smallest largest
outside_reach low high [] h = or_none (Outside low high)
  where
    or_none : (b : Bool) → (b || false) ≡ b
    or_none true = refl
    or_none false = refl
outside_reach low high (a ∷ l) h =
    or_assoc (Outside low high) (number_bad a) (any_outside l)
    ∙ ap (λ (b : Bool). b || any_outside l) (step_outside low high a h)
    ∙ outside_reach (smaller low a) (larger high a) l (step_order low high a h)

-- ---- the code's tests
far_below : (z : ℤ) (n : ℕ) → z <ℤ neg_ℤ (pos n) → n < nat_abs z
far_below z n = lin (z ∷ []) λ u v e. simp (Z·ℕ, e) (omega arith)

far_above : (z : ℤ) (n : ℕ) → pos n <ℤ z → n < nat_abs z
far_above z n = lin (z ∷ []) λ u v e. simp (Z·ℕ, e) (omega arith)

both_inside : (low high : ℤ) (n : ℕ) → low ≤ℤ high → neg_ℤ (pos n) ≤ℤ low → high ≤ℤ pos n → (nat_abs low ≤ n) × (nat_abs high ≤ n)
both_inside low high n = lin (low ∷ high ∷ []) λ u v e1 e2. simp (Z·abs, e1, e2) (omega arith)

module _ (low high : ℤ) where
  pub far_low : low <ℤ neg_ℤ (pos 10_000_000_000) → far low high ≡ true
  unfolding far
  far_low h = rw ((number_met low).1 (far_below low 10_000_000_000 h)) refl

  pub far_high : pos 10_000_000_000 <ℤ high → far low high ≡ true
  unfolding far
  far_high h = (or_true (number_bad low) (number_bad high)).1 (inr ((number_met high).1 (far_above high 10_000_000_000 h)))

  pub not_far : low ≤ℤ high → neg_ℤ (pos 10_000_000_000) ≤ℤ low → high ≤ℤ pos 10_000_000_000 → far low high ≡ false
  unfolding far
  not_far order from to =
      let h = both_inside low high 10_000_000_000 order from to in
      (or_false (number_bad low) (number_bad high)).1 ((number_exact low).1 h.0, (number_exact high).1 h.1)

  pub inside_both : far low high ≡ false → (nat_abs low ≤ 10_000_000_000) × (nat_abs high ≤ 10_000_000_000)
  unfolding far
  inside_both e = let o = (or_false (number_bad low) (number_bad high)).0 e in ((number_exact low).0 o.0, (number_exact high).0 o.1)

  pub is_long : pos 20_000_000 <ℤ (high -ℤ low) → long low high ≡ true
  unfolding long
  is_long h = (lt_z_true (pos 20_000_000) (high -ℤ low)).1 h

  pub not_long : (high -ℤ low) ≤ℤ pos 20_000_000 → long low high ≡ false
  unfolding long
  not_long h = (lt_z_false (pos 20_000_000) (high -ℤ low)).1 h

-- ---- what the loop over the corners keeps of the axis f: `low` and `high` at the corners before number k, and what is left makes the reach whole
pub record Reaching (f : Corner → ℤ) (r : List Corner) (low high : ℤ) (k : ℕ) : Type 0 where
  pub order : low ≤ℤ high
  pub down : smallest low (map f (drop k r)) ≡ smallest (f (get_or r 0 origin)) (map f (drop 1 r))
  pub up : largest high (map f (drop k r)) ≡ largest (f (get_or r 0 origin)) (map f (drop 1 r))

module _ (f : Corner → ℤ) (r : List Corner) {low high : ℤ} {k : ℕ} (s : Reaching f r low high k) where
  pub reaching_step : k < length r → Reaching f r (smaller low (f (get_or r k origin))) (larger high (f (get_or r k origin))) (k + 1)
  unfolding smallest largest
  reaching_step h = record {
    order = step_order low high (f (get_or r k origin)) s.order;
    down = ap (smallest low) (sym rest) ∙ s.down;
    up = ap (largest high) (sym rest) ∙ s.up;
  }
    where
      rest : map f (drop k r) ≡ f (get_or r k origin) ∷ map f (drop (k + 1) r)
      rest = ap (map f) (drop-cons r k origin h ∙ ap (λ (i : ℕ). get_or r k origin ∷ drop i r) (sym (add-one k)))

  -- the same by the library's methods, as the loop has it
  pub reaching_next : k < length r → Reaching f r (int_min low (f (get_or r k origin))) (int_max high (f (get_or r k origin))) (k + 1)
  reaching_next h = rw (min_is low (f (get_or r k origin)), max_is high (f (get_or r k origin))) (reaching_step h)

  -- of all corners, as checks 7 and 8 ask
  pub record Reached : Type 0 where
    pub far_is : far low high ≡ any_outside (map f r)
    pub long_is : long low high ≡ lt_z (pos 20_000_000) (span (map f r))

  pub reaching_end : length r ≤ k → 0 < length r → Reached
  unfolding smallest largest far long span
  reaching_end h g = record {
    far_is = ap₂ (λ (a b : ℤ). Outside a b) low_is high_is
        ∙ sym (ap (λ (b : Bool). b || any_outside (map f (drop 1 r))) (same (number_bad first)) ∙ outside_reach first first (map f (drop 1 r)) (≤ℤ_refl first))
        ∙ ap (λ (t : List Corner). any_outside (map f t)) whole;
    long_is = ap₂ (λ (a b : ℤ). lt_z (pos 20_000_000) (b -ℤ a)) low_is high_is
        ∙ ap (λ (t : List Corner). lt_z (pos 20_000_000) (span (map f t))) whole;
  }
    where
      first : ℤ
      first = f (get_or r 0 origin)

      whole : get_or r 0 origin ∷ drop 1 r ≡ r
      whole = sym (drop-cons r 0 origin g)

      low_is : low ≡ smallest first (map f (drop 1 r))
      low_is = ap (λ (t : List Corner). smallest low (map f t)) (sym (drop_of_length-le r h)) ∙ s.down

      high_is : high ≡ largest first (map f (drop 1 r))
      high_is = ap (λ (t : List Corner). largest high (map f t)) (sym (drop_of_length-le r h)) ∙ s.up

      same : (b : Bool) → b ≡ (b || b)
      same true = refl
      same false = refl

-- ---- both axes, 7 of either before 8 of either
axes : (a b c d : Bool) → 7 if a >> (7 if b >> (8 if c >> 8 if d)) ≡ 7 if (a || b) >> 8 if (c || d)
axes true b c d = refl
axes false true c d = refl
axes false false true d = refl
axes false false false d = refl

pub numbers_axes : (r : List Corner) {a b c d : Bool}
    → a ≡ any_outside (map (λ (c : Corner). c.x) r) → b ≡ any_outside (map (λ (c : Corner). c.y) r)
    → c ≡ lt_z (pos 20_000_000) (span (map (λ (c : Corner). c.x) r)) → d ≡ lt_z (pos 20_000_000) (span (map (λ (c : Corner). c.y) r))
    → 7 if a >> (7 if b >> (8 if c >> 8 if d)) ≡ numbers_checked r
unfolding numbers_checked span_bad
numbers_axes r {a} {b} {c} {d} e f g h =
    axes a b c d
    ∙ ap₂ (λ (s t : Bool). 7 if s >> 8 if t)
    (ap₂ (λ (s t : Bool). s || t) e f ∙ sym (any_axes r))
    (ap₂ (λ (s t : Bool). s || t) g h)

-- at the end of the loop
pub numbers_end : (r : List Corner) {low_x high_x low_y high_y : ℤ} {k : ℕ}
    → Reaching (λ (c : Corner). c.x) r low_x high_x k → Reaching (λ (c : Corner). c.y) r low_y high_y k → length r ≤ k → 0 < length r
    → 7 if far low_x high_x >> (7 if far low_y high_y >> (8 if long low_x high_x >> 8 if long low_y high_y)) ≡ numbers_checked r
numbers_end r s t h g =
    let x = reaching_end (λ (c : Corner). c.x) r s h g in
    let y = reaching_end (λ (c : Corner). c.y) r t h g in
    numbers_axes r x.far_is y.far_is x.long_is y.long_is

-- ---- the number of what checks 7 and 8 answer: axis by axis, and by the smallest and the largest number of an axis
either : (a b c d : Bool) → either_refusal (cond a 7 (cond b 8 0)) (cond c 7 (cond d 8 0)) ≡ cond (a || c) 7 (cond (b || d) 8 0)
unfolding either_refusal
either true b c d = refl
either false true true d = refl
either false true false true = refl
either false true false false = refl
either false false true d = refl
either false false false true = refl
either false false false false = refl

pub either_axes : (r : List Corner) → either_refusal (axis_refusal (map (λ (c : Corner). c.x) r)) (axis_refusal (map (λ (c : Corner). c.y) r)) ≡ corners_refusal r
unfolding axis_refusal span_bad corners_refusal
either_axes r = rw (any_axes r) (either
    (any_outside (map (λ (c : Corner). c.x) r))
    (lt_z (pos 20_000_000) (span (map (λ (c : Corner). c.x) r)))
    (any_outside (map (λ (c : Corner). c.y) r))
    (lt_z (pos 20_000_000) (span (map (λ (c : Corner). c.y) r))))

pub reach_axis : (a : ℤ) (l : List ℤ) → reach_refusal (smallest a l) (largest a l) ≡ axis_refusal (a ∷ l)
unfolding reach_refusal axis_refusal span
reach_axis a l = ap (λ (b : Bool). cond b 7 (cond (lt_z (pos 20_000_000) (largest a l -ℤ smallest a l)) 8 0))
    (sym (ap (λ (b : Bool). b || any_outside l) (same (number_bad a)) ∙ outside_reach a a l (≤ℤ_refl a)))
  where
    same : (b : Bool) → b ≡ (b || b)
    same true = refl
    same false = refl

module _ (low high : ℤ) where
  pub reach_low : low <ℤ neg_ℤ (pos 10_000_000_000) → reach_refusal low high ≡ 7
  unfolding reach_refusal
  reach_low h = rw ((number_met low).1 (far_below low 10_000_000_000 h)) refl

  pub reach_high : pos 10_000_000_000 <ℤ high → reach_refusal low high ≡ 7
  unfolding reach_refusal
  reach_high h = ap (λ (b : Bool). cond b 7 (cond (lt_z (pos 20_000_000) (high -ℤ low)) 8 0)) ((or_true (number_bad low) (number_bad high)).1 (inr ((number_met high).1 (far_above high 10_000_000_000 h))))

  module _ (order : low ≤ℤ high) (from : neg_ℤ (pos 10_000_000_000) ≤ℤ low) (to : high ≤ℤ pos 10_000_000_000) where
    pub reach_inside : (nat_abs low ≤ 10_000_000_000) × (nat_abs high ≤ 10_000_000_000)
    reach_inside = both_inside low high 10_000_000_000 order from to

    inside_reach : reach_refusal low high ≡ cond (lt_z (pos 20_000_000) (high -ℤ low)) 8 0
    unfolding reach_refusal
    inside_reach = let h = reach_inside in
        ap (λ (b : Bool). cond b 7 (cond (lt_z (pos 20_000_000) (high -ℤ low)) 8 0)) ((or_false (number_bad low) (number_bad high)).1 ((number_exact low).1 h.0, (number_exact high).1 h.1))

    pub reach_wide : pos 20_000_000 <ℤ (high -ℤ low) → reach_refusal low high ≡ 8
    reach_wide h = inside_reach ∙ ap (λ (b : Bool). cond b 8 0) ((lt_z_true (pos 20_000_000) (high -ℤ low)).1 h)

    pub reach_fine : (high -ℤ low) ≤ℤ pos 20_000_000 → reach_refusal low high ≡ 0
    reach_fine h = inside_reach ∙ ap (λ (b : Bool). cond b 8 0) ((lt_z_false (pos 20_000_000) (high -ℤ low)).1 h)

abbrev pick : ℤ → ℤ → Bool → ℤ
pick a b t = elim t [ true ↦ b | false ↦ a ]

pub smaller_yes : (a b : ℤ) → b <ℤ a → smaller a b ≡ b
unfolding smaller
smaller_yes a b h = ap (pick a b) ((lt_z_true b a).1 h)

pub smaller_no : (a b : ℤ) → a ≤ℤ b → smaller a b ≡ a
unfolding smaller
smaller_no a b h = ap (pick a b) ((lt_z_false b a).1 h)

pub larger_yes : (a b : ℤ) → a <ℤ b → larger a b ≡ b
unfolding larger
larger_yes a b h = ap (pick a b) ((lt_z_true a b).1 h)

pub larger_no : (a b : ℤ) → b ≤ℤ a → larger a b ≡ a
unfolding larger
larger_no a b h = ap (pick a b) ((lt_z_false a b).1 h)

-- the loop at the first corner, and at the end of the corners by the number of the axis
pub reaching_start : (f : Corner → ℤ) (r : List Corner) → Reaching f r (f (get_or r 0 origin)) (f (get_or r 0 origin)) 1
reaching_start f r = record { order = ≤ℤ_refl (f (get_or r 0 origin)); down = refl; up = refl }

pub reaching_refusal : (f : Corner → ℤ) (r : List Corner) {low high : ℤ} {k : ℕ} → Reaching f r low high k → length r ≤ k → 0 < length r → reach_refusal low high ≡ axis_refusal (map f r)
unfolding smallest largest
reaching_refusal f r {low} {high} s h g =
    ap₂ reach_refusal
    (ap (λ (t : List Corner). smallest low (map f t)) (sym (drop_of_length-le r h)) ∙ s.down)
    (ap (λ (t : List Corner). largest high (map f t)) (sym (drop_of_length-le r h)) ∙ s.up)
    ∙ reach_axis (f (get_or r 0 origin)) (map f (drop 1 r))
    ∙ ap (λ (t : List Corner). axis_refusal (map f t)) (sym (drop-cons r 0 origin g))
