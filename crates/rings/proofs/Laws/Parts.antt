-- A ring made of corners of an accepted ring is accepted, if its count is: its parts when it is cut, and the ring reversed. Assumes nothing.
use Rattle.std.specs.Prelude.{◌≡◌, refl, Bool, true, false, ℕ, suc, ◌<◌, ◌≤◌, ℤ, pos, length, take, drop, ◌≤ℤ◌}
use Rattle.std.proofs.Common.{◌∙◌, ap, subst, ⊎_elim, arith, take-append-drop, length-take, length-drop, length-append}
use mathlib.Core.List.Memᴰ
use mathlib.Core.List.{List, [], ◌∷◌, map, reverse, reverse-cons, Memᴰ}
use Rattle.rules.specs.Refusals.{Answer, answered, refused, crossed_at, ◌>>=◌, ◌>>◌, ◌if◌}
use Rattle.rules.specs.Rings.{Corner, inner, outer}
use Rattle.rules.specs.RingAnswers.{corners, count_bad, any_bad, span_bad, span, ring_checks, numbers_of}
use Rattle.rules.proofs.Laws.Checks.{count_exact, span_exact, span_bad_exact}
use Rattle.rules.proofs.Laws.RingChecks.{corners_of, seven}

abbrev Within : List Corner → List Corner → Type 0
Within s r = (c : Corner) → Memᴰ c s → Memᴰ c r

-- ---- the checks of the numbers of some corners
passes : (r : List Corner) → count_bad r ≡ false → any_bad r ≡ false → span_bad r ≡ false → ring_checks (numbers_of r) ≡ answered r
unfolding ring_checks
passes r c n s = rw (corners_of r) (rw (c, n, s) refl)

-- ---- what the checks found of an accepted list
record Sound (r : List Corner) : Type 0 where
  count : count_bad r ≡ false
  numbers : any_bad r ≡ false
  spans : span_bad r ≡ false

sound : (l : List ℤ) (r : List Corner) → ring_checks l ≡ answered r → Sound r
unfolding ring_checks
sound l r = from (corners l)
  where
    tests : (t : List Corner) (c n s : Bool) → count_bad t ≡ c → any_bad t ≡ n → span_bad t ≡ s → 6 if c >> (7 if n >> (8 if s >> answered t)) ≡ answered r → Sound r
    tests t true n s x y z e = absurd (let w : ◌≡◌ {A = ℕ} 0 1 = cc e in omega arith)
    tests t false true s x y z e = absurd (let w : ◌≡◌ {A = ℕ} 0 1 = cc e in omega arith)
    tests t false false true x y z e = absurd (let w : ◌≡◌ {A = ℕ} 0 1 = cc e in omega arith)
    tests t false false false x y z e = let f : t ≡ r = cc e in subst Sound f (record { count = x; numbers = y; spans = z })

    from : (a : Answer (List Corner)) → (a >>= λ t. 6 if count_bad t >> (7 if any_bad t >> (8 if span_bad t >> answered t))) ≡ answered r → Sound r
    from (answered t) e = tests t (count_bad t) (any_bad t) (span_bad t) refl refl refl e
    from (refused n) e = absurd (let w : ◌≡◌ {A = ℕ} 0 1 = cc e in omega arith)
    from (crossed_at pair) e = absurd (let w : ◌≡◌ {A = ℕ} 0 1 = cc e in omega arith)

axis_within : (f : Corner → ℤ) (s r : List Corner) → Within s r → span (map f r) ≤ℤ pos 20_000_000 → span (map f s) ≤ℤ pos 20_000_000
axis_within f s r w h = (span_exact (map f s) 20_000_000).1 λ y z m n. (span_exact (map f r) 20_000_000).0 h y z (moved y m) (moved z n)
  where
    moved : (y : ℤ) → Memᴰ y (map f s) → Memᴰ y (map f r)
    moved y m = let o = Memᴰ.of_map f s m in subst (λ (z : ℤ). Memᴰ z (map f r)) o.2 (Memᴰ.map f (w o.0 o.1))

pub part_passes : (l : List ℤ) (r s : List Corner) → ring_checks l ≡ answered r → Within s r → 3 ≤ length s → length s ≤ 1024 → ring_checks (numbers_of s) ≡ answered s
part_passes l r s e w h k =
    let o = sound l r e in
    let x = (span_bad_exact r).0 o.spans in
    passes s
    ((count_exact s).1 (h, k))
    ((seven s).1 (λ c m. (seven r).0 o.numbers c (w c m)))
    ((span_bad_exact s).1 (axis_within (λ (c : Corner). c.x) s r w x.0, axis_within (λ (c : Corner). c.y) s r w x.1))

pub at_most : (l : List ℤ) (r : List Corner) → ring_checks l ≡ answered r → (3 ≤ length r) × (length r ≤ 1024)
at_most l r e = (count_exact r).0 (sound l r e).count

-- ---- the parts
taken : (n : ℕ) (r : List Corner) → Within (take n r) r
taken n r c m = subst (Memᴰ c) (take-append-drop n r) (Memᴰ.append_left (drop n r) m)

dropped : (n : ℕ) (r : List Corner) → Within (drop n r) r
dropped n r c m = subst (Memᴰ c) (take-append-drop n r) (Memᴰ.append_right (take n r) m)

pub inner_within : (i j : ℕ) (r : List Corner) → Within (inner i j r) r
unfolding inner
inner_within i j r c m = taken (suc j) r c (dropped i (take (suc j) r) c m)

pub outer_within : (i j : ℕ) (r : List Corner) → Within (outer i j r) r
unfolding outer
outer_within i j r c m = ⊎_elim (λ n. taken (suc i) r c n) (λ n. dropped j r c n) (Memᴰ.append_cases (take (suc i) r) m)

pub inner_count : (i j : ℕ) (r : List Corner) → length (inner i j r) ≤ length r
unfolding inner
inner_count i j r = omega (arith, length-drop i (take (suc j) r), length-take (suc j) r)

pub outer_count : (i j : ℕ) (r : List Corner) → i < j → length (outer i j r) ≤ length r
unfolding outer
outer_count i j r h = omega (arith, length-append (take (suc i) r) (drop j r), length-take (suc i) r, length-drop j r)

pub reverse_within : (r : List Corner) → Within (reverse r) r
reverse_within [] c m = m
reverse_within (a ∷ r) c m = ⊎_elim
    (λ n. Memᴰ.tail (reverse_within r c n))
    (λ n. ⊎_elim (λ e. Memᴰ.head e) (λ o. absurd (Memᴰ.not-nil o)) (Memᴰ.cases_cons n))
    (Memᴰ.append_cases (reverse r) (subst (Memᴰ c) (reverse-cons a r) m))

pub reverse_count : (r : List Corner) → length (reverse r) ≡ length r
reverse_count [] = refl
reverse_count (a ∷ r) = ap length (reverse-cons a r) ∙ omega (arith, length-append (reverse r) (a ∷ []), reverse_count r)
