-- The search for the first edge that makes a pair with edge k, step by step as the code makes it. Assumes nothing.
use Rattle.std.specs.Prelude.{◌≡◌, refl, Bool, ◌&&◌, List, ℕ, zero, suc, ◌+◌, ◌-◌, ◌<◌, ◌≤◌, eqb, drop, get_or, Option, Some, None}
use Rattle.std.proofs.Math.Path.{sym, ap, ap₂}
use Rattle.std.proofs.Common.{◌∙◌, subst, add-one, drop_of_length-le, drop-cons, eq-eqb, ne_eqb}
use Rattle.std.proofs.Math.Bool.{true, false}
use Rattle.std.proofs.Math.Option as Maybe
use Rattle.std.specs.Bool.{then_some}
use native.Mathlib.Omega.{arith}
use Rattle.std.proofs.Math.Decide.{dec_lt}
use Rattle.std.proofs.Math.ListN.{length}
use Rattle.rules.specs.Rings.{Corner, Edge, ◌to◌, origin, edge, edges, EdgePair}
use Rattle.rules.specs.Crossing.{meets, folds, bad, first_with}
use Rattle.rules.proofs.Laws.Edges.{length_edges, edge_at, edge_last}
use Rattle.terms.specs.Papers.{corner_of}
use Rattle.ring_boxes.specs.declared.reach.Reach.{Reach}
use Rattle.ring_pairs.specs.Crossings.{away, leg_away, straddle, BoxOf, Skipped, FirstNear, MetNone, MetAt, FirstMet, bad_at, pair_at, pair_after}
use Rattle.ring_pairs.specs.Laws.Crossings.{away_apart, near_sides}
use Rattle.ring_corners.specs.Laws.Tests.{and_left, and_right}

-- ---- the edges of a ring
-- the edge from corner i to the next, which is not the first
abbrev pub leg : List Corner → ℕ → Edge
leg r i = get_or r i origin to get_or r (i + 1) origin

-- the last edge, from corner i to the first
abbrev pub close : List Corner → ℕ → Edge
close r i = get_or r i origin to get_or r 0 origin

pub leg_at : (r : List Corner) (k : ℕ) → k + 1 < length r → edge r k ≡ leg r k
unfolding edge
leg_at r k h = edge_at (origin to origin) origin r k (omega arith) ∙ ap (λ (i : ℕ). get_or r k origin to get_or r i origin) (sym (add-one k))

pub close_at : (r : List Corner) (k : ℕ) → k + 1 ≡ length r → edge r k ≡ close r k
unfolding edge
close_at r k h = edge_last (origin to origin) origin r k (omega arith)

-- ---- the test of a pair, by where its edges lie
next : (n k : ℕ) (e f : Edge) → bad n k (k + 1) e f ≡ folds e f
unfolding bad
next n k e f = rw (eq-eqb (k + 1) (suc k) (add-one k)) refl

apart : (n k l : ℕ) (e f : Edge) → (l ≡ suc k → ⊥) → (eqb k 0 && eqb (suc l) n) ≡ false → bad n k l e f ≡ meets e f
unfolding bad
apart n k l e f h g = rw (ne_eqb l (suc k) h, g) refl

module _ (r : List Corner) (k : ℕ) where
  pub bad_next : k + 2 < length r → bad_at r k (k + 1) ≡ folds (leg r k) (leg r (k + 1))
  unfolding bad_at
  bad_next h = next (length r) k (edge r k) (edge r (k + 1)) ∙ ap₂ folds (leg_at r k (omega arith)) (leg_at r (k + 1) (omega arith))

  pub bad_next_last : k + 2 ≡ length r → bad_at r k (k + 1) ≡ folds (leg r k) (close r (k + 1))
  unfolding bad_at
  bad_next_last h = next (length r) k (edge r k) (edge r (k + 1)) ∙ ap₂ folds (leg_at r k (omega arith)) (close_at r (k + 1) (omega arith))

  pub bad_far : (l : ℕ) → k + 1 < l → l + 1 < length r → bad_at r k l ≡ meets (leg r k) (leg r l)
  unfolding bad_at
  bad_far l h g =
      apart (length r) k l (edge r k) (edge r l) (λ e. omega arith) (and_right (eqb k 0) (ne_eqb (suc l) (length r) (λ e. omega arith)))
      ∙ ap₂ meets (leg_at r k (omega arith)) (leg_at r l g)

  pub bad_last : (l : ℕ) → 0 < k → k + 1 < l → l + 1 ≡ length r → bad_at r k l ≡ meets (leg r k) (close r l)
  unfolding bad_at
  bad_last l p h g =
      apart (length r) k l (edge r k) (edge r l) (λ e. omega arith) (and_left (eqb (suc l) (length r)) (ne_eqb k 0 (λ e. omega arith)))
      ∙ ap₂ meets (leg_at r k (omega arith)) (close_at r l g)

pub bad_first : (r : List Corner) (l : ℕ) → 1 < l → l + 1 ≡ length r → bad_at r 0 l ≡ folds (close r l) (leg r 0)
unfolding bad_at bad
bad_first r l h g =
    rw (ne_eqb l 1 (λ e. omega arith), eq-eqb (suc l) (length r) (omega arith))
    (ap₂ folds (close_at r l g) (leg_at r 0 (omega arith)))

-- the same, as the code tests them
module _ (r : List Corner) (k : ℕ) where
  pub next_leg : k + 2 < length r → folds (leg r k) (get_or r (k + 1) origin to get_or r (k + 2) origin) ≡ bad_at r k (k + 1)
  next_leg h = ap (λ (i : ℕ). folds (leg r k) (get_or r (k + 1) origin to get_or r i origin)) (two k) ∙ sym (bad_next r k h)
    where
      two : (k : ℕ) → k + 2 ≡ k + 1 + 1
      two k = omega arith

  pub next_close : k + 2 ≡ length r → folds (leg r k) (close r (k + 1)) ≡ bad_at r k (k + 1)
  next_close h = sym (bad_next_last r k h)

  module _ (last : ℕ) (count : last + 1 ≡ length r) (far : k + 1 < last) where
    to_end : bad_at r k last ≡ bad_at r k (length r - 1)
    to_end = ap (bad_at r k) (omega arith)

    pub last_first : k ≡ 0 → folds (close r last) (get_or r 0 origin to get_or r 1 origin) ≡ bad_at r k (length r - 1)
    last_first e = sym (ap (λ (i : ℕ). bad_at r i last) e ∙ bad_first r last (omega arith) count) ∙ to_end

    pub last_far : 0 < k → meets (leg r k) (close r last) ≡ bad_at r k (length r - 1)
    last_far e = sym (bad_last r k last e far count) ∙ to_end

-- ---- the pairs of edge k: those before edge l are passed
pub record Scanned (r : List Corner) (k l : ℕ) : Type 0 where
  pub left : pair_after r k ≡ first_with (length r) k (edge r k) l (drop l (edges r))

pub scanned_start : (r : List Corner) (k : ℕ) → Scanned r k (k + 1)
unfolding pair_after
scanned_start r k = record { left = ap (λ (l : ℕ). first_with (length r) k (edge r k) l (drop l (edges r))) (sym (add-one k)) }

module _ {r : List Corner} {k l : ℕ} (s : Scanned r k l) where
  choose : Bool → Maybe.Option EdgePair
  choose b = elim b [ true ↦ Maybe.some (record { low = k; high = l }) | false ↦ first_with (length r) k (edge r k) (suc l) (drop (suc l) (edges r)) ]

  opened : l < length r → pair_after r k ≡ choose (bad_at r k l)
  unfolding first_with choose bad_at edge
  opened h = s.left ∙ ap (first_with (length r) k (edge r k) l) (drop-cons (edges r) l (origin to origin) (let e = length_edges r in omega arith))

  pub scanned_hit : l < length r → bad_at r k l ≡ true → pair_at k (Some l) ≡ pair_after r k
  unfolding choose
  scanned_hit h b = sym (opened h ∙ ap choose b)

  pub scanned_miss : l < length r → bad_at r k l ≡ false → Scanned r k (l + 1)
  unfolding choose
  scanned_miss h b = record {
    left = opened h ∙ ap choose b ∙ ap (λ (i : ℕ). first_with (length r) k (edge r k) i (drop i (edges r))) (sym (add-one l));
  }

  pub scanned_none : l ≡ length r → pair_at k None ≡ pair_after r k
  unfolding first_with
  scanned_none h = sym (s.left ∙ ap (first_with (length r) k (edge r k) l) (drop_of_length-le (edges r) past))
    where
      past : length (edges r) ≤ l
      past = let e = length_edges r in omega arith

-- edges that do not meet edge k are passed
pub scanned_past : (r : List Corner) (k l m : ℕ) → Scanned r k l → k + 1 < l → l + m < length r
    → ((j : ℕ) → l ≤ j → j < l + m → meets (leg r k) (leg r j) ≡ false) → Scanned r k (l + m)
scanned_past r k l zero s h g f = rw (none_more l) s
  where
    none_more : (l : ℕ) → l + 0 ≡ l
    none_more l = omega arith
scanned_past r k l (suc m) s h g f =
    rw (one_more l m) (scanned_past r k (l + 1) m
    (scanned_miss s (omega arith) (bad_far r k l h (omega arith) ∙ f l (omega arith) (omega arith)))
    (omega arith) (omega arith) (λ j a b. f j (omega arith) (omega arith)))
  where
    one_more : (l m : ℕ) → l + suc m ≡ (l + 1) + m
    one_more l m = omega arith

pub scanned_met : {r : List Corner} {k start l : ℕ} → Scanned r k start → k + 1 < start → start ≤ l → l < length r → MetNone r k start l → Scanned r k l
scanned_met {r} {k} {start} {l} s h low g f =
    let past = scanned_past r k start (l - start) s h (omega arith) (λ j a b. f.none_met j a (omega arith)) in
    rw (total start l low) at past
  where
    total : (start l : ℕ) → start ≤ l → start + (l - start) ≡ l
    total start l h = omega arith

-- ---- a loop over edges of a ring: none from `start` to before l meets f, a test of one edge
pub record Unmet (f : Edge → Bool) (r : List Corner) (start stop l : ℕ) : Type 0 where
  pub low : start ≤ l
  pub high : l ≤ stop
  pub none_met : (j : ℕ) → start ≤ j → j < l → f (leg r j) ≡ false

pub met_start : (f : Edge → Bool) (r : List Corner) (start stop : ℕ) → start ≤ stop → Unmet f r start stop start
met_start f r start stop h = record { low = omega arith; high = h; none_met = λ j a b. absurd (omega arith) }

module _ {f : Edge → Bool} {r : List Corner} {start stop l : ℕ} (s : Unmet f r start stop l) where
  pub met_step : l < stop → f (leg r l) ≡ false → Unmet f r start stop (l + 1)
  met_step h e = record {
    low = omega (arith, s.low);
    high = omega arith;
    none_met = λ j a b. elim (dec_lt j l) [ yes g ↦ s.none_met j a g | no g ↦ here j (omega arith) ];
  }
    where
      here : (j : ℕ) → j ≡ l → f (leg r j) ≡ false
      here j g = rw g e

  -- none before l meets the test, and those from l to before m have a box that is away, and so do not
  pub skip_on : (low high : Corner) {m : ℕ} → ((c d : Corner) → away low high c d ≡ true → f (c to d) ≡ false) → Skipped (leg_away low high r) l stop m → Unmet f r start stop m
  skip_on low high u t = record {
    low = omega (arith, s.low, t.low);
    high = t.high;
    none_met = λ j a c. elim (dec_lt j l) [ yes g ↦ s.none_met j a g | no g ↦ u (get_or r j origin) (get_or r (j + 1) origin) (t.skipped j (omega arith) c) ];
  }

module _ {r : List Corner} {k start stop l : ℕ} (s : Unmet (meets (leg r k)) r start stop l) where
  pub met_hit : l < stop → meets (leg r k) (leg r l) ≡ true → FirstMet r k start stop (Some l)
  met_hit h e = record { low = s.low; high = h; met = e; not_before = record { none_met = s.none_met } }

  pub met_end : stop ≤ l → FirstMet r k start stop None
  met_end h = record { none_met = λ j a b. s.none_met j a (omega arith) }

-- ---- edge k, as the code goes: the neighbour, the edges that are none, and the last edge
module _ (r : List Corner) (k : ℕ) where
  abbrev Pair : Option ℕ → Type 0
  Pair o = pair_at k o ≡ pair_after r k

  pub hit_next : k + 1 < length r → bad_at r k (k + 1) ≡ true → Pair (Some (k + 1))
  hit_next h e = scanned_hit (scanned_start r k) h e

  pub hit_next_leg : k + 2 < length r → folds (leg r k) (get_or r (k + 1) origin to get_or r (k + 2) origin) ≡ true → Pair (Some (k + 1))
  hit_next_leg h e = hit_next (omega arith) (sym (next_leg r k h) ∙ e)

  -- the neighbour is the last edge
  pub miss_only : k + 2 ≡ length r → bad_at r k (k + 1) ≡ false → Pair None
  miss_only h e = scanned_none (scanned_miss (scanned_start r k) (omega arith) e) (omega arith)

  -- it is not, and makes no pair
  module _ (far : k + 2 < length r) (next : bad_at r k (k + 1) ≡ false) where
    from_next : Scanned r k (k + 2)
    from_next = subst (Scanned r k) (two k) (scanned_miss (scanned_start r k) (omega arith) next)
      where
        two : (k : ℕ) → k + 1 + 1 ≡ k + 2
        two k = omega arith

    pub hit_far : {last l : ℕ} → last + 1 ≡ length r → MetAt r k (k + 2) last l → Pair (Some l)
    hit_far {last} {l} count f =
        let high = f.high in
        scanned_hit (scanned_met from_next (omega arith) f.low (omega arith) f.not_before) (omega arith) (bad_far r k l (omega (arith, f.low)) (omega arith) ∙ f.met)

    module _ {last : ℕ} (count : last + 1 ≡ length r) (none_far : MetNone r k (k + 2) last) where
      to_last : Scanned r k last
      to_last = scanned_met from_next (omega arith) (omega arith) (omega arith) none_far

      pub by_last : {b : Bool} → b ≡ bad_at r k (length r - 1) → Pair (then_some b last)
      by_last {b} e = go b (e ∙ ap (bad_at r k) (omega arith))
        where
          go : (t : Bool) → t ≡ bad_at r k last → Pair (then_some t last)
          go true g = scanned_hit to_last (omega arith) (sym g)
          go false g = scanned_none (scanned_miss to_last (omega arith) (sym g)) count

      -- edge k is the first edge, or not
      pub hit_first : k ≡ 0 → folds (close r last) (get_or r 0 origin to get_or r 1 origin) ≡ true → Pair (Some last)
      hit_first first e = by_last {b = true} (sym e ∙ last_first r k last count (omega arith) first)

      pub miss_first : k ≡ 0 → folds (close r last) (get_or r 0 origin to get_or r 1 origin) ≡ false → Pair None
      miss_first first e = by_last {b = false} (sym e ∙ last_first r k last count (omega arith) first)

      pub hit_last : (k ≡ 0 → ⊥) → meets (leg r k) (close r last) ≡ true → Pair (Some last)
      hit_last later e = by_last {b = true} (sym e ∙ last_far r k last count (omega arith) (omega (arith, later)))

      pub miss_last : (k ≡ 0 → ⊥) → meets (leg r k) (close r last) ≡ false → Pair None
      miss_last later e = by_last {b = false} (sym e ∙ last_far r k last count (omega arith) (omega (arith, later)))

-- the edge after edge k is the last one
module _ (r : List Corner) (k last : ℕ) (count : last + 1 ≡ length r) (near : k + 1 ≡ last) where
  at_last : bad_at r k last ≡ folds (get_or r k origin to get_or r last origin) (close r last)
  at_last = subst (λ (l : ℕ). bad_at r k l ≡ folds (get_or r k origin to get_or r l origin) (close r l)) near (bad_next_last r k (omega arith))

  start_last : Scanned r k last
  start_last = subst (Scanned r k) near (scanned_start r k)

  pub hit_neighbour : folds (get_or r k origin to get_or r last origin) (close r last) ≡ true → pair_at k (Some last) ≡ pair_after r k
  hit_neighbour e = scanned_hit start_last (omega arith) (at_last ∙ e)

  pub miss_neighbour : folds (get_or r k origin to get_or r last origin) (close r last) ≡ false → pair_at k None ≡ pair_after r k
  miss_neighbour e = scanned_none (scanned_miss start_last (omega arith) (at_last ∙ e)) count

-- ---- boxes that are away from that of edge k are passed
pub skip_start : (f : ℕ → Bool) (start stop : ℕ) → start ≤ stop → Skipped f start stop start
skip_start f start stop h = record { low = omega arith; high = h; skipped = λ j a b. absurd (omega arith) }

module _ {f : ℕ → Bool} {start stop l : ℕ} (s : Skipped f start stop l) where
  pub skip_step : l < stop → f l ≡ true → Skipped f start stop (l + 1)
  skip_step h e = record {
    low = omega (arith, s.low);
    high = omega arith;
    skipped = λ j a b. elim (dec_lt j l) [ yes g ↦ s.skipped j a g | no g ↦ here j (omega arith) ];
  }
    where
      here : (j : ℕ) → j ≡ l → f j ≡ true
      here j g = rw g e

  -- none is near
  pub skip_end : stop ≤ l → FirstNear f start stop l
  skip_end h = record { passed = s; near = λ g. absurd (omega arith) }

  -- one is
  pub near_here : f l ≡ false → FirstNear f start stop l
  near_here e = record { passed = s; near = λ g. e }

  -- what was passed as far as l, and from there as far as n
  pub skip_join : {end n : ℕ} → Skipped f l end n → end ≤ stop → Skipped f start stop n
  skip_join t h = record {
    low = omega (arith, s.low, t.low);
    high = omega (arith, t.high);
    skipped = λ j a b. elim (dec_lt j l) [ yes g ↦ s.skipped j a g | no g ↦ t.skipped j (omega arith) b ];
  }

  -- the same, where n is the first that is near
  pub near_join : {end n : ℕ} → FirstNear f l end n → end ≤ stop → (n < stop → n < end) → FirstNear f start stop n
  near_join t h g = record { passed = skip_join t.passed h; near = λ p. t.near (g p) }

module _ {a b : Corner} {around : Reach} (box : BoxOf a b around) where
  -- an edge whose box is away does not meet
  pub unmet : (c d : Corner) → away (corner_of around.low) (corner_of around.high) c d ≡ true → meets (a to b) (c to d) ≡ false
  unmet c d e = away_apart a b c d (rw (box.low_is, box.high_is) at e)

  -- of one that is not away the sides decide
  pub by_sides : (c d : Corner) → away (corner_of around.low) (corner_of around.high) c d ≡ false → straddle a b c d ≡ meets (a to b) (c to d)
  by_sides c d e = sym (near_sides a b c d (rw (box.low_is, box.high_is) at e))
