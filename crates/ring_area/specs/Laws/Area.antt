-- The doubled area seen from the first corner: the differences are small, and the sum is the paper's. Assumes nothing.
use Rattle.std.specs.Prelude.{◌≡◌, refl, ℕ, ◌+◌, ◌*◌, ◌<◌, ◌≤◌, ℤ, pos, nat_abs, ◌+ℤ◌, ◌-ℤ◌, ◌*ℤ◌, length}
use Rattle.std.proofs.Math.Path.{sym, ap}
use Rattle.std.proofs.Common.{◌∙◌, w64, SFits, to_z, of_z, to_z-of_z, add-one, arith, drop_of_length-le, drop-cons}
use mathlib.Core.List.{List, [], ◌∷◌, ◌++◌}
use Rattle.std.proofs.Math.IntN.{+ℤ_idr, +ℤ_idl, +ℤ_assoc}
use Rattle.std.proofs.Math.ListN.{drop, get_or}
use Rattle.arith.specs.Laws.Order.{abs_add}
use Rattle.arith.specs.Laws.Ring.{ring, Z·ring, by_ring, ev_num}
use Rattle.arith.specs.Laws.Within.{by_abs, w_mul, w_sub, w_fits}
use Rattle.rules.specs.Rings.{Corner, ◌to◌, origin, onward, line, edges, total, area_term, area2}
use Rattle.ring_corners.specs.Corners.{corner, seen_from, Small, pairs, Accepted}
use Rattle.ring_corners.specs.Laws.Flat.{first_in}
use Rattle.ring_corners.specs.Laws.Sides.{seen_small}

-- the terms of the corners l after p, all seen from o
unfoldable pub rest : Corner → Corner → List Corner → ℤ
rest o p [] = pos 0
rest o p (c ∷ l) = area_term (p to seen_from o c) +ℤ rest o (seen_from o c) l

moved' : (ox oy ax ay bx by z : ℤ)
    → (ax *ℤ by -ℤ bx *ℤ ay) +ℤ (z +ℤ (bx *ℤ oy -ℤ ox *ℤ by))
    ≡ (((ax -ℤ ox) *ℤ (by -ℤ oy) -ℤ (bx -ℤ ox) *ℤ (ay -ℤ oy)) +ℤ z) +ℤ (ax *ℤ oy -ℤ ox *ℤ ay)
moved' ox oy ax ay bx by z =
    ring (ox ∷ oy ∷ ax ∷ ay ∷ bx ∷ by ∷ z ∷ []) λ ρ e1 e2 e3 e4 e5 e6 e7. simp (Z·ring, e1, e2, e3, e4, e5, e6, e7) (by_ring _ _ _ refl)

moved : (o a b : Corner) (z : ℤ) → area_term (a to b) +ℤ (z +ℤ area_term (b to o)) ≡ (area_term (seen_from o a to seen_from o b) +ℤ z) +ℤ area_term (a to o)
unfolding area_term
moved o a b z = moved' o.x o.y a.x a.y b.x b.y z

path : (o a : Corner) (l : List Corner) → total area_term (onward a (l ++ o ∷ [])) ≡ rest o (seen_from o a) l +ℤ area_term (a to o)
unfolding total onward rest
path o a [] = +ℤ_idr (area_term (a to o)) ∙ sym (+ℤ_idl (area_term (a to o)))
path o a (b ∷ l) = ap (λ (z : ℤ). area_term (a to b) +ℤ z) (path o b l) ∙ moved o a b (rest o (seen_from o b) l)

none : (o : Corner) (z : ℤ) → z +ℤ area_term (o to o) ≡ z
unfolding area_term
none o z = go o.x o.y z
  where
    go : (x y z : ℤ) → z +ℤ (x *ℤ y -ℤ x *ℤ y) ≡ z
    go x y z = ring (x ∷ y ∷ z ∷ []) λ ρ e1 e2 e3. simp (Z·ring, e1, e2, e3) (by_ring _ _ _ refl)

self : (o : Corner) → seen_from o o ≡ origin
self o = λ i. corner (go o.x i) (go o.y i)
  where
    go : (x : ℤ) → x -ℤ x ≡ pos 0
    go x = ring (x ∷ []) λ ρ e1. simp (Z·ring, e1, ev_num ρ) (by_ring _ _ _ refl)

pub from_first : (o : Corner) (l : List Corner) → area2 (o ∷ l) ≡ rest o origin l
unfolding area2 edges line
from_first o l = path o o l ∙ none o (rest o (seen_from o o) l) ∙ ap (λ (p : Corner). rest o p l) (self o)

-- ---- what the loop keeps at corner i: p is the corner before it, seen from the first, and what is left makes the sum whole
pub record Summing (r : List Corner) (p : Corner) (sum : ℤ) (i : ℕ) : Type 0 where
  pub low : 1 ≤ i
  pub high : i ≤ length r
  pub whole : area2 r ≡ sum +ℤ rest (get_or r 0 origin) p (drop i r)
  pub near_small : Small 20_000_000 p
  pub s_small : nat_abs sum ≤ i * 800_000_000_000_000

pub summing_start : (r : List Corner) → 1 ≤ length r → Summing r origin (pos 0) 1
summing_start [] h = absurd (omega arith)
summing_start (o ∷ l) h = record {
  low = omega arith;
  high = omega arith;
  whole = from_first o l ∙ sym (+ℤ_idl (rest o origin l));
  near_small = (omega arith, omega arith);
  s_small = omega arith;
}

pub term_size : (p q : Corner) → Small 20_000_000 p → Small 20_000_000 q → nat_abs (area_term (p to q)) ≤ 800_000_000_000_000
unfolding area_term
term_size p q h k = (w_sub (w_mul (by_abs p.x h.0) (by_abs q.y k.1)) (w_mul (by_abs q.x k.0) (by_abs p.y h.1))).within

module _ {r : List Corner} {p : Corner} {sum : ℤ} {i : ℕ} (s : Summing r p sum i) where
  module _ (h : i < length r) (q : Corner) (e : q ≡ seen_from (get_or r 0 origin) (get_or r i origin)) (k : Small 20_000_000 q) where
    pub sum_size : nat_abs (sum +ℤ area_term (p to q)) ≤ (i + 1) * 800_000_000_000_000
    sum_size = omega (arith, abs_add sum (area_term (p to q)), term_size p q s.near_small k, s.s_small)

    pub summing_step : Summing r q (sum +ℤ area_term (p to q)) (i + 1)
    unfolding rest
    summing_step = record {
      low = omega arith;
      high = omega arith;
      whole = s.whole
          ∙ ap (λ (l : List Corner). sum +ℤ rest (get_or r 0 origin) p l) (drop-cons r i origin h ∙ ap (λ (k : ℕ). get_or r i origin ∷ drop k r) (sym (add-one i)))
          ∙ ap (λ (t : Corner). sum +ℤ (area_term (p to t) +ℤ rest (get_or r 0 origin) t (drop (i + 1) r))) (sym e)
          ∙ sym (+ℤ_assoc sum (area_term (p to q)) (rest (get_or r 0 origin) q (drop (i + 1) r)));
      near_small = k;
      s_small = sum_size;
    }

  pub summing_end : length r ≤ i → sum ≡ area2 r
  unfolding rest
  summing_end h = sym (s.whole ∙ ap (λ (l : List Corner). sum +ℤ rest (get_or r 0 origin) p l) (drop_of_length-le r h) ∙ +ℤ_idr sum)

-- a corner of an accepted ring, seen from the first, is near; so the sum fits, and the code's own numbers are those of the rules
module _ {l : List ℤ} {p : Corner} {sum : ℤ} {i : ℕ} (a : Accepted l) (s : Summing (pairs l) p sum i) (h : i < length (pairs l)) (q : Corner) (e : q ≡ seen_from (get_or (pairs l) 0 origin) (get_or (pairs l) i origin)) where
  small : Small 20_000_000 q
  small = seen_small (get_or (pairs l) 0 origin) (get_or (pairs l) i origin) q (a.near i 0 h (first_in a)) e

  pub summing_fits : {t : ℤ} → t ≡ area_term (p to q) → SFits w64 (sum +ℤ t)
  summing_fits f = rw f (w_fits (by_abs (sum +ℤ area_term (p to q)) {n = 819_200_000_000_000_000} (omega (arith, sum_size s h q e small, a.at_most))) tt)

  pub summing_more : {t : ℤ} → t ≡ area_term (p to q) → Summing (pairs l) q (to_z w64 (of_z w64 (sum +ℤ t))) (i + 1)
  summing_more f = rw (to_z-of_z (summing_fits f), f) (summing_step s h q e small)
