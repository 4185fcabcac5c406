-- The turning number, edge by edge: what the loop keeps. Assumes nothing.
use Rattle.std.specs.Prelude.{◌≡◌, refl, List, ℕ, ◌+◌, ◌<◌, ◌≤◌, ℤ, pos, nat_abs, ◌+ℤ◌, length, take, get_or}
use Rattle.std.proofs.Common.{sym, ◌∙◌, ap₂, add-one, arith, take_all, SFits}
use Rattle.std.proofs.Math.Path.{ap}
use Rattle.std.proofs.Math.Decide.{dec_lt}
use Rattle.std.specs.Int.{w64}
use Rattle.arith.specs.Laws.Order.{abs_add}
use Rattle.arith.specs.Laws.Within.{by_abs, w_fits}
use Rattle.rules.specs.Rings.{Corner, Edge, ◌to◌, origin, edges, total, turn, turning_number}
use Rattle.rules.proofs.Laws.Edges.{length_edges, edge_at, edge_last, total_more}
use Rattle.ring_corners.specs.Corners.{next_of}
use Rattle.ring_corners.specs.Laws.Flat.{next_is, next_none}
use Rattle.ring_corners.specs.Laws.Sides.{turn_size}

-- the edge from corner i to the next, by the number that the code works out
abbrev pub run : List Corner → ℕ → Edge
run r i = get_or r i origin to get_or r (next_of i (length r)) origin

pub run_at : (r : List Corner) (i : ℕ) → i < length r → get_or (edges r) i (origin to origin) ≡ run r i
run_at r i h = elim (dec_lt (i + 1) (length r)) [
  | yes g ↦ edge_at (origin to origin) origin r i (omega arith) ∙ ap (λ (k : ℕ). get_or r i origin to get_or r k origin) (sym (next_is i (length r) g ∙ add-one i))
  | no g ↦ edge_last (origin to origin) origin r i (omega arith) ∙ ap (λ (k : ℕ). get_or r i origin to get_or r k origin) (sym (next_none i (length r) (omega arith)))
]

-- the sum of the first i edges
pub record Turning (r : List Corner) (p : Corner) (sum : ℤ) (i : ℕ) : Type 0 where
  pub inside : i ≤ length r
  pub sum_is : sum ≡ total (turn p) (take i (edges r))
  pub size : nat_abs sum ≤ i

pub turning_start : (r : List Corner) (p : Corner) → Turning r p (pos 0) 0
unfolding total
turning_start r p = record { inside = omega arith; sum_is = refl; size = omega arith }

module _ {r : List Corner} {p : Corner} {sum : ℤ} {i : ℕ} (s : Turning r p sum i) where
  pub sum_size : (e : Edge) → nat_abs (sum +ℤ turn p e) ≤ i + 1
  sum_size e = omega (arith, abs_add sum (turn p e), turn_size p e, s.size)

  pub turning_step : i < length r → Turning r p (sum +ℤ turn p (run r i)) (i + 1)
  turning_step h = record {
    inside = omega arith;
    sum_is = ap₂ ◌+ℤ◌ s.sum_is (ap (turn p) (sym (run_at r i h)))
        ∙ sym (total_more (turn p) (origin to origin) (edges r) i (let n = length_edges r in omega arith))
        ∙ ap (λ (k : ℕ). total (turn p) (take k (edges r))) (sym (add-one i));
    size = sum_size (run r i);
  }

  pub turning_end : length r ≤ i → sum ≡ turning_number r p
  unfolding turning_number
  turning_end h = s.sum_is ∙ ap (total (turn p)) (take_all i (edges r) (let n = length_edges r in omega arith))

-- the sum stays small
pub turning_fits : {r : List Corner} {p : Corner} {sum : ℤ} {i : ℕ} → Turning r p sum i → length r ≤ 1024 → (e : Edge) → SFits w64 (sum +ℤ turn p e)
turning_fits {r} {p} {sum} {i} s m e = w_fits (by_abs (sum +ℤ turn p e) {n = 1025} (omega (arith, sum_size s e, s.inside))) tt
