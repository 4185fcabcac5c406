-- The search for the first crossed pair, lower edge by lower edge. Assumes nothing.
use Rattle.std.specs.Prelude.{◌≡◌, refl, Bool, List, drop}
use Rattle.std.proofs.Math.Path.{sym, ap}
use Rattle.std.proofs.Common.{◌∙◌, ap₂, add-one, arith, drop_of_length-le, drop-cons, lt-ltb, le-ltb}
use Rattle.std.proofs.Math.Bool.{true, false}
use Rattle.std.proofs.Math.Option.{Option, none, some}
use Prim.Native.Nat.{ℕ, suc, ◌+◌, ◌*◌, ◌/◌, ◌%◌, ◌<◌, ◌≤◌}
use Rattle.std.proofs.Math.ListN.{length}
use Rattle.rules.specs.Refusals.{answered, crossed_at}
use Rattle.rules.specs.Rings.{Corner, ◌to◌, origin, edge, edges, EdgePair, edge_pairs, place}
use Rattle.rules.specs.RingAnswers.{looked_through, not_crossed}
use Rattle.rules.specs.Crossing.{first_with, first_of, crossed}
use Rattle.rules.proofs.Laws.Edges.{length_edges}
use Rattle.rules.proofs.Laws.Looked.{pair_of}
use Rattle.rules.proofs.Laws.Pairs.{crossed_some}
use Rattle.ring_pairs.specs.Crossings.{pair_after}
use Rattle.rings.specs.Found.{found_pair}

-- the edges before edge k make no pair
pub record Searched (r : List Corner) (k : ℕ) : Type 0 where
  pub left : crossed r ≡ first_of (length r) k (drop k (edges r))

pub searched_start : (r : List Corner) → Searched r 0
unfolding crossed
searched_start r = record { left = refl }

packed : (k l : ℕ) → k < 1024 → l < 1024 → found_pair (1024 * k + l) ≡ some (pair_of k l)
unfolding found_pair
packed k l h g =
    ap (λ (t : Bool). elim t [ true ↦ some (pair_of ((1024 * k + l) / 1024) ((1024 * k + l) % 1024)) | false ↦ none ]) (lt-ltb (1024 * k + l) 1_048_576 (omega arith))
    ∙ ap₂ (λ (a b : ℕ). some (pair_of a b)) (upper k l g) (lower k l g)
  where
    upper : (k l : ℕ) → l < 1024 → (1024 * k + l) / 1024 ≡ k
    upper k l g = omega arith

    lower : (k l : ℕ) → l < 1024 → (1024 * k + l) % 1024 ≡ l
    lower k l g = omega arith

module _ {r : List Corner} {k : ℕ} (s : Searched r k) where
  either : Option EdgePair → Option EdgePair
  either o = elim o [ some t ↦ some t | none ↦ first_of (length r) (suc k) (drop (suc k) (edges r)) ]

  first : k < length r → crossed r ≡ either (pair_after r k)
  unfolding first_of either pair_after edge
  first h = s.left ∙ ap (first_of (length r) k) (drop-cons (edges r) k (origin to origin) (let e = length_edges r in omega arith))

  module _ (h : k < length r) where
    -- edge l makes the first pair with edge k
    module _ (l : ℕ) (e : some (pair_of k l) ≡ pair_after r k) where
      found : crossed r ≡ some (pair_of k l)
      unfolding either
      found = first h ∙ ap either (sym e)

      pub searched_inside : l < length r
      searched_inside = (crossed_some r (pair_of k l) found).inside

      pub searched_hit : length r ≤ 1024 → found_pair (1024 * k + l) ≡ crossed r
      searched_hit m = let i = searched_inside in packed k l (omega arith) (omega arith) ∙ sym found

    pub searched_miss : none ≡ pair_after r k → Searched r (k + 1)
    unfolding either
    searched_miss e = record { left = first h ∙ ap either (sym e) ∙ ap (λ (i : ℕ). first_of (length r) i (drop i (edges r))) (sym (add-one k)) }

  -- the last edge makes no pair with a later one
  pub searched_end : k + 1 ≡ length r → found_pair 1_048_576 ≡ crossed r
  unfolding either first_of first_with pair_after found_pair
  searched_end h =
      let n : length (edges r) ≤ suc k = (let e = length_edges r in omega arith) in
      sym (first (omega arith)
      ∙ ap either (ap (first_with (length r) k (edge r k) (suc k)) (drop_of_length-le (edges r) n))
      ∙ ap (first_of (length r) (suc k)) (drop_of_length-le (edges r) n))

-- ---- what was found, as the rules' answer
module _ (r : List Corner) (n edges : ℕ) (e : found_pair n ≡ crossed r) (same : edges ≡ length r) where
  pub pair_found : n < 1_048_576 → crossed r ≡ some (pair_of (n / 1024) (n % 1024))
  unfolding found_pair
  pair_found h = sym e ∙ ap (λ (t : Bool). elim t [ true ↦ some (pair_of (n / 1024) (n % 1024)) | false ↦ none ]) (lt-ltb n 1_048_576 h)

  pub hit_answer : n < 1_048_576 → crossed_at (record { ring = 0; low = n / 1024; high = n % 1024; looked_at = place (pair_of (n / 1024) (n % 1024)) (edge_pairs edges) }) ≡ not_crossed r
  unfolding not_crossed
  hit_answer h = ap (λ (m : ℕ). looked_through m (some (pair_of (n / 1024) (n % 1024)))) same ∙ sym (ap (looked_through (length r)) (pair_found h))

  pub clean_answer : 1_048_576 ≤ n → answered (length (edge_pairs edges)) ≡ not_crossed r
  unfolding not_crossed found_pair
  clean_answer h =
      ap (λ (m : ℕ). looked_through m none) same
      ∙ ap (looked_through (length r)) (sym (ap (λ (t : Bool). elim t [ true ↦ some (pair_of (n / 1024) (n % 1024)) | false ↦ none ]) (le-ltb n 1_048_576 h)) ∙ e)
