-- Demand 3 holds of the calls, for every list that the checks accept. Assumes nothing.
use Rattle.std.specs.Prelude.{◌≡◌, List, reverse, ℕ, ◌<◌, ◌≤◌, ℤ, length, Result, Ok, Err}
use Rattle.std.proofs.Common.{sym, ◌∙◌, ap, arith}
use Rattle.rules.specs.Refusals.{Answer, answered, ◌>>=◌}
use Rattle.rules.specs.Rings.{Corner, area2, turning_number, inner, outer}
use Rattle.rules.specs.RingAnswers.{ring_checks, area_answer, turning_answer, numbers_of}
use Rattle.rules.proofs.Laws.Demand.{demand}
use Rattle.rings.specs.Answers.{whole_paper, AreaCall, TurningCall}
use Rattle.terms.specs.declared.refusals.Refusal.{Refusal}
use Rattle.ring_checks.proofs.Laws.Steps.{not_answered}
use Rattle.rings.proofs.Laws.Parts.{part_passes, at_most, inner_within, outer_within, inner_count, outer_count, reverse_within, reverse_count}
use Rattle.rings.specs.Demand.{Calls}

-- an answer that is the paper's number is that number
whole_of : (w : Result ℤ Refusal) (z : ℤ) → whole_paper w ≡ answered z → w ≡ Ok z
whole_of (Ok y) z e = cc e
whole_of (Err r) z e = absurd (not_answered r z e)

turning_is : (l : List ℤ) (r : List Corner) → ring_checks l ≡ answered r → (p : Corner) (w : Result ℤ Refusal) → TurningCall l p w → w ≡ Ok (turning_number r p)
unfolding turning_answer
turning_is l r e p w h = whole_of w (turning_number r p) (h ∙ ap (λ (a : Answer (List Corner)). a >>= λ t. answered (turning_number t p)) e)

area_is : (l : List ℤ) (r : List Corner) → ring_checks l ≡ answered r → (w : Result ℤ Refusal) → AreaCall l w → w ≡ Ok (area2 r)
unfolding area_answer
area_is l r e w h = whole_of w (area2 r) (h ∙ ap (λ (a : Answer (List Corner)). a >>= λ t. answered (area2 t)) e)

-- for every list that the checks accept
pub calls : (l : List ℤ) (r : List Corner) → ring_checks l ≡ answered r → Calls l r
calls l r e = record {
  cut_turning = λ i j h k m n p w u v a b c. record {
    whole = turning_number r p;
    part = turning_number (inner i j r) p;
    other = turning_number (outer i j r) p;
    whole_is = turning_is l r e p w a;
    part_is = turning_is (numbers_of (inner i j r)) (inner i j r) (inside i j m) p u b;
    other_is = turning_is (numbers_of (outer i j r)) (outer i j r) (outside i j h n) p v c;
    sum = demand.cut_turning r i j h k p;
  };
  cut_area = λ i j h k m n w u v a b c. record {
    whole = area2 r;
    part = area2 (inner i j r);
    other = area2 (outer i j r);
    whole_is = area_is l r e w a;
    part_is = area_is (numbers_of (inner i j r)) (inner i j r) (inside i j m) u b;
    other_is = area_is (numbers_of (outer i j r)) (outer i j r) (outside i j h n) v c;
    sum = demand.cut_area r i j h k;
  };
  reverse_turning = λ p w v a b. record {
    whole = turning_number r p;
    whole_is = turning_is l r e p w a;
    reversed_is = turning_is (numbers_of (reverse r)) (reverse r) back p v b ∙ ap Ok (demand.reverse_turning r p);
  };
  reverse_area = λ w v a b. record {
    whole = area2 r;
    whole_is = area_is l r e w a;
    reversed_is = area_is (numbers_of (reverse r)) (reverse r) back v b ∙ ap Ok (demand.reverse_area r);
  };
  line_turning = λ p q h w v a b. turning_is l r e p w a ∙ ap Ok (demand.line_turning r p q h) ∙ sym (turning_is l r e q v b);
}
  where
    few : (3 ≤ length r) × (length r ≤ 1024)
    few = at_most l r e

    inside : (i j : ℕ) → 3 ≤ length (inner i j r) → ring_checks (numbers_of (inner i j r)) ≡ answered (inner i j r)
    inside i j m = part_passes l r (inner i j r) e (inner_within i j r) m (omega (arith, few, inner_count i j r))

    outside : (i j : ℕ) → i < j → 3 ≤ length (outer i j r) → ring_checks (numbers_of (outer i j r)) ≡ answered (outer i j r)
    outside i j h n = part_passes l r (outer i j r) e (outer_within i j r) n (omega (arith, few, outer_count i j r h))

    back : ring_checks (numbers_of (reverse r)) ≡ answered (reverse r)
    back = part_passes l r (reverse r) e (reverse_within r) (omega (arith, few, reverse_count r)) (omega (arith, few, reverse_count r))
