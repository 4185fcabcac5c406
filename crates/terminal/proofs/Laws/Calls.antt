-- The four calls of the projection: where one returns 0, its answer is there. And of all calls: what is returned is 0 or a number in use. Assumes nothing.
use Rattle.std.specs.Prelude.{◌≡◌, List, ℕ, ℤ}
use Rattle.rules.specs.Refusals.{answered}
use Rattle.rules.specs.Points.{Point, Ticks}
use Rattle.rules.specs.Rings.{Corner}
use Rattle.rules.specs.RingAnswers.{area_answer, turning_answer, crossing_answer, nozzle_answer}
use Rattle.rules.specs.FieldAnswers.{accept_answer, field_nozzle_answer, field_position_answer}
use Rattle.rings.specs.Answers.{refusal_of}
use Rattle.projection.specs.Worked.{worked_forward}
use Rattle.projection.specs.Inverse.{worked_inverse}
use Rattle.projection.specs.Laws.Right.{right}
use Rattle.conversion.specs.Plane.{worked_plane}
use Rattle.conversion.specs.Ring.{worked_conversion}
use Rattle.rules.proofs.Laws.Listed.{forward_listed, inverse_listed, plane_listed, conversion_listed, area_listed, turning_listed, crossing_answer_listed, nozzle_listed, accept_listed, field_nozzle_listed, field_position_listed}
use Rattle.terminal.specs.Returned.{AllReturned}
use Rattle.terminal.proofs.Laws.Zero.{zero_answers, returned}

pub forward_zero : (code : ℕ) (B L : ℤ) → refusal_of (worked_forward code B L) ≡ 0 → (p : Point) × (worked_forward code B L ≡ answered p)
forward_zero code B L = zero_answers (worked_forward code B L) (forward_listed right code B L)

pub inverse_zero : (code : ℕ) (X Y : ℤ) → refusal_of (worked_inverse code X Y) ≡ 0 → (t : Ticks) × (worked_inverse code X Y ≡ answered t)
inverse_zero code X Y = zero_answers (worked_inverse code X Y) (inverse_listed right code X Y)

pub plane_zero : (source target : ℕ) (X Y : ℤ) → refusal_of (worked_plane source target X Y) ≡ 0 → (c : Corner) × (worked_plane source target X Y ≡ answered c)
plane_zero source target X Y = zero_answers (worked_plane source target X Y) (plane_listed right source target X Y)

pub conversion_zero : (source target : ℕ) (numbers output : List ℤ) → refusal_of (worked_conversion source target numbers output) ≡ 0
    → (r : List ℤ) × (worked_conversion source target numbers output ≡ answered r)
conversion_zero source target numbers output = zero_answers (worked_conversion source target numbers output) (conversion_listed right source target numbers output)

pub all_returned : AllReturned
all_returned = record {
  forward = λ code B L. returned (worked_forward code B L) (forward_listed right code B L);
  inverse = λ code X Y. returned (worked_inverse code X Y) (inverse_listed right code X Y);
  plane_to_plane = λ source target X Y. returned (worked_plane source target X Y) (plane_listed right source target X Y);
  convert_ring = λ source target numbers output. returned (worked_conversion source target numbers output) (conversion_listed right source target numbers output);
  area2 = λ numbers. returned (area_answer numbers) (area_listed numbers);
  turning_number = λ numbers p. returned (turning_answer numbers p) (turning_listed numbers p);
  crossing = λ numbers. returned (crossing_answer numbers) (crossing_answer_listed numbers);
  nozzle = λ numbers p. returned (nozzle_answer numbers p) (nozzle_listed numbers p);
  field_accept = λ counts numbers. returned (accept_answer counts numbers) (accept_listed counts numbers);
  field_nozzle = λ counts numbers p. returned (field_nozzle_answer counts numbers p) (field_nozzle_listed counts numbers p);
  field_position = λ counts numbers p. returned (field_position_answer counts numbers p) (field_position_listed counts numbers p);
}
