-- The statements of Tried.Runs hold, each by computing. Assumes nothing.
use Rattle.std.specs.Prelude.{refl}
use Rattle.rules.specs.Tried.Runs.{Runs}
use Rattle.rules.specs.Computing.{computing}

pub runs : Runs
unfolding computing
runs = record {
  north_48 = refl;
  below_48 = refl;
  north_56 = refl;
  above_56 = refl;
  east_16_30 = refl;
  past_16_30 = refl;
  two_corners = refl;
  three_corners = refl;
  span_taken = refl;
  span_refused = refl;
  span_of_Y_taken = refl;
  span_of_Y_refused = refl;
  corners_1024 = refl;
  corners_1025 = refl;
  far_north_taken = refl;
  far_north_refused = refl;
  far_south_taken = refl;
  far_south_refused = refl;
  seven_before_eight = refl;
  ellipsoids = refl;
  first_1 = refl;
  then_2 = refl;
  corner_1025 = refl;
  corner_1024 = refl;
  negative_root = refl;
  quotient_by_0 = refl;
  half = refl;
  half_of_3 = refl;
  minus_half_of_3 = refl;
  places_kept = refl;
  too_short = refl;
  exact_1 = refl;
  exact_i = refl;
  d_0 = refl;
  m0_answers = refl;
}
