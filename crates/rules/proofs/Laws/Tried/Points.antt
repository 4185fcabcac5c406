-- The statements of Tried.Points hold, each by computing. Made by reference/tried.py. Assumes nothing.
use Rattle.std.specs.Prelude.{refl}
use Rattle.rules.specs.Tried.Points.{Projected}
use Rattle.rules.specs.Computing.{computing}

pub points : Projected
unfolding computing
points = record {
  forward_1_east = record { unrounded = refl; rounded = refl };
  forward_1_west = record { unrounded = refl; rounded = refl };
  forward_2_east = record { unrounded = refl; rounded = refl };
  forward_2_west = record { unrounded = refl; rounded = refl };
  forward_3_east = record { unrounded = refl; rounded = refl };
  forward_3_west = record { unrounded = refl; rounded = refl };
  forward_4_east = record { unrounded = refl; rounded = refl };
  forward_4_west = record { unrounded = refl; rounded = refl };
  forward_5_east = record { unrounded = refl; rounded = refl };
  forward_5_west = record { unrounded = refl; rounded = refl };
  forward_6_east = record { unrounded = refl; rounded = refl };
  forward_6_west = record { unrounded = refl; rounded = refl };
  forward_7_east = record { unrounded = refl; rounded = refl };
  forward_7_west = record { unrounded = refl; rounded = refl };
  forward_8_east = record { unrounded = refl; rounded = refl };
  forward_8_west = record { unrounded = refl; rounded = refl };
  forward_9_east = record { unrounded = refl; rounded = refl };
  forward_9_west = record { unrounded = refl; rounded = refl };
  forward_10_east = record { unrounded = refl; rounded = refl };
  forward_10_west = record { unrounded = refl; rounded = refl };
  forward_11_east = record { unrounded = refl; rounded = refl };
  forward_11_west = record { unrounded = refl; rounded = refl };
  forward_12_east = record { unrounded = refl; rounded = refl };
  forward_12_west = record { unrounded = refl; rounded = refl };
  forward_13_east = record { unrounded = refl; rounded = refl };
  forward_13_west = record { unrounded = refl; rounded = refl };
  forward_14_east = record { unrounded = refl; rounded = refl };
  forward_14_west = record { unrounded = refl; rounded = refl };
  inverse_1_east = record { unrounded = refl; rounded = refl };
  inverse_1_west = record { unrounded = refl; rounded = refl };
  inverse_2_east = record { unrounded = refl; rounded = refl };
  inverse_2_west = record { unrounded = refl; rounded = refl };
  inverse_3_east = record { unrounded = refl; rounded = refl };
  inverse_3_west = record { unrounded = refl; rounded = refl };
  inverse_4_east = record { unrounded = refl; rounded = refl };
  inverse_4_west = record { unrounded = refl; rounded = refl };
  inverse_5_east = record { unrounded = refl; rounded = refl };
  inverse_5_west = record { unrounded = refl; rounded = refl };
  inverse_6_east = record { unrounded = refl; rounded = refl };
  inverse_6_west = record { unrounded = refl; rounded = refl };
  inverse_7_east = record { unrounded = refl; rounded = refl };
  inverse_7_west = record { unrounded = refl; rounded = refl };
  inverse_8_east = record { unrounded = refl; rounded = refl };
  inverse_8_west = record { unrounded = refl; rounded = refl };
  inverse_9_east = record { unrounded = refl; rounded = refl };
  inverse_9_west = record { unrounded = refl; rounded = refl };
  inverse_10_east = record { unrounded = refl; rounded = refl };
  inverse_10_west = record { unrounded = refl; rounded = refl };
  inverse_11_east = record { unrounded = refl; rounded = refl };
  inverse_11_west = record { unrounded = refl; rounded = refl };
  inverse_12_east = record { unrounded = refl; rounded = refl };
  inverse_12_west = record { unrounded = refl; rounded = refl };
  inverse_13_east = record { unrounded = refl; rounded = refl };
  inverse_13_west = record { unrounded = refl; rounded = refl };
  inverse_14_east = record { unrounded = refl; rounded = refl };
  inverse_14_west = record { unrounded = refl; rounded = refl };
}
