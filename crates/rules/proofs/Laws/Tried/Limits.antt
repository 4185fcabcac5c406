-- The statements of Tried.Limits hold, each by computing. Made by reference/tried.py. Assumes nothing.
use Rattle.std.specs.Prelude.{refl}
use Rattle.rules.specs.Tried.Limits.{HalfWidths, Boxes}
use Rattle.rules.specs.Computing.{computing}

pub half_widths : HalfWidths
unfolding computing
half_widths = record {
  half_width_1 = record { west_taken = refl; east_taken = refl; west_beyond = refl; east_beyond = refl };
  half_width_2 = record { west_taken = refl; east_taken = refl; west_beyond = refl; east_beyond = refl };
  half_width_3 = record { west_taken = refl; east_taken = refl; west_beyond = refl; east_beyond = refl };
  half_width_4 = record { west_taken = refl; east_taken = refl; west_beyond = refl; east_beyond = refl };
  half_width_5 = record { west_taken = refl; east_taken = refl; west_beyond = refl; east_beyond = refl };
  half_width_6 = record { west_taken = refl; east_taken = refl; west_beyond = refl; east_beyond = refl };
  half_width_7 = record { west_taken = refl; east_taken = refl; west_beyond = refl; east_beyond = refl };
  half_width_8 = record { west_taken = refl; east_taken = refl; west_beyond = refl; east_beyond = refl };
  half_width_9 = record { west_taken = refl; east_taken = refl; west_beyond = refl; east_beyond = refl };
  half_width_10 = record { west_taken = refl; east_taken = refl; west_beyond = refl; east_beyond = refl };
  half_width_11 = record { west_taken = refl; east_taken = refl; west_beyond = refl; east_beyond = refl };
  half_width_12 = record { west_taken = refl; east_taken = refl; west_beyond = refl; east_beyond = refl };
  half_width_13 = record { west_taken = refl; east_taken = refl; west_beyond = refl; east_beyond = refl };
  half_width_14 = record { west_taken = refl; east_taken = refl; west_beyond = refl; east_beyond = refl };
}

pub boxes : Boxes
unfolding computing
boxes = record {
  box_1 = record { south_west_taken = refl; north_east_taken = refl; south_beyond = refl; north_beyond = refl; west_beyond = refl; east_beyond = refl };
  box_2 = record { south_west_taken = refl; north_east_taken = refl; south_beyond = refl; north_beyond = refl; west_beyond = refl; east_beyond = refl };
  box_3 = record { south_west_taken = refl; north_east_taken = refl; south_beyond = refl; north_beyond = refl; west_beyond = refl; east_beyond = refl };
  box_4 = record { south_west_taken = refl; north_east_taken = refl; south_beyond = refl; north_beyond = refl; west_beyond = refl; east_beyond = refl };
  box_5 = record { south_west_taken = refl; north_east_taken = refl; south_beyond = refl; north_beyond = refl; west_beyond = refl; east_beyond = refl };
  box_6 = record { south_west_taken = refl; north_east_taken = refl; south_beyond = refl; north_beyond = refl; west_beyond = refl; east_beyond = refl };
  box_7 = record { south_west_taken = refl; north_east_taken = refl; south_beyond = refl; north_beyond = refl; west_beyond = refl; east_beyond = refl };
  box_8 = record { south_west_taken = refl; north_east_taken = refl; south_beyond = refl; north_beyond = refl; west_beyond = refl; east_beyond = refl };
  box_9 = record { south_west_taken = refl; north_east_taken = refl; south_beyond = refl; north_beyond = refl; west_beyond = refl; east_beyond = refl };
  box_10 = record { south_west_taken = refl; north_east_taken = refl; south_beyond = refl; north_beyond = refl; west_beyond = refl; east_beyond = refl };
  box_11 = record { south_west_taken = refl; north_east_taken = refl; south_beyond = refl; north_beyond = refl; west_beyond = refl; east_beyond = refl };
  box_12 = record { south_west_taken = refl; north_east_taken = refl; south_beyond = refl; north_beyond = refl; west_beyond = refl; east_beyond = refl };
  box_13 = record { south_west_taken = refl; north_east_taken = refl; south_beyond = refl; north_beyond = refl; west_beyond = refl; east_beyond = refl };
  box_14 = record { south_west_taken = refl; north_east_taken = refl; south_beyond = refl; north_beyond = refl; west_beyond = refl; east_beyond = refl };
}
