-- The statements of Tried.Nozzles hold, each by computing. Assumes nothing.
use Rattle.std.specs.Prelude.{refl}
use Rattle.rules.specs.Numbers.{square, bow}
use Rattle.rules.specs.Tried.Nozzles.{Nozzles}
use Rattle.rules.specs.Computing.{computing}

pub nozzles : Nozzles
unfolding square bow computing
nozzles = record {
  inside = refl;
  on_edge = refl;
  outside = refl;
  anticlockwise = refl;
  crossed = refl;
  crossed_turning = refl;
  crossed_area = refl;
  on_rising_edge = refl;
  on_falling_edge = refl;
  last_and_first = refl;
  no_length = refl;
  odd_list = refl;
}
