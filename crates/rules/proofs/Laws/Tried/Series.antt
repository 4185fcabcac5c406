-- The statements of Tried.Series hold, each by computing. Made by reference/tried.py. Assumes nothing.
use Rattle.std.specs.Prelude.{refl}
use Rattle.rules.specs.Tried.Series.{Series}
use Rattle.rules.specs.Computing.{computing}

pub series : Series
unfolding computing
series = record {
  sine_3 = refl;
  cosine_3 = refl;
  exponential_3 = refl;
  hyperbolic_sine_3 = refl;
  hyperbolic_cosine_3 = refl;
  arctan_3 = refl;
  artanh_3 = refl;
}
