-- The statements of Tried.Files hold, each by computing. Assumes nothing.
use Rattle.std.specs.Prelude.{refl}
use Rattle.rules.specs.Tried.Files.{J, bow_file, Jobs}
use Rattle.rules.specs.Computing.{computing}

pub jobs : Jobs
unfolding J bow_file computing
jobs = record {
  J_length = refl;
  J_output = refl;
  bow_output = refl;
  empty_output = refl;
  unfinished = refl;
  unknown_kind = refl;
  cut_off = refl;
  no_place = refl;
  unknown_code = refl;
  lines_stay = refl;
  field_dropped = refl;
  too_few = refl;
}
