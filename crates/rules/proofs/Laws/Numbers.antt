-- P1 to P12 hold of the rules, by computation. Assumes nothing.
use Rattle.std.specs.Prelude.{◌≡◌, refl}
use Rattle.std.proofs.Math.Option.{some}
use Rattle.rules.specs.Crossing.{crossed}
use Rattle.rules.specs.Computing.{computing}
use Rattle.rules.proofs.Laws.Pairs.{crossed_some}
use Rattle.rules.specs.Numbers.{square, bow, Numbers}

bow_crossed : crossed bow ≡ some (record { low = 0; high = 2 })
unfolding bow computing
bow_crossed = refl

pub numbers : Numbers
unfolding square bow computing
numbers = record {
  P1 = refl;
  P2 = refl;
  P3 = refl;
  P4 = refl;
  P5 = refl;
  P6 = refl;
  P7 = refl;
  P8 = refl;
  P9 = (refl, refl);
  P10 = (refl, refl);
  P11 = (refl, refl);
  P12 = (crossed_some bow (record { low = 0; high = 2 }) bow_crossed, bow_crossed);
}
