-- `fixed_bands::longitude60`: each row is one of its table, which keeps each step from going below 0. Assumes nothing.
use Rattle.std.proofs.Common.{◌≡◌, sym, ◌∙◌, subst₂, ℕ, ◌-◌, ◌/◌, ◌<◌, arith}
use Rattle.fixed_bands.specs.Worked.{longitude_sine, longitude_cosine}
use Rattle.fixed_bands.specs.Tables.{longitude_sine_table, longitude_cosine_table}
use Rattle.fixed_bands.specs.Bands.{LongitudeSizes}
use Rattle.fixed_bands.proofs.Laws.Tests.{row_rising, row_sinking}
use Rattle.fixed_bands.proofs.Laws.Bands.{longitude_sine_asks, longitude_cosine_asks, longitude_sizes}
use Rattle.fixed_bands.proofs.longitude60.Goals as goal

pub rise60-sine-requires : goal.rise60-sine-requires
rise60-sine-requires c = (longitude_sine_asks ((c.args.d) / 900000001) (omega arith) c.row_of.result c.row_of.ensures, omega arith)

pub sink60-cosine-requires : goal.sink60-cosine-requires
sink60-cosine-requires c = (longitude_cosine_asks ((c.args.d) / 900000001) (omega arith) c.row_of-2.result c.row_of-2.ensures, omega arith)

pub returns-clause-sine_value : goal.returns-clause-sine_value
unfolding longitude_sine longitude_cosine
returns-clause-sine_value c = (
  c.rise60-sine.ensures ∙ row_rising longitude_sine_table c.args.d c.row_of.result c.row_of.ensures,
  c.sink60-cosine.ensures ∙ row_sinking longitude_cosine_table c.args.d c.row_of-2.result c.row_of-2.ensures,
)

pub returns-clause-size : goal.returns-clause-size
returns-clause-size c =
    let v = returns-clause-sine_value c in
    subst₂ LongitudeSizes (sym v.0) (sym v.1) (longitude_sizes c.args.d c.requires)
