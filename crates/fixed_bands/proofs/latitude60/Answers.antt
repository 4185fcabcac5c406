-- `fixed_bands::latitude60`: each row is one of its table, which keeps each step from going below 0. Assumes nothing.
use Rattle.std.proofs.Common.{◌≡◌, sym, ◌∙◌, subst₂, ℕ, ◌-◌, ◌/◌, ◌<◌, arith}
use Rattle.fixed_bands.specs.Worked.{latitude_sine, latitude_cosine}
use Rattle.fixed_bands.specs.Tables.{latitude_sine_table, latitude_cosine_table}
use Rattle.fixed_bands.specs.Bands.{LatitudeSizes}
use Rattle.fixed_bands.proofs.Laws.Tests.{row_rising, row_sinking}
use Rattle.fixed_bands.proofs.Laws.Bands.{latitude_sine_asks, latitude_cosine_asks, latitude_sizes}
use Rattle.fixed_bands.proofs.latitude60.Goals as goal

pub rise60-sine-requires : goal.rise60-sine-requires
rise60-sine-requires c = (latitude_sine_asks ((c.args.n - 172800000000) / 900000001) (omega arith) c.row_of.result c.row_of.ensures, omega arith)

pub sink60-cosine-requires : goal.sink60-cosine-requires
sink60-cosine-requires c = (latitude_cosine_asks ((c.args.n - 172800000000) / 900000001) (omega arith) c.row_of-2.result c.row_of-2.ensures, omega arith)

pub returns-clause-sine_value : goal.returns-clause-sine_value
unfolding latitude_sine latitude_cosine
returns-clause-sine_value c = (
  c.rise60-sine.ensures ∙ row_rising latitude_sine_table (c.args.n - 172800000000) c.row_of.result c.row_of.ensures,
  c.sink60-cosine.ensures ∙ row_sinking latitude_cosine_table (c.args.n - 172800000000) c.row_of-2.result c.row_of-2.ensures,
)

pub returns-clause-size : goal.returns-clause-size
returns-clause-size c =
    let v = returns-clause-sine_value c in
    subst₂ LatitudeSizes (sym v.0) (sym v.1) (latitude_sizes c.args.n (record { low = c.requires.0; high = c.requires.1 }))
