-- `fixed_bands::k60`: its row is one of the table, which keeps each step from going below 0, and what it answers is near K. Assumes nothing.
use Rattle.std.proofs.Common.{◌≡◌, ℕ, ◌*◌, ◌-◌, ◌/◌, ◌≤◌, ◌<◌, arith, ap, ◌∙◌}
use Rattle.terms.specs.Papers.{ellipsoid_of}
use Rattle.fixed.specs.Worked.{S60}
use Rattle.fixed_bands.specs.Worked.{rising, shortfall_table, K60}
use Rattle.fixed_bands.specs.Bands.{Latitude}
use Rattle.fixed_bands.proofs.Laws.Tests.{row_rising}
use Rattle.fixed_bands.proofs.Laws.Bands.{shortfall_asks, shortfall_below, K_near}
use Rattle.fixed_bands.proofs.k60.Goals as goal

pub rise60-requires : goal.rise60-requires
rise60-requires c = (shortfall_asks (ellipsoid_of c.args.ellipsoid) ((c.args.n - 172800000000) / 900000001) (omega arith) c.shortfall_row-row.result c.shortfall_row-row.ensures, omega arith)

pub overflow_sub-result : goal.overflow_sub-result
overflow_sub-result c =
    let E = ellipsoid_of c.args.ellipsoid in
    let is : c.rise60.result ≡ rising (shortfall_table E) (c.args.n - 172800000000) = c.rise60.ensures ∙ row_rising (shortfall_table E) (c.args.n - 172800000000) c.shortfall_row-row.result c.shortfall_row-row.ensures in
    omega (arith, is, shortfall_below E c.args.n (record { low = c.requires.0; high = c.requires.1 }))

pub returns-clause-value : goal.returns-clause-value
unfolding K60
returns-clause-value c =
    let E = ellipsoid_of c.args.ellipsoid in
    ap (λ r. S60 - r) (c.rise60.ensures ∙ row_rising (shortfall_table E) (c.args.n - 172800000000) c.shortfall_row-row.result c.shortfall_row-row.ensures)

pub returns-clause-size : goal.returns-clause-size
returns-clause-size c =
    let near = K_near c.args.n (record { low = c.requires.0; high = c.requires.1 }) (ellipsoid_of c.args.ellipsoid) in
    let is : S60 - c.rise60.result ≡ K60 (ellipsoid_of c.args.ellipsoid) c.args.n = returns-clause-value c in
    sized is near.low near.high
  where
    sized : {r v lo hi : ℕ} → r ≡ v → lo ≤ v → v ≤ hi → (lo ≤ r) × (r ≤ hi)
    sized e a b = (omega arith, omega arith)
