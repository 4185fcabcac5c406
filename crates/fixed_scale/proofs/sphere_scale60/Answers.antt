-- `fixed_scale::sphere_scale60`: the sizes of the quotient's two sides. Assumes nothing.
use Rattle.std.proofs.Common.{ℕ, ◌+◌, ◌*◌, ◌-◌, ◌/◌, ◌≤◌, ◌<◌, le_trans, arith, lit<, lit≤}
use Rattle.fixed.specs.Worked.{S60}
use Rattle.fixed.specs.Relations.{Mul60}
use Rattle.fixed.proofs.Laws.Words.{QuotPre}
use Rattle.fixed.proofs.Laws.Products.{mul_low, mul_high}
use Rattle.fixed.proofs.Laws.Quotients.{quot_high}
use Rattle.fixed_scale.proofs.sphere_scale60.Goals as goal

under_low : {across d2 vv spread under : ℕ} → across ≤ 11 * S60 / 100 → 89 * S60 / 100 ≤ d2 → Mul60 across across vv → S60 - vv ≤ spread → Mul60 d2 spread under → 87 * S60 / 100 ≤ under
under_low {vv = vv} {spread = spread} h k m r p = le_trans (lit≤ tt) (mul_low p k (wide vv spread (mul_high m h h) r))
  where
    wide : (vv spread : ℕ) → vv ≤ 11 * S60 / 100 * (11 * S60 / 100) / S60 → S60 - vv ≤ spread → 98 * S60 / 100 ≤ spread
    wide vv spread a b = omega arith

under_high : {d2 spread under : ℕ} → d2 ≤ 110 * S60 / 100 → spread ≤ S60 → Mul60 d2 spread under → under ≤ 110 * S60 / 100
under_high h k p = le_trans (mul_high p h k) (lit≤ tt)

over_high : {k ratio kr meridian over : ℕ} → k ≤ S60 → ratio ≤ S60 → meridian ≤ S60 → kr ≤ ratio + 2 * (k - S60) → over ≤ meridian + 2 * (kr - S60) → over ≤ S60
over_high a b d e f = omega arith

asked : {over under : ℕ} → 87 * S60 / 100 ≤ under → under ≤ 110 * S60 / 100 → over ≤ S60 → QuotPre over under
asked u h o = (omega arith, omega arith, omega arith)

positive : {under : ℕ} → 87 * S60 / 100 ≤ under → 0 < under
positive u = omega arith

slope : {over under : ℕ} → 87 * S60 / 100 ≤ under → over ≤ S60 → 4 * over ≤ 5 * under
slope u o = omega arith

pub quot60-requires : goal.quot60-requires
quot60-requires c =
    let a = c.requires in
    let u = under_low a.1 a.0.halves.denominator_low c.mul60-across_squared.ensures.size c.root60-spread.ensures.size.0 c.mul60-under.ensures.size in
    let o = over_high a.0.k_high c.args.k.small.1 c.root60-meridian.ensures.size.1 c.mul60-lifted.ensures.size.tight c.mul60-over.ensures.size.tight in
    let h = under_high a.0.halves.denominator_high c.root60-spread.ensures.size.1 c.mul60-under.ensures.size in
    asked u h o

pub returns-clause-size : goal.returns-clause-size
returns-clause-size c =
    let a = c.requires in
    let u = under_low a.1 a.0.halves.denominator_low c.mul60-across_squared.ensures.size c.root60-spread.ensures.size.0 c.mul60-under.ensures.size in
    let o = over_high a.0.k_high c.args.k.small.1 c.root60-meridian.ensures.size.1 c.mul60-lifted.ensures.size.tight c.mul60-over.ensures.size.tight in
    quot_high 5 4 c.quot60.ensures.size (lit< tt) (positive u) (slope u o)
