-- 7 by the smallest and the largest number of an axis. Assumes nothing.
use Rattle.std.specs.Prelude.{Bool}
use Rattle.std.proofs.Common.{sym, ap}
use Rattle.rules.specs.Refusals.{◌if◌}
use Rattle.arith.specs.Laws.Machine.{v_fit, v_num, lt_yes, lt_no}
use Rattle.ring_corners.specs.Laws.Signed.{v_minus}
use Rattle.ring_checks.proofs.Laws.Axis.{far_low, far_high, not_far}
use Rattle.ring_checks.proofs.inside.Goals as goal
use Rattle.ring_checks.proofs.inside.Goals.{then-low-ltminus10000000000-via-then-low-ltminus10000000000, then-low-ltminus10000000000-via-else-low-ltminus10000000000+then-high-gt10000000000}

pub returns-then-low-ltminus10000000000 : goal.returns-then-low-ltminus10000000000
returns-then-low-ltminus10000000000 c = ap (λ (b : Bool). 7 if b) (sym (elim c.then-low-ltminus10000000000.branch [
  | then-low-ltminus10000000000-via-then-low-ltminus10000000000 w ↦ far_low c.args.low c.args.high (lt_yes (v_fit c.ranges.low) (v_minus 9_999_999_999) w.if-low-ltminus10000000000.true)
  | then-low-ltminus10000000000-via-else-low-ltminus10000000000+then-high-gt10000000000 w ↦ far_high c.args.low c.args.high (lt_yes (v_num 10_000_000_000) (v_fit c.ranges.high) w.if-high-gt10000000000.true)
]))

pub returns : goal.returns
returns c = ap (λ (b : Bool). 7 if b) (sym (not_far c.args.low c.args.high c.requires
    (lt_no (v_fit c.ranges.low) (v_minus 9_999_999_999) c.if-low-ltminus10000000000.false)
    (lt_no (v_num 10_000_000_000) (v_fit c.ranges.high) c.if-high-gt10000000000.false)))
