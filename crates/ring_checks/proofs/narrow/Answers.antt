-- 8 by the smallest and the largest number of an axis. Assumes nothing.
use Rattle.std.specs.Prelude.{Bool}
use Rattle.std.proofs.Common.{sym, ap, w64}
use Rattle.rules.specs.Refusals.{◌if◌}
use Rattle.arith.specs.Laws.Machine.{v_arg, v_num, v_sub, need_sub, lt_yes, lt_no}
use Rattle.ring_checks.proofs.Laws.Axis.{inside_both, is_long, not_long}
use Rattle.ring_checks.proofs.narrow.Goals as goal

pub overflow_sub-high : goal.overflow_sub-high
overflow_sub-high c = let h = inside_both c.args.low c.args.high c.requires in need_sub (v_arg c.ranges.high h.1) (v_arg c.ranges.low h.0) tt

pub returns-then-high-low-gt20000000 : goal.returns-then-high-low-gt20000000
returns-then-high-low-gt20000000 c =
    let h = inside_both c.args.low c.args.high c.requires in
    ap (λ (b : Bool). 8 if b) (sym (is_long c.args.low c.args.high (lt_yes (v_num 20_000_000) (v_sub w64 (v_arg c.ranges.high h.1) (v_arg c.ranges.low h.0) tt) c.if-high-low-gt20000000.true)))

pub returns : goal.returns
returns c =
    let h = inside_both c.args.low c.args.high c.requires in
    ap (λ (b : Bool). 8 if b) (sym (not_long c.args.low c.args.high (lt_no (v_num 20_000_000) (v_sub w64 (v_arg c.ranges.high h.1) (v_arg c.ranges.low h.0) tt) c.if-high-low-gt20000000.false)))
