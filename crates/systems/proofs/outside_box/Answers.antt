-- The two ends as they are passed on. Assumes nothing.
use Rattle.std.proofs.Common.{◌∙◌, w64, to_z-of_z}
use Rattle.arith.specs.Laws.Machine.{v_arg, v_add, v_mul}
use Rattle.systems.proofs.Laws.Limits.{same_beyond}
use Rattle.systems.proofs.outside_box.Goals as goal

pub returns : goal.returns
returns c =
    let o = v_arg c.ranges.offset c.requires.0 in
    let m = v_arg c.ranges.millionths c.requires.1 in
    c.outside.ensures
    ∙ same_beyond (v_add w64 o (v_mul w64 m (v_arg c.ranges.low c.requires.2) tt) tt).is (v_add w64 o (v_mul w64 m (v_arg c.ranges.high c.requires.3) tt) tt).is (to_z-of_z c.ranges.number)
