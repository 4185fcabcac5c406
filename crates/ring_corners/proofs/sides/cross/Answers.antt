-- Each number is small, so each product fits. Assumes nothing.
use Rattle.std.proofs.Common.{w64}
use Rattle.arith.specs.Laws.Machine.{v_in, v_mul, v_sub, need_sub}
use Rattle.rules.specs.Rings.{area_term}
use Rattle.ring_corners.proofs.sides.cross.Goals as goal

pub overflow_sub-result : goal.overflow_sub-result
overflow_sub-result c =
    need_sub
    (v_mul w64 (v_in w64 c.args.u.x c.requires.0.0 tt) (v_in w64 c.args.v.y c.requires.1.1 tt) tt)
    (v_mul w64 (v_in w64 c.args.v.x c.requires.1.0 tt) (v_in w64 c.args.u.y c.requires.0.1 tt) tt)
    tt

pub returns : goal.returns
unfolding area_term
returns c =
    (v_sub w64
    (v_mul w64 (v_in w64 c.args.u.x c.requires.0.0 tt) (v_in w64 c.args.v.y c.requires.1.1 tt) tt)
    (v_mul w64 (v_in w64 c.args.v.x c.requires.1.0 tt) (v_in w64 c.args.u.y c.requires.0.1 tt) tt)
    tt).is
