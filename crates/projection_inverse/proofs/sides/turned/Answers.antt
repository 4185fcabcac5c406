-- The opposite, or the number as it came. Assumes nothing.
use Rattle.std.proofs.Common.{◌∙◌, ◌+◌, ◌^◌, nat_abs, arith, w64, to_z-of_z, lt→ltb}
use Rattle.std.specs.Prelude.{neg_ℤ}
use Rattle.std.proofs.Math.IntN.{+ℤ_idl}
use Rattle.arith.specs.Laws.Machine.{v_num, v_sub, v_fit}
use Rattle.fixed.specs.Nearness.{turned}
use Rattle.projection_worked.proofs.Laws.Undoing.{turned_by}
use Rattle.projection_inverse.proofs.sides.turned.Goals as goal

pub returns-then-minus : goal.returns-then-minus
unfolding turned
returns-then-minus c = (v_sub w64 (v_num 0) (v_fit c.ranges.number) (lt→ltb (0 + nat_abs c.args.number) (2 ^ 63) (omega arith))).is ∙ +ℤ_idl (neg_ℤ c.args.number) ∙ turned_by c.args.number c.if-minus.true

pub returns-else-minus : goal.returns-else-minus
unfolding turned
returns-else-minus c = to_z-of_z c.ranges.number ∙ turned_by c.args.number c.if-minus.false
