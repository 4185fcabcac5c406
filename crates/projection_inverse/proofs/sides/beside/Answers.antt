-- The sum is small, and the part as it was passed on is the part. Assumes nothing.
use Rattle.std.proofs.Common.{◌≡◌, ap, ◌∙◌, subst, sym, ℤ, ◌≤◌, Bool, w64, to_z, of_z, FitsSigned, to_z-of_z, nat_abs}
use Rattle.arith.specs.Machine.{Is}
use Rattle.arith.specs.Laws.Machine.{v_arg, v_in, v_add, need_add}
use Rattle.arith.specs.Laws.Within.{by_abs}
use Rattle.fixed.specs.Nearness.{turned}
use Rattle.fixed.proofs.Laws.Turned.{turned_within}
use Rattle.projection_inverse.proofs.sides.beside.Goals as goal

-- a number that was passed on, turned, and passed on
passed_on : (minus : Bool) (part r : ℤ) → FitsSigned w64 part → nat_abs part ≤ 1000000000000 → r ≡ turned minus (to_z w64 (of_z w64 part)) → Is (to_z w64 (of_z w64 r)) (turned minus part) 1000000000000
passed_on minus part r f h e = subst (λ z. Is (to_z w64 (of_z w64 z)) (turned minus part) 1000000000000) (sym (e ∙ ap (turned minus) (to_z-of_z f))) (v_in w64 (turned minus part) (turned_within minus (by_abs part h)).within tt)

pub overflow_add-result : goal.overflow_add-result
overflow_add-result c = need_add (v_arg c.ranges.offset c.requires.0) (passed_on c.args.minus c.args.part c.turned.result c.ranges.part c.requires.1 c.turned.ensures) tt

pub returns : goal.returns
returns c = (v_add w64 (v_arg c.ranges.offset c.requires.0) (passed_on c.args.minus c.args.part c.turned.result c.ranges.part c.requires.1 c.turned.ensures) tt).is
