-- Each difference is small, so each product fits. Assumes nothing.
use Rattle.std.proofs.Common.{rules, ◌≤◌, ℤ, ◌-ℤ◌, w64, SFits, to_z, of_z, to_z-of_z, nat_abs}
use Rattle.arith.specs.Machine.{Is}
use Rattle.arith.specs.Laws.Machine.{v_mul, v_add, need_mul, need_add}
use Rattle.ring_corners.specs.Laws.Signed.{v_diff}
use Rattle.ring_pairs.specs.Crossings.{ahead}
use Rattle.ring_pairs.proofs.meeting.onward.Goals as goal

-- a difference of two parameters, as the code has it
off : (x y : ℤ) → SFits w64 x → SFits w64 y → nat_abs (x -ℤ y) ≤ 20_000_000 → Is (to_z w64 (of_z w64 (to_z w64 (of_z w64 x) -ℤ to_z w64 (of_z w64 y)))) (x -ℤ y) 20_000_000
off x y f g h = v_diff w64 (to_z-of_z f) (to_z-of_z g) h tt

pub overflow_mul-result : goal.overflow_mul-result
overflow_mul-result c =
    need_mul (off c.args.b.x c.args.a.x (search rules) (search rules) c.requires.b_a.x_near) (off c.args.c.x c.args.b.x (search rules) (search rules) c.requires.c_b.x_near) tt

pub overflow_mul-result-2 : goal.overflow_mul-result-2
overflow_mul-result-2 c =
    need_mul (off c.args.b.y c.args.a.y (search rules) (search rules) c.requires.b_a.y_near) (off c.args.c.y c.args.b.y (search rules) (search rules) c.requires.c_b.y_near) tt

pub overflow_add-result : goal.overflow_add-result
overflow_add-result c =
    need_add
    (v_mul w64 (off c.args.b.x c.args.a.x (search rules) (search rules) c.requires.b_a.x_near) (off c.args.c.x c.args.b.x (search rules) (search rules) c.requires.c_b.x_near) tt)
    (v_mul w64 (off c.args.b.y c.args.a.y (search rules) (search rules) c.requires.b_a.y_near) (off c.args.c.y c.args.b.y (search rules) (search rules) c.requires.c_b.y_near) tt)
    tt

pub returns : goal.returns
unfolding ahead
returns c =
    (v_add w64
    (v_mul w64 (off c.args.b.x c.args.a.x (search rules) (search rules) c.requires.b_a.x_near) (off c.args.c.x c.args.b.x (search rules) (search rules) c.requires.c_b.x_near) tt)
    (v_mul w64 (off c.args.b.y c.args.a.y (search rules) (search rules) c.requires.b_a.y_near) (off c.args.c.y c.args.b.y (search rules) (search rules) c.requires.c_b.y_near) tt)
    tt).is
