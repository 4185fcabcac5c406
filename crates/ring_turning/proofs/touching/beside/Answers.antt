-- Between the ends on both axes, D decides. Assumes nothing.
use Rattle.std.proofs.Common.{rules, sym}
use Rattle.terms.specs.Papers.{corner_of}
use Rattle.ring_turning.specs.Laws.Touching.{near_inside, touch_on, touch_off_x, touch_off_y, touch_off_line}
use Rattle.ring_turning.proofs.touching.beside.Goals as goal
use Rattle.ring_turning.proofs.touching.beside.Goals.{else-amid-via-then-amid+then-amid-2+else-is_eq, else-amid-via-then-amid+else-amid-2, else-amid-via-else-amid}

pub near_sign-requires : goal.near_sign-requires
near_sign-requires c = (c.requires.0, near_inside (corner_of c.args.a) (corner_of c.args.b) (corner_of c.args.p) c.requires.0 (search rules) (search rules))

pub returns-then-is_eq : goal.returns-then-is_eq
returns-then-is_eq c = sym (touch_on (corner_of c.args.a) (corner_of c.args.b) (corner_of c.args.p) (search rules) (search rules) (search rules))

pub returns-else-amid : goal.returns-else-amid
returns-else-amid c = elim c.else-amid.branch [
  | else-amid-via-then-amid+then-amid-2+else-is_eq w ↦ sym (touch_off_line (corner_of c.args.a) (corner_of c.args.b) (corner_of c.args.p) c.requires.1 (search rules))
  | else-amid-via-then-amid+else-amid-2 w ↦ sym (touch_off_y (corner_of c.args.a) (corner_of c.args.b) (corner_of c.args.p) c.requires.1 (search rules))
  | else-amid-via-else-amid w ↦ sym (touch_off_x (corner_of c.args.a) (corner_of c.args.b) (corner_of c.args.p) c.requires.1 (search rules))
]
