-- The sign, and the size in decimal behind it.
use Rattle.std.proofs.Common.{arith}
use Rattle.lines.proofs.Sizes.{text_below, text_above}
use Rattle.lines.proofs.Copying.{then, longer_as}
use Rattle.lines.proofs.Line.with_whole.Goals as goal

pub returns-then-z-lt0 : goal.returns-then-z-lt0
returns-then-z-lt0 c = let w = c.with.ensures in (
  omega (arith, w.counted),
  longer_as (text_below _ _ c.ranges.z c.if-z-lt0.true c.unsigned_abs.ensures.value) (then w c.with_number.ensures.1),
)

pub returns : goal.returns
returns c = (omega arith, longer_as (text_above _ _ c.ranges.z c.if-z-lt0.false c.unsigned_abs-2.ensures.value) c.with_number-2.ensures.1)
