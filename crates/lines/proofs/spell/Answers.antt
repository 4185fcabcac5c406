-- Each turn puts one digit more in front, and there is a place for it.
use Rattle.std.proofs.Common.{arith, refl, replicate}
use Rattle.lines.proofs.Spelling.{starts, above, turned, ended}
use Rattle.lines.proofs.spell.Goals as goal

pub loop-rest-init : goal.loop-rest-init
loop-rest-init c = starts c.args.n (replicate 20 48) c.ranges.n.fits refl

pub overflow_sub-at : goal.overflow_sub-at
overflow_sub-at c = above c.loop-rest.invariant c.loop-rest-test.true

pub loop-rest-smaller : goal.loop-rest-smaller
loop-rest-smaller c = let h = above c.loop-rest.invariant c.loop-rest-test.true in omega arith

pub loop-rest-preserved : goal.loop-rest-preserved
loop-rest-preserved c = turned c.loop-rest.at c.loop-rest.invariant c.loop-rest-test.true

pub returns : goal.returns
returns c = (c.loop-rest.invariant.low, c.loop-rest.invariant.long, ended c.loop-rest.at c.loop-rest.invariant c.loop-rest-test.false)
