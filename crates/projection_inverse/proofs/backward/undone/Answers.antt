-- Two divisions in place of one. Assumes nothing.
use Rattle.std.proofs.Common.{ℕ, ◌*◌, ◌^◌, ◌≤◌, ◌<◌, arith}
use Rattle.arith.specs.Laws.Floor.{divided}
use Rattle.projection_worked.specs.Inverse.{undone30}
use Rattle.projection_inverse.proofs.backward.undone.Goals as goal

positive : {M : ℕ} → 999000 ≤ M → 0 < M
positive h = omega arith

pub returns : goal.returns
unfolding undone30
returns c = divided (c.args.size * 1000) c.args.millionths (2 ^ 30) (positive c.requires.1)
