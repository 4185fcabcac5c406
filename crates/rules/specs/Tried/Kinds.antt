-- Of an answer alone whether it is one, and of a point its Y: for what Runs and Limits say. Assumes nothing.
use Rattle.std.specs.Prelude.{ℕ, ℤ, pos}
use Rattle.rules.specs.Refusals.{Answer, answered, refused}
use Rattle.rules.specs.Points.{Point}

abbrev pub taken : {A : Type 0} → Answer A → Answer ℕ
taken (answered a) = answered 0
taken (refused n) = refused n
taken (Answer.crossed_at pair) = Answer.crossed_at pair

abbrev pub east : Answer Point → ℤ
east (answered p) = p.Y
east (refused n) = pos 0
east (Answer.crossed_at pair) = pos 0
