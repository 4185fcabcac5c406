-- What the projection's answers say: the paper's values, or its refusal. Assumes nothing.
use Rattle.std.specs.Prelude.{Result}
use Rattle.rules.specs.Refusals.{Answer}
use Rattle.rules.specs.Points as Points
use Rattle.rules.specs.Rings as Rings
use Rattle.terms.specs.Papers.{paper, corner_of}
use Rattle.terms.specs.declared.corners.Corner.{Corner}
use Rattle.terms.specs.declared.refusals.Refusal.{Refusal}
use Rattle.projection.specs.declared.Point.{Point}
pub use Rattle.projection_inverse.specs.Answers.{inverse_paper}

abbrev pub point_of : Point → Points.Point
point_of p = record { X = p.x; Y = p.y; scale = p.scale; convergence = p.convergence }

abbrev pub forward_paper : Result Point Refusal → Answer Points.Point
forward_paper = paper point_of

abbrev pub plane_paper : Result Corner Refusal → Answer Rings.Corner
plane_paper = paper corner_of
