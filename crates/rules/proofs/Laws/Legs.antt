-- What is made of forwards and inverses is right where they are: plane to plane by both its legs, the conversion of a ring by every corner, the job by every point.
-- One law for the definition's own answers and for any code's. Assumes nothing.
use Rattle.std.specs.Prelude.{List, ◌≡◌, ℕ, ℤ}
use Rattle.std.proofs.Math.Path.{refl}
use Rattle.rules.specs.Refusals.{Answer}
use Rattle.rules.specs.Points.{Point, Ticks, Right, plane_by, RightPlane}
use Rattle.rules.specs.Conversion.{conversion_by, RightConversion}
use Rattle.rules.specs.JobFile.{job_by, RightJob}

module _ {forward_at : ℕ → ℤ → ℤ → Answer Point} {inverse_at : ℕ → ℤ → ℤ → Answer Ticks} (right : Right forward_at inverse_at) where
  pub plane_right : (source target : ℕ) (X Y : ℤ) → RightPlane source target X Y (plane_by forward_at inverse_at source target X Y)
  unfolding plane_by
  plane_right source target X Y = record {
    ticks = inverse_at source X Y;
    first_leg = right.inverse_right source X Y;
    point = forward_at target;
    second_leg = right.forward_right target;
    both = refl;
  }

  pub conversion_right : (source target : ℕ) (numbers output : List ℤ)
      → RightConversion source target numbers output (conversion_by (plane_by forward_at inverse_at) source target numbers output)
  unfolding conversion_by
  conversion_right source target numbers output = record { corner = plane_by forward_at inverse_at source target; each = plane_right source target; all = refl }

  pub job_right : (file : List ℕ) → RightJob file (job_by forward_at file)
  job_right file = (forward_at, right.forward_right, refl)
