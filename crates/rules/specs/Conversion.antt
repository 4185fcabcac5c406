-- 01, conversion of a whole ring: what the call answers, and what the lent output holds after it. Assumes nothing.
use Rattle.std.specs.Prelude.{not, ◌≡◌, List, [], ◌∷◌, ◌++◌, ℕ, ltb, ℤ, length, drop}
use Rattle.rules.specs.Refusals.{Answer, answered, refused, crossed_at, Passed, passed, ◌>>=◌, ◌>>◌, ◌if◌, ellipsoids_differ, output_too_short}
use Rattle.rules.specs.Systems.{system, same_ellipsoid}
use Rattle.rules.specs.Rings.{Corner}
use Rattle.rules.specs.Points.{plane, RightPlane}
use Rattle.rules.specs.RingAnswers.{ring_checks}

-- "then its corners in order, the first refusal wins": the numbers of the corners, each taken plane to plane
unfoldable pub converted : (ℤ → ℤ → Answer Corner) → List Corner → Answer (List ℤ)
converted taken [] = answered []
converted taken (c ∷ r) = taken c.x c.y >>= λ p. converted taken r >>= λ l. answered (p.x ∷ p.y ∷ l)

-- "a ring conversion: 1, 5, 6, 7, 8, 14, then its corners in order", by the plane to plane that is given (the code's own, or the definition's)
unfoldable pub conversion_by : (ℕ → ℕ → ℤ → ℤ → Answer Corner) → ℕ → ℕ → List ℤ → List ℤ → Answer (List ℤ)
conversion_by plane_at source target numbers output = do
  s ← system source
  t ← system target
  ellipsoids_differ if not (same_ellipsoid s.ellipsoid t.ellipsoid)
  r ← ring_checks numbers
  output_too_short if ltb (length output) (length numbers)
  converted (plane_at source target) r

-- what the call answers: nothing but that it passed, or the refusal
abbrev pub verdict : Answer (List ℤ) → Answer Passed
verdict a = a >>= λ l. answered passed

-- what the output holds: "Output places past a converted ring keep what they held." On a refusal "output is untouched".
abbrev pub held : Answer (List ℤ) → List ℤ → List ℤ
held (answered l) output = l ++ drop (length l) output
held (refused n) output = output
held (crossed_at pair) output = output

unfoldable pub conversion : ℕ → ℕ → List ℤ → List ℤ → Answer (List ℤ)
conversion = conversion_by plane

-- an answer is right: every corner is, taken plane to plane
pub record RightConversion (source target : ℕ) (numbers output : List ℤ) (r : Answer (List ℤ)) : Type 0 where
  pub corner : ℤ → ℤ → Answer Corner
  pub each : (X Y : ℤ) → RightPlane source target X Y (corner X Y)
  pub all : r ≡ conversion_by (λ source target. corner) source target numbers output
