-- The checks of two codes, refusals 1 (source, then target) and 5. Definitions only.
use Rattle.std.specs.Prelude.{not, ℕ}
use Rattle.rules.specs.Refusals.{Answer, Passed, ◌>>=◌, ◌if◌, ellipsoids_differ}
use Rattle.rules.specs.Systems.{system, same_ellipsoid}
use Rattle.terms.specs.Papers.{ellipsoid_of}
use Rattle.terms.specs.declared.ellipsoids.Ellipsoid.{Ellipsoid}

-- 01: "1 (source, then target), 5"
unfoldable pub code_checks : ℕ → ℕ → Answer Passed
code_checks source target = do
  s ← system source
  t ← system target
  ellipsoids_differ if not (same_ellipsoid s.ellipsoid t.ellipsoid)

-- 5, of the code's rows
abbrev pub ellipsoid_check : Ellipsoid → Ellipsoid → Answer Passed
ellipsoid_check source target = ellipsoids_differ if not (same_ellipsoid (ellipsoid_of source) (ellipsoid_of target))
