-- The scale in whole units of 10^-9 is within 0.51 of one. Assumes nothing: the derivative's first part and slope come from f64, and how near they are is for the
-- caller to show.
use Rattle.std.specs.Prelude.{Bool, ◌≡◌, ◌∷◌, ℕ, ◌+◌, ◌*◌, ◌/◌, ◌%◌, ◌^◌, ◌<◌, ◌≤◌, pos, ◌+ℤ◌, ◌-ℤ◌, ◌*ℤ◌}
use Rattle.rules.specs.Units.{◌°◌'◌'', units_in_scale}
use Rattle.rules.specs.Systems.{Ellipsoid, constants}
use Rattle.rules.specs.Scaled.{unit, product, quotient, radians, sine, cosine, Pair}
use Rattle.rules.specs.Projection as defined
use Rattle.rules.specs.Projection.{two_millionths}
use Rattle.rules.specs.Rounding.{Within}
use Rattle.fixed.specs.Worked.{S60}
use Rattle.fixed.specs.Nearness.{Fixed, turned}
use Rattle.fixed.proofs.Laws.Products.{near_le}
use Rattle.fixed_bands.specs.Bands.{Latitude}
use Rattle.fixed_forward.specs.Mercator.{sphere_at}
use Rattle.fixed_scale.specs.Answers.{scale_of}
use Rattle.fixed_scale.proofs.Laws.Answers.{scale_near}
use Rattle.fixed_units.specs.Worked.{scale_units, m0_units}
use Rattle.fixed_units.proofs.Laws.Scale.{scale_units_near}

-- for every ellipsoid, m0, latitude and difference of longitude, and every first part and slope near the derivative's
pub scale_band : {first slope : ℕ} (E : Ellipsoid) (M : ℕ)
    → M ≤ 1000000
    → (n : ℕ)
    → Latitude n
    → (s : Bool) (d : ℕ)
    → d ≤ 5 ° 30 ' 0 ''
    → (b : Bool) (h : Pair)
    → Fixed first (product h.first two_millionths) (300000 * unit) (99 * S60 / 100) (101 * S60 / 100)
    → Fixed slope (turned b (quotient h.second h.first)) (2000000 * unit) 0 (30 * S60 / 100000)
    → Within 51 (pos (scale_units (m0_units M) (scale_of E n d first slope))) (pos units_in_scale *ℤ defined.scale_of (constants E) (pos (M * 10 ^ 18)) (sphere_at E n) (sine (radians (pos n))) (cosine (radians (pos n))) (sine (radians (turned s (pos d)))) h)
unfolding defined.scale_of
scale_band E M m n l s d g b h f fσ = scale_units_near M m (near_le (1500000 * unit) (scale_near E n l s d g b h f fσ).near tt)
