-- The scale whole, and what the code's functions answer from a point's struct. Assumes nothing.
use Rattle.std.specs.Prelude.{Bool, ◌≡◌, ℕ, ◌*◌, ◌-◌, ◌/◌, ◌≤◌, pos}
use Rattle.std.proofs.Common.{ap}
use Rattle.rules.specs.Units.{◌°◌'◌''}
use Rattle.rules.specs.Systems.{Ellipsoid, constants}
use Rattle.rules.specs.Scaled.{unit, product, quotient, radians, sine, cosine, Pair}
use Rattle.rules.specs.Projection.{sphere_scale, mercator_scale, two_millionths, polynomial_scale}
use Rattle.fixed.specs.Worked.{S60, mul60}
use Rattle.fixed.specs.Nearness.{Fixed, turned}
use Rattle.fixed.proofs.Laws.Products.{fix_mul, fix_le}
use Rattle.fixed.specs.Laws.Numbers.{numbers}
use Rattle.fixed_forward.specs.declared.Mercator.{Mercator}
use Rattle.fixed_bands.specs.Bands.{Latitude}
use Rattle.fixed_forward.specs.Mercator.{numerator_of, denominator_of, sphere_at}
use Rattle.fixed_forward.specs.Points.{IsMercator}
use Rattle.fixed_scale.specs.Scale.{square60, ratio60, meridian60, spread60, sphere_scale60, meridian_of, spread_of, sphere_scale_of}
use Rattle.fixed_scale.proofs.Laws.Scale.{sphere_scale_of_near}
use Rattle.fixed_scale.specs.Length.{length60}
use Rattle.fixed_scale.proofs.Laws.Length.{length_near}
use Rattle.fixed_scale.specs.Convergence.{sine_f60, turn60, turn_of}
use Rattle.fixed_scale.specs.Answers.{scale_of}

-- within 1,090,000 units of 2^-60: 0.00095 of the answer's unit
pub scale_near : {first slope : ℕ} (E : Ellipsoid) (n : ℕ)
    → Latitude n
    → (s : Bool) (d : ℕ)
    → d ≤ 5 ° 30 ' 0 ''
    → (b : Bool) (h : Pair)
    → Fixed first (product h.first two_millionths) (300000 * unit) (99 * S60 / 100) (101 * S60 / 100)
    → Fixed slope (turned b (quotient h.second h.first)) (2000000 * unit) 0 (30 * S60 / 100000)
    → Fixed (scale_of E n d first slope) (product (product (sphere_scale (constants E) (sphere_at E n) (sine (radians (pos n))) (cosine (radians (pos n)))) (mercator_scale (sphere_at E n) (sine (radians (turned s (pos d)))))) (polynomial_scale h)) (1090000 * unit) (86 * S60 / 100) (117 * S60 / 100)
unfolding scale_of numbers
scale_near E n l s d g b h f fσ =
    fix_le (1090000 * unit) (86 * S60 / 100) (117 * S60 / 100) (fix_mul (sphere_scale_of_near E n l s d g) (length_near b h f fσ) tt tt) tt tt tt

-- ---- from the numbers of the struct to those of the ticks
pub sphere_scale_is : {r : Mercator} (E : Ellipsoid) (n d : ℕ)
    → IsMercator E n d r
    → sphere_scale60 (ratio60 E) r.sphere.k (meridian60 (square60 E) r.sphere.t) r.sphere.d2 (spread60 r.across) ≡ sphere_scale_of E n d
unfolding sphere_scale_of meridian_of spread_of denominator_of
sphere_scale_is E n d i = let s = i.is_sphere in cc

pub turn_is : {r : Mercator} (E : Ellipsoid) (n d : ℕ) → IsMercator E n d r → turn60 (sine_f60 r.sphere.n2 r.sphere.d2) r.sphere.sd r.sphere.cd ≡ turn_of E n d
unfolding turn_of numerator_of denominator_of
turn_is E n d i = let s = i.is_sphere in cc

pub scale_is : {r : Mercator} (E : Ellipsoid) (n d first slope : ℕ)
    → IsMercator E n d r
    → mul60 (sphere_scale60 (ratio60 E) r.sphere.k (meridian60 (square60 E) r.sphere.t) r.sphere.d2 (spread60 r.across)) (length60 first slope) ≡ scale_of E n d first slope
unfolding scale_of
scale_is E n d first slope i = ap (λ z. mul60 z (length60 first slope)) (sphere_scale_is E n d i)
