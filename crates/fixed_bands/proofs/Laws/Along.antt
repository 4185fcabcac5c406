-- The definition's numbers along the bands of each table, with their models. Assumes nothing.
use Rattle.std.specs.Prelude.{◌≡◌, Bool, true, false, ℕ, ◌+◌, ◌*◌, ◌≤◌, ℤ, pos, ◌-ℤ◌}
use Rattle.std.proofs.Common.{subst, arith}
use Rattle.rules.specs.Units.{◌°◌'◌''}
use Rattle.rules.specs.Scaled.{one, radians, sine, cosine}
use Rattle.rules.specs.Systems.{Ellipsoid, constants}
use Rattle.rules.specs.Projection.{K_of}
use Rattle.fixed.specs.Nearness.{turned}
use Rattle.fixed_bands.specs.Worked.{width}
use Rattle.fixed_bands.specs.Models.{Model, still, Follows}
use Rattle.fixed_bands.proofs.Laws.Models.{follows_still, follows_opposite, follows_difference}
use Rattle.fixed_bands.specs.Functions.{angle_model, sine_model, K_model}
use Rattle.fixed_bands.proofs.Laws.Functions.{follows_angle, follows_sine, follows_cosine, follows_K}
use Rattle.fixed_bands.specs.Along.{latitude_cosine_model, latitude_model, latitude_sine_model, longitude_cosine_model, longitude_sine_model, north, shortfall_model, turned_model}

latitude_follows : (i h : ℕ) → h ≤ width → Follows h (radians (pos (north + (i * width + h)))) (latitude_model i)
unfolding turned
latitude_follows i h l = subst (λ n. Follows h (radians (pos n)) (latitude_model i)) (law i h) (follows_angle false (north + i * width) h l)
  where
    law : (i h : ℕ) → north + i * width + h ≡ north + (i * width + h)
    law i h = omega arith

pub latitude_sine_follows : (i h : ℕ) → h ≤ width → Follows h (sine (radians (pos (north + (i * width + h))))) (latitude_sine_model i)
latitude_sine_follows i h l = follows_sine (latitude_model i) l (latitude_follows i h l)

pub latitude_cosine_follows : (i h : ℕ) → h ≤ width → Follows h (cosine (radians (pos (north + (i * width + h))))) (latitude_cosine_model i)
latitude_cosine_follows i h l = follows_cosine (latitude_model i) l (latitude_follows i h l)

pub shortfall_follows : (E : Ellipsoid) (i h : ℕ) → h ≤ width → Follows h (one -ℤ K_of (constants E) (sine (radians (pos (north + (i * width + h)))))) (shortfall_model E i)
shortfall_follows E i h l =
    follows_difference (still one) (K_model (constants E) (latitude_sine_model i)) (follows_still h one) (follows_K (constants E) (latitude_sine_model i) l (latitude_sine_follows i h l))

follows_turned : (s : Bool) {h : ℕ} {a : ℤ} (m : Model) → Follows h a m → Follows h (turned s a) (turned_model s m)
unfolding turned turned_model
follows_turned true m f = follows_opposite m f
follows_turned false m f = f

pub longitude_sine_follows : (s : Bool) (i h : ℕ) → h ≤ width → Follows h (turned s (sine (radians (turned s (pos (i * width + h)))))) (longitude_sine_model s i)
longitude_sine_follows s i h l = follows_turned s (sine_model (angle_model s (i * width))) (follows_sine (angle_model s (i * width)) l (follows_angle s (i * width) h l))

pub longitude_cosine_follows : (s : Bool) (i h : ℕ) → h ≤ width → Follows h (cosine (radians (turned s (pos (i * width + h))))) (longitude_cosine_model s i)
longitude_cosine_follows s i h l = follows_cosine (angle_model s (i * width)) l (follows_angle s (i * width) h l)
