-- A latitude that is taken is positive, and the side and the distance are those of the difference. Assumes nothing.
use Rattle.std.proofs.Common.{◌≡◌, ap, ap₂, ◌∙◌, subst, ℕ, arith, ℤ, pos, nat_abs, ◌-ℤ◌, w64, to_z-of_z, Fits, T}
use Rattle.std.specs.Int.Signed.{non_neg, lt_z}
use Rattle.arith.specs.Laws.Machine.{v_in}
use Rattle.terms.specs.Papers.{ellipsoid_of}
use Rattle.fixed_forward.specs.Points.{IsMercator}
use Rattle.fixed_bands.specs.Bands.{Latitude}
use Rattle.projection_worked.proofs.Laws.Sides.{lower_is}
use Rattle.projection_worked.proofs.Laws.Taken.{latitude_taken}
use Rattle.projection.proofs.Locating.{located}
use Rattle.projection.proofs.onward.locate.Goals as goal

fits_of : (n : ℕ) → Latitude n → Fits w64 n
fits_of n l = let h = l.high in record { fits = omega arith }

natural : (z : ℤ) (n : ℕ) → z ≡ pos n → Fits w64 n → T (non_neg z) × Fits w64 (nat_abs z)
natural z n e f = rw e (tt, f)

pub overflow_cast-b : goal.overflow_cast-b
overflow_cast-b c = let t = latitude_taken c.args.b c.requires.latitude in natural _ (nat_abs c.args.b) (to_z-of_z c.ranges.b ∙ t.0) (fits_of (nat_abs c.args.b) t.1)

pub mercator60-mercator-requires : goal.mercator60-mercator-requires
mercator60-mercator-requires c =
    let l = (latitude_taken c.args.b c.requires.latitude).1 in
    let m = (v_in w64 c.args.zone.meridian c.requires.sized.meridian tt).is in
    (rw (to_z-of_z c.ranges.b) l.low, rw (to_z-of_z c.ranges.b) l.high, rw (c.abs_diff.ensures, to_z-of_z c.ranges.l, m) c.requires.longitude)

pub returns : goal.returns
returns c =
    let m = (v_in w64 c.args.zone.meridian c.requires.sized.meridian tt).is in
    let d = ap₂ ◌-ℤ◌ (to_z-of_z c.ranges.l) m in
    located (ellipsoid_of c.args.zone.ellipsoid) (nat_abs c.args.b) c.abs_diff.result (c.args.l -ℤ c.args.zone.meridian) _ _ (latitude_taken c.args.b c.requires.latitude).1 c.requires.longitude
    (ap₂ lt_z (to_z-of_z c.ranges.l) m ∙ lower_is c.args.l c.args.zone.meridian) (c.abs_diff.ensures ∙ ap nat_abs d)
    (subst (λ z. IsMercator (ellipsoid_of c.args.zone.ellipsoid) (nat_abs z) c.abs_diff.result c.mercator60-mercator.result) (to_z-of_z c.ranges.b) c.mercator60-mercator.ensures.mercator) c.mercator60-mercator.ensures.size
