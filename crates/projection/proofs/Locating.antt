-- From Mercator's numbers to what the code holds of a point. Assumes nothing.
use mathlib.Core.Bool.{Bool, false}
use mathlib.Core.Path.{◌≡◌, sym, ap, subst}
use Prim.Native.Nat.{ℕ, ◌*◌, ◌/◌, ◌≤◌}
use lib.IntN.{ℤ, pos, nat_abs, ◌-ℤ◌}
use mathlib.Core.Path.{ap₂, ◌∙◌}
use mir.Syntax.{w64}
use mir.Val.{to_z, of_z}
use Rattle.arith.specs.Laws.Machine.{v_in}
use Rattle.rules.specs.Scaled.{unit, derivative}
use Rattle.rules.specs.Systems.{constants, a_coefficients}
use Rattle.double.specs.Complex.{horner, Numbers}
use Rattle.double.specs.Exact.{doubles}
use Rattle.double.specs.declared.Pair.{Pair}
use Rattle.metres.specs.Metres.{arguments_of}
use Rattle.terms.specs.Papers.{ellipsoid_of}
use Rattle.systems.specs.declared.Zone.{Zone}
use Rattle.projection_worked.specs.Worked.{z_of, plane_pair, slope_pair}
use Rattle.projection_worked.proofs.Laws.Taken.{latitude_taken, plane_tame, slope_tame}
use Rattle.projection_worked.proofs.Laws.Derivative.{point_sloped}
use Rattle.rules.specs.Units.{◌°◌'◌''}
use Rattle.rules.specs.Systems.{Ellipsoid}
use Rattle.fixed.specs.Worked.{S60}
use Rattle.fixed.specs.Laws.Turned.{below_zero}
use Rattle.fixed_bands.specs.Bands.{Latitude}
use Rattle.fixed_forward.specs.Points.{IsMercator, SphereSizes}
use Rattle.fixed_forward.proofs.Laws.Sizes.{north_size, east_size}
use Rattle.fixed_forward.specs.declared.Mercator.{Mercator}
use Rattle.projection_worked.specs.Bounds.{limit30, Tame, Sloped}
use Rattle.projection.specs.Located.{Taken, LocatedAt}
use Rattle.projection.specs.declared.onward.Located.{Located}

pub located : (E : Ellipsoid) (n t : ℕ) (d : ℤ) (w : Bool) (m : Mercator) → Latitude n → nat_abs d ≤ 5 ° 30 ' 0 '' → w ≡ below_zero d → t ≡ nat_abs d → IsMercator E n t m
    → SphereSizes m.sphere × (m.across ≤ 11 * S60 / 100) → LocatedAt E n d (record { west = w; mercator = m })
located E n t d w m l g s e i z =
    let j = subst (λ k. IsMercator E n k m) e i in
    record {
      side = s;
      is = j;
      north_small = subst (λ x. nat_abs x ≤ limit30) (sym j.is_north) (north_size E n l false (nat_abs d) g);
      east_small = subst (λ x. x ≤ limit30) (sym j.is_east) (east_size E n l false (nat_abs d) g);
      sphere_sizes = z.0;
      across_small = z.1;
    }

-- what is worked from the place of a point that is taken
module _ (z : Zone) (b l : ℤ) (k : Taken z b l) {r : Located} (at : LocatedAt (ellipsoid_of z.ellipsoid) (nat_abs b) (l -ℤ z.meridian) r) where
  abbrev E : Ellipsoid
  E = ellipsoid_of z.ellipsoid

  abbrev d : ℤ
  d = l -ℤ z.meridian

  latitude : Latitude (nat_abs b)
  latitude = (latitude_taken b k.latitude).1

  argument_is : {a : Pair} → a ≡ arguments_of (to_z w64 (of_z w64 r.mercator.north)) (pos r.mercator.east) → a ≡ z_of E (nat_abs b) (nat_abs d)
  unfolding z_of
  argument_is e = e ∙ ap₂ (λ n m. arguments_of n (pos m)) ((v_in w64 _ at.north_small tt).is ∙ at.is.is_north) at.is.is_east

  pub pair_is : {a p : Pair} → a ≡ arguments_of (to_z w64 (of_z w64 r.mercator.north)) (pos r.mercator.east) → p ≡ horner (doubles unit (a_coefficients (constants E))) a → p ≡ plane_pair E (nat_abs b) (nat_abs d)
  unfolding plane_pair
  pair_is e f = f ∙ ap (horner (doubles unit (a_coefficients (constants E)))) (argument_is e)

  pub slope_is : {a h : Pair} → a ≡ arguments_of (to_z w64 (of_z w64 r.mercator.north)) (pos r.mercator.east) → h ≡ horner (doubles unit (derivative (a_coefficients (constants E)))) a → h ≡ slope_pair E (nat_abs b) (nat_abs d)
  unfolding slope_pair
  slope_is e f = f ∙ ap (horner (doubles unit (derivative (a_coefficients (constants E))))) (argument_is e)

  pub pair_tame : Tame (plane_pair E (nat_abs b) (nat_abs d))
  pair_tame = plane_tame E (nat_abs b) (nat_abs d) latitude k.longitude

  pub slope_numbers : Numbers (slope_pair E (nat_abs b) (nat_abs d))
  slope_numbers = (slope_tame E (nat_abs b) (nat_abs d) latitude k.longitude).numbers

  pub slope_sloped : Sloped (slope_pair E (nat_abs b) (nat_abs d))
  slope_sloped = point_sloped E (nat_abs b) d latitude k.longitude
