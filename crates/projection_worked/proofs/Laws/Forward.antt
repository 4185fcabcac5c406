-- X and Y of the forward: within 0.51 mm of the definition, for every system, latitude and difference of longitude that is taken, east and west. Assumes nothing.
use Rattle.std.specs.Prelude.{Bool, ◌≡◌, ℕ, ◌-◌, ◌*◌, ◌/◌, ◌^◌, ◌≤◌, ℤ, pos, neg_ℤ, nat_abs, ◌+ℤ◌, ◌-ℤ◌}
use Rattle.std.proofs.Math.Bool.{true, false}
use Rattle.std.proofs.Math.Path.{refl, subst}
use Rattle.std.proofs.Common.{sym, ◌∙◌, ap, arith, lit<}
use Rattle.rules.specs.Units.{◌°◌'◌''}
use Rattle.rules.specs.Systems.{◌/10^◌, Ellipsoid, constants, a_coefficients}
use Rattle.rules.specs.Scaled.{unit, product, polynomial}
use Rattle.rules.specs.Scaled as scaled
use Rattle.rules.specs.Projection.{centred}
use Rattle.rules.specs.Polynomial.{double_unit}
use Rattle.rules.specs.Rounding.{Within}
use Rattle.arith.specs.Laws.Within.{by_abs}
use Rattle.arith.specs.Laws.Close.{Close}
use Rattle.double.specs.declared.Pair.{Pair}
use Rattle.double.specs.Bound.{reach}
use Rattle.double.specs.Value.{value}
use Rattle.double.specs.Complex.{horner}
use Rattle.double.specs.Exact.{doubles}
use Rattle.double.proofs.Laws.Signs.{horner_mirrored}
use Rattle.double.proofs.Laws.Systems.{forward_light}
use Rattle.metres.specs.Metres.{arguments_of}
use Rattle.metres.specs.Millimetres.{in_millimetres}
use Rattle.metres.specs.Laws.Answer.{millimetres_turn}
use Rattle.metres.specs.Laws.Into.{arguments_inside}
use Rattle.fixed.specs.Nearness.{NearAt, turned}
use Rattle.fixed.specs.Laws.Turned.{below_zero}
use Rattle.fixed.proofs.Laws.Turned.{turned_within}
use Rattle.fixed_bands.specs.Bands.{Latitude}
use Rattle.fixed_forward.specs.Mercator.{north_of, east_of, mercator_at, MercatorNear}
use Rattle.fixed_forward.proofs.Laws.Mercator.{mercator_near}
use Rattle.fixed_forward.proofs.Laws.Sizes.{north_size, east_size}
use Rattle.projection_worked.specs.Worked.{z_of, plane_pair, scaled_part}
use Rattle.projection_worked.specs.Bounds.{limit30, Tame}
use Rattle.projection_worked.proofs.Laws.Plane.{forward_first, forward_second}
use Rattle.projection_worked.proofs.Laws.West.{keeps_value, flips_value, mirrored}
use Rattle.projection_worked.proofs.Laws.Size.{tame}
use Rattle.projection_worked.proofs.Laws.Millimetres.{band, scale_of, defined_millimetres}

turned_abs : (s : Bool) (m k : ℕ) → m ≤ k → nat_abs (turned s (pos m)) ≤ k
turned_abs s m k h = (turned_within s (by_abs (pos m) h)).within

abbrev answer : Ellipsoid → ℤ → ℤ → Pair
answer E n m = horner (doubles unit (a_coefficients (constants E))) (arguments_of n m)

-- the values of the polynomial's answer at z and at z with its second part turned
turned_pair : (E : Ellipsoid) (n m : ℤ) (s : Bool) → nat_abs n ≤ limit30 → nat_abs m ≤ limit30
    → (value (answer E n (turned s m)).re ≡ value (answer E n m).re) × (value (answer E n (turned s m)).im ≡ turned s (value (answer E n m).im))
unfolding turned
turned_pair E n m false h g = (refl, refl)
turned_pair E n m true h g =
    let w = horner_mirrored (doubles unit (a_coefficients (constants E))) (arguments_of n m) (arguments_of n (neg_ℤ m)) (mirrored n m) in
    let p = tame (a_coefficients (constants E)) (arguments_of n m) reach (forward_light E) (arguments_inside n m h g) in
    (keeps_value w.stays, flips_value p.numbers.im w.turns)

-- ---- a latitude of n ticks and a difference d of longitude
module _ (E : Ellipsoid) (n : ℕ) (d : ℤ) (l : Latitude n) (g : nat_abs d ≤ 5 ° 30 ' 0 '') where
  abbrev s : Bool
  s = below_zero d

  abbrev N : ℤ
  N = north_of E n (nat_abs d)

  abbrev m : ℤ
  m = pos (east_of E n (nat_abs d))

  abbrev gauss_krueger : scaled.Pair
  gauss_krueger = polynomial (a_coefficients (constants E)) (centred (5760000 /10^ 0) (mercator_at E n d))

  N_small : nat_abs N ≤ limit30
  N_small = north_size E n l s (nat_abs d) g

  m_small : nat_abs m ≤ limit30
  m_small = east_size E n l s (nat_abs d) g

  both : (value (answer E N (turned s m)).re ≡ value (plane_pair E n (nat_abs d)).re) × (value (answer E N (turned s m)).im ≡ turned s (value (plane_pair E n (nat_abs d)).im))
  unfolding plane_pair z_of
  both = turned_pair E N m s N_small m_small

  pub first_close : Close (value (plane_pair E n (nat_abs d)).re) double_unit gauss_krueger.first unit 5 (10 ^ 7)
  unfolding centred
  first_close =
      let near = mercator_near E n d l g in
      subst (λ v. Close v double_unit gauss_krueger.first unit 5 (10 ^ 7)) both.0
      (forward_first N (turned s m) _ _ near.north near.east N_small (turned_abs s (east_of E n (nat_abs d)) limit30 m_small) E)

  pub second_close : Close (turned s (value (plane_pair E n (nat_abs d)).im)) double_unit gauss_krueger.second unit 5 (10 ^ 7)
  unfolding centred
  second_close =
      let near = mercator_near E n d l g in
      subst (λ v. Close v double_unit gauss_krueger.second unit 5 (10 ^ 7)) both.1
      (forward_second N (turned s m) _ _ near.north near.east N_small (turned_abs s (east_of E n (nat_abs d)) limit30 m_small) E)

  -- with m0 of M millionths
  module _ (M : ℕ) (h : M ≤ 1000000) where
    m0_small : M * 10 ^ 18 ≤ unit
    m0_small = omega arith

    pub X_near : Within 51 (scaled_part M (value (plane_pair E n (nat_abs d)).re)) (defined_millimetres (pos (M * 10 ^ 18)) gauss_krueger.first)
    unfolding scaled_part
    X_near = band (M * 10 ^ 18) (1000000 - M) 1000 _ _ (scale_of M h) m0_small first_close

    part_turned : (s : Bool) (v : ℤ) → in_millimetres (turned s v) (1000000 - M) 1000 ≡ turned s (in_millimetres v (1000000 - M) 1000)
    unfolding turned
    part_turned true v = millimetres_turn v (1000000 - M) 1000 (lit< tt)
    part_turned false v = refl

    pub Y_near : Within 51 (turned s (scaled_part M (value (plane_pair E n (nat_abs d)).im))) (defined_millimetres (pos (M * 10 ^ 18)) gauss_krueger.second)
    unfolding scaled_part
    Y_near =
        subst (λ r. Within 51 r (defined_millimetres (pos (M * 10 ^ 18)) gauss_krueger.second)) (part_turned s (value (plane_pair E n (nat_abs d)).im))
        (band (M * 10 ^ 18) (1000000 - M) 1000 _ _ (scale_of M h) m0_small second_close)
