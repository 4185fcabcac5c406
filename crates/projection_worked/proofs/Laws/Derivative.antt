-- The derivative of a point that is taken, in doubles and as whole numbers, near the definition's, east and west. Assumes nothing.
use Rattle.std.specs.Prelude.{Bool, true, false, not, ◌≡◌, refl, List, [], ◌∷◌, ℕ, ◌+◌, ◌*◌, ◌/◌, ◌^◌, ◌≤◌, ◌<◌, ℤ, pos, negsuc, neg_ℤ, nat_abs, ◌+ℤ◌, ◌-ℤ◌, ◌*ℤ◌, ◌≤ℤ◌, ◌<ℤ◌}
use Rattle.std.specs.Bool.{beq}
use Rattle.std.proofs.Common.{sym, ◌∙◌, ap, subst₂, le_trans, le_of_eq, mul-le-mul_right, mul-le-mul_left, le_of_mul-le-mul_right, mul_comm, arith, lit<, lit≤, leb→le, lt→ltb}
use Rattle.std.proofs.Math.Path.{subst}
use Rattle.std.proofs.Math.IntN.{*ℤ_comm}
use Rattle.arith.specs.Laws.Diff.{◌⊖◌, Z·ℕ, lin}
use Rattle.arith.specs.Laws.Order.{abs_mul, *ℤ_cancel-≤, *ℤ_mono_left, nn_num}
use Rattle.arith.specs.Laws.Within.{by_abs}
use Rattle.arith.specs.Laws.Close.{Close}
use Rattle.rules.specs.Units.{◌°◌'◌''}
use Rattle.rules.specs.Systems.{◌/10^◌, Ellipsoid, constants, a_coefficients}
use Rattle.rules.specs.Scaled.{unit, product, quotient, polynomial, derivative}
use Rattle.rules.specs.Scaled as scaled
use Rattle.rules.specs.Projection.{two_millionths, centred}
use Rattle.rules.specs.Polynomial.{double_unit}
use Rattle.double.specs.declared.Pair.{Pair}
use Rattle.double.specs.Value.{value}
use Rattle.double.specs.Complex.{horner}
use Rattle.double.specs.Exact.{doubles}
use Rattle.double.specs.Bound.{Inside, reach}
use Rattle.double.proofs.Laws.Operations.{double_unit_pos}
use Rattle.double.proofs.Laws.Signs.{horner_mirrored}
use Rattle.double.proofs.Laws.Systems.{derivative_light, derivative_defined}
use Rattle.metres.specs.Metres.{argument_of, arguments_of}
use Rattle.metres.specs.Laws.Into.{per_one, argument_small, arguments_inside}
use Rattle.fixed.specs.Worked.{S60}
use Rattle.fixed.specs.Nearness.{NearAt, Near60, Fixed, turned}
use Rattle.fixed.specs.Laws.Turned.{below_zero}
use Rattle.fixed.proofs.Laws.Turned.{turned_within, turned_twice}
use Rattle.fixed_bands.specs.Bands.{Latitude}
use Rattle.fixed_forward.specs.Mercator.{north_of, east_of, mercator_at}
use Rattle.fixed_forward.proofs.Laws.Mercator.{mercator_near}
use Rattle.fixed_forward.proofs.Laws.Sizes.{north_size, east_size, east_narrow}
use Rattle.projection_worked.specs.Worked.{z_of, slope_pair, first60, slope60, below_nought}
use Rattle.projection_worked.specs.Bounds.{limit30, Tame, Sloped}
use Rattle.projection_worked.proofs.Laws.Argument.{argument_close}
use Rattle.projection_worked.proofs.Laws.Plane.{derivative_first, derivative_second}
use Rattle.projection_worked.proofs.Laws.West.{keeps_value, flips_value, mirrored}
use Rattle.projection_worked.proofs.Laws.Size.{tame}
use Rattle.projection_worked.proofs.Laws.Slope.{sloped}
use Rattle.projection_worked.proofs.Laws.InverseTicks.{nought_size}
use Rattle.projection_worked.proofs.Laws.Taken.{slope_tame}
use Rattle.projection_worked.proofs.Laws.SlopeParts.{Parted, parted, first_near, slope_near, first_low_60, first_high_60, slope_high}

-- y of at most 485 km is a second part of z of at most 0.98
narrow : (m : ℕ) → m ≤ 485000 * 2 ^ 30 → 100 * nat_abs (value (argument_of (pos m))) ≤ 98 * double_unit
narrow m h =
    le_of_mul-le-mul_right {k = per_one}
    (le_trans (le_of_eq (turn (nat_abs v))) (go (nat_abs v * per_one) (nat_abs (v *ℤ pos per_one -ℤ pos m *ℤ pos double_unit)) m double_unit
    (le_trans (le_of_eq (sym (abs_mul v (pos per_one)))) (near_abs (v *ℤ pos per_one) (pos m *ℤ pos double_unit)))
    (argument_close (pos m) (le_trans h (lit≤ tt))).gap h))
    (lit< tt)
  where
    turn : (x : ℕ) → 100 * x * per_one ≡ 100 * (x * per_one)
    turn x = omega arith

    v : ℤ
    v = value (argument_of (pos m))

    near_abs : (a b : ℤ) → nat_abs a ≤ nat_abs (a -ℤ b) + nat_abs b
    near_abs a b = lin (a ∷ b ∷ []) λ u w ea eb. simp (Z·ℕ, ea, eb) (omega arith)

    go : (A d m u : ℕ) → A ≤ d + m * u → 10 ^ 15 * d ≤ 1 * (u * per_one) → m ≤ 485000 * 2 ^ 30 → 100 * A ≤ 98 * u * per_one
    go A d m u h k l = sum A d (m * u) u h (rest d u k) (mul-le-mul_right u l)
      where
        rest : (d u : ℕ) → 10 ^ 15 * d ≤ 1 * (u * per_one) → d ≤ u
        rest d u h = omega arith

        sum : (A d b u : ℕ) → A ≤ d + b → d ≤ u → b ≤ 485000 * 2 ^ 30 * u → 100 * A ≤ 98 * u * per_one
        sum A d b u h k l = omega arith

-- ---- what nearness says of the definition's parts
large : (v h : ℤ) → Close v double_unit h unit 11 (10 ^ 8) → pos (499000 * double_unit) ≤ℤ v → pos (498000 * unit) ≤ℤ h
large v h c l =
    *ℤ_cancel-≤ (pos double_unit) (pos (498000 * unit)) h (record { lt = lt→ltb _ _ double_unit_pos })
    (subst (λ x. x ≤ℤ (pos double_unit *ℤ h)) (ap pos (turn unit double_unit))
    (below (v *ℤ pos unit) (pos double_unit *ℤ h) (unit * double_unit) (499000 * (unit * double_unit)) (498000 * (unit * double_unit)) (one c) (subst (λ x. x ≤ℤ (v *ℤ pos unit)) (ap pos (turn' double_unit unit)) (subst₂ ◌≤ℤ◌ (*ℤ_comm (pos unit) (pos (499000 * double_unit))) (*ℤ_comm (pos unit) v) (*ℤ_mono_left (pos unit) (nn_num unit) l))) (less (unit * double_unit))))
  where
    turn : (t u : ℕ) → 498000 * (t * u) ≡ u * (498000 * t)
    turn t u = omega arith

    turn' : (u t : ℕ) → 499000 * u * t ≡ 499000 * (t * u)
    turn' u t = omega arith

    less : (k : ℕ) → 498000 * k + k ≤ 499000 * k
    less k = omega arith

    loose : (n k : ℕ) → 10 ^ 8 * n ≤ 11 * k → n ≤ k
    loose n k h = omega arith

    one : Close v double_unit h unit 11 (10 ^ 8) → nat_abs (v *ℤ pos unit -ℤ pos double_unit *ℤ h) ≤ unit * double_unit
    one c = subst (λ x. nat_abs (v *ℤ pos unit -ℤ x) ≤ unit * double_unit) (*ℤ_comm h (pos double_unit)) (le_trans (loose _ (double_unit * unit) c.gap) (le_of_eq (mul_comm double_unit unit)))

    below : (a b : ℤ) (k p q : ℕ) → nat_abs (a -ℤ b) ≤ k → pos p ≤ℤ a → q + k ≤ p → pos q ≤ℤ b
    below a b k p q = lin (a ∷ b ∷ []) λ u w ea eb. simp (Z·ℕ, ea, eb) (omega arith)

small : (v h : ℤ) → Close v double_unit h unit 11 (10 ^ 8) → nat_abs v ≤ 137 * double_unit → nat_abs h ≤ 498000 * unit
small v h c l =
    le_of_mul-le-mul_right {k = double_unit}
    (go (nat_abs h * double_unit) (nat_abs (v *ℤ pos unit -ℤ h *ℤ pos double_unit)) (nat_abs v) unit double_unit
    (le_trans (le_of_eq (sym (abs_mul h (pos double_unit)))) (le_trans (near_abs (v *ℤ pos unit) (h *ℤ pos double_unit)) (le_of_eq (ap (λ x. nat_abs (v *ℤ pos unit -ℤ h *ℤ pos double_unit) + x) (abs_mul v (pos unit))))))
    c.gap l)
    double_unit_pos
  where
    near_abs : (a b : ℤ) → nat_abs b ≤ nat_abs (a -ℤ b) + nat_abs a
    near_abs a b = lin (a ∷ b ∷ []) λ u w ea eb. simp (Z·ℕ, ea, eb) (omega arith)

    go : (A d v t u : ℕ) → A ≤ d + v * t → 10 ^ 8 * d ≤ 11 * (u * t) → v ≤ 137 * u → A ≤ 498000 * t * u
    go A d v t u h k l = let a = mul-le-mul_right t l in omega arith

-- a positive number is a natural one
natural : (h : ℤ) → pos (498000 * unit) ≤ℤ h → (h ≡ pos (nat_abs h)) × (498000 * unit ≤ nat_abs h)
natural (pos n) l = (refl, leb→le (498000 * unit) n l.le)
natural (negsuc n) l = absurd l.le

-- ---- the derivative's values at z, and at z with its second part turned
abbrev slope_at : Ellipsoid → ℤ → ℤ → Pair
slope_at E n m = horner (doubles unit (derivative (a_coefficients (constants E)))) (arguments_of n m)

turned_slope : (E : Ellipsoid) (n m : ℤ) (s : Bool) → nat_abs n ≤ limit30 → nat_abs m ≤ limit30
    → (value (slope_at E n (turned s m)).re ≡ value (slope_at E n m).re) × (value (slope_at E n (turned s m)).im ≡ turned s (value (slope_at E n m).im))
unfolding turned
turned_slope E n m false h g = (refl, refl)
turned_slope E n m true h g =
    let w = horner_mirrored (doubles unit (derivative (a_coefficients (constants E)))) (arguments_of n m) (arguments_of n (neg_ℤ m)) (mirrored n m) in
    let p = tame (derivative (a_coefficients (constants E))) (arguments_of n m) reach (derivative_light E) (arguments_inside n m h g) in
    (keeps_value w.stays, flips_value p.numbers.im w.turns)

none : (k : ℕ) → 0 ≤ k
none k = omega arith

-- one turn after another, in either order
pub other : Bool → Bool → Bool
other true true = false
other true false = true
other false b = b

turned_other : (b s : Bool) (x : ℤ) → turned b (turned s x) ≡ turned (other b s) x
unfolding turned other
turned_other true true x = turned_twice true x
turned_other true false x = refl
turned_other false s x = refl

turned_change : (b s : Bool) (x : ℤ) → turned b (turned s x) ≡ turned s (turned b x)
unfolding turned
turned_change true true x = refl
turned_change true false x = refl
turned_change false true x = refl
turned_change false false x = refl

module _ (E : Ellipsoid) (n : ℕ) (d : ℤ) (l : Latitude n) (g : nat_abs d ≤ 5 ° 30 ' 0 '') where
  abbrev s : Bool
  s = below_zero d

  abbrev N : ℤ
  N = north_of E n (nat_abs d)

  abbrev m : ℤ
  m = pos (east_of E n (nat_abs d))

  -- the definition's derivative
  abbrev h : scaled.Pair
  h = polynomial (derivative (a_coefficients (constants E))) (centred (5760000 /10^ 0) (mercator_at E n d))

  abbrev H : Pair
  H = slope_pair E n (nat_abs d)

  N_small : nat_abs N ≤ limit30
  N_small = north_size E n l s (nat_abs d) g

  m_small : nat_abs m ≤ limit30
  m_small = east_size E n l s (nat_abs d) g

  t_small : nat_abs (turned s m) ≤ limit30
  t_small = (turned_within s (by_abs m m_small)).within

  both : (value (slope_at E N (turned s m)).re ≡ value H.re) × (value (slope_at E N (turned s m)).im ≡ turned s (value H.im))
  unfolding slope_pair z_of
  both = turned_slope E N m s N_small m_small

  first_close : Close (value H.re) double_unit h.first unit 11 (10 ^ 8)
  unfolding centred
  first_close = let near = mercator_near E n d l g in subst (λ v. Close v double_unit h.first unit 11 (10 ^ 8)) both.0 (derivative_first N (turned s m) _ _ near.north near.east N_small t_small E)

  second_close : Close (turned s (value H.im)) double_unit h.second unit 11 (10 ^ 8)
  unfolding centred
  second_close = let near = mercator_near E n d l g in subst (λ v. Close v double_unit h.second unit 11 (10 ^ 8)) both.1 (derivative_second N (turned s m) _ _ near.north near.east N_small t_small E)

  pub point_sloped : Sloped H
  unfolding slope_pair z_of
  point_sloped = sloped E (arguments_of N m) (arguments_inside N m N_small m_small) (argument_small N N_small) (narrow (east_of E n (nat_abs d)) (east_narrow E n l s (nat_abs d) g))

  pub point_parted : Parted H
  point_parted = parted H point_sloped

  h_natural : (h.first ≡ pos (nat_abs h.first)) × (498000 * unit ≤ nat_abs h.first)
  h_natural = natural h.first (large (value H.re) h.first first_close point_sloped.first_low)

  second_small : nat_abs h.second ≤ nat_abs h.first
  second_small = le_trans (small (turned s (value H.im)) h.second second_close (turned_within s (by_abs (value H.im) point_sloped.second_high)).within) h_natural.1

  pub first_fixed : Fixed (first60 H) (product h.first two_millionths) (300000 * unit) (99 * S60 / 100) (101 * S60 / 100)
  first_fixed = record { near = first_near H point_parted point_sloped h.first first_close; low = first_low_60 H point_parted point_sloped; high = first_high_60 H point_parted point_sloped }

  slope_turned : Near60 (slope60 H) (turned (below_nought H.im) (turned s (quotient h.second h.first))) (2000000 * unit)
  slope_turned =
      subst (λ k. Near60 (slope60 H) (turned (below_nought H.im) (turned s (quotient h.second k))) (2000000 * unit)) (sym h_natural.0)
      (slope_near H point_parted point_sloped (below_nought H.im) (nought_size H.im (slope_tame E n (nat_abs d) l g).numbers.im) s h.second (nat_abs h.first) second_close (subst (λ k. Close (value H.re) double_unit k unit 11 (10 ^ 8)) h_natural.0 first_close) second_small (le_trans (lit≤ tt) h_natural.1))

  -- as the scale and the convergence ask for it
  pub slope_fixed : Fixed (slope60 H) (turned (other (below_nought H.im) s) (quotient h.second h.first)) (2000000 * unit) 0 (30 * S60 / 100000)
  slope_fixed = record { near = subst (λ w. Near60 (slope60 H) w (2000000 * unit)) (turned_other (below_nought H.im) s (quotient h.second h.first)) slope_turned; low = none (slope60 H); high = slope_high H point_parted point_sloped }

  pub slope_sided : Fixed (slope60 H) (turned s (turned (below_nought H.im) (quotient h.second h.first))) (2000000 * unit) 0 (30 * S60 / 100000)
  slope_sided = record { near = subst (λ w. Near60 (slope60 H) w (2000000 * unit)) (turned_change (below_nought H.im) s (quotient h.second h.first)) slope_turned; low = none (slope60 H); high = slope_high H point_parted point_sloped }
