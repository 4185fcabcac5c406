-- 02 (xii): every step in f64 is finite, of every point that passes the checks: z stays in range, and over a table as light as those of document 01 no step overflows
-- there. Assumes nothing.
use Rattle.std.specs.Prelude.{false, List, ◌++◌, ◌≤◌, ℤ, pos, nat_abs, ◌-ℤ◌}
use Rattle.rules.specs.Systems.{constants, a_coefficients, b_coefficients}
use Rattle.rules.specs.Scaled.{unit, derivative}
use Rattle.rules.specs.Points.{offset_X, offset_Y}
use Rattle.rules.proofs.Laws.Checks.{forward_passed, inverse_passed}
use Rattle.double.specs.Exact.{doubles}
use Rattle.double.specs.Bound.{LightTable, reach}
use Rattle.double.specs.Steps.{AllFinite, horner_doubles}
use Rattle.double.proofs.Laws.Steps.{both_lists, table_finite}
use Rattle.double.proofs.Laws.Systems.{forward_light, derivative_light, inverse_light}
use Rattle.metres.specs.Metres.{argument_doubles, arguments_of}
use Rattle.metres.specs.Laws.Into.{argument_finite, arguments_inside}
use Rattle.fixed_forward.specs.Mercator.{north_of, east_of}
use Rattle.fixed_forward.proofs.Laws.Sizes.{north_size, east_size}
use Rattle.projection_worked.specs.Bounds.{limit30}
use Rattle.projection_worked.specs.Worked.{millionths_of}
use Rattle.projection_worked.specs.Inverse.{undone30, centred30}
use Rattle.projection_worked.specs.Steps.{polynomial_doubles, StepsFinite}
use Rattle.projection_worked.proofs.Laws.Taken.{latitude_taken}
use Rattle.projection_worked.proofs.Laws.InverseLengths.{lengths, north_in_range, east_in_range}
use Rattle.projection_worked.proofs.Laws.InverseBox.{system_millionths, boxed}
use Rattle.projection_worked.proofs.Laws.Point.{within_reach}

-- ---- one polynomial step, for parts of at most 595 km
polynomial_finite : (cs : List ℤ) (n m : ℤ) → LightTable unit cs reach 8000000 → nat_abs n ≤ limit30 → nat_abs m ≤ limit30 → AllFinite (polynomial_doubles cs n m)
polynomial_finite cs n m light h k =
    let inside = arguments_inside n m h k in
    let value = horner_doubles (doubles unit cs) (arguments_of n m) in
    both_lists (argument_doubles n) (argument_doubles m ++ value) (argument_finite n inside.numbers.re.is_finite)
    (both_lists (argument_doubles m) value (argument_finite m inside.numbers.im.is_finite) (table_finite cs (arguments_of n m) light inside))

-- ---- the theorem
pub steps_finite : StepsFinite
steps_finite = record {
  forward = λ code s B L e.
      let h = forward_passed code s B L e in
      let E = s.ellipsoid in
      let b = (latitude_taken B h.1).1 in
      let g = within_reach code s L h.0 h.2 in
      let d = nat_abs (L -ℤ s.L0) in
      let n = north_of E (nat_abs B) d in
      let m = pos (east_of E (nat_abs B) d) in
      let value = a_coefficients (constants E) in
      let north = north_size E (nat_abs B) b false d g in
      let east = east_size E (nat_abs B) b false d g in
      both_lists (polynomial_doubles value n m) (polynomial_doubles (derivative value) n m) (polynomial_finite value n m (forward_light E) north east)
      (polynomial_finite (derivative value) n m (derivative_light E) north east);
  inverse = λ code s X Y e.
      let h = inverse_passed code s X Y e in
      let E = s.ellipsoid in
      let b = lengths (boxed s (millionths_of s) (system_millionths code s h.0) X Y h.1) in
      polynomial_finite (b_coefficients (constants E)) (centred30 E (undone30 (millionths_of s) (nat_abs (X -ℤ offset_X s)))) (pos (undone30 (millionths_of s) (nat_abs (Y -ℤ offset_Y s))))
      (inverse_light E) (north_in_range b E) (east_in_range b);
}
