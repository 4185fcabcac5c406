-- What the inverse works with a row of the code's table is what its worked values say of the paper's row. Assumes nothing.
use mathlib.Core.Bool.{true, false}
use mathlib.Core.Path.{◌≡◌, sym, ap, ap₂, ◌∙◌, subst₂}
use Prim.Native.Nat.{ℕ}
use lib.IntN.{ℤ, nat_abs, ◌-ℤ◌}
use lib.Signed.{lt_z}
use mir.Syntax.{w64}
use mir.Val.{SFits, to_z, of_z}
use mir.Facts.{to_z-of_z}
use Rattle.arith.specs.Laws.Machine.{v_in}
use Rattle.projection_worked.proofs.Laws.Sides.{lower_is}
use Rattle.rules.specs.Refusals.{refused, ◌>>◌, ◌if◌, plane_outside}
use Rattle.rules.specs.Systems.{System}
use Rattle.rules.specs.Points.{plane_bad, judged}
use Rattle.double.specs.declared.Pair.{Pair}
use Rattle.fixed.specs.Laws.Turned.{below_zero}
use Rattle.systems.specs.Zones.{Stands, Sized}
use Rattle.terms.specs.Papers.{ellipsoid_of}
use Rattle.systems.specs.declared.Zone.{Zone}
use Rattle.projection_worked.specs.Worked.{millionths_of}
use Rattle.projection_worked.specs.Inverse.{mercator_pair, worked_pair, worked_ticks, ticks_from, in_system, InBox, Boxed}
use Rattle.projection_worked.proofs.Laws.InverseBox.{zone_millionths, same_millionths, boxed}

-- Mercator's pair by the row
abbrev pub row_pair : Zone → ℤ → ℤ → Pair
row_pair z X Y = mercator_pair (ellipsoid_of z.ellipsoid) (nat_abs z.millionths) (nat_abs (X -ℤ z.north)) (nat_abs (Y -ℤ z.east))

module _ (z : Zone) (s : System) (h : Stands z s) (k : Sized z) (X Y : ℤ) where
  pub pair_stands : row_pair z X Y ≡ worked_pair s X Y
  unfolding worked_pair
  pair_stands =
      ap₂ (λ E M. mercator_pair E M (nat_abs (X -ℤ z.north)) (nat_abs (Y -ℤ z.east))) (sym h.ellipsoid) (sym (same_millionths s (nat_abs z.millionths) (zone_millionths z s h k)))
      ∙ ap₂ (λ a b. mercator_pair s.ellipsoid (millionths_of s) (nat_abs (X -ℤ a)) (nat_abs (Y -ℤ b))) (sym h.north) (sym h.east)

  pub ticks_stand : ticks_from s (below_zero (Y -ℤ z.east)) (row_pair z X Y) ≡ worked_ticks s X Y
  unfolding worked_ticks
  ticks_stand = ap₂ (λ b p. ticks_from s (below_zero (Y -ℤ b)) p) (sym h.east) pair_stands

  -- refusal 4, and what passes it
  pub outside : plane_bad s X Y ≡ true → refused 4 ≡ in_system s X Y
  outside e = sym (ap (λ b. plane_outside if b >> judged s (worked_ticks s X Y)) e)

  pub inside : plane_bad s X Y ≡ false → judged s (worked_ticks s X Y) ≡ in_system s X Y
  inside e = sym (ap (λ b. plane_outside if b >> judged s (worked_ticks s X Y)) e)

  pub in_box : plane_bad s X Y ≡ false → InBox z X Y
  in_box e = record {
    sized = k;
    boxed = subst₂ (λ a b. Boxed (nat_abs z.millionths) (nat_abs (X -ℤ a)) (nat_abs (Y -ℤ b))) h.north h.east (boxed s (nat_abs z.millionths) (zone_millionths z s h k) X Y e);
  }

-- the numbers as they are passed on
module _ (z : Zone) (k : Sized z) (x y : ℤ) (f : SFits w64 x) (g : SFits w64 y) where
  -- the pair of them
  pub pair_given : (n e : ℕ) (p : Pair) → n ≡ nat_abs (to_z w64 (of_z w64 x) -ℤ to_z w64 (of_z w64 z.north)) → e ≡ nat_abs (to_z w64 (of_z w64 y) -ℤ to_z w64 (of_z w64 z.east))
      → p ≡ mercator_pair (ellipsoid_of z.ellipsoid) (nat_abs (to_z w64 (of_z w64 z.millionths))) n e → p ≡ row_pair z x y
  pair_given n e p h i j =
      j ∙ ap (λ M. mercator_pair (ellipsoid_of z.ellipsoid) (nat_abs M) n e) (v_in w64 z.millionths k.millionths tt).is
      ∙ ap₂ (mercator_pair (ellipsoid_of z.ellipsoid) (nat_abs z.millionths))
      (h ∙ ap₂ (λ a b. nat_abs (a -ℤ b)) (to_z-of_z f) (v_in w64 z.north k.north tt).is)
      (i ∙ ap₂ (λ a b. nat_abs (a -ℤ b)) (to_z-of_z g) (v_in w64 z.east k.east tt).is)

  -- the side
  pub side_given : lt_z (to_z w64 (of_z w64 y)) (to_z w64 (of_z w64 z.east)) ≡ below_zero (y -ℤ z.east)
  side_given = ap₂ lt_z (to_z-of_z g) (v_in w64 z.east k.east tt).is ∙ lower_is y z.east
