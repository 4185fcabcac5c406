-- The paper's limits are the code's (Laws/Limits), whichever of the two boxes decides. Assumes nothing.
use Rattle.std.proofs.Common.{◌≡◌, sym, ◌∙◌, ap, ap₂, ℤ, pos, ◌+ℤ◌, ◌*ℤ◌, w64, to_z, of_z, to_z-of_z, FitsSigned}
use Rattle.std.specs.Prelude.{neg_ℤ}
use Rattle.std.proofs.Math.Bool.{◌||◌}
use Rattle.arith.specs.Laws.Machine.{v_in}
use Rattle.systems.specs.Zones.{beyond, Sized}
use Rattle.systems.specs.declared.Zone.{Zone}
use Rattle.systems.proofs.Laws.Limits.{same_box, plane_limits}
use Rattle.systems.proofs.plane_refused.Goals as goal

-- a number as it was passed on
abbrev given : ℤ → ℤ
given z = to_z w64 (of_z w64 z)

module _ (z : Zone) (h : Sized z) where
  -- what the calls were given, as the row has it
  north_given : (x : ℤ) → FitsSigned w64 x → beyond (given z.north +ℤ given z.millionths *ℤ pos 5300) (given z.north +ℤ given z.millionths *ℤ pos 6250) (given x)
      ≡ beyond (z.north +ℤ z.millionths *ℤ pos 5300) (z.north +ℤ z.millionths *ℤ pos 6250) x
  north_given x f = same_box (pos 5300) (pos 6250) (v_in w64 z.north h.north tt).is (v_in w64 z.millionths h.millionths tt).is (to_z-of_z f)

  east_given : (y : ℤ) → FitsSigned w64 y → beyond (given z.east +ℤ given z.millionths *ℤ neg_ℤ (pos 420)) (given z.east +ℤ given z.millionths *ℤ pos 420) (given y)
      ≡ beyond (z.east +ℤ z.millionths *ℤ neg_ℤ (pos 420)) (z.east +ℤ z.millionths *ℤ pos 420) y
  east_given y f = same_box (neg_ℤ (pos 420)) (pos 420) (v_in w64 z.east h.east tt).is (v_in w64 z.millionths h.millionths tt).is (to_z-of_z f)

pub returns-then-outside_box : goal.returns-then-outside_box
returns-then-outside_box c = λ s h.
    sym (plane_limits c.args.zone s h c.args.x c.args.y
    ∙ ap (λ t. t || beyond (c.args.zone.east +ℤ c.args.zone.millionths *ℤ neg_ℤ (pos 420)) (c.args.zone.east +ℤ c.args.zone.millionths *ℤ pos 420) c.args.y)
    (sym (c.outside_box.ensures ∙ north_given c.args.zone c.requires c.args.x c.ranges.x) ∙ c.if-outside_box.true)
    ∙ sym c.if-outside_box.true)

pub returns-else-outside_box : goal.returns-else-outside_box
returns-else-outside_box c = λ s h.
    sym (plane_limits c.args.zone s h c.args.x c.args.y
    ∙ ap₂ ◌||◌
    (sym (c.outside_box.ensures ∙ north_given c.args.zone c.requires c.args.x c.ranges.x) ∙ c.if-outside_box.false)
    (sym (c.outside_box-else-outside_box.ensures ∙ east_given c.args.zone c.requires c.args.y c.ranges.y)))
