-- The angle east and on its side, as they are passed on. Assumes nothing.
use Rattle.std.proofs.Common.{◌≡◌, ap, ◌∙◌, subst, sym, ℕ, ◌/◌, ◌^◌, ◌≤◌, ◌<◌, arith, Bool, ℤ, nat_abs, w64, to_z, of_z}
use Rattle.arith.specs.Machine.{Is}
use Rattle.arith.specs.Laws.Machine.{v_in, to_goal}
use Rattle.arith.specs.Laws.Within.{by_abs}
use Rattle.fixed.specs.Worked.{S60}
use Rattle.fixed.specs.Nearness.{turned}
use Rattle.fixed.proofs.Laws.Turned.{turned_within}
use Rattle.fixed_units.proofs.Laws.Convergence.{convergence_small}
use Rattle.projection.proofs.onward.convergence_of.Goals as goal

below : {n : ℕ} → n ≤ S60 / 2 → n < 2 ^ 63
below h = omega arith

-- the angle east, turned, as it is passed on
angle_is : (east r : ℤ) (w : Bool) → nat_abs east ≤ S60 / 2 → r ≡ turned w (to_z w64 (of_z w64 east)) → Is (to_z w64 (of_z w64 r)) (turned w east) (S60 / 2)
angle_is east r w h e =
    subst (λ z. Is (to_z w64 (of_z w64 z)) (turned w east) (S60 / 2)) (sym (e ∙ ap (turned w) (v_in w64 east h tt).is))
    (v_in w64 (turned w east) (turned_within w (by_abs east h)).within tt)

pub turned-angle-requires : goal.turned-angle-requires
turned-angle-requires c =
    let h = subst (λ z. nat_abs z ≤ S60 / 2) (sym c.convergence60-east.ensures) (convergence_small c.turn60-turn.result c.args.slope c.args.back c.turn60-turn.ensures.size c.requires.1) in
    to_goal (λ z. nat_abs z < 2 ^ 63) (v_in w64 c.convergence60-east.result h tt) (below h)

pub convergence_units-requires : goal.convergence_units-requires
convergence_units-requires c =
    let h = subst (λ z. nat_abs z ≤ S60 / 2) (sym c.convergence60-east.ensures) (convergence_small c.turn60-turn.result c.args.slope c.args.back c.turn60-turn.ensures.size c.requires.1) in
    let a = angle_is c.convergence60-east.result c.turned-angle.result c.args.west h c.turned-angle.ensures in
    to_goal (λ z. nat_abs z ≤ S60 / 2) a a.size
