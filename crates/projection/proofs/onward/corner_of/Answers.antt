-- An offset and a part on its side. Assumes nothing.
use Rattle.std.proofs.Common.{◌≡◌, ap, ap₂, ◌∙◌, subst, sym, ◌≤◌, Bool, false, ℤ, nat_abs, ◌+ℤ◌, w64, to_z, of_z}
use Rattle.arith.specs.Machine.{Is}
use Rattle.arith.specs.Laws.Machine.{v_in, to_goal}
use Rattle.arith.specs.Laws.Within.{by_abs, w_add}
use Rattle.fixed.specs.Nearness.{turned}
use Rattle.fixed.proofs.Laws.Turned.{turned_within}
use Rattle.projection.proofs.onward.corner_of.Goals as goal

-- X and Y as they are answered, of an offset o and a part p on its side
side_is : (o p y : ℤ) (w : Bool) → nat_abs o ≤ 10000000000 → nat_abs p ≤ 8000001001 → y ≡ to_z w64 (of_z w64 o) +ℤ turned w (to_z w64 (of_z w64 p)) → Is (to_z w64 (of_z w64 y)) (o +ℤ turned w p) 18000001001
side_is o p y w h g e =
    subst (λ z. Is (to_z w64 (of_z w64 z)) (o +ℤ turned w p) 18000001001) (sym (e ∙ ap₂ (λ a b. a +ℤ turned w b) (v_in w64 o h tt).is (v_in w64 p g tt).is))
    (v_in w64 (o +ℤ turned w p) (w_add (by_abs o h) (turned_within w (by_abs p g))).within tt)

pub returns-clause-x_value : goal.returns-clause-x_value
unfolding turned
returns-clause-x_value c =
    let s = c.requires.0 in
    let n = c.after_scale-north.ensures in
    let e = c.after_scale-east.ensures in
    ((side_is c.args.zone.north c.after_scale-north.result c.beside.result false s.north n.1 c.beside.ensures).is ∙ ap (λ p. c.args.zone.north +ℤ p) n.0, (side_is c.args.zone.east c.after_scale-east.result c.beside-2.result c.args.west s.east e.1 c.beside-2.ensures).is ∙ ap (λ p. c.args.zone.east +ℤ turned c.args.west p) e.0)

pub returns-clause-size : goal.returns-clause-size
returns-clause-size c =
    let s = c.requires.0 in
    let x = side_is c.args.zone.north c.after_scale-north.result c.beside.result false s.north c.after_scale-north.ensures.1 c.beside.ensures in
    let y = side_is c.args.zone.east c.after_scale-east.result c.beside-2.result c.args.west s.east c.after_scale-east.ensures.1 c.beside-2.ensures in
    (to_goal (λ k. nat_abs k ≤ 18000001001) x x.size, to_goal (λ k. nat_abs k ≤ 18000001001) y y.size)
