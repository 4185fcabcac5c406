-- The ticks of the zone's row are those of the system that it stands for. Assumes nothing.
use Rattle.std.proofs.Common.{◌≡◌, sym, ap, ap₂, ◌∙◌, subst, Bool, ℕ, ◌≤◌, ℤ, pos, nat_abs, ◌+ℤ◌, w64, to_z, of_z, to_z-of_z}
use Rattle.std.specs.Float.Ieee.{of_bits}
use Rattle.arith.specs.Machine.{Is}
use Rattle.arith.specs.Laws.Machine.{v_in, to_goal}
use Rattle.rules.specs.Systems.{System}
use Rattle.rules.specs.Points.{Ticks, judged}
use Rattle.double.specs.Value.{value}
use Rattle.double.specs.declared.Pair.{Pair}
use Rattle.metres.specs.Millimetres.{truncated}
use Rattle.systems.specs.Zones.{Stands}
use Rattle.terms.specs.Papers.{ellipsoid_of}
use Rattle.systems.specs.declared.Zone.{Zone}
use Rattle.fixed.specs.Nearness.{turned}
use Rattle.fixed.proofs.Laws.Turned.{turned_within}
use Rattle.arith.specs.Laws.Within.{by_abs}
use Rattle.fixed_inverse.specs.Worked.{latitude_ticks, difference_ticks}
use Rattle.projection_worked.specs.Worked.{below_nought}
use Rattle.projection_worked.specs.Inverse.{latitude_from, difference_from, ticks_from}
use Rattle.projection_worked.proofs.Laws.Undoing.{word}
use Rattle.projection_inverse.proofs.backward.answer.Goals as goal

-- a size that was turned, as it is passed on
back_is : (back : Bool) (n : ℕ) (r : ℤ) → n ≤ 1000000000000 → r ≡ turned back (to_z w64 n) → Is (to_z w64 (of_z w64 r)) (turned back (pos n)) 1000000000000
back_is back n r h e =
    subst (λ z. Is (to_z w64 (of_z w64 z)) (turned back (pos n)) 1000000000000) (sym (e ∙ ap (turned back) (word n 1000000000000 h tt).is))
    (v_in w64 (turned back (pos n)) (turned_within back (by_abs (pos n) h)).within tt)

pub beside-l-requires : goal.beside-l-requires
beside-l-requires c =
    let m = v_in w64 c.args.zone.meridian c.requires.0.meridian tt in
    let d = back_is _ _ _ c.sizes-t.ensures.small.1 c.turned-d.ensures in
    (to_goal (λ z. nat_abs z ≤ 100000000000) m m.size, to_goal (λ z. nat_abs z ≤ 1000000000000) d d.size)

both : ℤ → ℤ → Ticks
both b l = record { B = b; L = l }

stand : (z : Zone) (s : System) (west : Bool) (p : Pair) → Stands z s
    → both (pos (latitude_ticks (ellipsoid_of z.ellipsoid) (truncated 30 (value p.re)) (truncated 30 (value p.im)))) (z.meridian +ℤ turned west (turned (below_nought p.im) (pos (difference_ticks (ellipsoid_of z.ellipsoid) (truncated 30 (value p.re)) (truncated 30 (value p.im))))))
    ≡ ticks_from s west p
unfolding both latitude_from difference_from
stand z s west p h = ap₂ (λ E m. both (latitude_from E p) (m +ℤ difference_from E west p)) (sym h.ellipsoid) (sym h.meridian)

pub returns : goal.returns
unfolding both of_bits
returns c = λ s h.
    let t = c.sizes-t in
    let m = v_in w64 c.args.zone.meridian c.requires.0.meridian tt in
    let d = back_is (below_nought c.args.p.im) t.result.difference c.turned-d.result t.ensures.small.1 c.turned-d.ensures in
    c.judge.ensures s h
    ∙ ap (judged s)
    (ap₂ both ((word t.result.latitude 1000000000000 t.ensures.small.0 tt).is ∙ ap pos t.ensures.latitude_value.0)
    (to_z-of_z {w = w64} (record { sfits = c.beside-l.type_inv }) ∙ c.beside-l.ensures
    ∙ ap₂ (λ x d. x +ℤ turned c.args.west d) m.is (d.is ∙ ap (λ n. turned (below_nought c.args.p.im) (pos n)) t.ensures.latitude_value.1))
    ∙ stand c.args.zone s c.args.west c.args.p h)
