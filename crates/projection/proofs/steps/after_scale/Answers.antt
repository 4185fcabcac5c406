-- `projection::steps::after_scale` meets its contract: the shortfall is what m0 falls short of 1 by, and the part is rounded with it. Assumes nothing.
use mir.Syntax.{w64}
use mir.Facts.{to_z-of_z}
use Rattle.std.proofs.Common.{ap, ◌∙◌, ℕ, ◌-◌, ◌*◌, ◌^◌, ◌≤◌, ℤ, nat_abs, arith}
use Rattle.rules.specs.Polynomial.{double_unit}
use Rattle.double.specs.Value.{value}
use Rattle.metres.specs.Millimetres.{in_millimetres}
use Rattle.systems.specs.Zones.{Sized}
use Rattle.systems.specs.declared.Zone.{Zone}
use Rattle.projection_worked.specs.Worked.{scaled_part}
use Rattle.projection_worked.proofs.Laws.Millimetres.{scale_of, millimetres_size}
use Rattle.projection.proofs.Parts.{millionths_given}
use Rattle.projection.proofs.steps.after_scale.Goals as goal

size : (z : Zone) (v : ℤ) → Sized z → nat_abs v ≤ 8000001 * double_unit → nat_abs (in_millimetres v (1000000 - nat_abs z.millionths) 1000) ≤ 8000001001
size z v h g = let m = h.millionths in millimetres_size (nat_abs z.millionths * 10 ^ 18) (1000000 - nat_abs z.millionths) 1000 v (scale_of (nat_abs z.millionths) m) (go (nat_abs z.millionths) m) g
  where
    go : (M : ℕ) → M ≤ 1000000 → M * 10 ^ 18 ≤ 10 ^ 24
    go M h = omega arith

pub returns : goal.returns
unfolding scaled_part
returns c =
    let e = to_z-of_z {w = w64} (record { sfits = c.part_millimetres.type_inv }) ∙ c.part_millimetres.ensures ∙ ap (λ s. in_millimetres (value c.args.p) s 1000) (c.shortfall-short.ensures ∙ ap (λ z. 1000000 - nat_abs z) (millionths_given c.args.zone c.requires.0)) in
    (e, rw e (size c.args.zone (value c.args.p) c.requires.0 c.requires.2))
