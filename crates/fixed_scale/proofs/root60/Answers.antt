-- `fixed_scale::root60` meets its contract: the value is the worked one, and Laws.Root bounds it. Assumes nothing.
use mathlib.Core.Path.{◌≡◌, sym, subst}
use Prim.Native.Nat.{◌-◌, ◌≤◌}
use native.Mathlib.Nat.{le_refl}
use Rattle.fixed.specs.Worked.{S60}
use Rattle.fixed_scale.specs.Root.{root60}
use Rattle.fixed_scale.proofs.Laws.Root.{root60_is}
use Rattle.fixed_scale.proofs.root60.Goals as goal

pub returns-clause-value : goal.returns-clause-value
unfolding root60
returns-clause-value c = cc

pub returns-clause-size : goal.returns-clause-size
unfolding root60
returns-clause-size c =
    let x = c.args.x in
    let e : 1152921504606846976 - c.mul60.result ≡ root60 x = cc in
    let r = root60_is x x (le_refl x) c.requires in
    subst (λ t. (S60 - x ≤ t) × (t ≤ S60)) (sym e) (r.low, r.high)
