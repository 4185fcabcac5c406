-- `fixed_inverse::root60` meets its contract: each step starts from a number that Laws.Roots bounds. Assumes nothing.
use mathlib.Core.Path.{◌≡◌, sym, ◌∙◌, ap, subst}
use Prim.Native.Nat.{ℕ, ◌+◌, ◌*◌, ◌-◌, ◌/◌, ◌≤◌}
use native.Mathlib.Omega.{arith}
use Rattle.fixed.specs.Worked.{S60, mul60}
use Rattle.fixed_inverse.specs.Worked.{seed_from, seed_0, seed_1, seed_2, seed60, closer60, root60}
use Rattle.fixed_inverse.specs.Laws.Roots.{w_low, w_high, root_least, root_most, RootOf60}
use Rattle.fixed_inverse.proofs.Laws.Roots.{root60_is}
use Rattle.fixed_inverse.proofs.root60.Goals as goal

module _ {w : ℕ} (h : (w_low ≤ w) × (w ≤ w_high)) where
  bounds : RootOf60 w
  bounds = root60_is h.0 h.1

  seed_is : {a b : ℕ} → a ≡ mul60 (4 * (w - seed_from)) seed_2 → b ≡ mul60 (4 * (w - seed_from)) (seed_1 - a) → seed_0 + b ≡ seed60 w
  unfolding seed60
  seed_is {a} {b} ea eb = ap (λ z. seed_0 + z) (eb ∙ ap (λ z. mul60 (4 * (w - seed_from)) (seed_1 - z)) ea)

  step_is : {z s : ℕ} → z ≡ seed60 w → s ≡ closer60 w z → s ≡ closer60 w (seed60 w)
  step_is e f = f ∙ ap (closer60 w) e

  second : {s : ℕ} → s ≡ closer60 w (seed60 w) → (S60 / 2 ≤ s) × (s ≤ S60) × (w ≤ w_high)
  second {s} e = go (subst (λ z. root_least ≤ z) (sym e) bounds.first_low) (subst (λ z. z ≤ root_most) (sym e) bounds.first_high)
    where
      go : root_least ≤ s → s ≤ root_most → (S60 / 2 ≤ s) × (s ≤ S60) × (w ≤ w_high)
      go a b = (omega arith, omega arith, h.1)

  last : {s r : ℕ} → s ≡ closer60 w (seed60 w) → r ≡ closer60 w s → (r ≡ root60 w) × (root_least ≤ r) × (r ≤ root_most)
  unfolding root60
  last e f = let g = f ∙ ap (closer60 w) e in (g, subst (λ z. root_least ≤ z) (sym g) bounds.low, subst (λ z. z ≤ root_most) (sym g) bounds.high)

pub closer60-requires : goal.closer60-requires
closer60-requires c = let h = c.requires in second h (step_is h (seed_is h c.mul60-a.ensures.value c.mul60-b.ensures.value) c.closer60-s.ensures)

pub returns-clause-value : goal.returns-clause-value
returns-clause-value c = let h = c.requires in (last h (step_is h (seed_is h c.mul60-a.ensures.value c.mul60-b.ensures.value) c.closer60-s.ensures) c.closer60.ensures).0

pub returns-clause-size : goal.returns-clause-size
returns-clause-size c = let h = c.requires in let z = last h (step_is h (seed_is h c.mul60-a.ensures.value c.mul60-b.ensures.value) c.closer60-s.ensures) c.closer60.ensures in (z.1, z.2)
