-- `fixed_inverse::sphere60`: the number under the root, and how far f is from 52 degrees. Assumes nothing.
use Rattle.std.proofs.Common.{Bool, true, false, ◌≡◌, sym, ◌∙◌, ap, ap₂, subst, ℕ, ◌+◌, ◌*◌, ◌-◌, ◌/◌, ◌≤◌, le_trans, arith, lit≤}
use Rattle.fixed.specs.Worked.{S60, mul60, odd_alt60, tilt60, tilt_south}
use Rattle.fixed.specs.Relations.{Mul60}
use Rattle.fixed.specs.Tables.{arctan_table}
use Rattle.fixed_inverse.specs.Worked.{beside_52, about_52, sphere60, root60}
use Rattle.fixed_inverse.specs.Laws.Turns.{sine_low, sine_high, cosh_high}
use Rattle.fixed_inverse.specs.Laws.Roots.{w_low, w_high, root_least, root_most}
use Rattle.fixed_inverse.proofs.Laws.Roots.{square_low, square_high}
use Rattle.fixed_inverse.specs.Laws.About52.{f_low, f_high}
use Rattle.fixed_inverse.proofs.Laws.About52.{beside_size, tilt_size}
use Rattle.fixed_inverse.proofs.sphere60.Goals as goal

module _ {s d : ℕ} (h : (sine_low ≤ s) × (s ≤ sine_high) × (S60 ≤ d) × (d ≤ cosh_high)) where
  number : {w : ℕ} → Mul60 (d - s) (d + s) w → (w_low ≤ w) × (w ≤ w_high)
  number m = let k : s ≤ d = omega arith in (square_low m k h.2 h.1, square_high m k h.3 h.0)

  turn : {m t a : ℕ} → (root_least ≤ m) × (m ≤ root_most) → t ≡ tilt60 s m → a ≤ t → a ≤ 88 * S60 / 1000
  turn k e l = le_trans l (subst (λ z. z ≤ 88 * S60 / 1000) (sym e) (tilt_size h.0 h.1 k.0 k.1))

module _ (s d : ℕ) {w m t a : ℕ} {south : Bool} (ew : w ≡ mul60 (d - s) (d + s)) (em : m ≡ root60 w) (es : south ≡ tilt_south s m) (et : t ≡ tilt60 s m) (ea : a ≡ odd_alt60 t arctan_table) where
  same : beside_52 south a ≡ sphere60 s d
  unfolding sphere60 about_52
  same = ap₂ beside_52 (es ∙ ap (tilt_south s) root) (ea ∙ ap (λ z. odd_alt60 z arctan_table) (et ∙ ap (tilt60 s) root))
    where
      root : m ≡ root60 (mul60 (d - s) (d + s))
      root = em ∙ ap root60 ew

  at : (b : Bool) → south ≡ b → beside_52 b a ≡ sphere60 s d
  at b e = subst (λ x. beside_52 x a ≡ sphere60 s d) e same

pub root60-m-requires : goal.root60-m-requires
root60-m-requires c = number c.requires c.mul60-w.ensures.size

pub overflow_sub-result : goal.overflow_sub-result
overflow_sub-result c = le_trans (turn c.requires c.root60-m.ensures.size c.tilt60-t.ensures.south_value.1 c.arctan60-a.ensures.size) (lit≤ tt)

pub returns-then-t-clause-value : goal.returns-then-t-clause-value
unfolding beside_52
returns-then-t-clause-value c = at c.args.s c.args.c c.mul60-w.ensures.value c.root60-m.ensures.value c.tilt60-t.ensures.south_value.0 c.tilt60-t.ensures.south_value.1 c.arctan60-a.ensures.value true c.if-t.true

pub returns-then-t-clause-size : goal.returns-then-t-clause-size
unfolding beside_52
returns-then-t-clause-size c = beside_size true (turn c.requires c.root60-m.ensures.size c.tilt60-t.ensures.south_value.1 c.arctan60-a.ensures.size)

pub returns-else-t-clause-value : goal.returns-else-t-clause-value
unfolding beside_52
returns-else-t-clause-value c = at c.args.s c.args.c c.mul60-w.ensures.value c.root60-m.ensures.value c.tilt60-t.ensures.south_value.0 c.tilt60-t.ensures.south_value.1 c.arctan60-a.ensures.value false c.if-t.false

pub returns-else-t-clause-size : goal.returns-else-t-clause-size
unfolding beside_52
returns-else-t-clause-size c = beside_size false (turn c.requires c.root60-m.ensures.size c.tilt60-t.ensures.south_value.1 c.arctan60-a.ensures.size)
