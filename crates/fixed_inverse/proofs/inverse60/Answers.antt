-- `fixed_inverse::inverse60`: each number stays within its leaf's range over the whole box. Assumes nothing.
use Rattle.std.proofs.Common.{◌≡◌, ℕ, ◌*◌, ◌≤◌, arith, sym, subst, le_trans, lit≤}
use Rattle.terms.specs.Papers.{ellipsoid_of}
use Rattle.terms.specs.declared.ellipsoids.Ellipsoid.{Ellipsoid}
use Rattle.fixed.specs.Worked.{S60, odd_alt60, even_ser60}
use Rattle.fixed.specs.Tables.{sine_table, small_cosine_table}
use Rattle.fixed_inverse.specs.Worked.{angle60, latitude_ticks, difference_ticks}
use Rattle.fixed_inverse.specs.Laws.Radius.{x_low, x_high, y_high, p_low, p_high, q_high}
use Rattle.fixed_inverse.proofs.Laws.Radius.{x_size, y_size}
use Rattle.fixed_inverse.specs.Laws.Turns.{sine_low, sine_high, cosh_high}
use Rattle.fixed_inverse.proofs.Laws.Turns.{sine_size, cosh_size}
use Rattle.fixed_inverse.proofs.inverse60.Goals as goal

module _ (e : Ellipsoid) {x y : ℕ} (h : (x_low ≤ x) × (x ≤ x_high) × (y ≤ y_high)) where
  p_range : {p : ℕ} → p ≡ angle60 (ellipsoid_of e) x → (p_low ≤ p) × (p ≤ p_high)
  p_range is = subst (λ z. (p_low ≤ z) × (z ≤ p_high)) (sym is) (x_size (ellipsoid_of e) h.0 h.1)

  q_range : {q : ℕ} → q ≡ angle60 (ellipsoid_of e) y → q ≤ q_high
  q_range is = subst (λ z. z ≤ q_high) (sym is) (y_size (ellipsoid_of e) h.2)

sine_range : {p s : ℕ} → (p_low ≤ p) × (p ≤ p_high) → s ≡ odd_alt60 p sine_table → (sine_low ≤ s) × (s ≤ sine_high)
sine_range h e = subst (λ z. (sine_low ≤ z) × (z ≤ sine_high)) (sym e) (sine_size h.0 h.1)

cosh_range : {q d : ℕ} → q ≤ q_high → d ≡ even_ser60 q small_cosine_table → (S60 ≤ d) × (d ≤ cosh_high)
cosh_range h e = subst (λ z. (S60 ≤ z) × (z ≤ cosh_high)) (sym e) (cosh_size h)

half : (q : ℕ) → q ≤ q_high → 2 * q ≤ S60
half q h = omega arith

pub odd_alt60-s-requires : goal.odd_alt60-s-requires
odd_alt60-s-requires c = (tt, le_trans (p_range c.args.ellipsoid c.requires c.angle60-p.ensures).1 (lit≤ tt))

pub even_ser60-c-requires : goal.even_ser60-c-requires
even_ser60-c-requires c = (tt, half c.angle60-q.result (q_range c.args.ellipsoid c.requires c.angle60-q.ensures))

pub sphere60-f-requires : goal.sphere60-f-requires
sphere60-f-requires c = let k = c.args.ellipsoid in let h = c.requires in let s = sine_range (p_range k h c.angle60-p.ensures) c.odd_alt60-s.ensures.value in let d = cosh_range (q_range k h c.angle60-q.ensures) c.even_ser60-c.ensures.value in (s.0, s.1, d.0, d.1)

pub difference60-requires : goal.difference60-requires
difference60-requires c = let k = c.args.ellipsoid in let h = c.requires in let p = p_range k h c.angle60-p.ensures in (p.0, p.1, q_range k h c.angle60-q.ensures)

pub returns-clause-latitude_value : goal.returns-clause-latitude_value
unfolding latitude_ticks difference_ticks
returns-clause-latitude_value c = (cc, cc)
