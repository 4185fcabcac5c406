-- The two parts are small enough for each step. Assumes nothing.
use Rattle.std.proofs.Common.{◌≡◌, ap, ap₂, ◌∙◌, ℕ, ◌*◌, ◌^◌, ◌≤◌, ◌<◌, le_trans, lit≤, nat_abs, arith}
use Rattle.rules.specs.Polynomial.{double_unit}
use Rattle.double.specs.declared.Pair.{Pair}
use Rattle.double.specs.Value.{value}
use Rattle.double.proofs.Laws.Operations.{double_unit_pos}
use Rattle.fixed.specs.Worked.{mul60, quot60}
use Rattle.projection_worked.specs.Worked.{first41, second41, grain, first60, slope60}
use Rattle.projection_worked.proofs.Laws.SlopeParts.{parted, first_high_60, slope_high}
use Rattle.projection.proofs.steps.slope_parts.Goals as goal

small : (a u : ℕ) → 0 < u → a ≤ 501000 * u → a * 2 ^ 41 < 2 ^ 64 * u
small a u p h = omega arith

smaller : (a u : ℕ) → a ≤ 137 * u → a ≤ 501000 * u
smaller a u h = omega arith

ratio : (a b : ℕ) → a ≤ 137 * 2 ^ 41 → 499000 * 2 ^ 41 ≤ b → 4 * a ≤ 5 * b
ratio a b h k = omega arith

pub scaled-first-requires : goal.scaled-first-requires
scaled-first-requires c = (c.requires.0.re, lit≤ tt, small (nat_abs (value c.args.h.re)) double_unit double_unit_pos c.requires.1.first_high)

pub scaled-second-requires : goal.scaled-second-requires
scaled-second-requires c = (c.requires.0.im, lit≤ tt, small (nat_abs (value c.args.h.im)) double_unit double_unit_pos (smaller (nat_abs (value c.args.h.im)) double_unit c.requires.1.second_high))

pub mul60-grain-requires : goal.mul60-grain-requires
mul60-grain-requires c = (rw c.scaled-first.ensures (le_trans (parted c.args.h c.requires.1).high (lit≤ tt)), lit≤ tt)

pub quot60-slope-requires : goal.quot60-slope-requires
quot60-slope-requires c =
    let p = parted c.args.h c.requires.1 in
    rw (c.scaled-first.ensures, c.scaled-second.ensures)
    (le_trans (lit≤ tt) p.low, le_trans p.high (lit≤ tt), ratio (second41 c.args.h) (first41 c.args.h) p.second p.low)

first_is : (h : Pair) (r a : ℕ) → r ≡ mul60 a grain → a ≡ first41 h → r ≡ first60 h
unfolding first60
first_is h r a e f = e ∙ ap (λ x. mul60 x grain) f

slope_is : (h : Pair) (r a b : ℕ) → r ≡ quot60 a b → a ≡ second41 h → b ≡ first41 h → r ≡ slope60 h
unfolding slope60
slope_is h r a b e f g = e ∙ ap₂ quot60 f g

pub returns-clause-first_value : goal.returns-clause-first_value
returns-clause-first_value c = (first_is c.args.h _ _ c.mul60-grain.ensures.value c.scaled-first.ensures, slope_is c.args.h _ _ _ c.quot60-slope.ensures.value c.scaled-second.ensures c.scaled-first.ensures)

pub returns-clause-size : goal.returns-clause-size
returns-clause-size c =
    let h = c.args.h in
    let p = parted h c.requires.1 in
    let e : c.mul60-grain.result ≡ first60 h = first_is h _ _ c.mul60-grain.ensures.value c.scaled-first.ensures in
    let f : c.quot60-slope.result ≡ slope60 h = slope_is h _ _ _ c.quot60-slope.ensures.value c.scaled-second.ensures c.scaled-first.ensures in
    (rw e (first_high_60 h p c.requires.1), rw f (slope_high h p c.requires.1))
