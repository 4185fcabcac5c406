-- `metres::shifted` meets its contract: a shift by the difference of the powers. Assumes nothing.
use mathlib.Core.Path.{◌≡◌, sym, ap, ◌∙◌}
use Prim.Native.Nat.{ℕ, ◌+◌, ◌-◌, ◌*◌, ◌/◌, ◌%◌, ◌^◌, ◌≤◌, ◌<◌}
use native.Mathlib.Nat.{le_of_eq, lt_of_lt_of_le, lt_of_le_of_lt, mul_assoc, mul-div_cancel, mod-eq_of_lt, div-eq_of_lt, lt_of_mul-lt-mul_right}
use native.Mathlib.Omega.{arith}
use lib.Pow.{pow_pos, pow-add, pow_mono}
use lib.Ieee.Nearest.{div_same}
use Rattle.rules.specs.Polynomial.{double_unit}
use Rattle.metres.proofs.shifted.Goals as goal

-- to the left
raised : (d u : ℕ) → 1074 ≤ u → d * 2 ^ u < 2 ^ 64 * double_unit → d * 2 ^ (u - 1074) % 2 ^ 64 ≡ d * 2 ^ u / double_unit
unfolding double_unit
raised d u h l =
    let e : d * 2 ^ u ≡ d * 2 ^ (u - 1074) * 2 ^ 1074 = ap (λ (i : ℕ). d * 2 ^ i) (back u h) ∙ ap (λ (i : ℕ). d * i) (pow-add 2 (u - 1074) 1074) ∙ sym (mul_assoc d (2 ^ (u - 1074)) (2 ^ 1074)) in
    mod-eq_of_lt (lt_of_mul-lt-mul_right (2 ^ 1074) (lt_of_le_of_lt (le_of_eq (sym e)) l)) ∙ sym (ap (λ (i : ℕ). i / 2 ^ 1074) e ∙ mul-div_cancel (d * 2 ^ (u - 1074)) (pow_pos 1074))
  where
    back : (u : ℕ) → 1074 ≤ u → u ≡ u - 1074 + 1074
    back u h = omega arith

-- to the right
together : (u : ℕ) → u < 1074 → 2 ^ u * 2 ^ (1074 - u) ≡ 2 ^ 1074
together u h = sym (pow-add 2 u (1074 - u)) ∙ ap (λ (i : ℕ). 2 ^ i) (back u h)
  where
    back : (u : ℕ) → u < 1074 → u + (1074 - u) ≡ 1074
    back u h = omega arith

lowered : (d u : ℕ) → u < 1074 → d / 2 ^ (1074 - u) ≡ d * 2 ^ u / double_unit
unfolding double_unit
lowered d u h = div_same d (2 ^ (1074 - u)) (d * 2 ^ u) (2 ^ 1074) (pow_pos (1074 - u)) (pow_pos 1074) (ap (λ (i : ℕ). d * i) (sym (together u h)) ∙ sym (mul_assoc d (2 ^ u) (2 ^ (1074 - u))))

nothing : (d u : ℕ) → u < 1074 → d < 2 ^ 53 → 63 < 1074 - u → 0 ≡ d * 2 ^ u / double_unit
nothing d u h l k = sym (div-eq_of_lt (lt_of_lt_of_le l (pow_mono {i = 53} {j = 1074 - u} (omega arith)))) ∙ lowered d u h

pub returns-then-up-ge1074 : goal.returns-then-up-ge1074
returns-then-up-ge1074 c = raised c.args.digits c.args.up (omega arith) c.requires.2

pub returns-then-down-gt63 : goal.returns-then-down-gt63
returns-then-down-gt63 c = nothing c.args.digits c.args.up (omega arith) (omega arith) (omega arith)

pub returns : goal.returns
returns c = lowered c.args.digits c.args.up (omega arith)
