-- `metres::millimetres_of` meets its contract: the size by `millimetres`, and the sign of p. Assumes nothing.
use borrow.Author.Rules.{sfits_of}
use mathlib.Core.Path.{◌≡◌, refl, sym, ap, ◌∙◌, subst}
use mathlib.Core.Bool.{Bool}
use Prim.Native.Nat.{ℕ, zero, suc, ◌^◌, ◌<◌}
use native.Mathlib.Omega.{arith}
use lib.IntN.{ℤ, pos, neg_ℤ, ◌-ℤ◌, +ℤ_idl}
use lib.Signed.{mag}
use lib.Ieee.{Float, nan, inf, fin}
use mir.Syntax.{w64}
use mir.Val.{SFits, to_z}
use mir.ValLaws.{to_z_pos, to_z-of_z}
use Rattle.std.specs.Float.{is_sign_negative}
use Rattle.double.specs.Value.{signed, value, negative, magnitude}
use Rattle.metres.specs.Millimetres.{truncated, nearest_millimetres, Fits, in_millimetres}
use Rattle.metres.specs.Laws.Bits.{no_nan}
use Rattle.metres.specs.Laws.Answer.{answer_small, in_signed}
use Rattle.metres.proofs.millimetres_of.Goals as goal

sign_is : (x : Float) → negative x ≡ is_sign_negative x
unfolding is_sign_negative
sign_is nan = refl
sign_is (inf s) = refl
sign_is (fin s m e) = refl

-- the answer by the sign
by_sign : (x : Float) (s k n : ℕ) (b : Bool) → 0 < k → b ≡ is_sign_negative x → n ≡ nearest_millimetres (truncated 20 (value x)) s k → in_millimetres (value x) s k ≡ signed b n
unfolding value
by_sign x s k n b K t e = in_signed (negative x) (magnitude x) s k K ∙ ap (signed (negative x)) (sym e) ∙ ap (λ (a : Bool). signed a n) (sign_is x ∙ sym t)

small_neg : (n : ℕ) → n < 2 ^ 63 → mag (neg_ℤ (pos n)) < 2 ^ 63
small_neg zero h = h
small_neg (suc n) h = omega arith

minus_is : (n : ℕ) → n < 2 ^ 63 → pos 0 -ℤ to_z w64 n ≡ neg_ℤ (pos n)
minus_is n h = ap (λ (z : ℤ). pos 0 -ℤ z) (to_z_pos w64 n h) ∙ +ℤ_idl (neg_ℤ (pos n))

minus_fits : (n : ℕ) → n < 2 ^ 63 → SFits w64 (pos 0 -ℤ to_z w64 n)
minus_fits n h = subst (λ (z : ℤ). SFits w64 z) (sym (minus_is n h)) (sfits_of (small_neg n h))

plain_fits : (n : ℕ) → n < 2 ^ 63 → SFits w64 (pos n)
plain_fits n h = sfits_of h

small : (x s k n : ℕ) → n ≡ nearest_millimetres x s k → Fits x s k → n < 2 ^ 63
small x s k n e f = subst (λ (i : ℕ). i < 2 ^ 63) (sym e) (answer_small x s k f)

pub is_sign_negative-requires : goal.is_sign_negative-requires
is_sign_negative-requires c = no_nan c.args.p c.requires.0.is_finite

pub overflow_cast-result : goal.overflow_cast-result
overflow_cast-result c =
    let x = truncated 20 (value c.args.p) in
    let s = c.args.short in
    let k = c.args.per in
    let n = c.millimetres-n.result in
    let e : n ≡ nearest_millimetres x s k = c.millimetres-n.ensures ∙ ap (λ (i : ℕ). nearest_millimetres i s k) c.scaled.ensures in
    let h = small x s k n e c.requires.2 in
    plain_fits n h

pub overflow_sub-result : goal.overflow_sub-result
overflow_sub-result c =
    let x = truncated 20 (value c.args.p) in
    let s = c.args.short in
    let k = c.args.per in
    let n = c.millimetres-n.result in
    let e : n ≡ nearest_millimetres x s k = c.millimetres-n.ensures ∙ ap (λ (i : ℕ). nearest_millimetres i s k) c.scaled.ensures in
    let h = small x s k n e c.requires.2 in
    minus_fits n h

pub overflow_cast-result-else-is_sign_negative : goal.overflow_cast-result-else-is_sign_negative
overflow_cast-result-else-is_sign_negative c =
    let x = truncated 20 (value c.args.p) in
    let s = c.args.short in
    let k = c.args.per in
    let n = c.millimetres-n.result in
    let e : n ≡ nearest_millimetres x s k = c.millimetres-n.ensures ∙ ap (λ (i : ℕ). nearest_millimetres i s k) c.scaled.ensures in
    let h = small x s k n e c.requires.2 in
    plain_fits n h

pub returns-then-is_sign_negative : goal.returns-then-is_sign_negative
returns-then-is_sign_negative c =
    let x = truncated 20 (value c.args.p) in
    let s = c.args.short in
    let k = c.args.per in
    let n = c.millimetres-n.result in
    let e : n ≡ nearest_millimetres x s k = c.millimetres-n.ensures ∙ ap (λ (i : ℕ). nearest_millimetres i s k) c.scaled.ensures in
    let h = small x s k n e c.requires.2 in
    to_z-of_z w64 (pos 0 -ℤ to_z w64 n) (minus_fits n h) ∙ minus_is n h ∙ sym (by_sign c.args.p s k n _ c.requires.2.positive c.if-is_sign_negative.ensures e)

pub returns-else-is_sign_negative : goal.returns-else-is_sign_negative
returns-else-is_sign_negative c =
    let x = truncated 20 (value c.args.p) in
    let s = c.args.short in
    let k = c.args.per in
    let n = c.millimetres-n.result in
    let e : n ≡ nearest_millimetres x s k = c.millimetres-n.ensures ∙ ap (λ (i : ℕ). nearest_millimetres i s k) c.scaled.ensures in
    let h = small x s k n e c.requires.2 in
    to_z_pos w64 n h ∙ sym (by_sign c.args.p s k n _ c.requires.2.positive c.if-is_sign_negative.ensures e)
