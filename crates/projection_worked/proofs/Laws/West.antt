-- East and west: z with its second part negated gives the polynomial's answer with its second part negated, as values. Assumes nothing.
use Rattle.std.specs.Prelude.{Bool, true, false, not, cond, ◌≡◌, List, ℕ, zero, suc, ◌*◌, ◌/◌, ℤ, pos, negsuc, neg_ℤ, Float}
use Rattle.std.proofs.Math.Path.{refl}
use Rattle.std.proofs.Common.{sym, ◌∙◌, ap, subst, zero-mul, lit<}
use Rattle.std.proofs.Math.Nat.{zero-div}
use Rattle.std.specs.Float.{nan, inf, fin, binary64}
use Rattle.std.specs.Float.Ieee.{of_int, round, neg, up, down}
use Rattle.rules.specs.Polynomial.{double_unit}
use Rattle.double.specs.declared.Pair.{Pair}
use Rattle.double.specs.Value.{value, magnitude, signed, plain, Number, Keeps, Flips}
use Rattle.double.specs.Complex.{horner}
use Rattle.double.proofs.Laws.Operations.{neg_value}
use Rattle.double.proofs.Laws.Signs.{round_neg, round_zero, keep, flip, flip_keep_mul, Mirrored, horner_mirrored}
use Rattle.metres.specs.Metres.{thirtieth, two_millionths, metres_of, argument_of, arguments_of}

no_sign : (s : Bool) → signed s 0 ≡ pos 0
no_sign true = refl
no_sign false = refl

plain_value : (x : Float) → value (plain x) ≡ value x
unfolding value magnitude
plain_value nan = refl
plain_value (inf s) = refl
plain_value (fin s zero e) = sym (ap (λ n. signed s (n * double_unit / down e)) (zero-mul (up e)) ∙ ap (λ n. signed s (n / down e)) (zero-mul double_unit) ∙ ap (signed s) (zero-div (down e)) ∙ no_sign s)
plain_value (fin s (suc m) e) = refl

pub keeps_value : {x y : Float} → Keeps x y → value y ≡ value x
keeps_value {x} {y} k = sym (plain_value y) ∙ ap value (sym k.kept) ∙ plain_value x

pub flips_value : {x y : Float} → Number x → Flips x y → value y ≡ neg_ℤ (value x)
flips_value {x} {y} n k = sym (plain_value y) ∙ ap value (sym k.flipped) ∙ plain_value (neg x) ∙ neg_value x n

whole_flips : (m : ℤ) → Flips (of_int binary64 m) (of_int binary64 (neg_ℤ m))
unfolding of_int
whole_flips (pos zero) = subst (λ x. Flips x x) (sym (round_zero binary64 false 1 (lit< tt))) (record { flipped = unfold neg in refl })
whole_flips (pos (suc k)) = subst (Flips (round binary64 false (suc k) 1)) (sym (round_neg binary64 false (suc k) 1)) (flip (round binary64 false (suc k) 1))
whole_flips (negsuc k) = subst (Flips (round binary64 true (suc k) 1)) (sym (round_neg binary64 true (suc k) 1)) (flip (round binary64 true (suc k) 1))

argument_flips : (m : ℤ) → Flips (argument_of m) (argument_of (neg_ℤ m))
argument_flips m = flip_keep_mul binary64 (flip_keep_mul binary64 (whole_flips m) (keep thirtieth)) (keep two_millionths)

pub mirrored : (n m : ℤ) → Mirrored (arguments_of n m) (arguments_of n (neg_ℤ m))
mirrored n m = record { stays = keep (argument_of n); turns = argument_flips m }
