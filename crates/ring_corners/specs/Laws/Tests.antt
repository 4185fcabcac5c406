-- Tests joined by `&&`, and the test for zero by a sign. Assumes nothing.
use Rattle.std.specs.Prelude.{◌≡◌, refl, Bool, true, false, ◌&&◌, zero, suc, ℤ, pos, negsuc}
use Rattle.std.specs.Ordering.{is_eq}
use Rattle.std.proofs.Math.Dec.{leb-suc-zero}
use Rattle.rules.specs.Rings.{is_zero}
use Rattle.ring_corners.specs.Sides.{sign_of}

pub and_true : {a b : Bool} → a ≡ true → b ≡ true → (a && b) ≡ true
and_true e f = rw (e, f) refl

pub and_left : {a : Bool} (b : Bool) → a ≡ false → (a && b) ≡ false
and_left b e = rw e refl

pub and_right : (a : Bool) {b : Bool} → b ≡ false → (a && b) ≡ false
and_right true e = e
and_right false e = refl

pub zero_is : (z : ℤ) → is_zero z ≡ is_eq (sign_of z)
unfolding sign_of
zero_is (pos zero) = refl
zero_is (pos (suc n)) = rw (leb-suc-zero n) refl
zero_is (negsuc n) = refl
