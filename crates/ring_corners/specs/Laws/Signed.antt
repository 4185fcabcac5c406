-- Signed integers of the code, beside Laws.Machine of arith: a negative literal, a difference that is small though its parts are not, a result read back. Assumes nothing.
use Rattle.std.specs.Prelude.{◌≡◌, refl, true, false, ℕ, suc, ◌^◌, ◌≤◌, T, ltb, ℤ, negsuc, nat_abs, ◌-ℤ◌, ◌≤ℤ◌, ◌<ℤ◌}
use Rattle.std.proofs.Common.{sym, ◌∙◌, ap₂, subst₂, le_refl, to_z-of_z}
use Rattle.std.specs.Int.Signed.{le_z, lt_z}
use Rattle.std.specs.Int.{Width, w64}
use mir.Val.{SFits, hbits, to_z, of_z}
use Rattle.arith.specs.Laws.Within.{by_abs, w_fits}
use Rattle.arith.specs.Machine.{Is}
use Rattle.arith.specs.Laws.Machine.{v_fit, lt_yes, lt_no, le_yes, le_no}
use Rattle.rules.specs.Rings.{Corner}
use Rattle.ring_corners.specs.Corners.{corner}

-- a negative literal
pub v_minus : (k : ℕ) → Is (negsuc k) (negsuc k) (suc k)
v_minus k = record { is = refl; size = le_refl (suc k) }

-- what x holds, read back from its bits
pub held : {w : Width} {x y : ℤ} → SFits w x → x ≡ y → to_z w (of_z w x) ≡ y
held f e = to_z-of_z f ∙ e

-- a difference of two values of the code
pub need_diff : {w : Width} {x y a b : ℤ} {n : ℕ} → x ≡ a → y ≡ b → nat_abs (a -ℤ b) ≤ n → T (ltb n (2 ^ hbits w)) → SFits w (x -ℤ y)
need_diff {w} {x} {y} {a} {b} e f h t = subst₂ (λ (s t : ℤ). SFits w (s -ℤ t)) (sym e) (sym f) (w_fits (by_abs (a -ℤ b) h) t)

pub v_diff : {x y a b : ℤ} {n : ℕ} (w : Width) → x ≡ a → y ≡ b → nat_abs (a -ℤ b) ≤ n → T (ltb n (2 ^ hbits w)) → Is (to_z w (of_z w (x -ℤ y))) (a -ℤ b) n
v_diff w e f h t = record { is = to_z-of_z (need_diff e f h t) ∙ ap₂ ◌-ℤ◌ e f; size = h }

-- ---- parameters: a test of two, and a corner made of two
pub less : {x y : ℤ} → SFits w64 x → SFits w64 y → lt_z (to_z w64 (of_z w64 x)) (to_z w64 (of_z w64 y)) ≡ true → x <ℤ y
less f g e = lt_yes (v_fit f) (v_fit g) e

pub not_less : {x y : ℤ} → SFits w64 x → SFits w64 y → lt_z (to_z w64 (of_z w64 x)) (to_z w64 (of_z w64 y)) ≡ false → y ≤ℤ x
not_less f g e = lt_no (v_fit f) (v_fit g) e

pub at_most : {x y : ℤ} → SFits w64 x → SFits w64 y → le_z (to_z w64 (of_z w64 x)) (to_z w64 (of_z w64 y)) ≡ true → x ≤ℤ y
at_most f g e = le_yes (v_fit f) (v_fit g) e

pub not_at_most : {x y : ℤ} → SFits w64 x → SFits w64 y → le_z (to_z w64 (of_z w64 x)) (to_z w64 (of_z w64 y)) ≡ false → y <ℤ x
not_at_most f g e = le_no (v_fit f) (v_fit g) e

-- a corner as a call hands it on
abbrev pub raw : ℤ → ℤ → Corner
raw X Y = corner (to_z w64 (of_z w64 X)) (to_z w64 (of_z w64 Y))

pub raw_is : {X Y : ℤ} → SFits w64 X → SFits w64 Y → raw X Y ≡ corner X Y
raw_is f g = λ k. corner (to_z-of_z f k) (to_z-of_z g k)

-- a corner made of two numbers that are its own
pub made : {X Y : ℤ} {c : Corner} → X ≡ c.x → Y ≡ c.y → corner X Y ≡ c
made e f = λ k. corner (e k) (f k)
