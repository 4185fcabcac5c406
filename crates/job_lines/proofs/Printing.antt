-- A line built up of texts and numbers: its length by its parts', and its text. Assumes nothing.
use mathlib.Core.Path.{◌≡◌, refl, ap, ◌∙◌}
use mathlib.Core.List.{List, [], ◌++◌}
use Prim.Native.Nat.{ℕ, ◌+◌, ◌^◌, ◌≤◌, ◌<◌}
use native.Mathlib.Omega.{arith}
use lib.IntN.{ℤ}
use lib.ListN.{length}
use lib.Signed.{mag}
use mir.Syntax.{w64}
use mir.Val.{to_z, of_z, SFits}
use mir.Facts.{to_z-of_z}
use Rattle.rules.specs.JobFile.{whole}
use Rattle.terms.specs.declared.refusals.CrossedPair.{CrossedPair}
use Rattle.terms.specs.declared.refusals.Refusal.{Refusal}
use Rattle.terms.specs.declared.refusals.Refusal.TheVariants as refusal_case
use Rattle.terms.specs.Numbers.{number_of}
use Rattle.lines.specs.declared.Line.{Line}
use Rattle.lines.specs.Said.{said, Longer}
use Rattle.job_state.specs.declared.state.Answer as answers
use Rattle.job_state.specs.declared.state.Answer.TheVariants as case
use Rattle.terms.specs.declared.positions.Position as positions
use Rattle.job_lines.specs.Printed.{Says, printed_at, refusal_text, crossed_text}
use Rattle.job_state.specs.States.{line}

pub record Upto (n : ℕ) (words : List ℕ) (l : Line) : Type 0 where
  pub short : l.count ≤ n
  pub says : said l ≡ words

pub none : {l : Line} → l.count ≡ 0 → said l ≡ [] → Upto 0 [] l
none e f = record { short = omega arith; says = f }

pub text_after : {n : ℕ} {words t : List ℕ} {l r : Line} → Upto n words l → Longer l t r → Upto (n + length t) (words ++ t) r
text_after {t = t} u h = record { short = let a = u.short in let b = h.counted in omega arith; says = h.says ∙ ap (λ (w : List ℕ). w ++ t) u.says }

after : (k : ℕ) {n : ℕ} {words t : List ℕ} {l r : Line} → Upto n words l → (r.count ≤ l.count + k) × Longer l t r → Upto (n + k) (words ++ t) r
after k {t = t} u h = record { short = let a = u.short in let b = h.0 in omega arith; says = h.1.says ∙ ap (λ (w : List ℕ). w ++ t) u.says }

pub number_after : {n : ℕ} {words t : List ℕ} {l r : Line} → Upto n words l → (r.count ≤ l.count + 20) × Longer l t r → Upto (n + 20) (words ++ t) r
number_after u h = after 20 u h

pub whole_after : {n : ℕ} {words : List ℕ} {l r : Line} (z : ℤ) → SFits w64 z → Upto n words l → (r.count ≤ l.count + 21) × Longer l (whole (to_z w64 (of_z w64 z))) r
    → Upto (n + 21) (words ++ whole z) r
whole_after z f u h = rw (to_z-of_z f) at (after 21 u h)

pub spoken : {n : ℕ} {words : List ℕ} {l : Line} → n ≤ 128 → Upto n words l → Says words l
spoken h u = record { short = let a = u.short in omega arith; says = u.says }

-- ---- the answers
module _ {a : answers.Answer} (o : ℕ) {l : Line} where
  pub silent_said : a ≡ case.Silent → l.count ≡ 0 → said l ≡ [] → Says (printed_at a o) l
  unfolding line
  silent_said e f g = rw e (record { short = omega arith; says = g })

  pub field_said : {c n : ℕ} {z : ℤ} → a ≡ case.Field c n z → mag z < 2 ^ 63 → Says (line (case.Field c n (to_z w64 (of_z w64 z)))) l → Says (printed_at a o) l
  field_said e h s = rw e (rw (to_z-of_z (record { sfits = h })) at s)

  pub inner_said : {k n : ℕ} {z : ℤ} → a ≡ case.Inner k n z → mag z < 2 ^ 63 → Says (line (case.Inner k n (to_z w64 (of_z w64 z)))) l → Says (printed_at a o) l
  inner_said e h s = rw e (rw (to_z-of_z (record { sfits = h })) at s)

  pub nozzle_said : {x y : ℤ} {p : positions.Position} → a ≡ case.Nozzle x y p → mag x < 2 ^ 63 → mag y < 2 ^ 63
      → Says (line (case.Nozzle (to_z w64 (of_z w64 x)) (to_z w64 (of_z w64 y)) p)) l → Says (printed_at a o) l
  nozzle_said e h g s = rw e (rw (to_z-of_z (record { sfits = h }), to_z-of_z (record { sfits = g })) at s)

  pub point_said : {x y k c : ℤ} → a ≡ case.Point x y k c → mag x < 2 ^ 63 → mag y < 2 ^ 63 → mag k < 2 ^ 63 → mag c < 2 ^ 63
      → Says (line (case.Point (to_z w64 (of_z w64 x)) (to_z w64 (of_z w64 y)) (to_z w64 (of_z w64 k)) (to_z w64 (of_z w64 c)))) l → Says (printed_at a o) l
  point_said e hx hy hk hc s =
      rw e (rw (to_z-of_z (record { sfits = hx }), to_z-of_z (record { sfits = hy }), to_z-of_z (record { sfits = hk }), to_z-of_z (record { sfits = hc })) at s)

  pub refused_said : {r : Refusal} → a ≡ case.Refused r → Says (printed_at (case.Refused r) o) l → Says (printed_at a o) l
  refused_said e s = rw e s

-- a refusal, but for that of a crossed ring, has its number alone
any_other : (r : Refusal) (o : ℕ) → ((pair : CrossedPair) → r ≡ refusal_case.RingCrossed pair → ⊥) → refusal_text (number_of r) o ≡ printed_at (case.Refused r) o
any_other refusal_case.CodeUnknown o n = refl
any_other refusal_case.LatitudeOutside o n = refl
any_other refusal_case.LongitudeOutside o n = refl
any_other refusal_case.PlaneOutside o n = refl
any_other refusal_case.EllipsoidsDiffer o n = refl
any_other refusal_case.CornerCount o n = refl
any_other refusal_case.CornerNumber o n = refl
any_other refusal_case.SpanTooLarge o n = refl
any_other (refusal_case.RingCrossed pair) o n = absurd (n pair refl)
any_other refusal_case.KindUnknown o n = refl
any_other refusal_case.BodyCutOff o n = refl
any_other refusal_case.OutOfPlace o n = refl
any_other refusal_case.OutputTooShort o n = refl
any_other refusal_case.BadlyPlaced o n = refl
any_other refusal_case.TooManyRings o n = refl

module _ {r : Refusal} (o : ℕ) {l : Line} where
  pub other_said : ((pair : CrossedPair) → r ≡ refusal_case.RingCrossed pair → ⊥) → Says (refusal_text (number_of r) o) l → Says (printed_at (case.Refused r) o) l
  other_said n s = rw (any_other r o n) at s

  pub crossed_said : {pair : CrossedPair} → r ≡ refusal_case.RingCrossed pair → Says (crossed_text o pair.low pair.high) l → Says (printed_at (case.Refused r) o) l
  crossed_said e s = rw e s
