-- A line tells the answer that printed it: `told`, which reads the words of a line, gives back each answer from what the paper has of it. So no two answers
-- have the same (`told-apart`). Assumes nothing.
use Rattle.std.specs.Prelude.{◌≡◌, refl, Bool, true, false, List, [], ◌∷◌, ◌++◌, ℕ, zero, suc, ◌+◌, ◌-◌, ◌/◌, ◌%◌, ◌<◌, ltb, eqb, ℤ, pos, negsuc}
use Rattle.std.proofs.Common.{sym, ap, ◌∙◌, append_assoc, arith, lt-ltb, ne_eqb}
use Rattle.rules.specs.Refusals as rules
use Rattle.rules.specs.Refusals.{answered, refused, crossed_at}
use Rattle.rules.specs.JobFile.{State, Step, text, digits_by, decimal, whole}
use Rattle.rules.proofs.Laws.Job.{stands_for, decimal_stands}
use Rattle.terms.specs.declared.positions.Position as positions
use Rattle.terms.specs.declared.positions.Position.TheVariants.{Open, Border, Shut}
use Rattle.terms.specs.declared.refusals.Refusal.{Refusal}
use Rattle.terms.specs.declared.refusals.Refusal.TheVariants as refusal_case
use Rattle.terms.specs.Papers.{refusal_paper}
use Rattle.job_state.specs.declared.state.Answer as answers
use Rattle.job_state.specs.declared.state.Answer.TheVariants as answer_case
use Rattle.job_state.specs.declared.state.Answer.TheVariants.{Silent, Field, Nozzle, Point, Refused}
use Rattle.job_state.specs.Gathered.{chosen}
use Rattle.job_state.specs.States.{word, line, paper}

-- ---- the words of a line: up to a byte of at most 32, which is a space or the line's end, and after it
first : List ℕ → List ℕ
first [] = []
first (c ∷ l) = chosen (ltb 32 c) (c ∷ first l) []

rest : List ℕ → List ℕ
rest [] = []
rest (c ∷ l) = chosen (ltb 32 c) (rest l) l

-- every byte is above a bound
data Above (low : ℕ) : List ℕ → Type 0 where
  none : Above low []
  more : {c : ℕ} {l : List ℕ} → low < c → Above low l → Above low (c ∷ l)

first_word : {w : List ℕ} → Above 32 w → (l : List ℕ) → first (w ++ (32 ∷ l)) ≡ w
unfolding first
first_word none l = refl
first_word (more {c} h a) l = rw (lt-ltb 32 c h) (ap (λ (t : List ℕ). c ∷ t) (first_word a l))

last_word : {w : List ℕ} → Above 32 w → first (w ++ (10 ∷ [])) ≡ w
unfolding first
last_word none = refl
last_word (more {c} h a) = rw (lt-ltb 32 c h) (ap (λ (t : List ℕ). c ∷ t) (last_word a))

next_words : {w : List ℕ} → Above 32 w → (l : List ℕ) → rest (w ++ (32 ∷ l)) ≡ l
unfolding rest
next_words none l = refl
next_words (more {c} h a) l = rw (lt-ltb 32 c h) (next_words a l)

-- ---- the bytes of a number, and the number that they stand for
above_join : {low : ℕ} {a b : List ℕ} → Above low a → Above low b → Above low (a ++ b)
above_join none q = q
above_join (more h p) q = more h (above_join p q)

lower : {w : List ℕ} → Above 47 w → Above 32 w
lower none = none
lower (more {c} h p) = more {c = c} (omega arith) (lower p)

digits_above : (k n : ℕ) → Above 47 (digits_by k n)
unfolding digits_by
digits_above zero n = more {c = 48 + n} (omega arith) none
digits_above (suc k) n = go (ltb n 10) (digits_above k (n / 10))
  where
    go : (b : Bool) → Above 47 (digits_by k (n / 10)) → Above 47 (elim b [ true ↦ (48 + n) ∷ [] | false ↦ digits_by k (n / 10) ++ ((48 + n % 10) ∷ []) ])
    go true p = more {c = 48 + n} (omega arith) none
    go false p = above_join p (more {c = 48 + n % 10} (omega arith) none)

decimal_above : (n : ℕ) → Above 47 (decimal n)
unfolding decimal
decimal_above n = digits_above n n

decimal_word : (n : ℕ) → Above 32 (decimal n)
decimal_word n = lower (decimal_above n)

whole_word : (z : ℤ) → Above 32 (whole z)
unfolding whole
whole_word (pos n) = decimal_word n
whole_word (negsuc n) = more {c = 45} (omega arith) (decimal_word (suc n))

-- 45 is the minus sign
signed_number : List ℕ → ℤ
signed_number [] = pos 0
signed_number (c ∷ l) = chosen (eqb c 45) (negsuc (stands_for 0 l - 1)) (pos (stands_for 0 (c ∷ l)))

no_sign : {w : List ℕ} → Above 47 w → signed_number w ≡ pos (stands_for 0 w)
unfolding signed_number stands_for
no_sign none = refl
no_sign (more {c} h p) = rw (ne_eqb c 45 (λ e. omega arith)) refl

whole_back : (z : ℤ) → signed_number (whole z) ≡ z
unfolding whole signed_number
whole_back (pos n) = no_sign (decimal_above n) ∙ ap pos (decimal_stands n)
whole_back (negsuc n) = minus (decimal (suc n)) ∙ ap (λ (k : ℕ). negsuc (k - 1)) (decimal_stands (suc n)) ∙ ap negsuc (one_less n)
  where
    minus : (l : List ℕ) → signed_number (45 ∷ l) ≡ negsuc (stands_for 0 l - 1)
    minus l = refl

    one_less : (n : ℕ) → suc n - 1 ≡ n
    one_less n = omega arith

-- ---- the position, by the first byte of its word
position : List ℕ → positions.Position
position [] = Shut
position (c ∷ l) = chosen (eqb c 111) Open (chosen (eqb c 98) Border Shut)

position_back : (p : positions.Position) → position (word p) ≡ p
unfolding position
position_back Open = refl
position_back Border = refl
position_back Shut = refl

position_word : (p : positions.Position) → Above 32 (word p)
position_word Open =
    more {c = 111} (omega arith) (more {c = 112} (omega arith) (more {c = 101} (omega arith) (more {c = 110} (omega arith) none)))
position_word Border =
    more {c = 98} (omega arith) (more {c = 111} (omega arith) (more {c = 114} (omega arith) (more {c = 100} (omega arith) (more {c = 101} (omega arith) (more {c = 114} (omega arith) none)))))
position_word Shut =
    more {c = 115} (omega arith) (more {c = 104} (omega arith) (more {c = 117} (omega arith) (more {c = 116} (omega arith) none)))

-- ---- a line, by its first byte: the f of "field", the i of "inner", the n of "nozzle", the p of "point"
field_told : List ℕ → answers.Answer
field_told l = Field (stands_for 0 (first l)) (stands_for 0 (first (rest (rest l)))) (signed_number (first (rest (rest (rest (rest l))))))

inner_told : List ℕ → answers.Answer
inner_told l = answer_case.Inner (stands_for 0 (first l)) (stands_for 0 (first (rest (rest l)))) (signed_number (first (rest (rest (rest (rest l))))))

nozzle_told : List ℕ → answers.Answer
nozzle_told l = Nozzle (signed_number (first l)) (signed_number (first (rest l))) (position (first (rest (rest l))))

point_told : List ℕ → answers.Answer
point_told l =
    Point (signed_number (first l)) (signed_number (first (rest l))) (signed_number (first (rest (rest l)))) (signed_number (first (rest (rest (rest l)))))

line_told : List ℕ → answers.Answer
line_told [] = Silent
line_told (c ∷ l) = chosen (eqb c 102) (field_told (rest l)) (chosen (eqb c 105) (inner_told (rest l)) (chosen (eqb c 110) (nozzle_told (rest l)) (point_told (rest l))))

-- the refusal with a number: those of the calls, but for a crossed ring's, which has its pair
numbered : ℕ → Refusal
numbered n =
    chosen (eqb n 1) refusal_case.CodeUnknown (chosen (eqb n 2) refusal_case.LatitudeOutside (chosen (eqb n 3) refusal_case.LongitudeOutside (chosen (eqb n 4) refusal_case.PlaneOutside (chosen (eqb n 5) refusal_case.EllipsoidsDiffer (chosen (eqb n 6) refusal_case.CornerCount (chosen (eqb n 7) refusal_case.CornerNumber (chosen (eqb n 8) refusal_case.SpanTooLarge (chosen (eqb n 11) refusal_case.KindUnknown (chosen (eqb n 12) refusal_case.BodyCutOff (chosen (eqb n 13) refusal_case.OutOfPlace (chosen (eqb n 14) refusal_case.OutputTooShort (chosen (eqb n 15) refusal_case.BadlyPlaced (refusal_case.TooManyRings)))))))))))))

told : rules.Answer Step → answers.Answer
told (answered d) = line_told d.printed
told (refused n) = Refused (numbered n)
told (crossed_at pair) = Refused (refusal_case.RingCrossed (record { ring = pair.ring; low = pair.low; high = pair.high; looked_at = pair.looked_at }))

module _ {a b c d : List ℕ} (p : Above 32 a) (q : Above 32 b) (r : Above 32 c) (s : Above 32 d) where
  field_words : field_told (a ++ (text " corners " ++ (b ++ (text " area2 " ++ (c ++ text "\n"))))) ≡ Field (stands_for 0 a) (stands_for 0 b) (signed_number c)
  unfolding field_told rest
  field_words = simp (next_words p, next_words q, first_word p, first_word q, last_word r)

  inner_words : inner_told (a ++ (text " corners " ++ (b ++ (text " area2 " ++ (c ++ text "\n"))))) ≡ answer_case.Inner (stands_for 0 a) (stands_for 0 b) (signed_number c)
  unfolding inner_told rest
  inner_words = simp (next_words p, next_words q, first_word p, first_word q, last_word r)

  nozzle_words : nozzle_told (a ++ (text " " ++ (b ++ (text " " ++ (c ++ text "\n"))))) ≡ Nozzle (signed_number a) (signed_number b) (position c)
  unfolding nozzle_told
  nozzle_words = simp (next_words p, next_words q, first_word p, first_word q, last_word r)

  point_words : point_told (a ++ (text " " ++ (b ++ (text " " ++ (c ++ (text " " ++ (d ++ text "\n"))))))) ≡ Point (signed_number a) (signed_number b) (signed_number c) (signed_number d)
  unfolding point_told
  point_words = simp (next_words p, next_words q, next_words r, first_word p, first_word q, first_word r, last_word s)

-- the lines, their texts one after another from the right
field_line : (c n : ℕ) (k : ℤ) → line (Field c n k) ≡ text "field " ++ (decimal c ++ (text " corners " ++ (decimal n ++ (text " area2 " ++ (whole k ++ text "\n")))))
unfolding line
field_line c n k = simp append_assoc

inner_line : (i n : ℕ) (k : ℤ)
    → line (answer_case.Inner i n k) ≡ text "inner " ++ (decimal i ++ (text " corners " ++ (decimal n ++ (text " area2 " ++ (whole k ++ text "\n")))))
unfolding line
inner_line i n k = simp append_assoc

nozzle_line : (X Y : ℤ) (p : positions.Position) → line (Nozzle X Y p) ≡ text "nozzle " ++ (whole X ++ (text " " ++ (whole Y ++ (text " " ++ (word p ++ text "\n")))))
unfolding line
nozzle_line X Y p = simp append_assoc

point_line : (X Y k c : ℤ)
    → line (Point X Y k c) ≡ text "point " ++ (whole X ++ (text " " ++ (whole Y ++ (text " " ++ (whole k ++ (text " " ++ (whole c ++ text "\n")))))))
unfolding line
point_line X Y k c = simp append_assoc

refusal_back : (r : Refusal) → told (refusal_paper r) ≡ Refused r
unfolding told numbered
refusal_back refusal_case.CodeUnknown = refl
refusal_back refusal_case.LatitudeOutside = refl
refusal_back refusal_case.LongitudeOutside = refl
refusal_back refusal_case.PlaneOutside = refl
refusal_back refusal_case.EllipsoidsDiffer = refl
refusal_back refusal_case.CornerCount = refl
refusal_back refusal_case.CornerNumber = refl
refusal_back refusal_case.SpanTooLarge = refl
refusal_back (refusal_case.RingCrossed pair) = refl
refusal_back refusal_case.KindUnknown = refl
refusal_back refusal_case.BodyCutOff = refl
refusal_back refusal_case.OutOfPlace = refl
refusal_back refusal_case.OutputTooShort = refl
refusal_back refusal_case.BadlyPlaced = refl
refusal_back refusal_case.TooManyRings = refl

told_back : (a : answers.Answer) (s : State) → told (paper a s) ≡ a
unfolding told line_told line rest
told_back Silent s = refl
told_back (Field c n k) s =
    ap line_told (field_line c n k) ∙ field_words (decimal_word c) (decimal_word n) (whole_word k) none ∙ simp (decimal_stands, whole_back)
told_back (answer_case.Inner i n k) s =
    ap line_told (inner_line i n k) ∙ inner_words (decimal_word i) (decimal_word n) (whole_word k) none ∙ simp (decimal_stands, whole_back)
told_back (Nozzle X Y p) s =
    ap line_told (nozzle_line X Y p) ∙ nozzle_words (whole_word X) (whole_word Y) (position_word p) none ∙ simp (whole_back, position_back)
told_back (Point X Y k c) s =
    ap line_told (point_line X Y k c) ∙ point_words (whole_word X) (whole_word Y) (whole_word k) (whole_word c) ∙ simp whole_back
told_back (Refused r) s = refusal_back r

-- two answers of which the paper has the same are the same
pub told_apart : (a b : answers.Answer) (s t : State) → paper a s ≡ paper b t → a ≡ b
told_apart a b s t e = sym (told_back a s) ∙ ap told e ∙ told_back b t
