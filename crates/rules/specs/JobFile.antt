-- 01, The job file, with the inner rings of 02 (i): from the bytes of a file to the bytes that the field program prints. Assumes nothing.
use Rattle.std.specs.Prelude.{true, false, ◌≡◌, List, [], ◌∷◌, ◌++◌, ℕ, zero, suc, ◌+◌, ◌*◌, ◌-◌, ◌/◌, ◌%◌, ◌^◌, eqb, ltb, leb, ℤ, pos, negsuc, length, take, drop}
use Prim.Native.Char.{code}
use Prim.Native.String as Text
use Prim.Native.String.{String}
use Rattle.rules.specs.Refusals.{Answer, answered, refused, crossed_at, Passed, ◌>>=◌, ◌>>◌, ◌if◌, corner_count, corner_number, span_too_large, ring_crossed, kind_unknown, body_cut_off, out_of_place, too_many_rings}
use Rattle.rules.specs.Systems.{system}
use Rattle.rules.specs.Rings.{Corner, area2}
use Rattle.rules.specs.Points.{Point, forward, ForwardRight}
use Rattle.rules.specs.RingAnswers.{number_bad, count_bad, span_bad, not_crossed, Nozzle, open_nozzle, border_nozzle, shut_nozzle}
use Rattle.rules.specs.Fields.{Field, field_nozzle}
use Rattle.rules.specs.FieldAnswers.{alone, inner_count_bad, placed}

-- ---- the text that is printed: a text's bytes, and a whole number in decimal
abbrev pub text : String → List ℕ
text Text.[] = []
text (Text.◌∷◌ c s) = code c ∷ text s

-- the first argument only bounds how deep the recursion goes
unfoldable pub digits_by : ℕ → ℕ → List ℕ
digits_by zero n = (48 + n) ∷ []
digits_by (suc k) n = elim (ltb n 10) [ true ↦ (48 + n) ∷ [] | false ↦ digits_by k (n / 10) ++ ((48 + n % 10) ∷ []) ]

unfoldable pub decimal : ℕ → List ℕ
decimal n = digits_by n n

unfoldable pub whole : ℤ → List ℕ
whole (pos n) = decimal n
whole (negsuc n) = text "-" ++ decimal (suc n)

-- ---- "other numbers 8 bytes, signed, little-endian"
unfoldable pub little_endian : List ℕ → ℕ
little_endian [] = 0
little_endian (b ∷ bs) = b + 256 * little_endian bs

unfoldable pub signed : ℕ → ℤ
signed n = elim (ltb n (2 ^ 63)) [ true ↦ pos n | false ↦ negsuc (2 ^ 64 - 1 - n) ]

unfoldable pub number_at : ℕ → List ℕ → ℤ
number_at i body = signed (little_endian (take 8 (drop i body)))

unfoldable pub code_of : List ℕ → ℕ
code_of body = little_endian (take 1 body)

-- ---- the records: "One byte of kind, then a body whose length the kind fixes"
pub data Kind : Type 0 where
  begin_field corner close_ring nozzle_query point_to_plane begin_inner : Kind

-- the table's rows (02 (i)'s "kind 6, begin an inner ring, without a body" is none of them yet, so that no file comes to an inner ring): the kind byte, what it means, and the body's length
pub record Row : Type 0 where
  pub byte : ℕ
  pub kind : Kind
  pub body_length : ℕ

abbrev pub kind_row : ℕ → Kind → ℕ → Row
kind_row byte kind body_length = record { byte = byte; kind = kind; body_length = body_length }

unfoldable pub kinds : List Row
kinds =
    kind_row 1 begin_field 1
    ∷ kind_row 2 corner (8 + 8)
    ∷ kind_row 3 close_ring 0
    ∷ kind_row 4 nozzle_query (8 + 8)
    ∷ kind_row 5 point_to_plane (1 + 8 + 8)
    ∷ []

-- 11: "unknown kind"
unfoldable pub find_kind : ℕ → List Row → Answer Row
find_kind byte [] = refused kind_unknown
find_kind byte (k ∷ ks) = elim (eqb byte k.byte) [ true ↦ answered k | false ↦ find_kind byte ks ]

-- ---- the job's state: no field, a field being gathered with its code and corners, or an accepted field; 02 (i): or one with the corners of an inner ring being gathered
pub data State : Type 0 where
  no_field : State
  gathering : ℕ → List Corner → State
  accepted : Field → State
  gathering_inner : Field → List Corner → State

pub record Step : Type 0 where
  pub state : State
  pub printed : List ℕ

abbrev pub silent : State → Answer Step
silent s = answered (record { state = s; printed = [] })

abbrev pub print : State → List ℕ → Answer Step
print s l = answered (record { state = s; printed = l })

-- kind 1, "begin a field"; "A later kind 1 drops the old field."
unfoldable pub begun : ℕ → Answer Step
begun c = system c >>= λ s. silent (gathering c [])

-- kind 2, "corner"; "the 1,025th corner is 6 at once, before 7"; 02 (i): "in a job at the 129th"
unfoldable pub gathered : ℕ → List Corner → ℤ → ℤ → Answer (List Corner)
gathered most r X Y = do
  corner_count if leb most (length r)
  corner_number if number_bad X
  corner_number if number_bad Y
  answered (r ++ (record { x = X; y = Y } ∷ []))

unfoldable pub cornered : ℕ → List Corner → ℤ → ℤ → Answer Step
cornered c r X Y = gathered 1024 r X Y >>= λ s. silent (gathering c s)

unfoldable pub inner_cornered : Field → List Corner → ℤ → ℤ → Answer Step
inner_cornered f r X Y = gathered 128 r X Y >>= λ s. silent (gathering_inner f s)

-- kind 3, "close the ring"; "too few corners, 8 and 9 come at kind 3": `field CODE corners N area2 A`
unfoldable pub closed : ℕ → List Corner → Answer Step
closed c r = do
  corner_count if count_bad r
  span_too_large if span_bad r
  not_crossed r
  print (accepted (alone r)) (text "field " ++ decimal c ++ text " corners " ++ decimal (length r) ++ text " area2 " ++ whole (area2 r) ++ text "\n")

-- 02 (i): "its kind 3 prints `inner K corners N area2 A`, K from 1"; its 6, 8, 9 and 15
unfoldable pub inner_closed : Field → List Corner → Answer Step
inner_closed f r = do
  corner_count if inner_count_bad r
  span_too_large if span_bad r
  g ← placed f r
  print (accepted g) (text "inner " ++ decimal (length g.inner_rings) ++ text " corners " ++ decimal (length r) ++ text " area2 " ++ whole (area2 r) ++ text "\n")

-- 02 (i), kind 6, "begin an inner ring"; "16, a seventeenth inner ring, at its kind 6"
unfoldable pub inner_begun : Field → Answer Step
inner_begun f = do
  too_many_rings if leb 16 (length f.inner_rings)
  silent (gathering_inner f [])

-- kind 4, "nozzle query": `nozzle X Y open|border|shut`
abbrev pub nozzle_word : Nozzle → List ℕ
nozzle_word open_nozzle = text "open"
nozzle_word border_nozzle = text "border"
nozzle_word shut_nozzle = text "shut"

unfoldable pub queried : Field → ℤ → ℤ → Answer Step
queried f X Y =
    print (accepted f) (text "nozzle " ++ whole X ++ text " " ++ whole Y ++ text " " ++ nozzle_word (field_nozzle f (record { x = X; y = Y })) ++ text "\n")

-- kind 5, "point to plane": `point X Y SCALE CONVERGENCE`
unfoldable pub pointed : State → Answer Point → Answer Step
pointed s a = a >>= λ p.
    print s (text "point " ++ whole p.X ++ text " " ++ whole p.Y ++ text " " ++ whole p.scale ++ text " " ++ whole p.convergence ++ text "\n")

-- "Kinds 2 and 3 need a field being gathered; 1, 4 and 5 need none; 4 needs an accepted field." 02 (i): kind 6 is "allowed when a field is accepted and none is gathered,
-- else 13; that ring is then being gathered". The forward is the one that is given (the code's own, or the definition's).
unfoldable pub step : (ℕ → ℤ → ℤ → Answer Point) → State → Kind → List ℕ → Answer Step
step forward_at no_field begin_field b = begun (code_of b)
step forward_at no_field corner b = refused out_of_place
step forward_at no_field close_ring b = refused out_of_place
step forward_at no_field nozzle_query b = refused out_of_place
step forward_at no_field point_to_plane b = pointed no_field (forward_at (code_of b) (number_at 1 b) (number_at 9 b))
step forward_at no_field begin_inner b = refused out_of_place
step forward_at (gathering c r) begin_field b = refused out_of_place
step forward_at (gathering c r) corner b = cornered c r (number_at 0 b) (number_at 8 b)
step forward_at (gathering c r) close_ring b = closed c r
step forward_at (gathering c r) nozzle_query b = refused out_of_place
step forward_at (gathering c r) point_to_plane b = refused out_of_place
step forward_at (gathering c r) begin_inner b = refused out_of_place
step forward_at (accepted f) begin_field b = begun (code_of b)
step forward_at (accepted f) corner b = refused out_of_place
step forward_at (accepted f) close_ring b = refused out_of_place
step forward_at (accepted f) nozzle_query b = queried f (number_at 0 b) (number_at 8 b)
step forward_at (accepted f) point_to_plane b = pointed (accepted f) (forward_at (code_of b) (number_at 1 b) (number_at 9 b))
step forward_at (accepted f) begin_inner b = inner_begun f
step forward_at (gathering_inner f r) begin_field b = refused out_of_place
step forward_at (gathering_inner f r) corner b = inner_cornered f r (number_at 0 b) (number_at 8 b)
step forward_at (gathering_inner f r) close_ring b = inner_closed f r
step forward_at (gathering_inner f r) nozzle_query b = refused out_of_place
step forward_at (gathering_inner f r) point_to_plane b = refused out_of_place
step forward_at (gathering_inner f r) begin_inner b = refused out_of_place

-- one record, "In a job: 11, 12, 13, then the content's own"; what is left of the file goes with it
pub record Read : Type 0 where
  pub taken : ℕ
  pub done : Step

unfoldable pub read : (ℕ → ℤ → ℤ → Answer Point) → State → ℕ → List ℕ → Answer Read
read forward_at s byte rest = do
  k ← find_kind byte kinds
  body_cut_off if ltb (length rest) k.body_length
  d ← step forward_at s k.kind (take k.body_length rest)
  answered (record { taken = k.body_length; done = d })

-- ---- the whole file, from a record's kind byte at `offset` on, after `count` records
abbrev pub refusal_line : ℕ → ℕ → List ℕ
refusal_line n offset = text "refused " ++ decimal n ++ text " at " ++ decimal offset

-- "It ends with `end N`, the count of records"; "A file that ends while a field is gathered is refused 13 at its length."
unfoldable pub ending : State → ℕ → ℕ → List ℕ
ending no_field offset count = text "end " ++ decimal count ++ text "\n"
ending (gathering c r) offset count = refusal_line out_of_place offset ++ text "\n"
ending (accepted f) offset count = text "end " ++ decimal count ++ text "\n"
ending (gathering_inner f r) offset count = refusal_line out_of_place offset ++ text "\n"

-- "or stops at `refused R at OFFSET`, the offset of the record's kind byte; R = 9 is followed by ` edges I J`"; "Lines printed before a refusal stay."
-- The first number only bounds how many records there can be: each takes a byte at least, so one more than the length never comes down to 0.
unfoldable pub run : (ℕ → ℤ → ℤ → Answer Point) → ℕ → State → ℕ → ℕ → List ℕ → List ℕ
run forward_at zero s offset count file = []
run forward_at (suc k) s offset count [] = ending s offset count
run forward_at (suc k) s offset count (byte ∷ rest) =
    elim (read forward_at s byte rest) [
      | answered d ↦ d.done.printed ++ run forward_at k d.done.state (offset + 1 + d.taken) (count + 1) (drop d.taken rest)
      | refused n ↦ refusal_line n offset ++ text "\n"
      | crossed_at pair ↦ refusal_line ring_crossed offset ++ text " edges " ++ decimal pair.low ++ text " " ++ decimal pair.high ++ text "\n"
    ]

unfoldable pub job_by : (ℕ → ℤ → ℤ → Answer Point) → List ℕ → List ℕ
job_by forward_at file = run forward_at (suc (length file)) no_field 0 0 file

unfoldable pub job : List ℕ → List ℕ
job = job_by forward

-- what is printed is right: it is the job by a forward whose answers are, so the numbers of each `point` line lie in the band
abbrev pub RightJob : List ℕ → List ℕ → Type 0
RightJob file printed = (forward_at : ℕ → ℤ → ℤ → Answer Point) × ForwardRight forward_at × (printed ≡ job_by forward_at file)
