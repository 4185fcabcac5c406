-- The job over a file's bytes in chunks, as an executable definition: how far a job has come, what a byte makes of it, and what is printed. Each byte goes to the
-- bytes of the record that is begun, until these are a whole record or no kind. Whole shows that this is the rules' job for every file, however it is cut.
-- Offsets and counts are those of 64 bits, so a file of 2^64 bytes or more would be counted modulo 2^64. Assumes nothing.
use Rattle.std.specs.Prelude.{ℕ, suc, ◌+◌, ◌-◌, ◌%◌, ◌^◌, Bool, true, false, List, [], ◌∷◌, ◌++◌, length, take, ℤ, ◌==◌, nat_lt, Some, None, Ok, Err}
use Rattle.rules.specs.Refusals as rules
use Rattle.rules.specs.Refusals.{answered, refused, crossed_at, body_cut_off}
use Rattle.rules.specs.Points as points
use Rattle.rules.specs.JobFile.{State, no_field, Step, ending}
use Rattle.terms.specs.Numbers.{number_of}
use Rattle.records.specs.Reader.{Reading, read_at}
use Rattle.job_state.specs.Gathered.{chosen}
use Rattle.job_state.specs.States.{stepped}
use Rattle.job_lines.specs.Printed.{refusal_text, crossed_text}

-- ---- how far a job has come: the state, the offset of the record that is begun, the records before it, and its bytes so far; or refused
pub data Progress : Type 0 where
  running : State → ℕ → ℕ → List ℕ → Progress
  stopped : Progress

abbrev pub start : Progress
start = running no_field 0 0 []

-- what bytes make of it: how far it is then, and what is printed
pub record Took : Type 0 where
  pub next : Progress
  pub printed : List ℕ

-- the bytes of chunks, in their order
unfoldable pub joined : List (List ℕ) → List ℕ
joined [] = []
joined (c ∷ cs) = c ++ joined cs

-- a whole record of `size` bytes, by what the rules make of it
unfoldable pub advanced : ℕ → ℕ → ℕ → rules.Answer Step → Took
advanced offset count size (answered d) = record { next = running d.state ((offset + size) % 2 ^ 64) ((count + 1) % 2 ^ 64) []; printed = d.printed }
advanced offset count size (refused n) = record { next = stopped; printed = refusal_text n offset }
advanced offset count size (crossed_at pair) = record { next = stopped; printed = crossed_text offset pair.low pair.high }

module _ (forward_at : ℕ → ℤ → ℤ → rules.Answer points.Point) where
  -- the bytes of a record so far: whole, or of no kind; where its body is cut off, more bytes are awaited
  unfoldable pub considered : State → ℕ → ℕ → List ℕ → Reading → Took
  considered s offset count bytes (Ok (Some whole)) = advanced offset count whole.next.at (stepped forward_at s whole.item)
  considered s offset count bytes (Err why) =
      chosen (number_of why.refusal == body_cut_off) (record { next = running s offset count bytes; printed = [] })
      (record { next = stopped; printed = refusal_text (number_of why.refusal) offset })
  considered s offset count bytes (Ok None) = record { next = running s offset count bytes; printed = [] }

  abbrev pub byte_taken : Progress → ℕ → Took
  byte_taken (running s offset count bytes) byte = considered s offset count (bytes ++ (byte ∷ [])) (read_at (bytes ++ (byte ∷ [])) 0)
  byte_taken stopped byte = record { next = stopped; printed = [] }

  -- bytes, one after another
  unfoldable pub fed : Progress → List ℕ → Took
  fed p [] = record { next = p; printed = [] }
  fed p (byte ∷ bytes) = record {
    next = (fed (byte_taken p byte).next bytes).next;
    printed = (byte_taken p byte).printed ++ (fed (byte_taken p byte).next bytes).printed;
  }

  -- how many of a chunk's bytes are taken while a buffer has room for any line: a byte where 128 places are left, and all of them after a refusal
  unfoldable pub used_in : ℕ → Progress → List ℕ → ℕ
  used_in room p [] = 0
  used_in room stopped (byte ∷ bytes) = suc (length bytes)
  used_in room (running s offset count held) (byte ∷ bytes) =
      chosen (nat_lt room 128) 0
      (suc (used_in (room - length (byte_taken (running s offset count held) byte).printed) (byte_taken (running s offset count held) byte).next bytes))

  -- chunks, one after another: the bytes of `joined`
  unfoldable pub over : Progress → List (List ℕ) → Took
  over p [] = record { next = p; printed = [] }
  over p (chunk ∷ chunks) = record { next = (over (fed p chunk).next chunks).next; printed = (fed p chunk).printed ++ (over (fed p chunk).next chunks).printed }

-- the end of the file: a record that is begun is cut off
unfoldable pub finished : Progress → List ℕ
finished (running s offset count []) = ending s offset count
finished (running s offset count (byte ∷ bytes)) = refusal_text body_cut_off offset
finished stopped = []

-- ---- what the run's struct stands for, whatever it holds: a count of held bytes that no record has is none
abbrev pub settled : ℕ → ℕ
settled count = chosen (nat_lt 17 count) 0 count

abbrev pub held_of : ℕ → List ℕ → List ℕ
held_of count bytes = take (settled count) bytes

abbrev pub progress_by : Bool → State → ℕ → ℕ → List ℕ → Progress
progress_by true s offset count bytes = stopped
progress_by false s offset count bytes = running s offset count bytes
