-- What the run's struct stands for in the terms of Machine; what bytes make of the struct itself, every place of it; and what the run's calls promise. Assumes
-- nothing.
use Rattle.std.specs.Prelude.{◌≡◌, ℕ, ◌+◌, ◌%◌, ◌^◌, ◌≤◌, Bool, true, false, List, [], ◌∷◌, ◌++◌, length, take, replicate, ◌==◌, nat_lt, slice_set, Some, None, Ok, Err}
use Rattle.rules.specs.Refusals as rules
use Rattle.rules.specs.Refusals.{answered, refused, crossed_at, body_cut_off, out_of_place}
use Rattle.rules.specs.JobFile.{Step, text, decimal}
use Rattle.lines.specs.Said.{pasted}
use Rattle.records.specs.declared.Record as records
use Rattle.terms.specs.Numbers.{number_of}
use Rattle.records.specs.Reader.{Reading, read_at}
use Rattle.projection_worked.specs.Worked.{worked_forward}
use Rattle.job_state.specs.declared.state.Answer as answers
use Rattle.job_state.specs.declared.state.Answer.TheVariants as case
use Rattle.job_state.specs.declared.state.Phase as phases
use Rattle.job_state.specs.declared.state.Phase.TheVariants.{Idle, Gathering, Accepted, Inner}
use Rattle.job.specs.declared.run.Held.{Held}
use Rattle.job.specs.declared.run.Place.{Place}
use Rattle.job.specs.declared.run.Run.{Run}
use Rattle.job.specs.declared.run.Fed.{Fed}
use Rattle.job_state.specs.Gathered.{chosen}
use Rattle.job_state.specs.States.{view, stepped, new_job, left}
use Rattle.job.specs.Machine.{Progress, fed, used_in, finished, settled, held_of, progress_by}
use Rattle.job_lines.specs.Printed.{refusal_text}

abbrev pub refuses : answers.Answer → Bool
refuses case.Silent = false
refuses (case.Field c n a) = false
refuses (case.Inner k n a) = false
refuses (case.Nozzle X Y p) = false
refuses (case.Point X Y s c) = false
refuses (case.Refused r) = true

-- how far a run has come
abbrev pub progress : Run → Progress
progress r = progress_by r.stopped (view r.job) r.place.offset r.place.records (held_of r.held.count r.held.bytes)

-- ---- the struct itself: a new run, and what bytes make of a run, the places too that no record has reached
abbrev pub no_held : Held
no_held = record { bytes = replicate 18 0; count = 0 }

abbrev pub new_run : Run
new_run = record { job = new_job; held = no_held; place = record { offset = 0; records = 0 }; stopped = false }

-- one byte more of the record that is begun
abbrev pub held_with : Held → ℕ → Held
held_with h byte = record { bytes = slice_set h.bytes (settled h.count) byte; count = settled h.count + 1 }

abbrev pub place_after : Place → ℕ → Place
place_after p size = record { offset = (p.offset + size) % 2 ^ 64; records = (p.records + 1) % 2 ^ 64 }

abbrev pub is_refused : rules.Answer Step → Bool
is_refused (answered d) = false
is_refused (refused n) = true
is_refused (crossed_at pair) = true

-- a whole record of `size` bytes: the job that it leaves (the one before it, where it is refused), and no bytes held
abbrev pub run_after : Run → records.Record → ℕ → Run
run_after run item size = record {
  job = left (stepped worked_forward (view run.job) item) item run.job;
  held = no_held;
  place = place_after run.place size;
  stopped = is_refused (stepped worked_forward (view run.job) item);
}

-- a record whose body is cut off still: more bytes are awaited
abbrev pub waiting : Run → Held → Run
waiting run begun = record { job = run.job; held = begun; place = run.place; stopped = run.stopped }

-- a record of no kind: the run is stopped, and is else as it was before the record's byte
abbrev pub refused_run : Run → Run
refused_run run = record { job = run.job; held = run.held; place = run.place; stopped = true }

-- by what stands in the bytes that are then held
abbrev pub run_by : Run → Held → Reading → Run
run_by run begun (Ok (Some whole)) = run_after run whole.item whole.next.at
run_by run begun (Err why) = chosen (number_of why.refusal == body_cut_off) (waiting run begun) (refused_run run)
run_by run begun (Ok None) = run

abbrev pub run_with : Run → Held → Run
run_with run begun = run_by run begun (read_at (take begun.count begun.bytes) 0)

-- a byte: a run that is stopped stays as it is
unfoldable pub run_byte : Run → ℕ → Run
run_byte run byte = chosen run.stopped run (run_with run (held_with run.held byte))

-- bytes, one after another
unfoldable pub run_fed : Run → List ℕ → Run
run_fed run [] = run
run_fed run (byte ∷ bytes) = run_fed (run_byte run byte) bytes

-- ---- the calls
-- a chunk: which of its bytes are taken, how far the run is then, how many bytes are written, what the buffer holds, and the run that comes back
pub record Feeding (run : Run) (chunk out : List ℕ) (r : Fed) (out' : List ℕ) : Type 0 where
  pub used : r.used ≡ used_in worked_forward (length out) (progress run) chunk
  pub next : progress r.run ≡ (fed worked_forward (progress run) (take r.used chunk)).next
  pub wrote : r.wrote ≡ length (fed worked_forward (progress run) (take r.used chunk)).printed
  pub holds : out' ≡ pasted 0 (fed worked_forward (progress run) (take r.used chunk)).printed out
  pub inside : r.used ≤ length chunk
  pub room : r.wrote ≤ length out
  pub run_is : r.run ≡ run_fed run (take r.used chunk)

-- calls of `feed`, one after another, each on any chunk and any buffer: from one run to another, the bytes that were taken, and the bytes that were written
pub data Calls : Run → List ℕ → List ℕ → Run → Type 0 where
  none : {r : Run} → Calls r [] [] r
  then : {r s : Run} {bytes written chunk out out' : List ℕ} (fed : Fed) → Calls r bytes written s → Feeding s chunk out fed out'
      → Calls r (bytes ++ take fed.used chunk) (written ++ take fed.wrote out') fed.run

-- ---- the end of the file, by the phase and the count of held bytes
abbrev pub ending_by : phases.Phase → ℕ → ℕ → List ℕ
ending_by Idle offset count = text "end " ++ decimal count ++ text "\n"
ending_by Gathering offset count = refusal_text out_of_place offset
ending_by Accepted offset count = text "end " ++ decimal count ++ text "\n"
ending_by Inner offset count = refusal_text out_of_place offset

abbrev pub last : ℕ → phases.Phase → ℕ → ℕ → List ℕ
last held p offset count = chosen (nat_lt 17 held) (ending_by p offset count) (chosen (nat_lt 0 held) (refusal_text body_cut_off offset) (ending_by p offset count))

-- the last line, none where the buffer has no room for any line
abbrev pub last_text : ℕ → Progress → List ℕ
last_text room p = chosen (nat_lt room 128) [] (finished p)

pub record Finishing (run : Run) (out : List ℕ) (wrote : ℕ) (out' : List ℕ) : Type 0 where
  pub wrote_is : wrote ≡ length (last_text (length out) (progress run))
  pub holds : out' ≡ pasted 0 (last_text (length out) (progress run)) out
  pub room : wrote ≤ length out
