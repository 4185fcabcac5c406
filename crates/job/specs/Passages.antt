-- A call's passage through a chunk, which is all of a run but its job: what a byte makes of it, and what it asks of the job. The job is not handed in, only the
-- few numbers of it that the answer rests on; so what is promised holds of every job that has those numbers. Assumes nothing.
use Rattle.std.specs.Prelude.{◌≡◌, ℕ, ◌+◌, ◌-◌, ◌<◌, ◌≤◌, Bool, true, false, List, length, ℤ}
use Rattle.lines.specs.Said.{pasted}
use Rattle.projection_worked.specs.Worked.{worked_forward}
use Rattle.records.specs.declared.Record as records
use Rattle.records.specs.declared.Record.TheVariants as record_case
use Rattle.job_state.specs.declared.state.Answer as answers
use Rattle.job_state.specs.declared.state.Phase as phases
use Rattle.job_state.specs.declared.state.Job.{Job}
use Rattle.job_state.specs.declared.in_place.Reply as replies
use Rattle.job_state.specs.Gathered.{chosen}
use Rattle.job_state.specs.States.{most, view, stepped, after_record}
use Rattle.job_state.specs.InPlace.{Counts, Stands, Replied}
use Rattle.job_lines.specs.Printed.{printed_at, refusal_text}
use Rattle.job.specs.declared.run.Held.{Held}
use Rattle.job.specs.declared.run.Run.{Run}
use Rattle.job.specs.declared.passage.Change as changes
use Rattle.job.specs.declared.passage.Change.TheVariants.{Nothing, Store, LayOut, Take}
use Rattle.job.specs.declared.passage.Passage.{Passage}
use Rattle.job.specs.Machine.{Took, advanced, byte_taken}
use Rattle.job.specs.Runs.{refuses, progress, no_held, place_after, run_after, run_byte}

-- the run of a job and a passage
abbrev pub run_of : Job → Passage → Run
run_of j p = record { job = j; held = p.held; place = p.place; stopped = p.stopped }

-- ---- the passages that the calls make: a chunk of so many bytes is begun;
abbrev pub starting : Run → ℕ → Passage
starting run n = record { held = run.held; place = run.place; left = n; wrote = 0; stopped = false; laid = false; change = Nothing }

-- a whole record of `size` bytes is answered (after a refusal nothing is left of the chunk);
abbrev pub answered_at : Passage → answers.Answer → ℕ → Passage
answered_at p a size = record {
  held = no_held;
  place = place_after p.place size;
  left = chosen (refuses a) 0 (p.left - 1);
  wrote = p.wrote + length (printed_at a p.place.offset);
  stopped = refuses a;
  laid = p.laid;
  change = Nothing;
}

-- a corner is taken;
abbrev pub storing : Passage → ℕ → ℤ → ℤ → Passage
storing p size X Y = record { held = no_held; place = place_after p.place size; left = p.left - 1; wrote = p.wrote; stopped = false; laid = false; change = Store X Y }

-- a record's body is cut off still;
abbrev pub awaiting : Passage → Held → Passage
awaiting p begun = record { held = begun; place = p.place; left = p.left - 1; wrote = p.wrote; stopped = p.stopped; laid = p.laid; change = Nothing }

-- a record is of no kind;
abbrev pub refused_at : Passage → ℕ → Passage
refused_at p n = record {
  held = p.held;
  place = p.place;
  left = 0;
  wrote = p.wrote + length (refusal_text n p.place.offset);
  stopped = true;
  laid = p.laid;
  change = Nothing;
}

-- or the job is asked first, and nothing is done but that the rings count as laid out or not
abbrev pub asking : Passage → changes.Change → Bool → Passage
asking p c laid = record { held = p.held; place = p.place; left = p.left; wrote = p.wrote; stopped = p.stopped; laid = laid; change = c }

-- ---- what the calls promise
-- a text behind what was written, and the passage that comes back
pub record Saying (text : List ℕ) (p q : Passage) (out : List ℕ) (p' : Passage) (out' : List ℕ) : Type 0 where
  pub short : length text ≤ 128
  pub holds : out' ≡ pasted p.wrote text out
  pub is : p' ≡ q

-- what a byte makes of a run: how far it is then, what is printed, and the struct
pub record Makes (run : Run) (byte : ℕ) (t : Took) (run' : Run) : Type 0 where
  pub taken : byte_taken worked_forward (progress run) byte ≡ t
  pub made : run_byte run byte ≡ run'

-- a byte, from one job and passage to another: the run is what the byte makes of it, and the line that it prints stands behind what was written
pub record Passing (j : Job) (p : Passage) (byte : ℕ) (out : List ℕ) (j' : Job) (p' : Passage) (out' : List ℕ) : Type 0 where
  pub took : Took
  pub makes : Makes (run_of j p) byte took (run_of j' p')
  pub next : progress (run_of j' p') ≡ took.next
  pub short : length took.printed ≤ 128
  pub end : p'.wrote ≡ p.wrote + length took.printed
  pub holds : out' ≡ pasted p.wrote took.printed out
  pub left_is : p'.left ≡ chosen p'.stopped 0 (p.left - 1)

-- the byte with which a record of `size` bytes is whole: the run takes the record
abbrev pub Completes : Passage → ℕ → records.Record → ℕ → Type 0
Completes p byte i size = (j : Job)
    → Makes (run_of j p) byte (advanced p.place.offset p.place.records size (stepped worked_forward (view j) i)) (run_after (run_of j p) i size)

-- a byte, by what it asks of the job. Where it asks nothing, the byte is taken by the job as it is; a corner is to be stored; a query waits for the corners to be
-- laid out; and a record that the job is to take is whole with this byte
abbrev pub Asked : Passage → ℕ → phases.Phase → ℕ → List ℕ → List ℤ → List ℕ → Passage → List ℕ → changes.Change → Type 0
Asked p byte phase count counts numbers out p' out' Nothing =
    (p'.laid ≡ p.laid) × ((j : Job) → Stands phase count p.laid counts numbers j → Passing j p byte out j p' out')
Asked p byte phase count counts numbers out p' out' (Store X Y) =
    (p'.laid ≡ false) × (count < most phase) × ((j : Job) → Counts phase count j → Passing j p byte out (after_record (record_case.Corner X Y) j) p' out')
Asked p byte phase count counts numbers out p' out' LayOut = (p.laid ≡ false) × (p' ≡ asking p LayOut true) × (out' ≡ out)
Asked p byte phase count counts numbers out p' out' (Take i size) =
    (p' ≡ asking p (Take i size) false) × (out' ≡ out) × Completes p byte i size

pub record Turned (p : Passage) (byte : ℕ) (phase : phases.Phase) (count : ℕ) (counts : List ℕ) (numbers : List ℤ) (out : List ℕ) (p' : Passage) (out' : List ℕ) : Type 0 where
  pub asked : Asked p byte phase count counts numbers out p' out' p'.change

-- a whole record, by the reply to it: of every byte with which it is whole
pub record Followed (p : Passage) (i : records.Record) (size : ℕ) (reply : replies.Reply) (out : List ℕ) (p' : Passage) (out' : List ℕ) : Type 0 where
  pub turned : (byte : ℕ) (phase : phases.Phase) (count : ℕ) (counts : List ℕ) (numbers : List ℤ) → Completes p byte i size → Replied i phase count p.laid counts numbers reply
      → Turned p byte phase count counts numbers out p' out'
