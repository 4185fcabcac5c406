-- What the functions of in_place promise. The job itself is not handed to them, only the few numbers of it that the answer rests on; so each says what a record
-- makes of every job that has those numbers. Alike shows that this is what `Job::take` makes of it. Assumes nothing.
use Rattle.std.specs.Prelude.{◌≡◌, Bool, true, false, List, ℕ, ◌<◌, ℤ, length, take, Result, Ok, Err}
use Rattle.rules.specs.JobFile.{pointed}
use Rattle.projection_worked.specs.Worked.{worked_forward}
use Rattle.terms.specs.declared.refusals.Refusal.{Refusal}
use Rattle.records.specs.declared.Record as records
use Rattle.records.specs.declared.Record.TheVariants as record_case
use Rattle.job_state.specs.declared.state.Phase as phases
use Rattle.job_state.specs.declared.state.Answer as answers
use Rattle.job_state.specs.declared.state.Answer.TheVariants.{Silent, Refused}
use Rattle.job_state.specs.declared.state.Job.{Job}
use Rattle.job_state.specs.declared.in_place.Reply as replies
use Rattle.job_state.specs.declared.in_place.Reply.TheVariants.{Say, Store, LayOut, Take}
use Rattle.job_state.specs.Gathered.{ring_of, flat}
use Rattle.job_state.specs.States.{most, view, stepped, after_record, Stepping}

-- ---- the jobs that have the numbers: of a phase; and of a count of corners; and with the counts of the accepted rings in a list, and their corners laid out in another,
-- X and Y in turn
abbrev pub In : phases.Phase → Job → Type 0
In p j = j.phase ≡ p

pub record Counts (p : phases.Phase) (n : ℕ) (j : Job) : Type 0 where
  pub phase_is : In p j
  pub count_is : j.count ≡ n
  pub long : length j.corners ≡ 3072

pub record Lies (p : phases.Phase) (counts : List ℕ) (numbers : List ℤ) (j : Job) : Type 0 where
  pub phase_is : In p j
  pub counts_are : counts ≡ take j.rings j.counts
  pub numbers_are : numbers ≡ flat (ring_of j.total j.corners)

-- ---- an answer that leaves the job as it was
pub record Answering (has : Job → Type 0) (i : records.Record) (a : answers.Answer) : Type 0 where
  pub steps : (j : Job) → has j → Stepping (stepped worked_forward (view j) i) i j (record { job = j; answer = a })

-- ---- kind 2: the refusal, or that the corner is stored behind the others
pub record Cornering (p : phases.Phase) (n : ℕ) (X Y : ℤ) (checked : Result Unit Refusal) : Type 0 where
  pub room : checked ≡ Ok tt → n < most p
  pub stores : checked ≡ Ok tt → (j : Job) → Counts p n j
      → Stepping (stepped worked_forward (view j) (record_case.Corner X Y)) (record_case.Corner X Y) j (record { job = after_record (record_case.Corner X Y) j; answer = Silent })
  pub refuses : (refusal : Refusal) → checked ≡ Err refusal → Answering (Counts p n) (record_case.Corner X Y) (Refused refusal)

-- ---- kind 5, where no field is gathered
pub record Projecting (c : ℕ) (B L : ℤ) (a : answers.Answer) : Type 0 where
  pub steps : (j : Job) → Stepping (pointed (view j) (worked_forward c B L)) (record_case.Point c B L) j (record { job = j; answer = a })

-- ---- any record, where the corners are laid out or not yet
pub record Stands (p : phases.Phase) (n : ℕ) (laid_out : Bool) (counts : List ℕ) (numbers : List ℤ) (j : Job) : Type 0 where
  pub has : Counts p n j
  pub laid : laid_out ≡ true → Lies p counts numbers j

-- what a reply promises: the answer is the record's, and the job stays as it is; the record is the corner, which is stored in the place behind the others; the
-- corners are not laid out yet; nothing is promised of a record that the job is to take
abbrev pub Promised : records.Record → phases.Phase → ℕ → Bool → List ℕ → List ℤ → replies.Reply → Type 0
Promised i p n laid_out counts numbers (Say a) = Answering (Stands p n laid_out counts numbers) i a
Promised i p n laid_out counts numbers (Store X Y) = (i ≡ record_case.Corner X Y) × Cornering p n X Y (Ok tt)
Promised i p n laid_out counts numbers LayOut = laid_out ≡ false
Promised i p n laid_out counts numbers Take = Unit {0}

pub record Replied (i : records.Record) (p : phases.Phase) (n : ℕ) (laid_out : Bool) (counts : List ℕ) (numbers : List ℤ) (r : replies.Reply) : Type 0 where
  pub promised : Promised i p n laid_out counts numbers r

pub record CornerReplied (p : phases.Phase) (n : ℕ) (X Y : ℤ) (r : replies.Reply) : Type 0 where
  pub replied : (laid_out : Bool) (counts : List ℕ) (numbers : List ℤ) → Replied (record_case.Corner X Y) p n laid_out counts numbers r
