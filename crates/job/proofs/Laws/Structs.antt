-- The run's struct: bytes after bytes, and a run that is stopped stays as it is, job, place and held bytes too. Assumes nothing.
use Rattle.std.specs.Prelude.{◌≡◌, ℕ, Bool, true, false, List, [], ◌∷◌, ◌++◌, length, take, ◌==◌, refl, Some, None, Ok, Err}
use Rattle.std.proofs.Common.{ap, ◌∙◌, arith}
use Rattle.rules.specs.Refusals as rules
use Rattle.rules.specs.Refusals.{answered, refused, crossed_at, body_cut_off}
use Rattle.rules.specs.JobFile.{Step}
use Rattle.lines.specs.Said.{pasted}
use Rattle.projection_worked.specs.Worked.{worked_forward}
use Rattle.records.specs.declared.Record as records
use Rattle.terms.specs.Numbers.{number_of}
use Rattle.records.specs.Reader.{Reading, read_at}
use Rattle.job_state.specs.declared.state.Job.{Job}
use Rattle.job_state.specs.Gathered.{chosen}
use Rattle.job_state.specs.States.{view, stepped, left}
use Rattle.job.specs.declared.run.Held.{Held}
use Rattle.job.specs.declared.run.Run.{Run}
use Rattle.job.specs.declared.run.Fed.{Fed}
use Rattle.job.specs.Machine.{Progress, stopped, fed, used_in, held_of, progress_by}
use Rattle.job.specs.Runs.{progress, held_with, is_refused, waiting, refused_run, run_by, run_with, run_byte, run_fed, Feeding}
use Rattle.job.proofs.Laws.Bytes.{stopped_printed, stopped_used}

pub run_then : (r : Run) (a b : List ℕ) → run_fed r (a ++ b) ≡ run_fed (run_fed r a) b
unfolding run_fed
run_then r [] b = refl
run_then r (x ∷ a) b = run_then (run_byte r x) a b

pub run_one : (r : Run) (b : ℕ) → run_fed r (b ∷ []) ≡ run_byte r b
unfolding run_fed
run_one r b = refl

pub run_none : (r : Run) → run_fed r [] ≡ r
unfolding run_fed
run_none r = refl

-- ---- a run that is stopped
stopped_byte : (r : Run) (b : ℕ) → r.stopped ≡ true → run_byte r b ≡ r
unfolding run_byte
stopped_byte r b e = ap (λ (t : Bool). chosen t r (run_with r (held_with r.held b))) e

pub run_stopped : (r : Run) (l : List ℕ) → r.stopped ≡ true → run_fed r l ≡ r
unfolding run_fed
run_stopped r [] e = refl
run_stopped r (b ∷ l) e = ap (λ (t : Run). run_fed t l) (stopped_byte r b e) ∙ run_stopped r l e

-- it comes back as it was; all of the chunk is used, and nothing is written
pub stopped_stays : {run : Run} {chunk out : List ℕ} {r : Fed} {out' : List ℕ} → run.stopped ≡ true → Feeding run chunk out r out'
    → (r.run ≡ run) × (r.used ≡ length chunk) × (r.wrote ≡ 0) × (out' ≡ out)
stopped_stays {run} {chunk} {out} {r} {out'} e f =
    let p : progress run ≡ stopped =
    ap (λ (b : Bool). progress_by b (view run.job) run.place.offset run.place.records (held_of run.held.count run.held.bytes)) e in
    let n : (fed worked_forward (progress run) (take r.used chunk)).printed ≡ [] =
    ap (λ (q : Progress). (fed worked_forward q (take r.used chunk)).printed) p ∙ stopped_printed worked_forward (take r.used chunk) in (
      f.run_is ∙ run_stopped run (take r.used chunk) e,
      f.used ∙ ap (λ (q : Progress). used_in worked_forward (length out) q chunk) p ∙ stopped_used worked_forward (length out) chunk,
      f.wrote ∙ ap length n,
      f.holds ∙ ap (λ (t : List ℕ). pasted 0 t out) n,
    )

-- ---- a byte that stops a run leaves the job as it was before the refused record
refused_left : (s : rules.Answer Step) (i : records.Record) (j : Job) → is_refused s ≡ true → left s i j ≡ j
refused_left (answered d) i j e = absurd (let z : ◌≡◌ {A = ℕ} 0 1 = cc in omega arith)
refused_left (refused n) i j e = refl
refused_left (crossed_at pair) i j e = refl

stopped_by : (r : Run) (begun : Held) (found : Reading) → (run_by r begun found).stopped ≡ true → (run_by r begun found).job ≡ r.job
stopped_by r begun (Ok (Some whole)) e = refused_left (stepped worked_forward (view r.job) whole.item) whole.item r.job e
stopped_by r begun (Err why) e = go (number_of why.refusal == body_cut_off)
  where
    go : (b : Bool) → (chosen b (waiting r begun) (refused_run r)).job ≡ r.job
    go true = refl
    go false = refl
stopped_by r begun (Ok None) e = refl

pub refused_keeps : (r : Run) (byte : ℕ) → (run_byte r byte).stopped ≡ true → (run_byte r byte).job ≡ r.job
unfolding run_byte
refused_keeps r byte e = go r.stopped e
  where
    go : (b : Bool) → (chosen b r (run_with r (held_with r.held byte))).stopped ≡ true → (chosen b r (run_with r (held_with r.held byte))).job ≡ r.job
    go true e = refl
    go false e =
        stopped_by r (held_with r.held byte) (read_at (take (held_with r.held byte).count (held_with r.held byte).bytes) 0) e
