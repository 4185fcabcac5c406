-- The calls themselves (`Calls` of Runs): over any calls of `feed`, one after another, each on any chunk and any buffer, and a `finish` at the end, what is written is exactly the
-- rules' job of the bytes that were taken, by a forward that is right. Assumes nothing.
use Rattle.std.specs.Prelude.{◌≡◌, ℕ, ◌+◌, ◌^◌, ◌<◌, ◌≤◌, Bool, List, [], ◌++◌, length, take, drop, refl}
use Rattle.std.proofs.Common.{sym, ap, ◌∙◌, subst, le-ltb}
use Rattle.std.proofs.Math.Seq.{take-append_seam}
use Rattle.rules.specs.JobFile.{job_by, RightJob}
use Rattle.rules.proofs.Laws.Legs.{job_right}
use Rattle.lines.specs.Said.{pasted}
use Rattle.projection_worked.specs.Worked.{worked_forward}
use Rattle.projection_worked.proofs.Laws.Right.{right}
use Rattle.job.specs.declared.run.Run.{Run}
use Rattle.job_state.specs.Gathered.{chosen}
use Rattle.job.specs.Machine.{Progress, start, fed, finished}
use Rattle.job.proofs.Laws.Bytes.{then_next, then_printed}
use Rattle.job.specs.Runs.{progress, new_run, run_fed, last_text, Finishing, Calls, none, then}
use Rattle.job.proofs.Laws.Structs.{run_then}
use Rattle.job.proofs.Laws.Whole.{whole_file}

-- what stands at the front of a buffer after a text was laid over it
front : (t out : List ℕ) {n : ℕ} {out' : List ℕ} → n ≡ length t → out' ≡ pasted 0 t out → take n out' ≡ t
front t out e h = rw (e, h) (take-append_seam t (drop (0 + length t) out))

reached : {r s : Run} {bytes written : List ℕ} → Calls r bytes written s → progress s ≡ (fed worked_forward (progress r) bytes).next
unfolding fed
reached none = refl
reached {r} (then {s = s} {bytes = bytes} {chunk = chunk} d calls f) =
    f.next ∙ ap (λ (p : Progress). (fed worked_forward p (take d.used chunk)).next) (reached calls)
    ∙ sym (then_next worked_forward (progress r) bytes (take d.used chunk))

wrote : {r s : Run} {bytes written : List ℕ} → Calls r bytes written s → written ≡ (fed worked_forward (progress r) bytes).printed
unfolding fed
wrote none = refl
wrote {r} (then {s = s} {bytes = bytes} {written = written} {chunk = chunk} {out = out} d calls f) =
    ap (λ (t : List ℕ). written ++ t) (front (fed worked_forward (progress s) (take d.used chunk)).printed out f.wrote f.holds)
    ∙ ap (λ (t : List ℕ). t ++ (fed worked_forward (progress s) (take d.used chunk)).printed) (wrote calls)
    ∙ ap (λ (p : Progress). (fed worked_forward (progress r) bytes).printed ++ (fed worked_forward p (take d.used chunk)).printed) (reached calls)
    ∙ sym (then_printed worked_forward (progress r) bytes (take d.used chunk))

-- from a new run on to the end of a file of less than 2^64 bytes, with room for the last line
pub all_calls : {r s : Run} {bytes written out out' : List ℕ} {n : ℕ} → progress r ≡ start → Calls r bytes written s → Finishing s out n out'
    → 128 ≤ length out → length bytes < 2 ^ 64 → written ++ take n out' ≡ job_by worked_forward bytes
all_calls {r} {s} {bytes} {written} {out} {out'} {n} new calls f room h =
    let t : last_text (length out) (progress s) ≡ finished (progress s) = ap (λ (b : Bool). chosen b [] (finished (progress s))) (le-ltb (length out) 128 room) in
    ap (λ (l : List ℕ). written ++ l) (front (last_text (length out) (progress s)) out f.wrote_is f.holds ∙ t ∙ ap finished (reached calls))
    ∙ ap (λ (l : List ℕ). l ++ finished (fed worked_forward (progress r) bytes).next) (wrote calls)
    ∙ ap (λ (p : Progress). (fed worked_forward p bytes).printed ++ finished (fed worked_forward p bytes).next) new
    ∙ whole_file worked_forward bytes h

-- so it is the job by a forward whose answers are right: every `point` line lies in the band
pub all_calls_right : {r s : Run} {bytes written out out' : List ℕ} {n : ℕ} → progress r ≡ start → Calls r bytes written s → Finishing s out n out'
    → 128 ≤ length out → length bytes < 2 ^ 64 → RightJob bytes (written ++ take n out')
all_calls_right {bytes = bytes} new calls f room h = subst (RightJob bytes) (sym (all_calls new calls f room h)) (job_right right bytes)

-- what `Run::new` hands back has come nowhere yet
pub new_starts : progress new_run ≡ start
new_starts = refl

-- the run's struct after any calls, every place of it
pub struct_after : {r s : Run} {bytes written : List ℕ} → Calls r bytes written s → s ≡ run_fed r bytes
unfolding run_fed
struct_after none = refl
struct_after {r} (then {bytes = bytes} {chunk = chunk} d calls f) =
    f.run_is ∙ ap (λ (t : Run). run_fed t (take d.used chunk)) (struct_after calls) ∙ sym (run_then r bytes (take d.used chunk))
