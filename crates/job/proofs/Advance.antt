-- One whole record: its line, how far the run is after it, and the run; and the end of the file. Assumes nothing.
use Rattle.std.proofs.Common.{◌≡◌, ℕ, zero, suc, ◌+◌, ◌%◌, ◌^◌, ◌<◌, ◌≤◌, Bool, true, false, ltb, List, [], ◌∷◌, length, take, sym, refl, ap, ◌∙◌, arith, length-take, le-ltb, lt-ltb}
use Rattle.rules.specs.Refusals as rules
use Rattle.rules.specs.Refusals.{refused, crossed_at, body_cut_off}
use Rattle.rules.specs.Fields as fields
use Rattle.rules.specs.JobFile.{State, Step, ending}
use Rattle.projection_worked.specs.Worked.{worked_forward}
use Rattle.records.specs.declared.Record as records
use Rattle.lines.specs.declared.Line.{Line}
use Rattle.lines.specs.Said.{said, pasted}
use Rattle.terms.specs.declared.refusals.Refusal.{Refusal}
use Rattle.terms.specs.declared.refusals.Refusal.TheVariants as refusal_case
use Rattle.terms.specs.Papers.{refusal_paper}
use Rattle.job_state.proofs.Refusals.{by_refusal}
use Rattle.job_state.specs.declared.state.Answer as answers
use Rattle.job_state.specs.declared.state.Answer.TheVariants as case
use Rattle.job_state.specs.declared.state.Phase as phases
use Rattle.job_state.specs.declared.state.Phase.TheVariants.{Idle, Gathering, Accepted, Inner}
use Rattle.job.specs.declared.run.Run.{Run}
use Rattle.job.specs.declared.passage.Passage.{Passage}
use Rattle.job_state.specs.declared.state.Job.{Job}
use Rattle.job_state.specs.Gathered.{chosen}
use Rattle.job_state.specs.States.{field_of, accepted_by, view_by, view, paper, stepped, Stepping}
use Rattle.job.specs.Machine.{running, stopped, advanced, finished, held_of, progress_by}
use Rattle.job_lines.specs.Printed.{Says, printed_at, refusal_text}
use Rattle.job.specs.Runs.{refuses, progress, no_held, place_after, is_refused, run_after, ending_by, last, last_text, Finishing}
use Rattle.job.specs.Passages.{run_of, answered_at}

pub said_short : (l : Line) → l.count ≤ 128 → length (said l) ≤ 128
said_short l h = simp length-take (omega arith)

refused_line : (r : Refusal) (offset count size : ℕ) → (advanced offset count size (refusal_paper r)).printed ≡ printed_at (case.Refused r) offset
unfolding advanced
refused_line refusal_case.CodeUnknown offset count size = refl
refused_line refusal_case.LatitudeOutside offset count size = refl
refused_line refusal_case.LongitudeOutside offset count size = refl
refused_line refusal_case.PlaneOutside offset count size = refl
refused_line refusal_case.EllipsoidsDiffer offset count size = refl
refused_line refusal_case.CornerCount offset count size = refl
refused_line refusal_case.CornerNumber offset count size = refl
refused_line refusal_case.SpanTooLarge offset count size = refl
refused_line (refusal_case.RingCrossed pair) offset count size = refl
refused_line refusal_case.KindUnknown offset count size = refl
refused_line refusal_case.BodyCutOff offset count size = refl
refused_line refusal_case.OutOfPlace offset count size = refl
refused_line refusal_case.OutputTooShort offset count size = refl
refused_line refusal_case.BadlyPlaced offset count size = refl
refused_line refusal_case.TooManyRings offset count size = refl

module _ (offset count size : ℕ) where
  line_is : (a : answers.Answer) (s : State) → (advanced offset count size (paper a s)).printed ≡ printed_at a offset
  unfolding advanced
  line_is case.Silent s = refl
  line_is (case.Field c n k) s = refl
  line_is (case.Inner l n k) s = refl
  line_is (case.Nozzle X Y p) s = refl
  line_is (case.Point X Y k c) s = refl
  line_is (case.Refused r) s = refused_line r offset count size

  next_is : (a : answers.Answer) (s : State)
      → progress_by (refuses a) s ((offset + size) % 2 ^ 64) ((count + 1) % 2 ^ 64) [] ≡ (advanced offset count size (paper a s)).next
  unfolding advanced
  next_is case.Silent s = refl
  next_is (case.Field c n k) s = refl
  next_is (case.Inner l n k) s = refl
  next_is (case.Nozzle X Y p) s = refl
  next_is (case.Point X Y k c) s = refl
  next_is (case.Refused r) s = by_refusal r (λ a. stopped ≡ (advanced offset count size a).next) (λ n. refl) (λ pair. refl)

-- the answer tells whether the record is refused
refuses_is : (a : answers.Answer) (s : State) → refuses a ≡ is_refused (paper a s)
refuses_is case.Silent s = refl
refuses_is (case.Field c n k) s = refl
refuses_is (case.Inner l n k) s = refl
refuses_is (case.Nozzle X Y p) s = refl
refuses_is (case.Point X Y k c) s = refl
refuses_is (case.Refused r) s = by_refusal r (λ a. true ≡ is_refused a) (λ n. refl) (λ pair. refl)

-- a record of `size` bytes that was answered `a`, from one job to another: what is printed, how far the run is then, and the run
module _ (p : Passage) (size : ℕ) (i : records.Record) (j : Job) {j' : Job} {a : answers.Answer}
    (s : Stepping (stepped worked_forward (view j) i) i j (record { job = j'; answer = a })) where
  pub answered_printed : (advanced p.place.offset p.place.records size (stepped worked_forward (view j) i)).printed ≡ printed_at a p.place.offset
  answered_printed =
      ap (λ (t : rules.Answer Step). (advanced p.place.offset p.place.records size t).printed) (sym s.says)
      ∙ line_is p.place.offset p.place.records size a (view j')

  pub answered_next : progress (run_of j' (answered_at p a size)) ≡ (advanced p.place.offset p.place.records size (stepped worked_forward (view j) i)).next
  answered_next =
      next_is p.place.offset p.place.records size a (view j')
      ∙ ap (λ (t : rules.Answer Step). (advanced p.place.offset p.place.records size t).next) s.says

  pub answered_run : run_of j' (answered_at p a size) ≡ run_after (run_of j p) i size
  answered_run = made s.leaves (refuses_is a (view j') ∙ ap is_refused s.says)
    where
      made : {k l : Job} {b c : Bool} → k ≡ l → b ≡ c
          → ◌≡◌ {A = Run} (record { job = k; held = no_held; place = place_after p.place size; stopped = b })
          (record { job = l; held = no_held; place = place_after p.place size; stopped = c })
      made e f = rw (e, f) refl

-- ---- the end of the file
pub ending_is : (p : phases.Phase) (j : Job) (offset count : ℕ) → ending (view_by p j) offset count ≡ ending_by p offset count
unfolding ending
ending_is Idle j offset count = refl
ending_is Gathering j offset count = refl
ending_is Accepted j offset count = go (field_of j.rings j.total j)
  where
    go : (a : rules.Answer fields.Field) → ending (accepted_by a) offset count ≡ ending_by Accepted offset count
    go (rules.answered f) = refl
    go (refused n) = refl
    go (crossed_at pair) = refl
ending_is Inner j offset count = refl

last_is : (c : ℕ) (bytes : List ℕ) (s : State) (offset count : ℕ) → length bytes ≡ 18
    → finished (running s offset count (held_of c bytes))
    ≡ chosen (ltb 17 c) (ending s offset count) (chosen (ltb 0 c) (refusal_text body_cut_off offset) (ending s offset count))
unfolding finished
last_is zero bytes s offset count e = refl
last_is (suc c) [] s offset count e = absurd (omega arith)
last_is (suc c) (b ∷ bytes) s offset count e = go (ltb 17 (suc c)) refl
  where
    go : (t : Bool) → ltb 17 (suc c) ≡ t
        → finished (running s offset count (take (chosen t 0 (suc c)) (b ∷ bytes))) ≡ chosen t (ending s offset count) (chosen (ltb 0 (suc c)) (refusal_text body_cut_off offset) (ending s offset count))
    go true f = refl
    go false f = rw (lt-ltb 0 (suc c) (omega arith)) refl

pub finished_is : (r : Run) → length r.held.bytes ≡ 18 → r.stopped ≡ false
    → finished (progress r) ≡ last r.held.count r.job.phase r.place.offset r.place.records
finished_is r e f =
    rw f
    (last_is r.held.count r.held.bytes (view r.job) r.place.offset r.place.records e
    ∙ ap (λ (t : List ℕ). chosen (ltb 17 r.held.count) t (chosen (ltb 0 r.held.count) (refusal_text body_cut_off r.place.offset) t))
    (ending_is r.job.phase r.job r.place.offset r.place.records))

pub finishing : (r : Run) (out : List ℕ) {l : Line} {wrote : ℕ} {out' : List ℕ} → length r.held.bytes ≡ 18 → r.stopped ≡ false → 128 ≤ length out
    → Says (last r.held.count r.job.phase r.place.offset r.place.records) l → wrote ≡ 0 + length (said l) → out' ≡ pasted 0 (said l) out
    → Finishing r out wrote out'
finishing r out {l} {wrote} {out'} e f room says w h =
    let t : last_text (length out) (progress r) ≡ said l =
    ap (λ (b : Bool). chosen b [] (finished (progress r))) (le-ltb (length out) 128 room) ∙ finished_is r e f ∙ sym says.says in
    record { wrote_is = rw t (w ∙ none (length (said l))); holds = rw t h; room = let k = said_short l says.short in omega arith }
  where
    none : (n : ℕ) → 0 + n ≡ n
    none n = omega arith

pub finishing_short : (r : Run) (out : List ℕ) → length out < 128 → Finishing r out 0 out
finishing_short r out h = record { wrote_is = rw (lt-ltb (length out) 128 h) refl; holds = rw (lt-ltb (length out) 128 h) refl; room = omega arith }

pub finishing_stopped : (r : Run) (out : List ℕ) → 128 ≤ length out → r.stopped ≡ true → Finishing r out 0 out
unfolding finished
finishing_stopped r out h f =
    let t : last_text (length out) (progress r) ≡ [] =
    ap (λ (b : Bool). chosen b [] (finished (progress r))) (le-ltb (length out) 128 h)
    ∙ ap (λ (b : Bool). finished (progress_by b (view r.job) r.place.offset r.place.records (held_of r.held.count r.held.bytes))) f in
    record { wrote_is = rw t refl; holds = rw t refl; room = omega arith }
