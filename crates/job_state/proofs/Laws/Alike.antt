-- 01: "Two results allowed for one input are shown equal." Jobs that stand for one of the rules' states answer a record alike, and come to one state again
-- (`takes_alike`); and of one job and one record the contract of `Job::take` allows one result, every place of the struct (`takes_one`). So a job that stays
-- where it lies, and is answered by in_place, comes to what `Job::take` hands back (`answers-alike`, `stores-alike`). Assumes nothing.
use Rattle.std.specs.Prelude.{◌≡◌, refl, ℤ, ℕ, Ok}
use Rattle.std.proofs.Common.{sym, ap, ◌∙◌}
use Rattle.rules.specs.Refusals as rules
use Rattle.rules.specs.Refusals.{answered, refused, crossed_at}
use Rattle.rules.specs.Points as points
use Rattle.rules.specs.JobFile.{State, Step}
use Rattle.projection_worked.specs.Worked.{worked_forward}
use Rattle.records.specs.declared.Record as records
use Rattle.records.specs.declared.Record.TheVariants as record_case
use Rattle.job_state.specs.declared.state.Phase as phases
use Rattle.job_state.specs.declared.state.Answer as answers
use Rattle.job_state.specs.declared.state.Answer.TheVariants as answer_case
use Rattle.job_state.specs.declared.state.Answer.TheVariants.{Silent, Field, Nozzle, Point, Refused}
use Rattle.job_state.specs.declared.state.Job.{Job}
use Rattle.job_state.specs.declared.state.Taken.{Taken}
use Rattle.job_state.specs.States.{view, paper, stepped, after_record, left, Stepping}
use Rattle.job_state.specs.InPlace.{Counts, Answering, Cornering}
use Rattle.job_state.proofs.Refusals.{by_refusal}
use Rattle.job_state.proofs.Steps.{left_refused}
use Rattle.job_state.proofs.Laws.Lines.{told_apart}

-- the state after a record, by what the paper has of its answer; after a refusal, the state before it
state_of : State → rules.Answer Step → State
state_of before (answered d) = d.state
state_of before (refused n) = before
state_of before (crossed_at pair) = before

-- the state after an answer, where a refusal left the job as it was
state_is : (a : answers.Answer) (i : records.Record) (j k : Job) → k ≡ left (paper a (view k)) i j → view k ≡ state_of (view j) (paper a (view k))
unfolding state_of
state_is Silent i j k e = refl
state_is (Field c n m) i j k e = refl
state_is (answer_case.Inner l n m) i j k e = refl
state_is (Nozzle X Y p) i j k e = refl
state_is (Point X Y m c) i j k e = refl
state_is (Refused r) i j k e =
    ap view (e ∙ left_refused r i j) ∙ by_refusal r (λ a. view j ≡ state_of (view j) a) (λ n. refl) (λ pair. refl)

after_is : {s : rules.Answer Step} {i : records.Record} {j : Job} {t : Taken} → Stepping s i j t → view t.job ≡ state_of (view j) s
after_is {s} {i} {j} {t} h =
    state_is t.answer i j t.job (h.leaves ∙ ap (λ (s : rules.Answer Step). left s i j) (sym h.says)) ∙ ap (state_of (view j)) h.says

pub takes_alike : (f : ℕ → ℤ → ℤ → rules.Answer points.Point) {i : records.Record} {a b : Job} {r t : Taken} → view a ≡ view b
    → Stepping (stepped f (view a) i) i a r → Stepping (stepped f (view b) i) i b t → (r.answer ≡ t.answer) × (view r.job ≡ view t.job)
takes_alike f {i} {a} {b} {r} {t} e h g = (
  told_apart r.answer t.answer (view r.job) (view t.job) (h.says ∙ ap (λ (s : State). stepped f s i) e ∙ sym g.says),
  after_is h ∙ ap (λ (s : State). state_of s (stepped f s i)) e ∙ sym (after_is g),
)

pub takes_one : {s : rules.Answer Step} {i : records.Record} {j : Job} {r t : Taken} → Stepping s i j r → Stepping s i j t → r ≡ t
takes_one {s} {i} {j} {r} {t} h g =
    let a : r.answer ≡ t.answer = told_apart r.answer t.answer (view r.job) (view t.job) (h.says ∙ sym g.says) in
    let b : r.job ≡ t.job = h.leaves ∙ sym g.leaves in
    one b a
  where
    one : {j k : Job} {a b : answers.Answer} → j ≡ k → a ≡ b → ◌≡◌ {A = Taken} (record { job = j; answer = a }) (record { job = k; answer = b })
    one e f = rw (e, f) refl

-- ---- in place
pub answers_alike : {has : Job → Type 0} {i : records.Record} {a : answers.Answer} {j : Job} {t : Taken} → Answering has i a → has j
    → Stepping (stepped worked_forward (view j) i) i j t → t ≡ record { job = j; answer = a }
answers_alike {j = j} h g s = takes_one s (h.steps j g)

pub stores_alike : {p : phases.Phase} {n : ℕ} {X Y : ℤ} {j : Job} {t : Taken} → Cornering p n X Y (Ok tt) → Counts p n j
    → Stepping (stepped worked_forward (view j) (record_case.Corner X Y)) (record_case.Corner X Y) j t
    → t ≡ record { job = after_record (record_case.Corner X Y) j; answer = Silent }
stores_alike {j = j} h g s = takes_one s (h.stores refl j g)
