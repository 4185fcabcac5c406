-- The answers to a job that stays where it lies, each of every job that has the numbers handed in. Assumes nothing.
use mathlib.Core.Path.{◌≡◌, refl, ap, ◌∙◌, subst}
use mathlib.Core.Bool.{Bool, true, false}
use mathlib.Core.List.{List}
use Prim.Native.Nat.{ℕ, ◌<◌}
use native.Mathlib.Omega.{arith}
use borrow.Author.Tests.{leb-false}
use lib.Dec.{leb}
use lib.IntN.{ℤ}
use lib.ListN.{take}
use Rattle.rules.specs.Refusals.{refused, out_of_place}
use Rattle.rules.specs.RingAnswers.{number_bad}
use Rattle.rules.specs.FieldAnswers.{field_position_answer}
use Rattle.rules.specs.JobFile.{pointed}
use Rattle.projection_worked.specs.Worked.{worked_forward}
use Rattle.std.specs.Prelude.{Result, Ok, Err}
use Rattle.terms.specs.declared.positions.Position.{Position}
use Rattle.terms.specs.declared.refusals.Refusal.{Refusal}
use Rattle.terms.specs.declared.refusals.Refusal.TheVariants.{CornerCount, CornerNumber, OutOfPlace}
use Rattle.projection.specs.declared.Point as projected
use Rattle.projection.specs.Answers.{forward_paper}
use Rattle.records.specs.declared.Record as records
use Rattle.records.specs.declared.Record.TheVariants as record_case
use Rattle.rings.specs.Answers.{nozzle_paper}
use Rattle.job_state.specs.declared.state.Phase as phases
use Rattle.job_state.specs.declared.state.Phase.TheVariants.{Accepted}
use Rattle.job_state.specs.declared.state.Answer as answers
use Rattle.job_state.specs.declared.state.Answer.TheVariants.{Refused}
use Rattle.job_state.specs.declared.state.Job.{Job}
use Rattle.job_state.specs.declared.in_place.Reply as replies
use Rattle.job_state.specs.declared.in_place.Reply.TheVariants.{Say, Store}
use Rattle.job_state.specs.Gathered.{chosen, at, corner_checked}
use Rattle.job_state.specs.States.{gathers, most, view, stepped, query_said, point_said}
use Rattle.job_state.specs.InPlace.{In, Counts, Lies, Answering, Cornering, Projecting, Replied, CornerReplied}
use Rattle.job_state.proofs.Steps.{stepping_at, refusing, no_corner, corner_stores, corner_refuses, no_query, accepted_query, points_by, point_by}

-- ---- kind 2
never : {A : Type 0} {r : Refusal} → ◌≡◌ {A = Result Unit Refusal} (Err r) (Ok tt) → A
never e = absurd (let z : ◌≡◌ {A = ℕ} 0 1 = cc e in omega arith)

same_refusal : {q r : Refusal} → ◌≡◌ {A = Result Unit Refusal} (Err q) (Err r) → q ≡ r
same_refusal e = cc e

module _ (n : ℕ) (X Y : ℤ) where
  pub corner_out : (p : phases.Phase) → gathers p ≡ false → Cornering p n X Y (Err OutOfPlace)
  corner_out p e = record {
    room = λ h. never h;
    stores = λ h j g. never h;
    refuses = λ r h. subst (λ (r : Refusal). Answering (Counts p n) (record_case.Corner X Y) (Refused r)) (same_refusal h)
        (record { steps = λ j g. stepping_at (no_corner worked_forward j X Y p g.phase_is e) (refusing OutOfPlace j refl refl) });
  }

  pub corner_by : (p : phases.Phase) → gathers p ≡ true → (checked : Result Unit Refusal) → checked ≡ corner_checked (most p) n X Y → Cornering p n X Y checked
  corner_by p e checked same = rw same (record {
    room = λ h. room h;
    stores = λ h j g. (corner_stores worked_forward p e j g.phase_is g.long X Y (at_count j g ∙ h)).1;
    refuses = λ r h. record { steps = λ j g. corner_refuses worked_forward p e j g.phase_is g.long X Y r (at_count j g ∙ h) };
  })
    where
      at_count : (j : Job) → Counts p n j → corner_checked (most p) j.count X Y ≡ corner_checked (most p) n X Y
      at_count j g = ap (λ (m : ℕ). corner_checked (most p) m X Y) g.count_is

      room : corner_checked (most p) n X Y ≡ Ok tt → n < most p
      room h = go (leb (most p) n) refl h
        where
          go : (a : Bool) → leb (most p) n ≡ a
              → chosen {A = Result Unit Refusal} a (Err CornerCount) (chosen (number_bad X) (Err CornerNumber) (chosen (number_bad Y) (Err CornerNumber) (Ok tt))) ≡ Ok tt → n < most p
          go true e h = never h
          go false e h = leb-false (most p) n e

-- ---- kind 4
module _ (counts : List ℕ) (numbers : List ℤ) (X Y : ℤ) where
  pub query_out : (p : phases.Phase) → (p ≡ Accepted → ⊥) → Answering (Lies p counts numbers) (record_case.Query X Y) (Refused OutOfPlace)
  query_out p e = record { steps = λ j g. stepping_at (no_query worked_forward j X Y p g.phase_is e) (refusing OutOfPlace j refl refl) }

  pub located : (l : Result Position Refusal) (a : answers.Answer) → nozzle_paper l ≡ field_position_answer counts numbers (at X Y)
      → a ≡ query_said l X Y → Answering (Lies Accepted counts numbers) (record_case.Query X Y) a
  located l a h e = record {
    steps = λ j g.
        accepted_query worked_forward j X Y l a g.phase_is
        (h ∙ ap (λ (cs : List ℕ). field_position_answer cs numbers (at X Y)) g.counts_are ∙ ap (λ (ns : List ℤ). field_position_answer (take j.rings j.counts) ns (at X Y)) g.numbers_are)
        e;
  }

-- ---- kind 5
module _ (c : ℕ) (B L : ℤ) where
  pub projecting : (a : answers.Answer) (p : Result projected.Point Refusal) → a ≡ point_said p → forward_paper p ≡ worked_forward c B L → Projecting c B L a
  projecting a p e h = record { steps = λ j. point_by c B L j a p (worked_forward c B L) e h }

  at_phase : (p : phases.Phase) (b : Bool) (j : Job) → j.phase ≡ p → gathers p ≡ b
      → stepped worked_forward (view j) (record_case.Point c B L) ≡ chosen b (refused out_of_place) (pointed (view j) (worked_forward c B L))
  at_phase p b j e h = points_by worked_forward j c B L ∙ ap (λ (t : Bool). chosen t (refused out_of_place) (pointed (view j) (worked_forward c B L))) (ap gathers e ∙ h)

  pub point_out : (p : phases.Phase) → gathers p ≡ true → Answering (In p) (record_case.Point c B L) (Refused OutOfPlace)
  point_out p h = record { steps = λ j g. stepping_at (at_phase p true j g h) (refusing OutOfPlace j refl refl) }

  pub point_taken : (p : phases.Phase) → gathers p ≡ false → (a : answers.Answer) → Projecting c B L a → Answering (In p) (record_case.Point c B L) a
  point_taken p h a k = record { steps = λ j g. stepping_at (at_phase p false j g h) (k.steps j) }

-- ---- replies
module _ {p : phases.Phase} {n : ℕ} {X Y : ℤ} {checked : Result Unit Refusal} (h : Cornering p n X Y checked) where
  pub refuses_corner : {r : Refusal} → checked ≡ Err r → CornerReplied p n X Y (Say (Refused r))
  refuses_corner {r} e = record { replied = λ laid_out counts numbers. record { promised = record { steps = λ j g. (h.refuses r e).steps j g.has } } }

  pub takes_corner : checked ≡ Ok tt → CornerReplied p n X Y (Store X Y)
  takes_corner e = record { replied = λ laid_out counts numbers. record { promised = (refl, subst (Cornering p n X Y) e h) } }

module _ {i k : records.Record} {p : phases.Phase} {n : ℕ} {laid_out : Bool} {counts : List ℕ} {numbers : List ℤ} (e : i ≡ k) where
  pub replied_as : {r : replies.Reply} → Replied k p n laid_out counts numbers r → Replied i p n laid_out counts numbers r
  replied_as h = rw e h

  pub says_query : {a : answers.Answer} → laid_out ≡ true → Answering (Lies p counts numbers) k a → Replied i p n laid_out counts numbers (Say a)
  says_query l h = rw e (record { promised = record { steps = λ j g. h.steps j (g.laid l) } })

  pub says_point : {a : answers.Answer} → Answering (In p) k a → Replied i p n laid_out counts numbers (Say a)
  says_point h = rw e (record { promised = record { steps = λ j g. h.steps j g.has.phase_is } })
