-- What each record makes of each state, by the rules: the laws that the methods of the job's state cite. The rules' tests stand as variables, so that each law
-- goes by their cases. Assumes nothing.
use mathlib.Core.Path.{◌≡◌, refl, sym, ap, ◌∙◌, subst}
use mathlib.Core.Bool.{Bool, true, false}
use mathlib.Core.List.{List, [], ◌∷◌, ◌++◌}
use Prim.Native.Nat.{ℕ, suc, ◌+◌, ◌*◌, ◌^◌, ◌≤◌, ◌<◌}
use native.Mathlib.Numerals.{add-one}
use native.Mathlib.Omega.{arith}
use borrow.Author.Tests.{le-leb, lt-leb}
use lib.Dec.{leb}
use lib.IntN.{ℤ}
use lib.Signed.{mag}
use mir.Syntax.{w64}
use mir.Val.{to_z, of_z, SFits}
use mir.Facts.{to_z-of_z}
use lib.ListN.{length, take, set, length-append}
use lib.Seq.{take-suc-set, length-take-le}
use Rattle.rules.specs.Refusals as rules
use Rattle.rules.specs.Refusals.{answered, refused, crossed_at, ◌>>=◌, ◌>>◌, ◌if◌, corner_count, corner_number, span_too_large, out_of_place, too_many_rings}
use Rattle.rules.specs.Points as points
use Rattle.rules.specs.Rings as ring
use Rattle.rules.specs.Fields as fields
use Rattle.rules.specs.Fields.{field_nozzle}
use Rattle.rules.specs.FieldAnswers.{alone, with_ring, inner_count_bad, placed, field_read, field_position_answer}
use Rattle.rules.proofs.Laws.AcceptedFields.{placed_is}
use Rattle.rules.specs.RingAnswers as nozzles
use Rattle.rules.specs.RingAnswers.{number_bad, count_bad, span_bad, not_crossed}
use Rattle.rules.specs.JobFile.{State, no_field, gathering, accepted, gathering_inner, Step, silent, print, begun, gathered, cornered, inner_cornered, closed, inner_closed, inner_begun, queried, pointed}
use Rattle.rules.proofs.Laws.Codes.{known, unknown}
use Rattle.std.specs.Prelude.{Result, Ok, Err}
use Rattle.rules.specs.Refusals.{Passed, passed}
use Rattle.terms.specs.declared.refusals.Refusal.{Refusal}
use Rattle.terms.specs.declared.refusals.Refusal.TheVariants.{CodeUnknown, CornerCount, CornerNumber, OutOfPlace}
use Rattle.terms.specs.declared.positions.Position.TheVariants.{Open, Border, Shut}
use Rattle.terms.specs.Papers.{refusal_paper}
use Rattle.terms.proofs.Refused.{refused_first}
use Rattle.ring_checks.proofs.Laws.Steps.{not_answered}
use Rattle.projection.specs.declared.Point as projected
use Rattle.projection.specs.Answers.{forward_paper}
use Rattle.records.specs.declared.Record as records
use Rattle.records.specs.declared.Record.TheVariants as record_case
use Rattle.rings.specs.Answers.{nozzle_paper}
use Rattle.fields.specs.Checks.{field_checked}
use Rattle.job_state.specs.declared.state.Phase as phases
use Rattle.job_state.specs.declared.state.Phase.TheVariants.{Idle, Gathering, Accepted, Inner}
use Rattle.terms.specs.declared.positions.Position as positions
use Rattle.job_state.specs.declared.state.Answer as answers
use Rattle.job_state.specs.declared.state.Answer.TheVariants as answer_case
use Rattle.job_state.specs.declared.state.Answer.TheVariants.{Silent, Field, Nozzle, Point, Refused}
use Rattle.job_state.specs.declared.state.Job.{Job}
use Rattle.job_state.specs.declared.state.Taken.{Taken}
use Rattle.job_state.proofs.Limits.{few, count_kept, no_room, below, take_length, counts_part, numbers_part, ring_length, same_ring, ring_more, rings_stay}
use Rattle.job_state.proofs.Flat.{flat_append, flat_length, ring_split, ring_within, judged_passes}
use Rattle.job_state.proofs.Fields.{read_size, read_more, read_one}
use Rattle.job_state.proofs.Inner.{judged_joins}
use Rattle.job_state.proofs.Refusals.{by_refusal}
use Rattle.job_state.specs.Gathered.{chosen, at, at_most, ring_of, ring_from, flat, corner_checked, judged, inner_judged, field_or_none, judged_paper}
use Rattle.job_state.specs.States.{gathers, most, rings_before, starting, gathered_count, gathered_ring, field_of, field_before, accepted_by, view_by, view, line, paper, query_said, point_said, stepped, joined_job, after_record, left, Stepping}

pub view_at : (j : Job) {p : phases.Phase} → j.phase ≡ p → view j ≡ view_by p j
view_at j e = ap (λ (p : phases.Phase). view_by p j) e

pub stepping_at : {s t : rules.Answer Step} {i : records.Record} {j : Job} {r : Taken} → s ≡ t → Stepping t i j r → Stepping s i j r
stepping_at e h = rw e h

-- a refusal leaves the job as it was
pub left_refused : (r : Refusal) (i : records.Record) (j : Job) → left (refusal_paper r) i j ≡ j
left_refused r i j = by_refusal r (λ a. left a i j ≡ j) (λ n. refl) (λ pair. refl)

pub refusing : (r : Refusal) {i : records.Record} (j : Job) {t : Taken} → t.job ≡ j → t.answer ≡ Refused r → Stepping (refusal_paper r) i j t
refusing r {i} j e f = rw (e, f) (record { says = refl; leaves = sym (left_refused r i j) })

-- signed arguments, read back from their bits
pub read_back : (P : ℤ → ℤ → Type 0) (x y : ℤ) → SFits w64 x → SFits w64 y → P (to_z w64 (of_z w64 x)) (to_z w64 (of_z w64 y)) → P x y
read_back P x y f g h = subst (λ (X : ℤ). P X y) (to_z-of_z f) (subst (λ (Y : ℤ). P (to_z w64 (of_z w64 x)) Y) (to_z-of_z g) h)

pub read_two : {j : Job} {r : Taken} (F : ℤ → ℤ → rules.Answer Step) (I : ℤ → ℤ → records.Record) (x y : ℤ) → SFits w64 x → SFits w64 y
    → Stepping (F (to_z w64 (of_z w64 x)) (to_z w64 (of_z w64 y))) (I (to_z w64 (of_z w64 x)) (to_z w64 (of_z w64 y))) j r → Stepping (F x y) (I x y) j r
read_two {j} {r} F I x y f g h = read_back (λ X Y. Stepping (F X Y) (I X Y) j r) x y f g h

-- a query and a point leave the job as it was, answered or refused
query_leaves : (s : rules.Answer Step) (X Y : ℤ) (j : Job) → left s (record_case.Query X Y) j ≡ j
query_leaves (answered d) X Y j = refl
query_leaves (refused n) X Y j = refl
query_leaves (crossed_at pair) X Y j = refl

point_leaves : (s : rules.Answer Step) (c : ℕ) (B L : ℤ) (j : Job) → left s (record_case.Point c B L) j ≡ j
point_leaves (answered d) c B L j = refl
point_leaves (refused n) c B L j = refl
point_leaves (crossed_at pair) c B L j = refl

-- ---- a record out of its place, and those that any state without a gathered ring takes alike: by whether a ring is gathered
module _ (f : ℕ → ℤ → ℤ → rules.Answer points.Point) (j : Job) where
  pub begins : (c : ℕ) → stepped f (view j) (record_case.Begin c) ≡ chosen (gathers j.phase) (refused out_of_place) (begun c)
  begins c = go j.phase
    where
      any : (a : rules.Answer fields.Field) → stepped f (accepted_by a) (record_case.Begin c) ≡ begun c
      any (answered g) = refl
      any (refused n) = refl
      any (crossed_at pair) = refl

      go : (p : phases.Phase) → stepped f (view_by p j) (record_case.Begin c) ≡ chosen (gathers p) (refused out_of_place) (begun c)
      go Idle = refl
      go Gathering = refl
      go Accepted = any (field_of j.rings j.total j)
      go Inner = refl

  pub points_by : (c : ℕ) (B L : ℤ) → stepped f (view j) (record_case.Point c B L) ≡ chosen (gathers j.phase) (refused out_of_place) (pointed (view j) (f c B L))
  points_by c B L = go j.phase
    where
      any : (a : rules.Answer fields.Field) → stepped f (accepted_by a) (record_case.Point c B L) ≡ pointed (accepted_by a) (f c B L)
      any (answered g) = refl
      any (refused n) = refl
      any (crossed_at pair) = refl

      go : (p : phases.Phase) → stepped f (view_by p j) (record_case.Point c B L) ≡ chosen (gathers p) (refused out_of_place) (pointed (view_by p j) (f c B L))
      go Idle = refl
      go Gathering = refl
      go Accepted = any (field_of j.rings j.total j)
      go Inner = refl

  pub no_corner : (X Y : ℤ) (p : phases.Phase) → j.phase ≡ p → gathers p ≡ false → stepped f (view j) (record_case.Corner X Y) ≡ refused out_of_place
  no_corner X Y p e g = ap (λ (s : State). stepped f s (record_case.Corner X Y)) (view_at j e) ∙ go p g
    where
      any : (a : rules.Answer fields.Field) → stepped f (accepted_by a) (record_case.Corner X Y) ≡ refused out_of_place
      any (answered g) = refl
      any (refused n) = refl
      any (crossed_at pair) = refl

      go : (p : phases.Phase) → gathers p ≡ false → stepped f (view_by p j) (record_case.Corner X Y) ≡ refused out_of_place
      go Idle g = refl
      go Gathering g = absurd (let z : ◌≡◌ {A = ℕ} 0 1 = cc g in omega arith)
      go Accepted g = any (field_of j.rings j.total j)
      go Inner g = absurd (let z : ◌≡◌ {A = ℕ} 0 1 = cc g in omega arith)

  pub no_close : (p : phases.Phase) → j.phase ≡ p → gathers p ≡ false → stepped f (view j) record_case.Close ≡ refused out_of_place
  no_close p e g = ap (λ (s : State). stepped f s record_case.Close) (view_at j e) ∙ go p g
    where
      any : (a : rules.Answer fields.Field) → stepped f (accepted_by a) record_case.Close ≡ refused out_of_place
      any (answered g) = refl
      any (refused n) = refl
      any (crossed_at pair) = refl

      go : (p : phases.Phase) → gathers p ≡ false → stepped f (view_by p j) record_case.Close ≡ refused out_of_place
      go Idle g = refl
      go Gathering g = absurd (let z : ◌≡◌ {A = ℕ} 0 1 = cc g in omega arith)
      go Accepted g = any (field_of j.rings j.total j)
      go Inner g = absurd (let z : ◌≡◌ {A = ℕ} 0 1 = cc g in omega arith)

  -- a query and the beginning of an inner ring need an accepted field
  pub no_query : (X Y : ℤ) (p : phases.Phase) → j.phase ≡ p → (p ≡ Accepted → ⊥) → stepped f (view j) (record_case.Query X Y) ≡ refused out_of_place
  no_query X Y p e g = ap (λ (s : State). stepped f s (record_case.Query X Y)) (view_at j e) ∙ go p g
    where
      go : (p : phases.Phase) → (p ≡ Accepted → ⊥) → stepped f (view_by p j) (record_case.Query X Y) ≡ refused out_of_place
      go Idle g = refl
      go Gathering g = refl
      go Accepted g = absurd (g refl)
      go Inner g = refl

  pub no_inner : (p : phases.Phase) → j.phase ≡ p → (p ≡ Accepted → ⊥) → stepped f (view j) record_case.Inner ≡ refused out_of_place
  no_inner p e g = ap (λ (s : State). stepped f s record_case.Inner) (view_at j e) ∙ go p g
    where
      go : (p : phases.Phase) → (p ≡ Accepted → ⊥) → stepped f (view_by p j) record_case.Inner ≡ refused out_of_place
      go Idle g = refl
      go Gathering g = refl
      go Accepted g = absurd (g refl)
      go Inner g = refl

  -- ---- kind 4, of an accepted field
  open_query : (X Y : ℤ) (l : Result positions.Position Refusal) (a : rules.Answer fields.Field) → nozzle_paper l ≡ (a >>= λ g. answered (field_nozzle g (at X Y)))
      → paper (query_said l X Y) (accepted_by a) ≡ stepped f (accepted_by a) (record_case.Query X Y)
  unfolding queried line
  open_query X Y (Ok Open) (answered g) e = let n : field_nozzle g (at X Y) ≡ nozzles.open_nozzle = cc in rw n refl
  open_query X Y (Ok Border) (answered g) e = let n : field_nozzle g (at X Y) ≡ nozzles.border_nozzle = cc in rw n refl
  open_query X Y (Ok Shut) (answered g) e = let n : field_nozzle g (at X Y) ≡ nozzles.shut_nozzle = cc in rw n refl
  open_query X Y (Err r) (answered g) e = absurd (not_answered r (field_nozzle g (at X Y)) e)
  open_query X Y (Ok p) (refused m) e = absurd (let z : ◌≡◌ {A = ℕ} 0 1 = cc in omega arith)
  open_query X Y (Err r) (refused m) e = refl
  open_query X Y (Ok p) (crossed_at pair) e = absurd (let z : ◌≡◌ {A = ℕ} 0 1 = cc in omega arith)
  open_query X Y (Err r) (crossed_at pair) e = refl

  pub accepted_query : (X Y : ℤ) (l : Result positions.Position Refusal) (a : answers.Answer) → j.phase ≡ Accepted
      → nozzle_paper l ≡ field_position_answer (take j.rings j.counts) (flat (ring_of j.total j.corners)) (at X Y) → a ≡ query_said l X Y
      → Stepping (stepped f (view j) (record_case.Query X Y)) (record_case.Query X Y) j (record { job = j; answer = a })
  unfolding field_position_answer
  accepted_query X Y l a e h g =
      rw g
      (record {
        says =
            subst (λ (s : State). paper (query_said l X Y) s ≡ stepped f s (record_case.Query X Y)) (sym (view_at j e))
            (open_query X Y l (field_of j.rings j.total j) h);
        leaves = sym (query_leaves (stepped f (view j) (record_case.Query X Y)) X Y j);
      })

-- ---- kind 1
module _ (j : Job) (c : ℕ) where
  pub no_system : ¬ ((1 ≤ c) × (c ≤ 14)) → {r : Taken} → r.job ≡ j → r.answer ≡ Refused CodeUnknown → Stepping (begun c) (record_case.Begin c) j r
  unfolding begun
  no_system h e g = rw (unknown c h) (refusing CodeUnknown j e g)

  pub field_begun : 1 ≤ c → c ≤ 14 → Stepping (begun c) (record_case.Begin c) j (record { job = after_record (record_case.Begin c) j; answer = Silent })
  unfolding begun line ring_of
  field_begun h g = rw (known c h g).1 (record { says = refl; leaves = refl })

-- ---- kind 2, of a ring that is gathered
-- the state with another ring gathered
state_with : phases.Phase → Job → List ring.Corner → State
state_with Idle j r = no_field
state_with Gathering j r = gathering j.code r
state_with Accepted j r = no_field
state_with Inner j r = gathering_inner (field_before j) r

pub room_for : (p : phases.Phase) (total : ℕ) → starting p total + most p ≤ 3072
room_for Idle total = omega arith
room_for Gathering total = omega arith
room_for Accepted total = omega arith
room_for Inner total = let h = few 2944 total in omega arith

module _ (f : ℕ → ℤ → ℤ → rules.Answer points.Point) (p : phases.Phase) (g : gathers p ≡ true) (j : Job) (is : j.phase ≡ p) (long : length j.corners ≡ 3072) (X Y : ℤ) where
  tested : Bool → Bool → Bool → rules.Answer Step
  tested a b c = do
    corner_count if a
    corner_number if b
    corner_number if c
    silent (state_with p j (gathered_ring p j ++ (at X Y ∷ [])))

  ring_count : length (gathered_ring p j) ≡ gathered_count p j
  ring_count =
      let h = few (most p) j.count in
      let r = room_for p j.total in
      let d = lib.ListN.length-drop (starting p j.total) j.corners in
      ring_length (lib.ListN.drop (starting p j.total) j.corners) (gathered_count p j) (omega arith)

  is_tested : stepped f (view j) (record_case.Corner X Y) ≡ tested (leb (most p) j.count) (number_bad X) (number_bad Y)
  unfolding tested cornered inner_cornered gathered state_with
  is_tested =
      ap (λ (s : State). stepped f s (record_case.Corner X Y)) (view_at j is) ∙ by_phase p g
      ∙ ap (λ (n : ℕ). tested (leb (most p) n) (number_bad X) (number_bad Y)) ring_count
      ∙ ap (λ (a : Bool). tested a (number_bad X) (number_bad Y)) (no_room (most p) j.count)
    where
      adds : (p : phases.Phase) (a b c : Bool) (r : List ring.Corner)
          → ((do corner_count if a; corner_number if b; corner_number if c; answered r) >>= λ s. silent (state_with p j s))
          ≡ ((corner_count if a) >> ((corner_number if b) >> ((corner_number if c) >> silent (state_with p j r))))
      adds p true b c r = refl
      adds p false true c r = refl
      adds p false false true r = refl
      adds p false false false r = refl

      by_phase : (p : phases.Phase) → gathers p ≡ true → stepped f (view_by p j) (record_case.Corner X Y)
          ≡ ((corner_count if leb (most p) (length (gathered_ring p j))) >> ((corner_number if number_bad X) >> ((corner_number if number_bad Y) >> silent (state_with p j (gathered_ring p j ++ (at X Y ∷ []))))))
      by_phase Idle e = absurd (let z : ◌≡◌ {A = ℕ} 0 1 = cc e in omega arith)
      by_phase Gathering e = adds Gathering (leb 1024 (length (gathered_ring Gathering j))) (number_bad X) (number_bad Y) (gathered_ring Gathering j ++ (at X Y ∷ []))
      by_phase Accepted e = absurd (let z : ◌≡◌ {A = ℕ} 0 1 = cc e in omega arith)
      by_phase Inner e = adds Inner (leb 128 (length (gathered_ring Inner j))) (number_bad X) (number_bad Y) (gathered_ring Inner j ++ (at X Y ∷ []))

  pub corner_refuses : (r : Refusal) → corner_checked (most p) j.count X Y ≡ Err r
      → Stepping (stepped f (view j) (record_case.Corner X Y)) (record_case.Corner X Y) j (record { job = j; answer = Refused r })
  unfolding tested
  corner_refuses r h = stepping_at is_tested (go (leb (most p) j.count) (number_bad X) (number_bad Y) h)
    where
      because : {s : rules.Answer Step} {q : Refusal} → ◌≡◌ {A = Result Unit Refusal} (Err q) (Err r)
          → Stepping s (record_case.Corner X Y) j (record { job = j; answer = Refused q }) → Stepping s (record_case.Corner X Y) j (record { job = j; answer = Refused r })
      because {s} {q} e h =
          let d : q ≡ r = cc e in
          subst (λ (r : Refusal). Stepping s (record_case.Corner X Y) j (record { job = j; answer = Refused r })) d h

      go : (a b c : Bool) → chosen {A = Result Unit Refusal} a (Err CornerCount) (chosen b (Err CornerNumber) (chosen c (Err CornerNumber) (Ok tt))) ≡ Err r
          → Stepping (tested a b c) (record_case.Corner X Y) j (record { job = j; answer = Refused r })
      go true b c h = because h (record { says = refl; leaves = refl })
      go false true c h = because h (record { says = refl; leaves = refl })
      go false false true h = because h (record { says = refl; leaves = refl })
      go false false false h = absurd (let z : ◌≡◌ {A = ℕ} 0 1 = cc h in omega arith)

  pub corner_stores : corner_checked (most p) j.count X Y ≡ Ok tt
      → (j.count < most p) × Stepping (stepped f (view j) (record_case.Corner X Y)) (record_case.Corner X Y) j (record { job = after_record (record_case.Corner X Y) j; answer = Silent })
  unfolding tested line state_with
  corner_stores h = go (leb (most p) j.count) refl (number_bad X) refl (number_bad Y) refl h
    where
      -- the state after it
      viewed : j.count < most p → number_bad X ≡ false → number_bad Y ≡ false → view (after_record (record_case.Corner X Y) j) ≡ state_with p j (gathered_ring p j ++ (at X Y ∷ []))
      viewed h hx hy = view_at (after_record (record_case.Corner X Y) j) is ∙ by_phase p is g h
        where
          grown : (p : phases.Phase) → j.phase ≡ p → j.count < most p → gathered_ring p (after_record (record_case.Corner X Y) j) ≡ gathered_ring p j ++ (at X Y ∷ [])
          grown p e h =
              let r = room_for p j.total in
              ap (λ (q : phases.Phase). ring_from (starting p j.total) (at_most (most p) (j.count + 1)) (set j.corners (starting q j.total + j.count) (record { x = X; y = Y }))) e
              ∙ ap (λ (n : ℕ). ring_from (starting p j.total) n (set j.corners (starting p j.total + j.count) (record { x = X; y = Y }))) (count_kept (most p) (j.count + 1) (omega arith))
              ∙ ring_more j.corners (starting p j.total) j.count (record { x = X; y = Y }) (omega arith) hx hy
              ∙ ap (λ (n : ℕ). ring_from (starting p j.total) n j.corners ++ (at X Y ∷ [])) (sym (count_kept (most p) j.count (omega arith)))

          by_phase : (p : phases.Phase) → j.phase ≡ p → gathers p ≡ true → j.count < most p → view_by p (after_record (record_case.Corner X Y) j) ≡ state_with p j (gathered_ring p j ++ (at X Y ∷ []))
          by_phase Idle e t h = absurd (let z : ◌≡◌ {A = ℕ} 0 1 = cc t in omega arith)
          by_phase Gathering e t h = ap (gathering j.code) (grown Gathering e h)
          by_phase Accepted e t h = absurd (let z : ◌≡◌ {A = ℕ} 0 1 = cc t in omega arith)
          by_phase Inner e t h =
              ap (gathering_inner (field_before (after_record (record_case.Corner X Y) j))) (grown Inner e h)
              ∙ ap (λ (r : List ring.Corner). gathering_inner (field_or_none (field_read (take (at_most 16 j.rings) j.counts) (flat r))) (gathered_ring Inner j ++ (at X Y ∷ [])))
              (ap (λ (q : phases.Phase). ring_of (at_most 2944 j.total) (set j.corners (starting q j.total + j.count) (record { x = X; y = Y }))) e
              ∙ rings_stay j.corners (at_most 2944 j.total) j.count (record { x = X; y = Y }))

      go : (a : Bool) → leb (most p) j.count ≡ a → (b : Bool) → number_bad X ≡ b → (c : Bool) → number_bad Y ≡ c → chosen {A = Result Unit Refusal} a (Err CornerCount) (chosen b (Err CornerNumber) (chosen c (Err CornerNumber) (Ok tt))) ≡ Ok tt
          → (j.count < most p) × Stepping (stepped f (view j) (record_case.Corner X Y)) (record_case.Corner X Y) j (record { job = after_record (record_case.Corner X Y) j; answer = Silent })
      go true ea b eb c ec h = absurd (let z : ◌≡◌ {A = ℕ} 0 1 = cc h in omega arith)
      go false ea true eb c ec h = absurd (let z : ◌≡◌ {A = ℕ} 0 1 = cc h in omega arith)
      go false ea false eb true ec h = absurd (let z : ◌≡◌ {A = ℕ} 0 1 = cc h in omega arith)
      go false ea false eb false ec h =
          let room = borrow.Author.Tests.leb-false (most p) j.count ea in (
            room,
            stepping_at (is_tested ∙ ap (λ (a : Bool). tested a (number_bad X) (number_bad Y)) ea ∙ ap (λ (b : Bool). tested false b (number_bad Y)) eb ∙ ap (tested false false) ec)
                (record { says = ap (λ (s : State). print s []) (viewed room eb ec); leaves = refl }),
          )

-- ---- kind 3, by what is said of the ring that is closed
module _ (j : Job) {s : rules.Answer Step} {a : rules.Answer ℤ} (prints : ℤ → rules.Answer Step) (is : s ≡ (a >>= prints)) {q : Result ℤ Refusal} (told : judged_paper q ≡ a) where
  by_judged : (k : Result ℤ Refusal) → q ≡ k → s ≡ (judged_paper k >>= prints)
  by_judged k e = is ∙ ap (λ (x : rules.Answer ℤ). x >>= prints) (sym told ∙ ap judged_paper e)

  pub refuses : {r : Refusal} → q ≡ Err r → {t : Taken} → t.job ≡ j → t.answer ≡ Refused r → Stepping s record_case.Close j t
  refuses {r} e h g = stepping_at (by_judged (Err r) e ∙ refused_first r prints) (refusing r j h g)

  accepts : (k : ℤ) → q ≡ Ok k → (l : answers.Answer) {next : Job} → next ≡ after_record record_case.Close j → paper l (view next) ≡ prints k → (b : State) (t : List ℕ) → prints k ≡ print b t
      → Stepping s record_case.Close j (record { job = next; answer = l })
  accepts k e l h g b t x =
      stepping_at (by_judged (Ok k) e ∙ x) (record { says = g ∙ x; leaves = h })

-- the rules' closing is what the judging says, and then a line
module _ (c : ℕ) (r : List ring.Corner) where
  pub field_printed : ℤ → rules.Answer Step
  field_printed k = print (accepted (alone r)) (line (Field c (length r) k))

  closed_is : closed c r ≡ (judged r >>= field_printed)
  unfolding closed judged line field_printed
  closed_is = go (count_bad r) (span_bad r) (not_crossed r)
    where
      go : (a b : Bool) (x : rules.Answer ℕ) → ((corner_count if a) >> ((span_too_large if b) >> (x >> field_printed (ring.area2 r))))
          ≡ (((corner_count if a) >> ((span_too_large if b) >> (x >> answered (ring.area2 r)))) >>= field_printed)
      go true b x = refl
      go false true x = refl
      go false false (answered n) = refl
      go false false (refused n) = refl
      go false false (crossed_at pair) = refl

module _ (g : fields.Field) (r : List ring.Corner) where
  pub inner_printed : ℤ → rules.Answer Step
  inner_printed k = print (accepted (with_ring g r)) (line (answer_case.Inner (suc (length g.inner_rings)) (length r) k))

  inner_closed_is : inner_closed g r ≡ (inner_judged g r >>= inner_printed)
  unfolding inner_closed inner_judged line inner_printed
  inner_closed_is = go (inner_count_bad r) (span_bad r) (placed g r) (placed_is g r)
    where
      printed : fields.Field → rules.Answer Step
      printed h = print (accepted h) (line (answer_case.Inner (length h.inner_rings) (length r) (ring.area2 r)))

      one_more : printed (with_ring g r) ≡ inner_printed (ring.area2 r)
      one_more =
          ap (λ (n : ℕ). print (accepted (with_ring g r)) (line (answer_case.Inner n (length r) (ring.area2 r))))
          (length-append g.inner_rings (r ∷ []) ∙ add-one (length g.inner_rings))

      go : (a b : Bool) (x : rules.Answer fields.Field) → ((h : fields.Field) → x ≡ answered h → h ≡ with_ring g r)
          → ((corner_count if a) >> ((span_too_large if b) >> (x >>= printed)))
          ≡ (((corner_count if a) >> ((span_too_large if b) >> (x >> answered (ring.area2 r)))) >>= inner_printed)
      go true b x y = refl
      go false true x y = refl
      go false false (answered h) y = ap printed (y h refl) ∙ one_more
      go false false (refused n) y = refl
      go false false (crossed_at pair) y = refl

-- the state after it: the field is read with the ring behind the others
module _ (j : Job) (k start n : ℕ) (place_for : k < length j.counts) where
  joined_view : view (joined_job j k start n) ≡ accepted_by (field_read (take k j.counts ++ (n ∷ [])) (flat (ring_of start j.corners) ++ flat (ring_from start n j.corners)))
  joined_view =
      ap (λ (cs : List ℕ). accepted_by (field_read cs (flat (ring_of (start + n) j.corners))))
      (ap (λ (m : ℕ). take m (set j.counts k n)) (add-one k) ∙ take-suc-set j.counts k n place_for)
      ∙ ap (λ (l : List ℤ). accepted_by (field_read (take k j.counts ++ (n ∷ [])) l))
      (ap flat (ring_split start n j.corners) ∙ flat_append (ring_of start j.corners) (ring_from start n j.corners))

-- an outer ring
module _ (f : ℕ → ℤ → ℤ → rules.Answer points.Point) (j : Job) (long : length j.corners ≡ 3072) (held : length j.counts ≡ 17) (is : j.phase ≡ Gathering) where
  pub outer_closes : stepped f (view j) record_case.Close ≡ (judged (gathered_ring Gathering j) >>= field_printed j.code (gathered_ring Gathering j))
  outer_closes = ap (λ (s : State). stepped f s record_case.Close) (view_at j is) ∙ closed_is j.code (gathered_ring Gathering j)

  pub outer_accepts : {q : Result ℤ Refusal} → judged_paper q ≡ judged (gathered_ring Gathering j) → (k l : ℤ) → q ≡ Ok k → l ≡ k → {next : Job}
      → next ≡ joined_job j 0 0 (gathered_count Gathering j)
      → Stepping (stepped f (view j) record_case.Close) record_case.Close j (record { job = next; answer = Field j.code (gathered_count Gathering j) l })
  unfolding field_printed flat ring_of
  outer_accepts told k l e same h =
      let r = gathered_ring Gathering j in
      let c = few 1024 j.count in
      let n = ring_length j.corners (gathered_count Gathering j) (omega arith) in
      let field = read_one (gathered_count Gathering j) (flat r) r (flat_length r ∙ ap (λ (m : ℕ). 2 * m) n) (judged_passes r (ring_within (gathered_count Gathering j) j.corners) k (sym (ap judged_paper e) ∙ told)) in
      rw (same, h)
      (accepts j (field_printed j.code r) outer_closes told k e (Field j.code (gathered_count Gathering j) k)
      (sym (ap (λ (p : phases.Phase). joined_job j (rings_before p j.rings) (starting p j.total) (gathered_count p j)) is))
      (ap (λ (s : State). print s (line (Field j.code (gathered_count Gathering j) k))) (joined_view j 0 0 (gathered_count Gathering j) (omega arith) ∙ ap accepted_by field)
      ∙ ap (λ (m : ℕ). print (accepted (alone r)) (line (Field j.code m k))) (sym n))
      (accepted (alone r)) (line (Field j.code (length r) k)) refl)

-- an inner ring
module _ (f : ℕ → ℤ → ℤ → rules.Answer points.Point) (j : Job) (long : length j.corners ≡ 3072) (held : length j.counts ≡ 17) (is : j.phase ≡ Inner) where
  pub inner_closes : stepped f (view j) record_case.Close ≡ (inner_judged (field_before j) (gathered_ring Inner j) >>= inner_printed (field_before j) (gathered_ring Inner j))
  inner_closes = ap (λ (s : State). stepped f s record_case.Close) (view_at j is) ∙ inner_closed_is (field_before j) (gathered_ring Inner j)

  pub inner_accepts : {q : Result ℤ Refusal} → judged_paper q ≡ inner_judged (field_before j) (gathered_ring Inner j) → (k l : ℤ) → q ≡ Ok k → l ≡ k → {next : Job}
      → next ≡ joined_job j (rings_before Inner j.rings) (starting Inner j.total) (gathered_count Inner j)
      → Stepping (stepped f (view j) record_case.Close) record_case.Close j (record { job = next; answer = answer_case.Inner (rings_before Inner j.rings) (gathered_count Inner j) l })
  unfolding inner_printed
  inner_accepts told k l e same h =
      let g = field_before j in
      let r = gathered_ring Inner j in
      let rings = rings_before Inner j.rings in
      let start = starting Inner j.total in
      let c = few 128 j.count in
      let d = few 2944 j.total in
      let b = few 16 j.rings in
      let n = ring_count f Inner refl j is long at_zero.x at_zero.y in
      let counts = length-take-le rings j.counts (omega arith) in
      let joined = judged_joins r (ring_within (gathered_count Inner j) (lib.ListN.drop start j.corners)) (omega arith) (take rings j.counts) (flat (ring_of start j.corners)) (omega arith) k (sym (ap judged_paper e) ∙ told) in
      let field = read_more (take rings j.counts) (flat (ring_of start j.corners)) g (gathered_count Inner j) (flat r) r joined.read (flat_length r ∙ ap (λ (m : ℕ). 2 * m) n) joined.checked in
      let number : rings ≡ suc (length g.inner_rings) = sym counts ∙ (read_size (take rings j.counts) (flat (ring_of start j.corners)) g joined.read).0 in
      rw (same, h)
      (accepts j (inner_printed g r) inner_closes told k e (answer_case.Inner rings (gathered_count Inner j) k)
      (sym (ap (λ (p : phases.Phase). joined_job j (rings_before p j.rings) (starting p j.total) (gathered_count p j)) is))
      (ap (λ (s : State). print s (line (answer_case.Inner rings (gathered_count Inner j) k))) (joined_view j rings start (gathered_count Inner j) (omega arith) ∙ ap accepted_by field)
      ∙ ap (λ (m : ℕ). print (accepted (with_ring g r)) (line (answer_case.Inner rings m k))) (sym n)
      ∙ ap (λ (m : ℕ). print (accepted (with_ring g r)) (line (answer_case.Inner m (length r) k))) number)
      (accepted (with_ring g r)) (line (answer_case.Inner (suc (length g.inner_rings)) (length r) k)) refl)
    where
      at_zero : ring.Corner
      at_zero = at (lib.IntN.pos 0) (lib.IntN.pos 0)

-- what is said of it, by the numbers that the code has
pub inner_told : (j : Job) {k start n : ℕ} {a : rules.Answer ℤ} → k ≡ rings_before Inner j.rings → start ≡ starting Inner j.total → n ≡ gathered_count Inner j
    → a ≡ inner_judged (field_or_none (field_of k start j)) (ring_from start n j.corners) → a ≡ inner_judged (field_before j) (gathered_ring Inner j)
inner_told j {k} {start} {n} a b c h =
    h ∙ ap (λ (k : ℕ). inner_judged (field_or_none (field_of k start j)) (ring_from start n j.corners)) a
    ∙ ap (λ (start : ℕ). inner_judged (field_or_none (field_of (rings_before Inner j.rings) start j)) (ring_from start n j.corners)) b
    ∙ ap (λ (n : ℕ). inner_judged (field_before j) (ring_from (starting Inner j.total) n j.corners)) c

pub joined_as : (j : Job) {k start n : ℕ} → k ≡ rings_before Inner j.rings → start ≡ starting Inner j.total → n ≡ gathered_count Inner j
    → joined_job j k start n ≡ joined_job j (rings_before Inner j.rings) (starting Inner j.total) (gathered_count Inner j)
joined_as j {k} {start} {n} a b c =
    ap (λ (k : ℕ). joined_job j k start n) a ∙ ap (λ (start : ℕ). joined_job j (rings_before Inner j.rings) start n) b
    ∙ ap (joined_job j (rings_before Inner j.rings) (starting Inner j.total)) c

-- ---- an inner ring is begun
pub read_held : (j : Job) (k end : ℕ) (numbers : List ℤ) {a : rules.Answer Passed} → length j.counts ≡ 17 → k ≡ at_most 17 j.rings → end ≡ 2 * at_most 3072 j.total
    → take (2 * at_most 3072 j.total) numbers ≡ flat (ring_of j.total j.corners) → a ≡ field_checked (take k j.counts) (take end numbers)
    → a ≡ (field_of j.rings j.total j >> answered passed)
read_held j k end numbers held a b laid h =
    h ∙ ap (λ (cs : List ℕ). field_checked cs (take end numbers)) (counts_part j.counts k j.rings held a)
    ∙ ap (λ (l : List ℤ). field_checked (take j.rings j.counts) l) (numbers_part numbers end j.total b laid)

-- rings that pass their checks are a field
pub read_some : (a : rules.Answer fields.Field) → answered passed ≡ (a >> answered passed) → (g : fields.Field) × (a ≡ answered g)
read_some (answered g) e = (g, refl)
read_some (refused n) e = absurd (let z : ◌≡◌ {A = ℕ} 0 1 = cc e in omega arith)
read_some (crossed_at pair) e = absurd (let z : ◌≡◌ {A = ℕ} 0 1 = cc e in omega arith)

module _ (f : ℕ → ℤ → ℤ → rules.Answer points.Point) (j : Job) (long : length j.corners ≡ 3072) (held : length j.counts ≡ 17) (is : j.phase ≡ Accepted) where
  begins_by : {a : rules.Answer fields.Field} → field_of j.rings j.total j ≡ a → stepped f (view j) record_case.Inner ≡ stepped f (accepted_by a) record_case.Inner
  begins_by e = ap (λ (s : State). stepped f s record_case.Inner) (view_at j is ∙ ap accepted_by e)

  pub inner_none : (r : Refusal) → refusal_paper r ≡ (field_of j.rings j.total j >> answered passed) → stepped f (view j) record_case.Inner ≡ refused out_of_place
  inner_none r h = begins_by refl ∙ go (field_of j.rings j.total j) h
    where
      go : (a : rules.Answer fields.Field) → refusal_paper r ≡ (a >> answered passed) → stepped f (accepted_by a) record_case.Inner ≡ refused out_of_place
      go (answered g) h = absurd (not_answered r passed h)
      go (refused n) h = refl
      go (crossed_at pair) h = refl

  module _ (g : fields.Field) (reads : field_of j.rings j.total j ≡ answered g) where
    size : (at_most 17 j.rings ≡ suc (length g.inner_rings)) × (at_most 3072 j.total ≤ 1024 + 128 * length g.inner_rings)
    size =
        let s = read_size (take j.rings j.counts) (flat (ring_of j.total j.corners)) g reads in
        let a = s.0 in
        let b = s.1 in
        let t = take_length j.counts 17 j.rings held in
        let c = few 3072 j.total in
        let r = ap length (sym (same_ring j.corners 3072 j.total long)) ∙ ring_length j.corners (at_most 3072 j.total) (omega arith) in
        let l = flat_length (ring_of j.total j.corners) in
        (omega arith, omega arith)

    pub inner_full : 16 < at_most 17 j.rings → stepped f (view j) record_case.Inner ≡ refused too_many_rings
    unfolding inner_begun
    inner_full h =
        let s = size.0 in
        begins_by reads ∙ ap (λ (b : Bool). (too_many_rings if b) >> silent (gathering_inner g [])) (le-leb 16 (length g.inner_rings) (omega arith))

    pub inner_begins : at_most 17 j.rings ≤ 16
        → Stepping (stepped f (view j) record_case.Inner) record_case.Inner j (record { job = after_record record_case.Inner j; answer = Silent })
    unfolding inner_begun line ring_of
    inner_begins h =
        let s = size.0 in
        let t = size.1 in
        let rings = count_kept 16 j.rings (below 17 j.rings 16 h (omega arith)) in
        let total = count_kept 2944 j.total (below 3072 j.total 2944 (omega arith) (omega arith)) in
        stepping_at (begins_by reads ∙ ap (λ (b : Bool). (too_many_rings if b) >> silent (gathering_inner g [])) (lt-leb 16 (length g.inner_rings) (omega arith)))
        (record {
          says =
              ap (λ (a : rules.Answer fields.Field). print (gathering_inner (field_or_none a) []) [])
              (ap (λ (k : ℕ). field_of k (at_most 2944 j.total) j) rings ∙ ap (λ (k : ℕ). field_of j.rings k j) total ∙ reads);
          leaves = refl;
        })

-- ---- kind 5
module _ (c : ℕ) (B L : ℤ) where
  pub point_by : (j : Job) (a : answers.Answer) (p : Result projected.Point Refusal) (w : rules.Answer points.Point) → a ≡ point_said p → forward_paper p ≡ w
      → Stepping (pointed (view j) w) (record_case.Point c B L) j (record { job = j; answer = a })
  unfolding pointed line
  point_by j a p w e h = record { says = ap (λ (a : answers.Answer). paper a (view j)) e ∙ said_by p h; leaves = sym (point_leaves (pointed (view j) w) c B L j) }
    where
      said_by : (p : Result projected.Point Refusal) → forward_paper p ≡ w → paper (point_said p) (view j) ≡ pointed (view j) w
      said_by (Ok p) h = rw (← h) refl
      said_by (Err r) h = rw (← h) (sym (refused_first r _))

pub point_is : {p : Result projected.Point Refusal} {q : projected.Point} → p ≡ Ok q → mag q.x < 2 ^ 63 → mag q.y < 2 ^ 63 → mag q.scale < 2 ^ 63 → mag q.convergence < 2 ^ 63
    → Point (to_z w64 (of_z w64 q.x)) (to_z w64 (of_z w64 q.y)) (to_z w64 (of_z w64 q.scale)) (to_z w64 (of_z w64 q.convergence)) ≡ point_said p
point_is e hx hy hs hc =
    rw (e, to_z-of_z (record { sfits = hx }), to_z-of_z (record { sfits = hy }), to_z-of_z (record { sfits = hs }), to_z-of_z (record { sfits = hc })) refl

pub point_refused : {p : Result projected.Point Refusal} {r : Refusal} → p ≡ Err r → Refused r ≡ point_said p
point_refused e = rw e refl

-- ---- what the methods are made of
pub nozzle_is : {l : Result positions.Position Refusal} {X Y : ℤ} {p : positions.Position} → l ≡ Ok p → SFits w64 X → SFits w64 Y
    → Nozzle (to_z w64 (of_z w64 X)) (to_z w64 (of_z w64 Y)) p ≡ query_said l X Y
nozzle_is e f g = rw (e, to_z-of_z f, to_z-of_z g) refl

pub of_item : (f : ℕ → ℤ → ℤ → rules.Answer points.Point) {i i' : records.Record} (s : State) {j : Job} {r : Taken} → i ≡ i'
    → Stepping (stepped f s i') i' j r → Stepping (stepped f s i) i j r
of_item f s e h = rw e h

pub none_accepted : {l : Result positions.Position Refusal} {r : Refusal} (X Y : ℤ) → l ≡ Err r → Refused OutOfPlace ≡ query_said l X Y
none_accepted X Y e = rw e refl
