-- The loop over a chunk's bytes: its invariant, a byte that goes on, a byte that stops, what each change asks, and the loop's ends. Assumes nothing.
use Rattle.std.proofs.Common.{◌≡◌, ℕ, suc, ◌+◌, ◌-◌, ◌*◌, ◌<◌, ◌≤◌, Bool, true, false, ltb, List, [], ◌∷◌, ◌++◌, map, length, get_or, take, drop, ℤ, sym, refl, ap, ◌∙◌, subst, append-nil, add-one, arith, length-append, length-drop, length-set, take-append-drop, drop_of_length-le, length-take-le, drop-cons, take-suc, drop-drop, ltb-false, ltb-true}
use lib.ListN.{length-map}
use lib.Seq.{take-length, take-append_seam, drop-append-add}
use Rattle.rules.specs.Refusals as rules
use Rattle.rules.specs.Refusals.{refused, crossed_at}
use Rattle.rules.specs.JobFile.{Step}
use Rattle.lines.specs.Said.{pasted}
use Rattle.projection_worked.specs.Worked.{worked_forward}
use Rattle.records.specs.declared.Record as records
use Rattle.records.specs.declared.Record.TheVariants as record_case
use Rattle.job_state.specs.declared.state.Answer as answers
use Rattle.job_state.specs.declared.state.Job.{Job}
use Rattle.job_state.specs.Gathered.{chosen, at_most, ring_of, flat}
use Rattle.job_state.specs.States as places
use Rattle.job_state.specs.States.{most, rings_before, gathered_count, view, stepped, after_record, left, Stepping}
use Rattle.job_state.specs.InPlace.{Lies, Stands}
use Rattle.job_state.proofs.Limits.{counts_part, numbers_part}
use Rattle.job_lines.specs.Printed.{printed_at}
use Rattle.job.specs.declared.run.Run.{Run}
use Rattle.job.specs.declared.run.Fed as feds
use Rattle.job.specs.declared.passage.Change.TheVariants.{Nothing, Store, LayOut, Take}
use Rattle.job.specs.declared.passage.Passage.{Passage}
use Rattle.job.specs.Machine.{Progress, stopped, Took, fed, used_in, held_of, progress_by}
use Rattle.job.proofs.Laws.Bytes.{then_next, then_printed, one_next, one_printed, stopped_next, stopped_printed, stopped_used, byte_used, no_room, none_used}
use Rattle.job.specs.Runs.{progress, run_fed, Feeding}
use Rattle.job.specs.Passages.{run_of, starting, answered_at, asking, Saying, Makes, Passing, Turned}
use Rattle.job.proofs.Laws.Structs.{run_then, run_one, run_stopped}
use Rattle.job.proofs.Turning.{kept_as, stored, unlaid_yet, asked, answered}

-- after the first `at` bytes: how far the run is, and what was written
pub record Going (run₀ : Run) (chunk out₀ : List ℕ) (run : Run) (at wrote : ℕ) (out : List ℕ) : Type 0 where
  pub low : at ≤ length chunk
  pub goes : run.stopped ≡ false
  pub next : progress run ≡ (fed worked_forward (progress run₀) (take at chunk)).next
  pub counted : wrote ≡ length (fed worked_forward (progress run₀) (take at chunk)).printed
  pub holds : out ≡ pasted 0 (fed worked_forward (progress run₀) (take at chunk)).printed out₀
  pub long : length out ≡ length out₀
  pub room : wrote ≤ length out₀
  pub is : run ≡ run_fed run₀ (take at chunk)
  pub used : used_in worked_forward (length out₀) (progress run₀) chunk ≡ at + used_in worked_forward (length out₀ - wrote) (progress run) (drop at chunk)

pub starts : (run : Run) (chunk out : List ℕ) → run.stopped ≡ false → Going run chunk out run 0 0 out
unfolding fed run_fed
starts run chunk out e = record {
  low = omega arith;
  goes = e;
  next = refl;
  counted = refl;
  holds = refl;
  long = refl;
  room = omega arith;
  is = refl;
  used = ap (λ (n : ℕ). used_in worked_forward n (progress run) chunk) (all (length out)) ∙ none (used_in worked_forward (length out - 0) (progress run) chunk);
}
  where
    all : (n : ℕ) → n ≡ n - 0
    all n = omega arith

    none : (n : ℕ) → n ≡ 0 + n
    none n = omega arith

-- a text behind another
paste_more : (a s o : List ℕ) (n : ℕ) → n ≡ length a → pasted n s (pasted 0 a o) ≡ pasted 0 (a ++ s) o
paste_more a s o n e = rw e (ap (λ (t : List ℕ). t ++ s ++ drop (length a + length s) (a ++ drop (0 + length a) o)) (take-append_seam a (drop (0 + length a) o))
    ∙ ap (λ (t : List ℕ). a ++ s ++ t) (drop-append-add a (drop (0 + length a) o) (length s) ∙ drop-drop (length s) (0 + length a) o ∙ ap (λ (k : ℕ). drop k o) same))
  where
    same : 0 + length a + length s ≡ 0 + length (a ++ s)
    same = let l = length-append a s in omega arith

-- ---- one byte
module _ (run₀ : Run) {chunk out₀ : List ℕ} {run : Run} {at wrote : ℕ} {out : List ℕ} (g : Going run₀ chunk out₀ run at wrote out) (inside : at < length chunk)
    (room : wrote + 128 ≤ length out) {t : Took} {run' : Run} (m : Makes run (get_or chunk at 0) t run') (short : length t.printed ≤ 128) where
  next_take : take (at + 1) chunk ≡ take at chunk ++ (get_or chunk at 0 ∷ [])
  next_take = ap (λ (k : ℕ). take k chunk) (add-one at) ∙ take-suc chunk at 0 inside

  more_next : (fed worked_forward (progress run₀) (take (at + 1) chunk)).next ≡ t.next
  more_next =
      ap (λ (l : List ℕ). (fed worked_forward (progress run₀) l).next) next_take
      ∙ then_next worked_forward (progress run₀) (take at chunk) (get_or chunk at 0 ∷ [])
      ∙ ap (λ (q : Progress). (fed worked_forward q (get_or chunk at 0 ∷ [])).next) (sym g.next)
      ∙ one_next worked_forward (progress run) (get_or chunk at 0)
      ∙ ap (λ (t : Took). t.next) m.taken

  more_printed : (fed worked_forward (progress run₀) (take (at + 1) chunk)).printed ≡ (fed worked_forward (progress run₀) (take at chunk)).printed ++ t.printed
  more_printed =
      ap (λ (l : List ℕ). (fed worked_forward (progress run₀) l).printed) next_take
      ∙ then_printed worked_forward (progress run₀) (take at chunk) (get_or chunk at 0 ∷ [])
      ∙ ap (λ (l : List ℕ). (fed worked_forward (progress run₀) (take at chunk)).printed ++ l)
      (ap (λ (q : Progress). (fed worked_forward q (get_or chunk at 0 ∷ [])).printed) (sym g.next) ∙ one_printed worked_forward (progress run) (get_or chunk at 0) ∙ ap (λ (t : Took). t.printed) m.taken)

  more_count : (w : ℕ) → w ≡ wrote + length t.printed → w ≡ length (fed worked_forward (progress run₀) (take (at + 1) chunk)).printed
  more_count w e =
      let l = length-append (fed worked_forward (progress run₀) (take at chunk)).printed t.printed in
      let c = g.counted in
      rw more_printed (omega arith)

  more_holds : (o : List ℕ) → o ≡ pasted wrote t.printed out → o ≡ pasted 0 (fed worked_forward (progress run₀) (take (at + 1) chunk)).printed out₀
  more_holds o e =
      e ∙ ap (λ (l : List ℕ). pasted wrote t.printed l) g.holds
      ∙ paste_more (fed worked_forward (progress run₀) (take at chunk)).printed t.printed out₀ wrote g.counted
      ∙ ap (λ (l : List ℕ). pasted 0 l out₀) (sym more_printed)

  more_used : used_in worked_forward (length out₀) (progress run₀) chunk ≡ at + 1 + used_in worked_forward (length out₀ - (wrote + length t.printed)) t.next (drop (at + 1) chunk)
  more_used =
      g.used
      ∙ ap (λ (l : List ℕ). at + used_in worked_forward (length out₀ - wrote) (progress run) l) (drop-cons chunk at 0 inside ∙ ap (λ (k : ℕ). get_or chunk at 0 ∷ drop k chunk) (sym (add-one at)))
      ∙ ap (λ (n : ℕ). at + n)
      (byte_used worked_forward (length out₀ - wrote) run.stopped (view run.job) run.place.offset run.place.records (held_of run.held.count run.held.bytes)
      (get_or chunk at 0) (drop (at + 1) chunk) g.goes (let l = g.long in omega arith))
      ∙ ap (λ (t : Took). at + suc (used_in worked_forward (length out₀ - wrote - length t.printed) t.next (drop (at + 1) chunk))) m.taken
      ∙ ap (λ (n : ℕ). at + suc (used_in worked_forward n t.next (drop (at + 1) chunk))) (less (length out₀) wrote (length t.printed))
      ∙ one (used_in worked_forward (length out₀ - (wrote + length t.printed)) t.next (drop (at + 1) chunk))
    where
      less : (a b c : ℕ) → a - b - c ≡ a - (b + c)
      less a b c = omega arith

      one : (n : ℕ) → at + suc n ≡ at + 1 + n
      one n = omega arith

  more_run : run_fed run₀ (take (at + 1) chunk) ≡ run'
  more_run =
      ap (run_fed run₀) next_take ∙ run_then run₀ (take at chunk) (get_or chunk at 0 ∷ []) ∙ ap (λ (r : Run). run_fed r (get_or chunk at 0 ∷ [])) (sym g.is)
      ∙ run_one run (get_or chunk at 0) ∙ m.made

  module _ {wrote' : ℕ} {out' : List ℕ} (count : wrote' ≡ wrote + length t.printed) (hold : out' ≡ pasted wrote t.printed out) (far : progress run' ≡ t.next) where
    pub same_long : length out' ≡ length out₀
    same_long =
        let l = g.long in
        ap length hold ∙ length-append (take wrote out ++ t.printed) (drop (wrote + length t.printed) out)
        ∙ ap (λ (n : ℕ). n + length (drop (wrote + length t.printed) out)) (length-append (take wrote out) t.printed)
        ∙ (let a = length-take-le wrote out (omega arith) in let b = length-drop (wrote + length t.printed) out in omega arith)

    pub goes_on : run'.stopped ≡ false → Going run₀ chunk out₀ run' (at + 1) wrote' out'
    goes_on e = record {
      low = omega arith;
      goes = e;
      next = far ∙ sym more_next;
      counted = more_count wrote' count;
      holds = more_holds out' hold;
      long = same_long;
      room = let l = g.long in omega arith;
      is = sym more_run;
      used =
          more_used ∙ ap (λ (n : ℕ). at + 1 + used_in worked_forward (length out₀ - n) t.next (drop (at + 1) chunk)) (sym count)
          ∙ ap (λ (q : Progress). at + 1 + used_in worked_forward (length out₀ - wrote') q (drop (at + 1) chunk)) (sym far);
    }

    pub stops : (u : ℕ) → run'.stopped ≡ true → u ≡ length chunk → Feeding run₀ chunk out₀ (record { run = run'; used = u; wrote = wrote' }) out'
    stops u e f =
        let h : t.next ≡ stopped = sym far ∙ ap (λ (b : Bool). progress_by b (view run'.job) run'.place.offset run'.place.records (held_of run'.held.count run'.held.bytes)) e in
        let whole : take u chunk ≡ take (at + 1) chunk ++ drop (at + 1) chunk = ap (λ (k : ℕ). take k chunk) f ∙ take-length chunk ∙ sym (take-append-drop (at + 1) chunk) in
        let next_all : (fed worked_forward (progress run₀) (take u chunk)).next ≡ stopped =
        ap (λ (l : List ℕ). (fed worked_forward (progress run₀) l).next) whole
        ∙ then_next worked_forward (progress run₀) (take (at + 1) chunk) (drop (at + 1) chunk)
        ∙ ap (λ (q : Progress). (fed worked_forward q (drop (at + 1) chunk)).next) (more_next ∙ h)
        ∙ stopped_next worked_forward (drop (at + 1) chunk) in
        let printed_all : (fed worked_forward (progress run₀) (take u chunk)).printed ≡ (fed worked_forward (progress run₀) (take (at + 1) chunk)).printed =
        ap (λ (l : List ℕ). (fed worked_forward (progress run₀) l).printed) whole
        ∙ then_printed worked_forward (progress run₀) (take (at + 1) chunk) (drop (at + 1) chunk)
        ∙ ap (λ (q : Progress). (fed worked_forward (progress run₀) (take (at + 1) chunk)).printed ++ (fed worked_forward q (drop (at + 1) chunk)).printed) (more_next ∙ h)
        ∙ ap (λ (l : List ℕ). (fed worked_forward (progress run₀) (take (at + 1) chunk)).printed ++ l) (stopped_printed worked_forward (drop (at + 1) chunk))
        ∙ append-nil (fed worked_forward (progress run₀) (take (at + 1) chunk)).printed in
        record {
          used =
              f ∙ sum (length chunk) (length-drop (at + 1) chunk) inside
              ∙ sym (more_used ∙ ap (λ (q : Progress). at + 1 + used_in worked_forward (length out₀ - (wrote + length t.printed)) q (drop (at + 1) chunk)) h
              ∙ ap (λ (n : ℕ). at + 1 + n) (stopped_used worked_forward (length out₀ - (wrote + length t.printed)) (drop (at + 1) chunk)));
          next = far ∙ h ∙ sym next_all;
          wrote = more_count wrote' count ∙ ap length (sym printed_all);
          holds = more_holds out' hold ∙ ap (λ (l : List ℕ). pasted 0 l out₀) (sym printed_all);
          inside = omega arith;
          room = let l = g.long in omega arith;
          run_is =
              sym (ap (run_fed run₀) whole ∙ run_then run₀ (take (at + 1) chunk) (drop (at + 1) chunk)
              ∙ ap (λ (r : Run). run_fed r (drop (at + 1) chunk)) more_run ∙ run_stopped run' (drop (at + 1) chunk) e);
        }
      where
        sum : (n : ℕ) → length (drop (at + 1) chunk) ≡ n - (at + 1) → at < n → n ≡ at + 1 + length (drop (at + 1) chunk)
        sum n e h = omega arith

-- ---- the loop's ends
module _ (run₀ : Run) {chunk out₀ : List ℕ} {run : Run} {at wrote : ℕ} {out : List ℕ} (g : Going run₀ chunk out₀ run at wrote out) where
  pub full : length out < wrote + 128 → Feeding run₀ chunk out₀ (record { run = run; used = at; wrote = wrote }) out
  full h = record {
    used =
        sym (g.used
        ∙ ap (λ (n : ℕ). at + n)
        (no_room worked_forward (length out₀ - wrote) run.stopped (view run.job) run.place.offset run.place.records (held_of run.held.count run.held.bytes) (drop at chunk)
        g.goes (let l = g.long in omega arith))
        ∙ none at);
    next = g.next;
    wrote = g.counted;
    holds = g.holds;
    inside = g.low;
    room = g.room;
    run_is = g.is;
  }
    where
      none : (n : ℕ) → n + 0 ≡ n
      none n = omega arith

  pub done : length chunk ≤ at → Feeding run₀ chunk out₀ (record { run = run; used = at; wrote = wrote }) out
  done h = record {
    used =
        sym (g.used ∙ ap (λ (l : List ℕ). at + used_in worked_forward (length out₀ - wrote) (progress run) l) (drop_of_length-le chunk h)
        ∙ ap (λ (n : ℕ). at + n) (none_used worked_forward (length out₀ - wrote) (progress run)) ∙ none at);
    next = g.next;
    wrote = g.counted;
    holds = g.holds;
    inside = g.low;
    room = g.room;
    run_is = g.is;
  }
    where
      none : (n : ℕ) → n + 0 ≡ n
      none n = omega arith

pub stopped_before : (run : Run) (chunk out : List ℕ) (u : ℕ) → run.stopped ≡ true → u ≡ length chunk → Feeding run chunk out (record { run = run; used = u; wrote = 0 }) out
stopped_before run chunk out u e f =
    let h : progress run ≡ stopped = ap (λ (b : Bool). progress_by b (view run.job) run.place.offset run.place.records (held_of run.held.count run.held.bytes)) e in
    let n : (fed worked_forward (progress run) (take u chunk)).printed ≡ [] =
    ap (λ (q : Progress). (fed worked_forward q (take u chunk)).printed) h ∙ stopped_printed worked_forward (take u chunk) in
    record {
      used = f ∙ sym (ap (λ (q : Progress). used_in worked_forward (length out) q chunk) h ∙ stopped_used worked_forward (length out) chunk);
      next = h ∙ sym (ap (λ (q : Progress). (fed worked_forward q (take u chunk)).next) h ∙ stopped_next worked_forward (take u chunk));
      wrote = ap length (sym n);
      holds = ap (λ (l : List ℕ). pasted 0 l out) (sym n);
      inside = omega arith;
      room = omega arith;
      run_is = sym (run_stopped run (take u chunk) e);
    }

-- ---- along the loop: the run goes on, or it is stopped and nothing is left of the chunk
pub data Along (run₀ : Run) (chunk out₀ : List ℕ) (j : Job) (p : Passage) (out : List ℕ) : Type 0 where
  going : p.left ≤ length chunk → Going run₀ chunk out₀ (run_of j p) (length chunk - p.left) p.wrote out → Along run₀ chunk out₀ j p out
  ended : p.left ≡ 0 → length out ≡ length out₀ → Feeding run₀ chunk out₀ (record { run = run_of j p; used = length chunk; wrote = p.wrote }) out
      → Along run₀ chunk out₀ j p out

pub begins : (run : Run) (chunk out : List ℕ) (j : Job) {p : Passage} → p ≡ starting run (length chunk) → Along (run_of j p) chunk out j p out
begins run chunk out j e =
    rw e
    (going (omega arith)
    (subst (λ (n : ℕ). Going (run_of j (starting run (length chunk))) chunk out (run_of j (starting run (length chunk))) n 0 out) (none (length chunk))
    (starts (run_of j (starting run (length chunk))) chunk out refl)))
  where
    none : (n : ℕ) → 0 ≡ n - n
    none n = omega arith

module _ {run₀ : Run} {chunk out₀ : List ℕ} {j : Job} {p : Passage} {out : List ℕ} where
  pub within : Along run₀ chunk out₀ j p out → p.left ≤ length chunk
  within (going h g) = h
  within (ended n l f) = omega arith

  pub as_long : Along run₀ chunk out₀ j p out → length out ≡ length out₀
  as_long (going h g) = g.long
  as_long (ended n l f) = l

  pub inside : Along run₀ chunk out₀ j p out → p.wrote ≤ length out
  inside (going h g) = let l = g.long in let r = g.room in omega arith
  inside (ended n l f) = let r = f.room in omega arith

  pub still : Along run₀ chunk out₀ j p out → 0 < p.left → p.stopped ≡ false
  still (going h g) m = g.goes
  still (ended n l f) m = absurd (omega arith)

  pub passes : {j' : Job} {p' : Passage} {out' : List ℕ} → Along run₀ chunk out₀ j p out → 0 < p.left → p.wrote + 128 ≤ length out
      → Passing j p (get_or chunk (length chunk - p.left) 0) out j' p' out' → Along run₀ chunk out₀ j' p' out'
  passes (ended n l f) m room t = absurd (omega arith)
  passes {j'} {p'} {out'} (going h g) m room t = go p'.stopped refl
    where
      near : length chunk - p.left < length chunk
      near = omega arith

      after : (n k l : ℕ) → 0 < l → l ≤ n → k ≡ l - 1 → n - l + 1 ≡ n - k
      after n k l m h e = omega arith

      go : (b : Bool) → p'.stopped ≡ b → Along run₀ chunk out₀ j' p' out'
      go false e =
          let left : p'.left ≡ p.left - 1 = t.left_is ∙ ap (λ (b : Bool). chosen b 0 (p.left - 1)) e in
          going (omega arith)
          (subst (λ (n : ℕ). Going run₀ chunk out₀ (run_of j' p') n p'.wrote out') (after (length chunk) p'.left p.left m h left)
          (goes_on run₀ g near room t.makes t.short t.end t.holds t.next e))
      go true e =
          ended (t.left_is ∙ ap (λ (b : Bool). chosen b 0 (p.left - 1)) e) (same_long run₀ g near room t.makes t.short t.end t.holds t.next)
          (stops run₀ g near room t.makes t.short t.end t.holds t.next (length chunk) e refl)

  pub ends : Along run₀ chunk out₀ j p out → (0 < p.left → length out < p.wrote + 128)
      → Feeding run₀ chunk out₀ (record { run = run_of j p; used = length chunk - p.left; wrote = p.wrote }) out
  ends (ended n l f) room = subst (λ (u : ℕ). Feeding run₀ chunk out₀ (record { run = run_of j p; used = u; wrote = p.wrote }) out) (all (length chunk) p.left n) f
    where
      all : (n k : ℕ) → k ≡ 0 → n ≡ n - k
      all n k e = omega arith
  ends (going h g) room = go (ltb 0 p.left) refl
    where
      go : (b : Bool) → ltb 0 p.left ≡ b → Feeding run₀ chunk out₀ (record { run = run_of j p; used = length chunk - p.left; wrote = p.wrote }) out
      go true e = full run₀ g (room (ltb-true 0 p.left e))
      go false e = done run₀ g (let l = ltb-false 0 p.left e in omega arith)

-- the run that comes back is that of the job and the passage, and the run that went in that of the start
pub handed_back : (run : Run) {chunk out₀ out : List ℕ} {p : Passage} {run' : Run} {u w : ℕ} {r : feds.Fed} → run.stopped ≡ false → p ≡ starting run (length chunk)
    → (r.run ≡ run') × (r.used ≡ u) × (r.wrote ≡ w) → Feeding (run_of run.job p) chunk out₀ (record { run = run'; used = u; wrote = w }) out → Feeding run chunk out₀ r out
handed_back run {chunk} {out₀} {out} {r = r} e f h g =
    subst (λ (s : Run). Feeding s chunk out₀ r out)
    (ap (run_of run.job) f ∙ ap (λ (b : Bool). record { job = run.job; held = run.held; place = run.place; stopped = b }) (sym e)) (rw (h.0, h.1, h.2) g)

-- ---- the measure: what is left of the chunk, and whether the corners are still to be laid out
abbrev pub unlaid : Bool → ℕ
unlaid true = 0
unlaid false = 1

pub less_by : {k l : ℕ} (b c : Bool) → k < l → 2 * k + unlaid b < 2 * l + unlaid c
less_by true true h = omega arith
less_by true false h = omega arith
less_by false true h = omega arith
less_by false false h = omega arith

fewer : {k l : ℕ} (stops : Bool) → k ≡ chosen stops 0 (l - 1) → 0 < l → k < l
fewer true e h = omega arith
fewer false e h = omega arith

-- the job's arrays are as long as they are declared, and so are those that its rings are laid out in
pub record Full (j : Job) : Type 0 where
  pub corners_long : length j.corners ≡ 3072
  pub counts_long : length j.counts ≡ 17

pub record Holds (counts : List ℕ) (numbers : List ℤ) : Type 0 where
  pub counts_room : length counts ≡ 17
  pub numbers_room : length numbers ≡ 6144

-- ---- the loop's invariant: along with it, the corners are all there, and what is laid out of them is theirs
pub record Turns (run₀ : Run) (chunk out₀ out : List ℕ) (j : Job) (p : Passage) (counts : List ℕ) (numbers : List ℤ) : Type 0 where
  pub along : Along run₀ chunk out₀ j p out
  pub long : Full j
  pub room : Holds counts numbers
  pub laid : p.laid ≡ true → Lies j.phase (take (at_most 17 j.rings) counts) (take (2 * at_most 3072 j.total) numbers) j

no_truth : {A : Type 0} → false ≡ true → A
no_truth e = absurd (let z : ◌≡◌ {A = ℕ} 0 1 = cc in omega arith)

-- the length of an array of structs, from that of their values
pub unmapped : {A B : Type 0} (f : A → B) (l : List A) {n : ℕ} → length (map f l) ≡ n → length l ≡ n
unmapped f l e = sym (length-map l f) ∙ e

-- no record makes the corners more or fewer
left_long : (s : rules.Answer Step) (i : records.Record) (j : Job) → Full j → Full (left s i j)
left_long (rules.answered d) (record_case.Begin c) j e = record { corners_long = e.corners_long; counts_long = e.counts_long }
left_long (rules.answered d) (record_case.Corner X Y) j e = record {
  corners_long = length-set j.corners (places.starting j.phase j.total + j.count) (record { x = X; y = Y }) ∙ e.corners_long;
  counts_long = e.counts_long;
}
left_long (rules.answered d) record_case.Close j e = record {
  corners_long = e.corners_long;
  counts_long = length-set j.counts (rings_before j.phase j.rings) (gathered_count j.phase j) ∙ e.counts_long;
}
left_long (rules.answered d) (record_case.Query X Y) j e = e
left_long (rules.answered d) (record_case.Point c B L) j e = e
left_long (rules.answered d) record_case.Inner j e = record { corners_long = e.corners_long; counts_long = e.counts_long }
left_long (refused n) i j e = e
left_long (crossed_at pair) i j e = e

-- a turn: a byte and room for any line are left, and the byte is asked
module _ {run₀ : Run} {chunk out₀ out : List ℕ} {j : Job} {p : Passage} {counts : List ℕ} {numbers : List ℤ} (t : Turns run₀ chunk out₀ out j p counts numbers) (m : 0 < p.left)
    (room : p.wrote + 128 ≤ length out) where
  pub stands : Stands j.phase j.count p.laid (take (at_most 17 j.rings) counts) (take (2 * at_most 3072 j.total) numbers) j
  stands = record { has = record { phase_is = refl; count_is = refl; long = t.long.corners_long }; laid = t.laid }

  module _ {p' : Passage} {out' : List ℕ} {k n : ℕ} (rings : k ≡ at_most 17 j.rings) (end : n ≡ 2 * at_most 3072 j.total) (asked_of : Turned p (get_or chunk (length chunk - p.left) 0) j.phase j.count (take k counts) (take n numbers) out p' out') where
    u : Turned p (get_or chunk (length chunk - p.left) 0) j.phase j.count (take (at_most 17 j.rings) counts) (take (2 * at_most 3072 j.total) numbers) out p' out'
    u = rw (rings, end) at asked_of

    pub keeps : p'.change ≡ Nothing → Turns run₀ chunk out₀ out' j p' counts numbers
    keeps e = record { along = passes t.along m room ((kept_as u e).1 j stands); long = t.long; room = t.room; laid = λ g. t.laid (sym (kept_as u e).0 ∙ g) }

    pub kept_less : p'.change ≡ Nothing → p'.left < p.left
    kept_less e = fewer p'.stopped ((kept_as u e).1 j stands).left_is m

    pub corner_room : {X Y : ℤ} → p'.change ≡ Store X Y → j.count < most j.phase
    corner_room e = (stored u e).1

    pub stores : {X Y : ℤ} → p'.change ≡ Store X Y → Turns run₀ chunk out₀ out' (after_record (record_case.Corner X Y) j) p' counts numbers
    stores {X} {Y} e = record {
      along = passes t.along m room ((stored u e).2 j stands.has);
      long = record {
        corners_long = length-set j.corners (places.starting j.phase j.total + j.count) (record { x = X; y = Y }) ∙ t.long.corners_long;
        counts_long = t.long.counts_long;
      };
      room = t.room;
      laid = λ g. no_truth (sym (stored u e).0 ∙ g);
    }

    pub stored_less : {X Y : ℤ} → p'.change ≡ Store X Y → p'.left < p.left
    stored_less e = fewer p'.stopped ((stored u e).2 j stands.has).left_is m

    pub lays_out : {laid_numbers : List ℤ} → p'.change ≡ LayOut → length laid_numbers ≡ 6144
        → take (2 * at_most 3072 j.total) laid_numbers ≡ flat (ring_of j.total j.corners) → Turns run₀ chunk out₀ out' j p' j.counts laid_numbers
    lays_out {laid_numbers} e l f =
        let h = unlaid_yet u e in
        rw (h.1, h.2)
        (record {
          along = again t.along;
          long = t.long;
          room = record { counts_room = t.long.counts_long; numbers_room = l };
          laid = λ g. record { phase_is = refl; counts_are = counts_part j.counts (at_most 17 j.rings) j.rings t.long.counts_long refl; numbers_are = numbers_part laid_numbers (2 * at_most 3072 j.total) j.total refl f };
        })
      where
        again : Along run₀ chunk out₀ j p out → Along run₀ chunk out₀ j (asking p LayOut true) out
        again (going h g) = going h g
        again (ended n l f) = ended n l f

    pub laid_less : p'.change ≡ LayOut → 2 * p'.left + unlaid p'.laid < 2 * p.left + unlaid p.laid
    laid_less e = let h = unlaid_yet u e in rw (h.1, h.0) (omega arith)

    pub asked_room : {i : records.Record} {size : ℕ} → p'.change ≡ Take i size → (0 < p'.left) × (p'.wrote + 128 ≤ length out')
    asked_room e = let h = asked u e in rw (h.0, h.1) (m, room)

    module _ {i : records.Record} {size : ℕ} {j' : Job} {a : answers.Answer} {p'' : Passage} {out'' : List ℕ} (e : p'.change ≡ Take i size)
        (s : Stepping (stepped worked_forward (view j) i) i j (record { job = j'; answer = a }))
        (w : Saying (printed_at a p'.place.offset) p' (answered_at p' a size) out' p'' out'') where
      pub takes : Turns run₀ chunk out₀ out'' j' p'' counts numbers
      takes = record {
        along = passes t.along m room (answered u e s w);
        long = subst Full (sym s.leaves) (left_long (stepped worked_forward (view j) i) i j t.long);
        room = t.room;
        laid = λ g. no_truth (sym (ap (λ (q : Passage). q.laid) w.is ∙ ap (λ (q : Passage). q.laid) (asked u e).0) ∙ g);
      }

      pub taken_less : p''.left < p.left
      taken_less = fewer p''.stopped (answered u e s w).left_is m
