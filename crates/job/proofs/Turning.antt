-- What a byte makes of a run, by what stands in the bytes that are then held; and what it asks of the job and makes of the passage. Assumes nothing.
use mir.Syntax.{w64}
use Rattle.std.proofs.Common.{◌≡◌, ℕ, ◌+◌, ◌-◌, ◌%◌, ◌^◌, ◌<◌, ◌≤◌, Bool, true, false, List, [], ◌∷◌, ◌++◌, length, take, ℤ, sym, refl, ap, ◌∙◌, subst, arith, length-take-le, to_z-of_z, w64, to_z, of_z, ne_eqb, Some, None, Ok, Err}
use lib.Seq.{paste-zero}
use lib.Signed.{mag}
use Rattle.rules.specs.Refusals.{body_cut_off}
use Rattle.lines.specs.declared.Line.{Line}
use Rattle.lines.specs.Said.{said, pasted}
use Rattle.projection_worked.specs.Worked.{worked_forward}
use Rattle.records.specs.declared.Record as code
use Rattle.records.specs.declared.Record.TheVariants as record_case
use Rattle.terms.specs.declared.refusals.Refusal.TheVariants.{BodyCutOff}
use Rattle.terms.specs.Numbers.{number_of}
use Rattle.records.specs.declared.Whole.{Whole}
use Rattle.records.specs.declared.Stopped.{Stopped}
use Rattle.records.specs.Reader.{Reading, read_at}
use Rattle.job_state.specs.declared.state.Phase as phases
use Rattle.job_state.specs.declared.state.Answer as answers
use Rattle.job_state.specs.declared.state.Answer.TheVariants as case
use Rattle.job_state.specs.declared.state.Job.{Job}
use Rattle.job_state.specs.declared.in_place.Reply as replies
use Rattle.job_state.specs.declared.in_place.Reply.TheVariants.{Say, Store, LayOut}
use Rattle.job_state.specs.Gathered.{chosen}
use Rattle.job_state.specs.States.{most, view, line, stepped, after_record, Stepping}
use Rattle.job_state.specs.InPlace.{Counts, Stands, Replied}
use Rattle.job_lines.specs.Printed.{Says, printed_at, refusal_text}
use Rattle.job.specs.declared.run.Held.{Held}
use Rattle.job.specs.declared.run.Place.{Place}
use Rattle.job.specs.declared.run.Run.{Run}
use Rattle.job.specs.declared.passage.Change as changes
use Rattle.job.specs.declared.passage.Change.TheVariants as changes_case
use Rattle.job.specs.declared.passage.Passage.{Passage}
use Rattle.job.specs.Machine.{running, stopped, Took, advanced, considered, byte_taken, held_of, progress_by}
use Rattle.job.specs.Runs.{refuses, progress, no_held, place_after, held_with, run_after, waiting, refused_run, run_by, run_with, run_byte}
use Rattle.job.specs.Passages.{run_of, answered_at, storing, awaiting, refused_at, asking, Saying, Makes, Passing, Completes, Asked, Turned, Followed}
use Rattle.job.proofs.Holding.{kept, other_number, cut_held, no_end}
use Rattle.job.proofs.Advance.{said_short, answered_printed, answered_next, answered_run}

-- how far a run is that awaits more bytes
abbrev pub waits : Run → Held → Took
waits run begun = record { next = running (view run.job) run.place.offset run.place.records (take begun.count begun.bytes); printed = [] }

-- ---- what a byte makes of a run, by what stands in the bytes that are then held
module _ (run : Run) (byte : ℕ) (begun : Held) (found : Reading) (goes : run.stopped ≡ false)
    (held : take begun.count begun.bytes ≡ held_of run.held.count run.held.bytes ++ (byte ∷ [])) (with : begun ≡ held_with run.held byte) (read : found ≡ read_at (take begun.count begun.bytes) 0) where
  taken_as : byte_taken worked_forward (progress run) byte
      ≡ considered worked_forward (view run.job) run.place.offset run.place.records (take begun.count begun.bytes) found
  taken_as =
      ap (λ (b : Bool). byte_taken worked_forward (progress_by b (view run.job) run.place.offset run.place.records (held_of run.held.count run.held.bytes)) byte) goes
      ∙ ap (λ (l : List ℕ). considered worked_forward (view run.job) run.place.offset run.place.records l (read_at l 0)) (sym held)
      ∙ ap (λ (r : Reading). considered worked_forward (view run.job) run.place.offset run.place.records (take begun.count begun.bytes) r) (sym read)

  made_as : run_byte run byte ≡ run_by run begun found
  unfolding run_byte
  made_as =
      ap (λ (b : Bool). chosen b run (run_with run (held_with run.held byte))) goes ∙ ap (λ (h : Held). run_with run h) (sym with)
      ∙ ap (λ (r : Reading). run_by run begun r) (sym read)

  pub whole_taken : (whole : Whole) → found ≡ Ok (Some whole)
      → Makes run byte (advanced run.place.offset run.place.records whole.next.at (stepped worked_forward (view run.job) whole.item)) (run_after run whole.item whole.next.at)
  unfolding considered
  whole_taken whole e = record { taken = taken_as ∙ rw e refl; made = made_as ∙ rw e refl }

  pub cut_taken : (why : Stopped) → found ≡ Err why → why.refusal ≡ BodyCutOff → Makes run byte (waits run begun) (waiting run begun)
  unfolding considered
  cut_taken why e f = record { taken = taken_as ∙ rw (e, f) refl; made = made_as ∙ rw (e, f) refl }

  pub unknown_taken : (why : Stopped) → found ≡ Err why → (why.refusal ≡ BodyCutOff → ⊥)
      → Makes run byte (record { next = stopped; printed = refusal_text (number_of why.refusal) run.place.offset }) (refused_run run)
  unfolding considered
  unknown_taken why e f = record {
    taken = taken_as ∙ rw e (rw (ne_eqb (number_of why.refusal) body_cut_off (other_number why.refusal f)) refl);
    made = made_as ∙ rw e (rw (ne_eqb (number_of why.refusal) body_cut_off (other_number why.refusal f)) refl);
  }

  still_held : begun.count ≤ 17 → progress (waiting run begun) ≡ (waits run begun).next
  still_held h =
      ap (λ (b : Bool). progress_by b (view run.job) run.place.offset run.place.records (held_of begun.count begun.bytes)) goes
      ∙ ap (λ (k : ℕ). running (view run.job) run.place.offset run.place.records (take k begun.bytes)) (kept begun.count h)

  few_held : length begun.bytes ≡ 18 → begun.count ≤ 18 → length (take begun.count begun.bytes) ≤ 17 → begun.count ≤ 17
  few_held l h f = let e = length-take-le begun.count begun.bytes (omega arith) in omega arith

  pub cut_waits : (why : Stopped) → length begun.bytes ≡ 18 → begun.count ≤ 18 → found ≡ Err why → why.refusal ≡ BodyCutOff → progress (waiting run begun) ≡ (waits run begun).next
  cut_waits why l h e f = still_held (few_held l h (cut_held (take begun.count begun.bytes) (sym read ∙ e) f))

  pub never_ends : found ≡ Ok None → ⊥
  never_ends e = no_end (held_of run.held.count run.held.bytes) byte (ap (λ (l : List ℕ). read_at l 0) (sym held) ∙ sym read ∙ e)

-- signed arguments, read back from their bits
pub read_back : (P : ℤ → ℤ → Type 0) (x y : ℤ) → mag x < 2 ^ 63 → mag y < 2 ^ 63 → P (to_z w64 (of_z w64 x)) (to_z w64 (of_z w64 y)) → P x y
read_back P x y f g h = subst (λ (X : ℤ). P X y) (to_z-of_z {w = w64} (record { sfits = f })) (subst (λ (Y : ℤ). P (to_z w64 (of_z w64 x)) Y) (to_z-of_z {w = w64} (record { sfits = g })) h)

-- ---- the passages that the calls make
place_is : {p : Place} (q : Place) (size : ℕ) → p.offset ≡ (q.offset + size) % 2 ^ 64 → p.records ≡ (q.records + 1) % 2 ^ 64 → p ≡ place_after q size
place_is q size e f = one e f
  where
    one : {a b c d : ℕ} → a ≡ c → b ≡ d → ◌≡◌ {A = Place} (record { offset = a; records = b }) (record { offset = c; records = d })
    one e f = rw (e, f) refl

same_passage : {h h' : Held} {q q' : Place} {l l' w w' : ℕ} {b b' : Bool} (laid : Bool) (c : changes.Change) → h ≡ h' → q ≡ q' → l ≡ l' → w ≡ w' → b ≡ b'
    → ◌≡◌ {A = Passage} (record { held = h; place = q; left = l; wrote = w; stopped = b; laid = laid; change = c }) (record { held = h'; place = q'; left = l'; wrote = w'; stopped = b'; laid = laid; change = c })
same_passage laid c e f g h i = rw (e, f, g, h, i) refl

-- a line that was put behind what was written, by its text
put_is : (p : Passage) {words : List ℕ} {l : Line} {out out' : List ℕ} {p' q : Passage} → Says words l → out' ≡ pasted p.wrote (said l) out → p' ≡ q → Saying words p q out p' out'
put_is p {l = l} s holds e = record { short = rw s.says at (said_short l s.short); holds = rw s.says at holds; is = e }

end_is : (p : Passage) {words : List ℕ} {l : Line} {end : ℕ} → Says words l → end ≡ p.wrote + length (said l) → end ≡ p.wrote + length words
end_is p s ends = rw s.says at ends

pub answering : (p : Passage) (a : answers.Answer) (size : ℕ) {l : Line} {h : Held} {q : Place} {left end : ℕ} {stops : Bool} {out out' : List ℕ} → Says (printed_at a p.place.offset) l
    → end ≡ p.wrote + length (said l) → out' ≡ pasted p.wrote (said l) out → h ≡ no_held → q.offset ≡ (p.place.offset + size) % 2 ^ 64 → q.records ≡ (p.place.records + 1) % 2 ^ 64
    → left ≡ chosen stops 0 (p.left - 1) → stops ≡ refuses a
    → Saying (printed_at a p.place.offset) p (answered_at p a size) out (record { held = h; place = q; left = left; wrote = end; stopped = stops; laid = p.laid; change = changes_case.Nothing }) out'
answering p a size s ends holds e o n l r =
    put_is p s holds (same_passage p.laid changes_case.Nothing e (place_is p.place size o n) (l ∙ ap (λ (b : Bool). chosen b 0 (p.left - 1)) r) (end_is p s ends) r)

pub refusing : (p : Passage) (n : ℕ) {l : Line} {end : ℕ} {out out' : List ℕ} → Says (refusal_text n p.place.offset) l → end ≡ p.wrote + length (said l)
    → out' ≡ pasted p.wrote (said l) out
    → Saying (refusal_text n p.place.offset) p (refused_at p n) out (record { held = p.held; place = p.place; left = 0; wrote = end; stopped = true; laid = p.laid; change = changes_case.Nothing }) out'
refusing p n s ends holds = put_is p s holds (same_passage p.laid changes_case.Nothing refl refl refl (end_is p s ends) refl)

-- a corner that is taken
pub keeping : (p : Passage) (X Y : ℤ) (size : ℕ) {h : Held} {q : Place} → h ≡ no_held → q.offset ≡ (p.place.offset + size) % 2 ^ 64 → q.records ≡ (p.place.records + 1) % 2 ^ 64
    → ◌≡◌ {A = Passage} (record { held = h; place = q; left = p.left - 1; wrote = p.wrote; stopped = false; laid = false; change = changes_case.Store X Y }) (storing p size X Y)
keeping p X Y size e o n = same_passage false (changes_case.Store X Y) e (place_is p.place size o n) refl refl refl

-- ---- what a byte makes of a passage
-- the byte is put behind the held bytes, and what stands in them is read
pub record Begun (p : Passage) (byte : ℕ) (begun : Held) (found : Reading) : Type 0 where
  pub goes : p.stopped ≡ false
  pub few : begun.count ≤ 18
  pub held : take begun.count begun.bytes ≡ held_of p.held.count p.held.bytes ++ (byte ∷ [])
  pub long : length begun.bytes ≡ 18
  pub with : begun ≡ held_with p.held byte
  pub read : found ≡ read_at (take begun.count begun.bytes) 0

-- from one job to another, by what the byte makes of the run and the text that is put
passed : {p : Passage} {byte : ℕ} {out out' : List ℕ} {t : Took} {run' : Run} {text : List ℕ} (j j' : Job) (q : Passage) → Makes (run_of j p) byte t run'
    → t.printed ≡ text → progress (run_of j' q) ≡ t.next → run_of j' q ≡ run' → q.wrote ≡ p.wrote + length text → q.left ≡ chosen q.stopped 0 (p.left - 1)
    → length text ≤ 128 → out' ≡ pasted p.wrote text out → Passing j p byte out j' q out'
passed {t = t} j j' q m e far same end left short holds = record {
  took = t;
  makes = record { taken = m.taken; made = m.made ∙ sym same };
  next = far;
  short = rw e short;
  end = rw e end;
  holds = rw e holds;
  left_is = left;
}

no_line : (offset : ℕ) → printed_at case.Silent offset ≡ []
unfolding line
no_line offset = refl

-- ---- a whole record, by the reply to it
module _ (p : Passage) (i : code.Record) (size : ℕ) {reply : replies.Reply} where
  promised : {phase : phases.Phase} {count : ℕ} {laid : Bool} {counts : List ℕ} {numbers : List ℤ} {r : replies.Reply} → reply ≡ r → Replied i phase count laid counts numbers reply → Replied i phase count laid counts numbers r
  promised e h = rw e at h

  pub says_it : {a : answers.Answer} {out out' : List ℕ} {p' : Passage} → reply ≡ Say a → Saying (printed_at a p.place.offset) p (answered_at p a size) out p' out'
      → Followed p i size reply out p' out'
  says_it {a} e s = record {
    turned = λ byte phase count counts numbers m r. record {
      asked = rw s.is (
        refl,
        λ j g.
            let t = (promised e r).promised.steps j g in
            passed j j (answered_at p a size) (m j) (answered_printed p size i j t) (answered_next p size i j t) (answered_run p size i j t) refl refl s.short s.holds,
      );
    };
  }

  pub stores_it : {X Y : ℤ} {out : List ℕ} {p' : Passage} → reply ≡ Store X Y → p' ≡ storing p size X Y → Followed p i size reply out p' out
  stores_it {X} {Y} {out} e s = record {
    turned = λ byte phase count counts numbers m r.
        let c = (promised e r).promised in
        record {
          asked = rw s (
            refl,
            c.1.room refl,
            λ j g.
                let t = c.1.stores refl j g in
                let w = subst (λ (k : code.Record). Completes p byte k size) c.0 m in
                passed j (after_record (record_case.Corner X Y) j) (storing p size X Y) (w j) (answered_printed p size (record_case.Corner X Y) j t ∙ no_line p.place.offset)
                (answered_next p size (record_case.Corner X Y) j t) (answered_run p size (record_case.Corner X Y) j t) (none p.wrote) refl (omega arith) (paste-zero out p.wrote []),
          );
        };
  }
    where
      none : (n : ℕ) → n ≡ n + 0
      none n = omega arith

  pub lays_out : {out : List ℕ} {p' : Passage} → reply ≡ LayOut → p' ≡ asking p changes_case.LayOut true → Followed p i size reply out p' out
  lays_out e s = record { turned = λ byte phase count counts numbers m r. record { asked = rw s ((promised e r).promised, refl, refl) } }

  pub asks_it : {out : List ℕ} {p' : Passage} → p' ≡ asking p (changes_case.Take i size) false → Followed p i size reply out p' out
  asks_it s = record { turned = λ byte phase count counts numbers m r. record { asked = rw s (refl, refl, m) } }

pub begun_as : {p : Passage} {byte : ℕ} {begun : Held} {found : Reading} → p.stopped ≡ false
    → (begun.count ≤ 18) × (take begun.count begun.bytes ≡ held_of p.held.count p.held.bytes ++ (byte ∷ [])) × (length begun.bytes ≡ 18) × (begun ≡ held_with p.held byte)
    → found ≡ read_at (take begun.count begun.bytes) 0 → Begun p byte begun found
begun_as g h r = record { goes = g; few = h.0; held = h.1; long = h.2; with = h.3; read = r }

-- ---- any byte
module _ {p : Passage} {byte : ℕ} {begun : Held} {found : Reading} (b : Begun p byte begun found) where
  pub completes : {whole : Whole} → found ≡ Ok (Some whole) → Completes p byte whole.item whole.next.at
  completes {whole} e j = whole_taken (run_of j p) byte begun found b.goes b.held b.with b.read whole e

  -- a record whose body is cut off still
  pub waits_on : {phase : phases.Phase} {count : ℕ} {counts : List ℕ} {numbers : List ℤ} {out : List ℕ} {p' : Passage} (why : Stopped) → found ≡ Err why → why.refusal ≡ BodyCutOff
      → p' ≡ awaiting p begun → Turned p byte phase count counts numbers out p' out
  waits_on {out = out} why e f g = record {
    asked = rw g (
      refl,
      λ j h. record {
        took = waits (run_of j p) begun;
        makes = cut_taken (run_of j p) byte begun found b.goes b.held b.with b.read why e f;
        next = cut_waits (run_of j p) byte begun found b.goes b.held b.with b.read why b.long b.few e f;
        short = omega arith;
        end = none p.wrote;
        holds = paste-zero out p.wrote [];
        left_is = sym (ap (λ (b : Bool). chosen b 0 (p.left - 1)) b.goes);
      },
    );
  }
    where
      none : (n : ℕ) → n ≡ n + 0
      none n = omega arith

  -- a record of no kind
  pub refuses_it : {phase : phases.Phase} {count : ℕ} {counts : List ℕ} {numbers : List ℤ} {out out' : List ℕ} {p' : Passage} (why : Stopped) → found ≡ Err why
      → (why.refusal ≡ BodyCutOff → ⊥) → Saying (refusal_text (number_of why.refusal) p.place.offset) p (refused_at p (number_of why.refusal)) out p' out' → Turned p byte phase count counts numbers out p' out'
  refuses_it why e f s = record {
    asked = rw s.is (
      refl,
      λ j g.
          passed j j (refused_at p (number_of why.refusal)) (unknown_taken (run_of j p) byte begun found b.goes b.held b.with b.read why e f) refl refl refl refl refl s.short s.holds,
    );
  }

  pub never_nothing : (j : Job) → found ≡ Ok None → ⊥
  never_nothing j e = never_ends (run_of j p) byte begun found b.goes b.held b.with b.read e

-- ---- a byte that was asked, by what it asks
module _ {p : Passage} {byte : ℕ} {phase : phases.Phase} {count : ℕ} {counts : List ℕ} {numbers : List ℤ} {out out' : List ℕ} {p' : Passage} (t : Turned p byte phase count counts numbers out p' out') where
  asked_at : {c : changes.Change} → p'.change ≡ c → Asked p byte phase count counts numbers out p' out' c
  asked_at e = subst (λ (c : changes.Change). Asked p byte phase count counts numbers out p' out' c) e t.asked

  pub kept_as : p'.change ≡ changes_case.Nothing → (p'.laid ≡ p.laid) × ((j : Job) → Stands phase count p.laid counts numbers j → Passing j p byte out j p' out')
  kept_as e = asked_at e

  pub stored : {X Y : ℤ} → p'.change ≡ changes_case.Store X Y
      → (p'.laid ≡ false) × (count < most phase) × ((j : Job) → Counts phase count j → Passing j p byte out (after_record (record_case.Corner X Y) j) p' out')
  stored e = asked_at e

  pub unlaid_yet : p'.change ≡ changes_case.LayOut → (p.laid ≡ false) × (p' ≡ asking p changes_case.LayOut true) × (out' ≡ out)
  unlaid_yet e = asked_at e

  pub asked : {i : code.Record} {size : ℕ} → p'.change ≡ changes_case.Take i size → (p' ≡ asking p (changes_case.Take i size) false) × (out' ≡ out) × Completes p byte i size
  asked e = asked_at e

  pub answered : {i : code.Record} {size : ℕ} {j j' : Job} {a : answers.Answer} {p'' : Passage} {out'' : List ℕ} → p'.change ≡ changes_case.Take i size
      → Stepping (stepped worked_forward (view j) i) i j (record { job = j'; answer = a }) → Saying (printed_at a p'.place.offset) p' (answered_at p' a size) out' p'' out''
      → Passing j p byte out j' p'' out''
  answered {i} {size} {j} {j'} {a} {p''} {out''} e s w =
      let h = asked e in
      let v = subst (λ (o : List ℕ). Saying (printed_at a p.place.offset) (asking p (changes_case.Take i size) false) (answered_at (asking p (changes_case.Take i size) false) a size) o p'' out'') h.1
      (subst (λ (q : Passage). Saying (printed_at a q.place.offset) q (answered_at q a size) out' p'' out'') h.0 w) in
      rw v.is
      (passed j j' (answered_at (asking p (changes_case.Take i size) false) a size) (h.2 j) (answered_printed p size i j s) (answered_next p size i j s) (answered_run p size i j s) refl refl v.short v.holds)
