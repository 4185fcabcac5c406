-- The whole file: for every list of bytes, however it is cut into chunks, what Machine prints is exactly the rules' job (`chunked`). The one limit is that of the
-- machine's counters: a file of less than 2^64 bytes. Assumes nothing.
use Rattle.std.specs.Prelude.{◌≡◌, ℕ, suc, ◌+◌, ◌%◌, ◌^◌, ◌<◌, ◌≤◌, Bool, true, false, List, [], ◌∷◌, ◌++◌, length, ℤ, nat_lt, Some, Ok, Err}
use Rattle.std.proofs.Math.Path.{refl, sym, ap, subst}
use Rattle.std.proofs.Common.{◌∙◌, take_at, drop_at, take_all}
use mathlib.Core.List.{append_assoc, append-nil}
use Rattle.std.proofs.Math.Nat.{mod-eq_of_lt}
use native.Mathlib.Omega.{arith}
use borrow.Author.Tests.{lt-ltb, le-ltb, ltb-true, ltb-false}
use Rattle.std.proofs.Math.ListN.{length-append}
use Rattle.rules.specs.Refusals as rules
use Rattle.rules.specs.Refusals.{◌>>=◌, answered, refused, crossed_at, kind_unknown, body_cut_off}
use Rattle.rules.specs.Points as points
use Rattle.rules.specs.JobFile.{Kind, begin_field, corner, close_ring, nozzle_query, point_to_plane, begin_inner, Row, kinds, find_kind, State, no_field, gathering, accepted, gathering_inner, Step, step, Read, read, job_by}
use Rattle.rules.proofs.Laws.Job.{after, from, job_from, from_end, from_record}
use Rattle.terms.specs.declared.refusals.Refusal.TheVariants.{KindUnknown, BodyCutOff}
use Rattle.records.specs.Laws.Kinds.{Found, here, nowhere, found}
use Rattle.records.specs.Reader.{parsed, Reading, framed, read_at}
use Rattle.job_state.specs.States.{stepped}
use Rattle.job.specs.Machine.{Progress, running, stopped, start, joined, advanced, considered, byte_taken, fed, finished, over}
use Rattle.job_lines.specs.Printed.{refusal_text, crossed_text}
use Rattle.job.proofs.Laws.Bytes.{stopped_next, stopped_printed, over_next, over_printed}

module _ (f : ℕ → ℤ → ℤ → rules.Answer points.Point) where
  -- the rules' step is that of the record that was read
  pub step_of : (s : State) (k : Kind) (b : List ℕ) → step f s k b ≡ stepped f s (parsed k b)
  unfolding step
  step_of no_field begin_field b = refl
  step_of no_field corner b = refl
  step_of no_field close_ring b = refl
  step_of no_field nozzle_query b = refl
  step_of no_field point_to_plane b = refl
  step_of no_field begin_inner b = refl
  step_of (gathering c r) begin_field b = refl
  step_of (gathering c r) corner b = refl
  step_of (gathering c r) close_ring b = refl
  step_of (gathering c r) nozzle_query b = refl
  step_of (gathering c r) point_to_plane b = refl
  step_of (gathering c r) begin_inner b = refl
  step_of (accepted f) begin_field b = refl
  step_of (accepted f) corner b = refl
  step_of (accepted f) close_ring b = refl
  step_of (accepted f) nozzle_query b = refl
  step_of (accepted f) point_to_plane b = refl
  step_of (accepted f) begin_inner b = refl
  step_of (gathering_inner f r) begin_field b = refl
  step_of (gathering_inner f r) corner b = refl
  step_of (gathering_inner f r) close_ring b = refl
  step_of (gathering_inner f r) nozzle_query b = refl
  step_of (gathering_inner f r) point_to_plane b = refl
  step_of (gathering_inner f r) begin_inner b = refl

  -- ---- what the rules read of a record, by its kind's row
  done_by : Row → rules.Answer Step → rules.Answer Read
  done_by k (answered d) = answered (record { taken = k.body_length; done = d })
  done_by k (refused n) = refused n
  done_by k (crossed_at pair) = crossed_at pair

  read_none : (s : State) (byte : ℕ) (rest : List ℕ) → find_kind byte kinds ≡ refused kind_unknown → read f s byte rest ≡ refused kind_unknown
  unfolding read
  read_none s byte rest e = rw e refl

  module _ (s : State) (byte : ℕ) (k : Row) (is : find_kind byte kinds ≡ answered k) where
    read_cut : (rest : List ℕ) → length rest < k.body_length → read f s byte rest ≡ refused body_cut_off
    unfolding read
    read_cut rest h = rw is (rw (lt-ltb (length rest) k.body_length h) refl)

    read_whole : (rest more : List ℕ) → length rest ≡ k.body_length → read f s byte (rest ++ more) ≡ done_by k (stepped f s (parsed k.kind rest))
    unfolding read done_by
    read_whole rest more e =
        rw is (rw (le-ltb (length (rest ++ more)) k.body_length (let l = length-append rest more in omega arith))
        (rw (take_at rest more k.body_length e, step_of s k.kind rest) (go (stepped f s (parsed k.kind rest)))))
      where
        go : (a : rules.Answer Step) → (a >>= λ d. answered (record { taken = k.body_length; done = d })) ≡ done_by k a
        go (answered d) = refl
        go (refused n) = refl
        go (crossed_at pair) = refl

  -- ---- what is printed from a record on, by the machine
  printed_from : Progress → List ℕ → List ℕ
  printed_from p l = (fed f p l).printed ++ finished (fed f p l).next

  stops : (l : List ℕ) → printed_from stopped l ≡ []
  unfolding printed_from finished
  stops l = rw (stopped_printed f l, stopped_next f l) refl

  one_byte : (p : Progress) (b : ℕ) (l : List ℕ) → printed_from p (b ∷ l) ≡ (byte_taken f p b).printed ++ printed_from (byte_taken f p b).next l
  unfolding printed_from fed
  one_byte p b l = append_assoc (byte_taken f p b).printed (fed f (byte_taken f p b).next l).printed (finished (fed f (byte_taken f p b).next l).next)

  -- the bytes of a record that is begun and not whole yet
  data Partial : List ℕ → Type 0 where
    fresh : Partial []
    begun : (byte : ℕ) (rest : List ℕ) (k : Row) → find_kind byte kinds ≡ answered k → length rest < k.body_length → Partial (byte ∷ rest)

  Same : List ℕ → Type 0
  Same l = (s : State) (offset count : ℕ) (held : List ℕ) → Partial held → count ≤ offset → offset + length held + length l < 2 ^ 64
      → printed_from (running s offset count held) l ≡ from f s offset count (held ++ l)

  -- the file ends
  at_end : (s : State) (offset count : ℕ) {held : List ℕ} → Partial held → printed_from (running s offset count held) [] ≡ from f s offset count (held ++ [])
  unfolding printed_from fed finished
  at_end s offset count fresh = sym (from_end f s offset count)
  at_end s offset count (begun byte rest k is h) =
      sym (from_record f s offset count byte (rest ++ [])
      ∙ ap (after f (from f) offset count (rest ++ [])) (read_cut s byte k is (rest ++ []) (rw append-nil h)))

  -- ---- a byte more: the record is of no kind, or its body is cut off still, or it is whole
  module _ (s : State) (offset count byte : ℕ) (rest l : List ℕ) where
    -- what is printed once the bytes byte ∷ rest are held, and l comes after them
    Comes : Type 0
    Comes = (considered f s offset count (byte ∷ rest) (read_at (byte ∷ rest) 0)).printed
        ++ printed_from (considered f s offset count (byte ∷ rest) (read_at (byte ∷ rest) 0)).next l
        ≡ from f s offset count (byte ∷ (rest ++ l))

    comes_by : (r : Reading) → read_at (byte ∷ rest) 0 ≡ r
        → (considered f s offset count (byte ∷ rest) r).printed ++ printed_from (considered f s offset count (byte ∷ rest) r).next l
        ≡ from f s offset count (byte ∷ (rest ++ l)) → Comes
    unfolding Comes
    comes_by r e h =
        subst (λ (r : Reading). (considered f s offset count (byte ∷ rest) r).printed ++ printed_from (considered f s offset count (byte ∷ rest) r).next l
        ≡ from f s offset count (byte ∷ (rest ++ l))) (sym e) h

    no_kind : find_kind byte kinds ≡ refused kind_unknown → Comes
    unfolding considered read_at
    no_kind e =
        comes_by (Err (record { refusal = KindUnknown; at = 0 })) (rw e refl)
        (ap (λ (t : List ℕ). refusal_text kind_unknown offset ++ t) (stops l) ∙ append-nil (refusal_text kind_unknown offset)
        ∙ sym (from_record f s offset count byte (rest ++ l) ∙ ap (after f (from f) offset count (rest ++ l)) (read_none s byte (rest ++ l) e)))

    module _ (k : Row) (e : find_kind byte kinds ≡ answered k) where
      waits : length rest < k.body_length → printed_from (running s offset count (byte ∷ rest)) l ≡ from f s offset count (byte ∷ (rest ++ l)) → Comes
      unfolding considered read_at
      waits h same = comes_by (Err (record { refusal = BodyCutOff; at = 0 })) (rw e (rw (lt-ltb (length rest) k.body_length h, framed) refl)) same

      module _ (h : length rest ≡ k.body_length) (n : count ≤ offset) (o : offset + suc (length rest) + length l < 2 ^ 64) (same : Same l) where
        by_answer : (a : rules.Answer Step)
            → (advanced offset count (0 + 1 + k.body_length) a).printed ++ printed_from (advanced offset count (0 + 1 + k.body_length) a).next l
            ≡ after f (from f) offset count (rest ++ l) (done_by k a)
        unfolding advanced done_by Same
        by_answer (answered d) =
            let eo : (offset + (0 + 1 + k.body_length)) % 2 ^ 64 ≡ offset + 1 + k.body_length = mod-eq_of_lt (omega arith) ∙ omega arith in
            let en : (count + 1) % 2 ^ 64 ≡ count + 1 = mod-eq_of_lt (omega arith) in
            ap (λ (t : List ℕ). d.printed ++ t)
            (ap (λ (a : ℕ). printed_from (running d.state a ((count + 1) % 2 ^ 64) []) l) eo
            ∙ ap (λ (b : ℕ). printed_from (running d.state (offset + 1 + k.body_length) b []) l) en
            ∙ same d.state (offset + 1 + k.body_length) (count + 1) [] fresh (omega arith) (omega arith)
            ∙ ap (λ (t : List ℕ). from f d.state (offset + 1 + k.body_length) (count + 1) t) (sym (drop_at rest l k.body_length h)))
        by_answer (refused r) = ap (λ (t : List ℕ). refusal_text r offset ++ t) (stops l) ∙ append-nil (refusal_text r offset)
        by_answer (crossed_at pair) = ap (λ (t : List ℕ). crossed_text offset pair.low pair.high ++ t) (stops l) ∙ append-nil (crossed_text offset pair.low pair.high)

        whole : Comes
        unfolding considered read_at
        whole =
            comes_by (Ok (Some (record { item = parsed k.kind rest; next = record { at = 0 + 1 + k.body_length } })))
            (rw e (rw (le-ltb (length rest) k.body_length (omega arith), framed) (rw (take_all k.body_length rest (omega arith)) refl)))
            (by_answer (stepped f s (parsed k.kind rest))
            ∙ sym (from_record f s offset count byte (rest ++ l) ∙ ap (after f (from f) offset count (rest ++ l)) (read_whole s byte k e rest l h)))

  -- ---- any bytes
  cases : (s : State) (offset count byte : ℕ) (rest l : List ℕ) {a : rules.Answer Row} → Found a → find_kind byte kinds ≡ a
      → ((k : Row) → a ≡ answered k → length rest ≤ k.body_length) → count ≤ offset → offset + suc (length rest) + length l < 2 ^ 64 → Same l
      → Comes s offset count byte rest l
  unfolding Same
  cases s offset count byte rest l nowhere e fits n o same = no_kind s offset count byte rest l e
  cases s offset count byte rest l (here k short) e fits n o same = go (nat_lt (length rest) k.body_length) refl
    where
      go : (t : Bool) → nat_lt (length rest) k.body_length ≡ t → Comes s offset count byte rest l
      go true h =
          let low = ltb-true (length rest) k.body_length h in
          waits s offset count byte rest l k e low (same s offset count (byte ∷ rest) (begun byte rest k e low) n (omega arith))
      go false h =
          let high = ltb-false (length rest) k.body_length h in
          let low = fits k refl in
          whole s offset count byte rest l k e (omega arith) n o same

  more : (b : ℕ) (l : List ℕ) → Same l → (s : State) (offset count : ℕ) {held : List ℕ} → Partial held → count ≤ offset → offset + length held + suc (length l) < 2 ^ 64
      → printed_from (running s offset count held) (b ∷ l) ≡ from f s offset count (held ++ (b ∷ l))
  unfolding Comes
  more b l same s offset count fresh n o =
      one_byte (running s offset count []) b l
      ∙ cases s offset count b [] l (found b) refl (λ k e. omega arith) n (omega arith) same
  more b l same s offset count (begun byte rest k is h) n o =
      one_byte (running s offset count (byte ∷ rest)) b l
      ∙ cases s offset count byte (rest ++ (b ∷ [])) l (found byte) refl (λ m e. fits m (sym is ∙ e)) n (let e = length-append rest (b ∷ []) in omega arith) same
      ∙ ap (λ (t : List ℕ). from f s offset count (byte ∷ t)) (append_assoc rest (b ∷ []) l)
    where
      fits : (m : Row) → answered k ≡ answered m → length (rest ++ (b ∷ [])) ≤ m.body_length
      fits m e = let g : k ≡ m = cc in let a = length-append rest (b ∷ []) in let c : k.body_length ≡ m.body_length = ap (λ (r : Row). r.body_length) g in omega arith

  all_same : (l : List ℕ) → Same l
  unfolding Same
  all_same [] s offset count held p n o = at_end s offset count p
  all_same (b ∷ l) s offset count held p n o = more b l (all_same l) s offset count p n o

  -- ---- THE WHOLE FILE
  pub whole_file : (file : List ℕ) → length file < 2 ^ 64 → (fed f start file).printed ++ finished (fed f start file).next ≡ job_by f file
  unfolding Same printed_from
  whole_file file h = all_same file no_field 0 0 [] fresh (omega arith) (omega arith) ∙ sym (job_from f file)

  -- however it is cut
  pub chunked : (chunks : List (List ℕ)) → length (joined chunks) < 2 ^ 64
      → (over f start chunks).printed ++ finished (over f start chunks).next ≡ job_by f (joined chunks)
  chunked chunks h =
      ap (λ (t : List ℕ). t ++ finished (over f start chunks).next) (over_printed f start chunks)
      ∙ ap (λ (p : Progress). (fed f start (joined chunks)).printed ++ finished p) (over_next f start chunks)
      ∙ whole_file (joined chunks) h
