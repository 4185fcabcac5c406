-- The bytes of the record that is begun: one more, and how many there can be while its body is cut off. Assumes nothing.
use Rattle.std.proofs.Common.{◌≡◌, ℕ, ◌+◌, ◌≤◌, Bool, true, false, ltb, List, [], ◌∷◌, ◌++◌, length, take, set, refl, ap, ◌∙◌, Some, None, Ok, Err, add-one, arith, take-suc-set, ltb-false, ltb-true, le-ltb}
use Rattle.rules.specs.Refusals.{Answer, body_cut_off, kind_unknown}
use Rattle.rules.specs.JobFile.{Row}
use Rattle.terms.specs.declared.refusals.Refusal.{Refusal}
use Rattle.terms.specs.declared.refusals.Refusal.TheVariants as refusal_case
use Rattle.terms.specs.Numbers.{number_of}
use Rattle.records.specs.declared.Whole.{Whole}
use Rattle.records.specs.declared.Stopped.{Stopped}
use Rattle.records.specs.Laws.Kinds.{Found, here, nowhere, found}
use Rattle.records.specs.Reader.{parsed, Reading, framed, read_at}
use Rattle.job_state.specs.Gathered.{chosen}
use Rattle.job.specs.declared.run.Held.{Held}
use Rattle.job.specs.Machine.{settled, held_of}
use Rattle.job.specs.Runs.{held_with}

pub few : (c : ℕ) → settled c ≤ 17
few c = go (ltb 17 c) refl
  where
    go : (t : Bool) → ltb 17 c ≡ t → chosen t 0 c ≤ 17
    go true e = omega arith
    go false e = ltb-false 17 c e

pub kept : (c : ℕ) → c ≤ 17 → settled c ≡ c
kept c h = rw (le-ltb 17 c h) refl

pub one_more : (c n b : ℕ) (bytes : List ℕ) → length bytes ≡ 18 → n ≡ settled c → take (n + 1) (set bytes n b) ≡ held_of c bytes ++ (b ∷ [])
one_more c n b bytes e h =
    let f = few c in
    ap (λ (k : ℕ). take k (set bytes n b)) (add-one n) ∙ take-suc-set bytes n b (omega arith) ∙ ap (λ (k : ℕ). take k bytes ++ (b ∷ [])) h

pub with_is : (h : Held) (n b : ℕ) → n ≡ settled h.count → ◌≡◌ {A = Held} (record { bytes = set h.bytes n b; count = n + 1 }) (held_with h b)
with_is h n b e = ap (λ (k : ℕ). record { bytes = set h.bytes k b; count = k + 1 }) e

-- ---- a body that is cut off has at most 16 bytes, so its record at most 17
pub other_number : (r : Refusal) → (r ≡ refusal_case.BodyCutOff → ⊥) → number_of r ≡ body_cut_off → ⊥
other_number refusal_case.CodeUnknown n e = omega arith
other_number refusal_case.LatitudeOutside n e = omega arith
other_number refusal_case.LongitudeOutside n e = omega arith
other_number refusal_case.PlaneOutside n e = omega arith
other_number refusal_case.EllipsoidsDiffer n e = omega arith
other_number refusal_case.CornerCount n e = omega arith
other_number refusal_case.CornerNumber n e = omega arith
other_number refusal_case.SpanTooLarge n e = omega arith
other_number (refusal_case.RingCrossed pair) n e = omega arith
other_number refusal_case.KindUnknown n e = omega arith
other_number refusal_case.BodyCutOff n e = n refl
other_number refusal_case.OutOfPlace n e = omega arith
other_number refusal_case.OutputTooShort n e = omega arith
other_number refusal_case.BadlyPlaced n e = omega arith
other_number refusal_case.TooManyRings n e = omega arith

told : Reading → ℕ
told (Ok found) = 0
told (Err why) = number_of why.refusal

cut_short : (rest : List ℕ) {a : Answer Row} {why : Stopped} → Found a → framed 0 rest a ≡ Err why → why.refusal ≡ refusal_case.BodyCutOff → length rest ≤ 16
unfolding told
cut_short rest nowhere e f = let n : kind_unknown ≡ body_cut_off = ap told e ∙ ap number_of f in absurd (omega arith)
cut_short rest {why = why} (here k h) e f =
    go (ltb (length rest) k.body_length) refl (record { item = parsed k.kind (take k.body_length rest); next = record { at = 0 + 1 + k.body_length } }) e
  where
    go : (b : Bool) → ltb (length rest) k.body_length ≡ b → (whole : Whole)
        → ◌≡◌ {A = Reading} (elim b [ true ↦ Err (record { refusal = refusal_case.BodyCutOff; at = 0 }) | false ↦ Ok (Some whole) ]) (Err why) → length rest ≤ 16
    go true e whole g = let l = ltb-true (length rest) k.body_length e in omega arith
    go false e whole g = absurd (let z : ◌≡◌ {A = ℕ} 0 1 = cc in omega arith)

pub cut_held : (l : List ℕ) {why : Stopped} → read_at l 0 ≡ Err why → why.refusal ≡ refusal_case.BodyCutOff → length l ≤ 17
unfolding read_at
cut_held [] e f = omega arith
cut_held (byte ∷ rest) e f = let h = cut_short rest (found byte) e f in omega arith

never_end : (rest : List ℕ) {a : Answer Row} → Found a → framed 0 rest a ≡ Ok None → ⊥
never_end rest nowhere e = let z : ◌≡◌ {A = ℕ} 0 1 = cc in omega arith
never_end rest (here k h) e =
    go (ltb (length rest) k.body_length) (record { item = parsed k.kind (take k.body_length rest); next = record { at = 0 + 1 + k.body_length } }) e
  where
    go : (b : Bool) (whole : Whole)
        → ◌≡◌ {A = Reading} (elim b [ true ↦ Err (record { refusal = refusal_case.BodyCutOff; at = 0 }) | false ↦ Ok (Some whole) ]) (Ok None) → ⊥
    go true whole f = let z : ◌≡◌ {A = ℕ} 0 1 = cc in omega arith
    go false whole f = let z : ◌≡◌ {A = ℕ} 0 1 = cc in omega arith

pub no_end : (h : List ℕ) (b : ℕ) → read_at (h ++ (b ∷ [])) 0 ≡ Ok None → ⊥
unfolding read_at
no_end [] b e = never_end [] (found b) e
no_end (byte ∷ rest) b e = never_end (rest ++ (b ∷ [])) (found byte) e
