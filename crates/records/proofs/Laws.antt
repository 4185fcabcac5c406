-- The numbers of a body as the code reads them, a byte as the rules' search for a kind finds it, and a record at a place. Assumes nothing.
use Rattle.std.proofs.Common.{◌≡◌, refl, sym, ap, ◌∙◌, ℕ, suc, ltb, to_z, of_z, Bool, true, false, ltb-true, ltb-false, take_all, ◌+◌, ◌*◌, ◌-◌, ◌<◌, ◌≤◌, ◌^◌, ℤ, List, [], ◌∷◌, length, take, drop, get_or, arith, add-one, drop-cons, Some, None, Ok, Err, length-drop, length-take-le, Fits, w8}
use Rattle.std.proofs.lemmas.List.{get_or-take, get_or-drop}
use Rattle.std.proofs.Math.ListN.{drop_of_length-le}
use Rattle.std.specs.Int.{w64, from_le_bytes, cast_signed}
use Rattle.std.proofs.Math.Facts.{to_z_pos, to_z-neg, to_z-of_z}
use lib.Signed.{mag}
use borrow.Author.Tests.{lt-ltb, le-ltb, ne_eqb}
use Rattle.rules.specs.Refusals.{answered}
use Rattle.rules.specs.JobFile.{signed, little_endian, number_at, code_of, Row, kind_row, begin_field, corner, close_ring, nozzle_query, point_to_plane, kinds, find_kind}
use Rattle.rules.proofs.Laws.Job.{signed_low}
use Rattle.terms.specs.declared.refusals.Refusal.{Refusal}
use Rattle.terms.specs.declared.refusals.Refusal.TheVariants.{KindUnknown, BodyCutOff}
use Rattle.records.specs.declared.kinds.Kind.{Kind}
use Rattle.records.specs.declared.kinds.Kind.TheVariants as kind_case
use Rattle.records.specs.declared.Record as code
use Rattle.records.specs.declared.Record.TheVariants as case
use Rattle.records.specs.Kinds.{row_of, Decodes}
use Rattle.records.specs.Reader.{parsed, framed, read_at}

-- ---- eight bytes, the lowest first, in two's complement
pub signed_is : (n : ℕ) → n < 2 ^ 64 → cast_signed w64 n ≡ signed n
unfolding signed
signed_is n h = go (ltb n (2 ^ 63)) refl
  where
    go : (b : Bool) → ltb n (2 ^ 63) ≡ b → cast_signed w64 n ≡ signed n
    go true e = let low : n < 2 ^ 63 = ltb-true n (2 ^ 63) e in to_z_pos w64 low ∙ sym (signed_low n low)
    go false e = let high : 2 ^ 63 ≤ n = ltb-false n (2 ^ 63) e in let k : 2 ^ 64 - suc (2 ^ 64 - 1 - n) ≡ n = omega arith in ap (cast_signed w64) (sym k) ∙ to_z-neg w64 (2 ^ 64 - 1 - n) (omega arith) ∙ rw (e, signed) refl

some : (n i j : ℕ) (b : List ℕ) → i < length b → suc i ≡ j → little_endian (take (suc n) (drop i b)) ≡ get_or b i 0 + 256 * little_endian (take n (drop j b))
unfolding little_endian
some n i j b h e = ap (λ (l : List ℕ). little_endian (take (suc n) l)) (drop-cons b i 0 h) ∙ ap (λ (k : ℕ). get_or b i 0 + 256 * little_endian (take n (drop k b))) e

none : (i : ℕ) (b : List ℕ) → little_endian (take 0 (drop i b)) ≡ 0
unfolding little_endian
none i b = refl

pub eight : (b : List ℕ) → length b ≡ 8 → from_le_bytes w64 b ≡ little_endian b
eight b h =
    omega (
      arith,
      some 7 0 1 b (omega arith) refl,
      some 6 1 2 b (omega arith) refl,
      some 5 2 3 b (omega arith) refl,
      some 4 3 4 b (omega arith) refl,
      some 3 4 5 b (omega arith) refl,
      some 2 5 6 b (omega arith) refl,
      some 1 6 7 b (omega arith) refl,
      some 0 7 8 b (omega arith) refl,
      none 8 b,
      ap little_endian (take_all 8 b (omega arith)),
    )

pub back : {z y : ℤ} → mag z < 2 ^ 63 → z ≡ y → to_z w64 (of_z w64 z) ≡ y
back h e = to_z-of_z {w = w64} (record { sfits = h }) ∙ e

same_part : (i k : ℕ) (b : List ℕ) → take (i + k - i) (drop i b) ≡ take k (drop i b)
same_part i k b = let e : i + k - i ≡ k = omega arith in ap (λ (n : ℕ). take n (drop i b)) e

module _ (i : ℕ) (b bs : List ℕ) (within : i + 8 ≤ length b) (e : bs ≡ take (i + 8 - i) (drop i b)) where
  long : length bs ≡ 8
  long = let d = length-drop i b in ap length (e ∙ same_part i 8 b) ∙ length-take-le 8 (drop i b) (omega arith)

  module _ (bytes : (k : ℕ) → Fits w8 (get_or b k 0)) where
    byte : (k : ℕ) → k < 8 → get_or bs k 0 < 256
    byte k h = rw (e ∙ same_part i 8 b, get_or-take 8 (drop i b) k 0 h, get_or-drop) (bytes (i + k)).fits

    fits : from_le_bytes w64 bs < 2 ^ 64
    fits =
        omega (
          arith,
          byte 0 (omega arith),
          byte 1 (omega arith),
          byte 2 (omega arith),
          byte 3 (omega arith),
          byte 4 (omega arith),
          byte 5 (omega arith),
          byte 6 (omega arith),
          byte 7 (omega arith),
        )

    pub number_is : {z : ℤ} → mag z < 2 ^ 63 → z ≡ cast_signed w64 (from_le_bytes w64 bs) → to_z w64 (of_z w64 z) ≡ number_at i b
    unfolding number_at
    number_is h f = back h (f ∙ signed_is (from_le_bytes w64 bs) fits ∙ ap signed (eight bs long ∙ ap little_endian (e ∙ same_part i 8 b)))

code_is : (b : List ℕ) → 0 < length b → get_or b 0 0 ≡ code_of b
unfolding code_of little_endian
code_is (x ∷ b) l = omega arith
code_is [] l = absurd (omega arith)

module _ {kind : Kind} (b : List ℕ) where
  pub begins : kind ≡ kind_case.Begin → length b ≡ (row_of kind).body_length → case.Begin (get_or b 0 0) ≡ parsed (row_of kind).kind b
  begins e l = let long : length b ≡ 1 = rw e at l in rw e (ap case.Begin (code_is b (omega arith)))

  pub points : {x y : ℤ} → kind ≡ kind_case.Point → length b ≡ (row_of kind).body_length → x ≡ number_at 1 b → y ≡ number_at 9 b
      → case.Point (get_or b 0 0) x y ≡ parsed (row_of kind).kind b
  points e l f g =
      let long : length b ≡ 17 = rw e at l in
      rw (e, f, g) (ap (λ (c : ℕ). case.Point c (number_at 1 b) (number_at 9 b)) (code_is b (omega arith)))

-- ---- the rows, by a kind's byte
past : (byte : ℕ) (k : Row) (ks : List Row) → (byte ≡ k.byte → ⊥) → find_kind byte (k ∷ ks) ≡ find_kind byte ks
unfolding find_kind
past byte k ks n = rw (ne_eqb byte k.byte n, find_kind)

pub known_byte : (kind : Kind) {byte : ℕ} → byte ≡ (row_of kind).byte → Decodes byte (Ok kind)
unfolding find_kind kinds
known_byte kind_case.Begin e = record { found = rw e refl; unknown = tt }
known_byte kind_case.Corner e = record { found = rw e refl; unknown = tt }
known_byte kind_case.Close e = record { found = rw e refl; unknown = tt }
known_byte kind_case.Query e = record { found = rw e refl; unknown = tt }
known_byte kind_case.Point e = record { found = rw e refl; unknown = tt }

pub no_kind : (k : ℕ) → (k ≡ 1 → ⊥) → (k ≡ 2 → ⊥) → (k ≡ 3 → ⊥) → (k ≡ 4 → ⊥) → (k ≡ 5 → ⊥) → Decodes k (Err KindUnknown)
unfolding find_kind kinds
no_kind k a b c d e = record {
  found = sym (
      past k (kind_row 1 begin_field 1) (drop 1 kinds) a ∙ past k (kind_row 2 corner 16) (drop 2 kinds) b ∙ past k (kind_row 3 close_ring 0) (drop 3 kinds) c
      ∙ past k (kind_row 4 nozzle_query 16) (drop 4 kinds) d ∙ past k (kind_row 5 point_to_plane 17) [] e
      );
  unknown = refl;
}

-- ---- a record at a place
module _ (file : List ℕ) (at : ℕ) where
  pub ends : length file ≤ at → Ok None ≡ read_at file at
  unfolding read_at
  ends h = rw (drop_of_length-le file h) refl

  pub first : at < length file → read_at file at ≡ framed at (drop (at + 1) file) (find_kind (get_or file at 0) kinds)
  unfolding read_at
  first h = rw (drop-cons file at 0 h, ← add-one) refl

  module _ (kind : Kind) (inside : at < length file) (found : Decodes (get_or file at 0) (Ok kind)) where
    known : read_at file at ≡ framed at (drop (at + 1) file) (answered (row_of kind))
    known = first inside ∙ ap (framed at (drop (at + 1) file)) (sym found.found)

    pub cut_off : {m : ℕ} → m ≡ (row_of kind).body_length → length file - (at + 1) < m → Err (record { refusal = BodyCutOff; at = at }) ≡ read_at file at
    cut_off e l = sym (known ∙ rw (lt-ltb (length (drop (at + 1) file)) (row_of kind).body_length (rw (length-drop, ← e) l), framed) refl)

    pub whole_record : (m : ℕ) {item : code.Record} → m ≡ (row_of kind).body_length → m ≤ length file - (at + 1)
        → item ≡ parsed (row_of kind).kind (take (at + 1 + m - (at + 1)) (drop (at + 1) file))
        → Ok (Some (record { item = item; next = record { at = at + 1 + m } })) ≡ read_at file at
    whole_record m e l f =
        rw (f, just (at + 1) m, e) (sym (known ∙ rw (le-ltb (length (drop (at + 1) file)) (row_of kind).body_length (rw (length-drop, ← e) l), framed) refl))
      where
        just : (k n : ℕ) → k + n - k ≡ n
        just k n = omega arith

  pub unknown_kind : {refusal : Refusal} → at < length file → Decodes (get_or file at 0) (Err refusal) → Err (record { refusal = refusal; at = at }) ≡ read_at file at
  unknown_kind inside found =
      let e = found.unknown in
      rw e (sym (first inside ∙ ap (framed at (drop (at + 1) file)) (sym (rw e at found.found))))
