-- What stands at a place of a job file's bytes, by the rules' own kinds, lengths and numbers: a record with the place after it, refusal 11 or 12 with the
-- place of the kind byte, or nothing. What a record does to a job is in `job_state`. Assumes nothing.
use Rattle.std.specs.Prelude.{true, false, List, [], ◌∷◌, ℕ, ◌+◌, ltb, length, take, drop, Option, Some, None, Result, Ok, Err}
use Rattle.rules.specs.Refusals.{Answer, answered, refused, crossed_at}
use Rattle.rules.specs.JobFile.{Kind, begin_field, corner, close_ring, nozzle_query, point_to_plane, begin_inner, Row, kinds, find_kind, code_of, number_at}
use Rattle.terms.specs.declared.refusals.Refusal.TheVariants.{KindUnknown, BodyCutOff}
use Rattle.records.specs.declared.Record as code
use Rattle.records.specs.declared.Record.TheVariants as case
use Rattle.records.specs.declared.Whole.{Whole}
use Rattle.records.specs.declared.Stopped.{Stopped}

-- ---- the paper's values of a record
abbrev pub parsed : Kind → List ℕ → code.Record
parsed begin_field b = case.Begin (code_of b)
parsed corner b = case.Corner (number_at 0 b) (number_at 8 b)
parsed close_ring b = case.Close
parsed nozzle_query b = case.Query (number_at 0 b) (number_at 8 b)
parsed point_to_plane b = case.Point (code_of b) (number_at 1 b) (number_at 9 b)
parsed begin_inner b = case.Inner

-- ---- a record at a place: a record with the cursor past it, nothing left, or a refusal with the place of the kind byte
abbrev pub Reading : Type 0
Reading = Result (Option Whole) Stopped

-- "In a job: 11, 12": the kind, then the body's length. The search for a kind refuses with 11 alone (Found of Laws.Kinds)
abbrev pub framed : ℕ → List ℕ → Answer Row → Reading
framed at rest (answered k) =
    elim (ltb (length rest) k.body_length) [
      | true ↦ Err (record { refusal = BodyCutOff; at = at })
      | false ↦ Ok (Some (record { item = parsed k.kind (take k.body_length rest); next = record { at = at + 1 + k.body_length } }))
    ]
framed at rest (refused n) = Err (record { refusal = KindUnknown; at = at })
framed at rest (crossed_at pair) = Err (record { refusal = KindUnknown; at = at })

abbrev pub read_first : ℕ → List ℕ → Reading
read_first at [] = Ok None
read_first at (byte ∷ rest) = framed at rest (find_kind byte kinds)

unfoldable pub read_at : List ℕ → ℕ → Reading
read_at file at = read_first at (drop at file)
