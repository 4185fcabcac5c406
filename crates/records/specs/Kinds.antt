-- The code's kinds as the rules' rows, and the kind that a byte stands for: the rules' search for its row, or their refusal. Assumes nothing.
use Rattle.std.specs.Prelude.{◌≡◌, ℕ, Result, IfErr}
use Rattle.rules.specs.JobFile.{begin_field, corner, close_ring, nozzle_query, point_to_plane, Row, kind_row, kinds, find_kind}
use Rattle.terms.specs.declared.refusals.Refusal.{Refusal}
use Rattle.terms.specs.declared.refusals.Refusal.TheVariants.{KindUnknown}
use Rattle.terms.specs.Papers.{paper}
use Rattle.records.specs.declared.kinds.Kind.{Kind}
use Rattle.records.specs.declared.kinds.Kind.TheVariants as kind_case

abbrev pub row_of : Kind → Row
row_of kind_case.Begin = kind_row 1 begin_field 1
row_of kind_case.Corner = kind_row 2 corner 16
row_of kind_case.Close = kind_row 3 close_ring 0
row_of kind_case.Query = kind_row 4 nozzle_query 16
row_of kind_case.Point = kind_row 5 point_to_plane 17

pub record Decodes (byte : ℕ) (r : Result Kind Refusal) : Type 0 where
  pub found : paper row_of r ≡ find_kind byte kinds
  pub unknown : IfErr r (λ refusal. refusal ≡ KindUnknown)
