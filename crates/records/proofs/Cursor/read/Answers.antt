-- What stands at the cursor, by the kind that was found.
use Rattle.records.proofs.Laws.{ends, unknown_kind, cut_off, whole_record}
use Rattle.records.proofs.Cursor.read.Goals as goal

pub returns-then-file-at : goal.returns-then-file-at
returns-then-file-at c = ends _ _ c.if-file-at.true

pub returns-in-Err : goal.returns-in-Err
returns-in-Err c = unknown_kind _ _ c.if-file-at.false c.in-Err.ensures

pub returns-then-file-from : goal.returns-then-file-from
returns-then-file-from c = cut_off _ _ _ c.if-file-at.false c.in-Ok.ensures c.body_length-length.ensures c.if-file-from.true

pub returns : goal.returns
returns c = whole_record _ _ _ c.if-file-at.false c.in-Ok.ensures _ c.body_length-length.ensures c.if-file-from.false c.parse.ensures
