-- The lines that a job prints: of an answer, with the record's offset in a refusal, and what a line says. Assumes nothing.
use Rattle.std.specs.Prelude.{◌≡◌, List, ◌++◌, ℕ, ◌≤◌}
use Rattle.rules.specs.Refusals.{ring_crossed}
use Rattle.rules.specs.JobFile.{text, decimal, refusal_line}
use Rattle.terms.specs.declared.refusals.Refusal.TheVariants.{RingCrossed}
use Rattle.terms.specs.Numbers.{number_of}
use Rattle.lines.specs.declared.Line.{Line}
use Rattle.lines.specs.Said.{said}
use Rattle.job_state.specs.declared.state.Answer as answers
use Rattle.job_state.specs.declared.state.Answer.TheVariants as case
use Rattle.job_state.specs.States.{line}

abbrev pub refusal_text : ℕ → ℕ → List ℕ
refusal_text n offset = refusal_line n offset ++ text "\n"

abbrev pub crossed_text : ℕ → ℕ → ℕ → List ℕ
crossed_text offset i j = refusal_line ring_crossed offset ++ text " edges " ++ decimal i ++ text " " ++ decimal j ++ text "\n"

-- what an answer prints, of a record whose kind byte is at the offset
abbrev pub printed_at : answers.Answer → ℕ → List ℕ
printed_at case.Silent offset = line case.Silent
printed_at (case.Field c n a) offset = line (case.Field c n a)
printed_at (case.Inner k n a) offset = line (case.Inner k n a)
printed_at (case.Nozzle X Y p) offset = line (case.Nozzle X Y p)
printed_at (case.Point X Y s c) offset = line (case.Point X Y s c)
printed_at (case.Refused (RingCrossed pair)) offset = crossed_text offset pair.low pair.high
printed_at (case.Refused refusal) offset = refusal_text (number_of refusal) offset

-- a line of at most 128 bytes, and its text
pub record Says (words : List ℕ) (l : Line) : Type 0 where
  pub short : l.count ≤ 128
  pub says : said l ≡ words
