-- What a line says so far, what a longer line says, and what a buffer holds after a line was copied into it. Assumes nothing.
use Rattle.std.specs.Prelude.{◌≡◌, List, ◌++◌, ℕ, ◌+◌, length, take, drop}
use Rattle.lines.specs.declared.Line.{Line}

abbrev pub said : Line → List ℕ
said l = take l.count l.bytes

-- the line r is the line l with the text after it
pub record Longer (l : Line) (text : List ℕ) (r : Line) : Type 0 where
  pub counted : r.count ≡ l.count + length text
  pub says : said r ≡ said l ++ text

-- a text laid over a buffer from a place on; the places before and past it "keep what they held"
abbrev pub pasted : ℕ → List ℕ → List ℕ → List ℕ
pasted at text out = take at out ++ text ++ drop (at + length text) out
