-- Bytes read as numbers of 8 bytes, the lowest byte first.
use Rattle.std.specs.Prelude.{ℕ, ℤ, List, ◌*◌, ◌/◌, nat_le, if◌then◌else◌, length, drop, take}
use Rattle.std.specs.Int.{w64, from_le_bytes, cast_signed}

-- the word after so many others, or 0 where the bytes end before it does
abbrev pub word_of : List ℕ → ℕ → ℕ
word_of bytes before = if nat_le (length bytes / 8) before then 0 else from_le_bytes w64 (take 8 (drop (before * 8) bytes))

-- the same as a signed number, in two's complement
abbrev pub number_of : List ℕ → ℕ → ℤ
number_of bytes before = cast_signed w64 (word_of bytes before)
