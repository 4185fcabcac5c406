-- A kind's row, or none: what the rules' search for a kind can give. No body is longer than 17 bytes. Assumes nothing.
use Rattle.std.specs.Prelude.{Bool, true, false, ◌&&◌, List, [], ◌∷◌, ℕ, ◌≤◌, T, eqb, leb}
use Rattle.std.proofs.Common.{leb→le}
use Rattle.rules.specs.Refusals.{Answer, answered, refused, kind_unknown}
use Rattle.rules.specs.JobFile.{Row, kinds, find_kind}
use Rattle.rules.proofs.Laws.Meeting.{T_and}

pub data Found : Answer Row → Type 0 where
  here : (k : Row) → k.body_length ≤ 17 → Found (answered k)
  nowhere : Found (refused kind_unknown)

short : List Row → Bool
short [] = true
short (k ∷ l) = leb k.body_length 17 && short l

among : (byte : ℕ) (l : List Row) → T (short l) → Found (find_kind byte l)
unfolding find_kind short
among byte [] t = nowhere
among byte (k ∷ l) t =
    let u = T_and (leb k.body_length 17) (short l) t in go (eqb byte k.byte) (leb→le k.body_length 17 u.0) (among byte l u.1)
  where
    go : (b : Bool) → k.body_length ≤ 17 → Found (find_kind byte l) → Found (elim b [ true ↦ answered k | false ↦ find_kind byte l ])
    go true h f = here k h
    go false h f = f

pub found : (byte : ℕ) → Found (find_kind byte kinds)
unfolding kinds short
found byte = among byte kinds tt
