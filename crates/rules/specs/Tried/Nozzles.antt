-- 01, Rings and Traps: nozzles, "border if on an edge; otherwise open if the turning number isn't 0; otherwise shut. Refused for a crossed ring." Assumes nothing.
use Rattle.std.specs.Prelude.{◌≡◌, List, [], ◌∷◌, reverse, ℤ, pos, neg_ℤ}
use Rattle.rules.specs.Refusals.{Answer, answered, refused}
use Rattle.rules.specs.RingAnswers as N
use Rattle.rules.specs.Rings.{Corner}
use Rattle.rules.specs.Numbers.{at, square, bow}

abbrev flat : List Corner → List ℤ
flat [] = []
flat (c ∷ r) = c.x ∷ c.y ∷ flat r

pub record Nozzles : Type 0 where
  pub inside : N.nozzle_answer (flat square) (at 500 500) ≡ answered N.open_nozzle
  pub on_edge : N.nozzle_answer (flat square) (at 0 500) ≡ answered N.border_nozzle
  pub outside : N.nozzle_answer (flat square) (at 1500 500) ≡ answered N.shut_nozzle
  -- "Taking only +1 as inside: an anticlockwise field stays shut."
  pub anticlockwise : N.nozzle_answer (flat (reverse square)) (at 500 500) ≡ answered N.open_nozzle
  -- "Refused for a crossed ring. Turning number and area answer for crossed rings too."
  pub crossed : N.nozzle_answer (flat bow) (at 900 500) ≡ Answer.crossed_at (record { ring = 0; low = 0; high = 2; looked_at = 2 })
  pub crossed_turning : N.turning_answer (flat bow) (at 900 500) ≡ answered (neg_ℤ (pos 1))
  pub crossed_area : N.area_answer (flat bow) ≡ answered (pos 0)
  -- "and D > 0", "and D < 0": a point on an edge gets nothing from that edge
  pub on_rising_edge : N.turning_answer (flat square) (at 500 0) ≡ answered (pos 0)
  pub on_falling_edge : N.turning_answer (flat square) (at 500 1000) ≡ answered (pos 1)
  -- "Forgetting that the last edge neighbours the first."
  pub last_and_first : N.crossing_answer (flat square) ≡ answered 6
  -- "an edge of no length also makes a pair with the edge after it": edge 0 with edge 1
  pub no_length : N.crossing_answer (flat (at 0 0 ∷ at 0 0 ∷ at 5 0 ∷ at 0 5 ∷ [])) ≡ Answer.crossed_at (record { ring = 0; low = 0; high = 1; looked_at = 1 })
  -- "a corner list of odd length"
  pub odd_list : N.area_answer (pos 0 ∷ flat square) ≡ refused 6
