-- 01, "Refusal numbers and their order": the two ends of each code's half-width (3), and the four sides of its box (4), taken, and refused one tick or one millimetre
-- beyond. Made by reference/tried.py. Assumes nothing.
use Rattle.std.specs.Prelude.{◌≡◌, ℕ, ℤ, pos, neg_ℤ, ◌+ℤ◌, ◌-ℤ◌}
use Rattle.rules.specs.Units.{◌°◌'◌''}
use Rattle.rules.specs.Refusals.{Answer, answered, refused, longitude_outside, plane_outside}
use Rattle.rules.specs.Points as P
use Rattle.rules.specs.Tried.Kinds.{taken}

-- any latitude
abbrev B : ℤ
B = pos (52 ° 0 ' 0 '')

-- "size of L - L0 above the half-width, exact"
pub record Ends (code : ℕ) (west east : ℤ) : Type 0 where
  pub west_taken : taken (P.forward code B west) ≡ answered 0
  pub east_taken : taken (P.forward code B east) ≡ answered 0
  pub west_beyond : P.forward code B (west -ℤ pos 1) ≡ refused longitude_outside
  pub east_beyond : P.forward code B (east +ℤ pos 1) ≡ refused longitude_outside

-- "outside 5,300,000 to 6,250,000 m or size of Y above 420,000 m, exact after offset and m0": two opposite corners pass, and nothing beyond a side
pub record Box (code : ℕ) (south north west east : ℤ) : Type 0 where
  pub south_west_taken : taken (P.inverse_checks code south west) ≡ answered 0
  pub north_east_taken : taken (P.inverse_checks code north east) ≡ answered 0
  pub south_beyond : P.inverse code (south -ℤ pos 1) west ≡ refused plane_outside
  pub north_beyond : P.inverse code (north +ℤ pos 1) east ≡ refused plane_outside
  pub west_beyond : P.inverse code south (west -ℤ pos 1) ≡ refused plane_outside
  pub east_beyond : P.inverse code north (east +ℤ pos 1) ≡ refused plane_outside

pub record HalfWidths : Type 0 where
  pub half_width_1 : Ends 1 (pos (13 ° 30 ' 0 '')) (pos (24 ° 30 ' 0 ''))
  pub half_width_2 : Ends 2 (pos (13 ° 30 ' 0 '')) (pos (16 ° 30 ' 0 ''))
  pub half_width_3 : Ends 3 (pos (16 ° 30 ' 0 '')) (pos (19 ° 30 ' 0 ''))
  pub half_width_4 : Ends 4 (pos (19 ° 30 ' 0 '')) (pos (22 ° 30 ' 0 ''))
  pub half_width_5 : Ends 5 (pos (22 ° 30 ' 0 '')) (pos (25 ° 30 ' 0 ''))
  pub half_width_6 : Ends 6 (pos (12 ° 0 ' 0 '')) (pos (18 ° 0 ' 0 ''))
  pub half_width_7 : Ends 7 (pos (18 ° 0 ' 0 '')) (pos (24 ° 0 ' 0 ''))
  pub half_width_8 : Ends 8 (pos (12 ° 0 ' 0 '')) (pos (18 ° 0 ' 0 ''))
  pub half_width_9 : Ends 9 (pos (18 ° 0 ' 0 '')) (pos (24 ° 0 ' 0 ''))
  pub half_width_10 : Ends 10 (pos (13 ° 30 ' 0 '')) (pos (16 ° 30 ' 0 ''))
  pub half_width_11 : Ends 11 (pos (16 ° 30 ' 0 '')) (pos (19 ° 30 ' 0 ''))
  pub half_width_12 : Ends 12 (pos (19 ° 30 ' 0 '')) (pos (22 ° 30 ' 0 ''))
  pub half_width_13 : Ends 13 (pos (22 ° 30 ' 0 '')) (pos (25 ° 30 ' 0 ''))
  pub half_width_14 : Ends 14 (pos (16 ° 57 ' 30 '')) (pos (20 ° 57 ' 30 ''))

pub record Boxes : Type 0 where
  pub box_1 : Box 1 (neg_ℤ (pos 3710000)) (pos 945625000) (pos 80294000) (pos 919706000)
  pub box_2 : Box 2 (pos 5299591900) (pos 6249518750) (pos 5080032340) (pos 5919967660)
  pub box_3 : Box 3 (pos 5299591900) (pos 6249518750) (pos 6080032340) (pos 6919967660)
  pub box_4 : Box 4 (pos 5299591900) (pos 6249518750) (pos 7080032340) (pos 7919967660)
  pub box_5 : Box 5 (pos 5299591900) (pos 6249518750) (pos 8080032340) (pos 8919967660)
  pub box_6 : Box 6 (pos 5297880000) (pos 6247500000) (pos 80168000) (pos 919832000)
  pub box_7 : Box 7 (pos 5297880000) (pos 6247500000) (pos 80168000) (pos 919832000)
  pub box_8 : Box 8 (pos 5300000000) (pos 6250000000) (pos 3080000000) (pos 3920000000)
  pub box_9 : Box 9 (pos 5300000000) (pos 6250000000) (pos 4080000000) (pos 4920000000)
  pub box_10 : Box 10 (pos 5300000000) (pos 6250000000) (pos 5080000000) (pos 5920000000)
  pub box_11 : Box 11 (pos 5300000000) (pos 6250000000) (pos 6080000000) (pos 6920000000)
  pub box_12 : Box 12 (pos 5300000000) (pos 6250000000) (pos 7080000000) (pos 7920000000)
  pub box_13 : Box 13 (pos 5300000000) (pos 6250000000) (pos 8080000000) (pos 8920000000)
  pub box_14 : Box 14 (pos 599909900) (pos 1549893750) (neg_ℤ (pos 182992860)) (pos 656992860)
