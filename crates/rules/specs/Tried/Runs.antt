-- 01, Numbers to try, "Run:", and 02 (ii), of the definitions themselves, with the refusals' order and the rounding. Assumes nothing.
use Rattle.std.specs.Prelude.{◌≡◌, List, [], ◌∷◌, map, ℕ, ◌+◌, ◌*◌, ◌-◌, ◌^◌, ℤ, pos, neg_ℤ, replicate}
use Rattle.rules.specs.Units.{◌°◌'◌''}
use Rattle.rules.specs.Refusals.{Answer, answered, refused}
use Rattle.rules.specs.Systems.{◌/10^◌, table}
use Rattle.rules.specs.Scaled.{one, sqrt, quotient}
use Rattle.rules.specs.Points as P
use Rattle.rules.specs.RingAnswers as N
use Rattle.rules.specs.Rounding.{nearest}
use Rattle.rules.specs.Polynomial.{double_unit, exact}
use Rattle.rules.specs.Rings.{origin}
use Rattle.rules.specs.Conversion.{held, conversion}
use Rattle.rules.specs.JobFile.{cornered}
use Rattle.rules.specs.Tried.Kinds.{taken, east}

-- three corners about a number of X
abbrev far : ℕ → List ℤ
far X = pos X ∷ pos 0 ∷ pos X ∷ pos 5 ∷ pos (X - 5) ∷ pos 0 ∷ []

pub record Runs : Type 0 where
  -- "B of 48° taken, one tick less refused 2"
  pub north_48 : taken (P.forward 1 (pos (48 ° 0 ' 0 '')) (pos (19 ° 0 ' 0 ''))) ≡ answered 0
  pub below_48 : P.forward 1 (pos 172_799_999_999) (pos (19 ° 0 ' 0 '')) ≡ refused 2
  -- 2: "B outside 48° to 56°, ends allowed"
  pub north_56 : taken (P.forward 1 (pos (56 ° 0 ' 0 '')) (pos (19 ° 0 ' 0 ''))) ≡ answered 0
  pub above_56 : P.forward 1 (pos 201_600_000_001) (pos (19 ° 0 ' 0 '')) ≡ refused 2
  -- "code 2 with L 16°30' taken, one tick more refused 3"
  pub east_16_30 : taken (P.forward 2 (pos (50 ° 0 ' 0 '')) (pos (16 ° 30 ' 0 ''))) ≡ answered 0
  pub past_16_30 : P.forward 2 (pos (50 ° 0 ' 0 '')) (pos (16 ° 30 ' 0 '' + 1)) ≡ refused 3
  -- "2 corners refused 6, 3 taken"
  pub two_corners : N.area_answer (pos 0 ∷ pos 0 ∷ pos 5 ∷ pos 0 ∷ []) ≡ refused 6
  pub three_corners : N.area_answer (pos 0 ∷ pos 0 ∷ pos 5 ∷ pos 0 ∷ pos 0 ∷ pos 5 ∷ []) ≡ answered (pos 25)
  -- "span 20,000,000 taken, 20,000,001 refused 8"
  pub span_taken : N.crossing_answer (pos 0 ∷ pos 0 ∷ pos 20_000_000 ∷ pos 0 ∷ pos 0 ∷ pos 5 ∷ []) ≡ answered 3
  pub span_refused : N.crossing_answer (pos 0 ∷ pos 0 ∷ pos 20_000_001 ∷ pos 0 ∷ pos 0 ∷ pos 5 ∷ []) ≡ refused 8
  pub span_of_Y_taken : taken (N.area_answer (pos 0 ∷ pos 0 ∷ pos 0 ∷ pos 20_000_000 ∷ pos 5 ∷ pos 0 ∷ [])) ≡ answered 0
  pub span_of_Y_refused : N.area_answer (pos 0 ∷ pos 0 ∷ pos 0 ∷ pos 20_000_001 ∷ pos 5 ∷ pos 0 ∷ []) ≡ refused 8
  -- 6: "corner count outside 3 to 1,024", of a ring that is handed over whole
  pub corners_1024 : taken (N.area_answer (replicate 2048 (pos 0))) ≡ answered 0
  pub corners_1025 : N.area_answer (replicate 2050 (pos 0)) ≡ refused 6
  -- 7: "a corner number outside ±10^10"
  pub far_north_taken : taken (N.area_answer (far 10_000_000_000)) ≡ answered 0
  pub far_north_refused : N.area_answer (far 10_000_000_001) ≡ refused 7
  pub far_south_taken : taken (N.area_answer (map neg_ℤ (far 10_000_000_000))) ≡ answered 0
  pub far_south_refused : N.area_answer (map neg_ℤ (far 10_000_000_001)) ≡ refused 7
  -- "For rings: 6, 7, 8, 9": a ring that is too far and too large
  pub seven_before_eight : N.area_answer (pos 10_000_000_001 ∷ pos 0 ∷ pos 0 ∷ pos 0 ∷ pos 0 ∷ pos 5 ∷ []) ≡ refused 7
  -- 5: "the two codes have different ellipsoids"
  pub ellipsoids : P.plane 7 8 (pos 0) (pos 0) ≡ refused 5
  -- "Order for forward: 1, 2, 3, 10.", 10 withdrawn
  pub first_1 : P.forward 15 (pos 0) (pos 0) ≡ refused 1
  pub then_2 : P.forward 2 (pos 0) (pos 0) ≡ refused 2
  -- "the 1,025th corner is 6 at once, before 7"
  pub corner_1025 : cornered 1 (replicate 1024 origin) (pos 20_000_000_000) (pos 0) ≡ refused 6
  pub corner_1024 : cornered 1 (replicate 1023 origin) (pos 20_000_000_000) (pos 0) ≡ refused 7
  -- for totality, where no point that is taken comes to
  pub negative_root : sqrt (neg_ℤ one) ≡ pos 0
  pub quotient_by_0 : quotient one (pos 0) ≡ pos 0
  -- "rounded to the nearest unit, ties to even"
  pub half : nearest (5 /10^ 1) ≡ pos 0
  pub half_of_3 : nearest (15 /10^ 1) ≡ pos 2
  pub minus_half_of_3 : nearest (neg_ℤ (15 /10^ 1)) ≡ neg_ℤ (pos 2)
  -- "Output places past a converted ring keep what they held."; on a refusal "output is untouched"
  pub places_kept : held (answered (pos 1 ∷ pos 2 ∷ [])) (pos 7 ∷ pos 8 ∷ pos 9 ∷ []) ≡ pos 1 ∷ pos 2 ∷ pos 9 ∷ []
  pub too_short : conversion 2 3 (pos 0 ∷ pos 0 ∷ pos 5 ∷ pos 0 ∷ pos 0 ∷ pos 5 ∷ []) (pos 7 ∷ []) ≡ refused 14
  -- the exact polynomial: 1 + 2·z + 3·z² at 1 is 6, and at i is -2 + 2·i
  pub exact_1 : exact (pos 1 ∷ pos 2 ∷ pos 3 ∷ []) (record { first = pos double_unit; second = pos 0 }) ≡ record { first = pos (6 * double_unit ^ 2); second = pos 0 }
  pub exact_i : exact (pos 1 ∷ pos 2 ∷ pos 3 ∷ []) (record { first = pos 0; second = pos double_unit })
      ≡ record { first = neg_ℤ (pos (2 * double_unit ^ 2)); second = pos (2 * double_unit ^ 2) }
  -- "d = 0 gives Y = y0 exactly" (of every point: Laws.Meridian)
  pub d_0 : east (P.forward 14 (pos (52 ° 0 ' 0 '')) (pos (18 ° 57 ' 30 ''))) ≡ pos 237_000_000
  -- 02 (ii): "999923000 for code 2, 999300000 for code 1", and the others (that every point of a meridian gets it: projection_worked, Laws.Meridian)
  pub m0_answers : map P.m0_answered table
      ≡ pos 999_300_000
      ∷ pos 999_923_000 ∷ pos 999_923_000 ∷ pos 999_923_000 ∷ pos 999_923_000
      ∷ pos 999_600_000 ∷ pos 999_600_000
      ∷ pos 1_000_000_000 ∷ pos 1_000_000_000 ∷ pos 1_000_000_000 ∷ pos 1_000_000_000 ∷ pos 1_000_000_000 ∷ pos 1_000_000_000
      ∷ pos 999_983_000
      ∷ []
