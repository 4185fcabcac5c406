-- 01, Numbers to try: "Marked P are proved of the rules themselves, as one list under a single statement". They are, as `numbers` of Laws.Numbers.
-- Definitions only.
use Rattle.std.specs.Prelude.{◌≡◌, true, List, [], ◌∷◌, reverse, ℕ, pos, neg_ℤ}
use Rattle.std.proofs.Math.Option.{some}
use Rattle.rules.specs.Rings.{Corner, First, edges, area2, turning_number, border, inner, outer}
use Rattle.rules.specs.Crossing.{crossed}

abbrev pub at : ℕ → ℕ → Corner
at x y = record { x = pos x; y = pos y }

-- "the square of J", "the bow tie above"
unfoldable pub square : List Corner
square = at 0 0 ∷ at 1000 0 ∷ at 1000 1000 ∷ at 0 1000 ∷ []

unfoldable pub bow : List Corner
bow = at 0 0 ∷ at 1000 1000 ∷ at 1000 0 ∷ at 0 1000 ∷ []

pub record Numbers : Type 0 where
  -- "P1 the square of J, area +2,000,000."
  pub P1 : area2 square ≡ pos 2_000_000
  -- "P2 reversed, -2,000,000."
  pub P2 : area2 (reverse square) ≡ neg_ℤ (pos 2_000_000)
  -- "P3 the bow tie above, area 0."
  pub P3 : area2 bow ≡ pos 0
  -- "P4 its turning number at (900,500): -1."
  pub P4 : turning_number bow (at 900 500) ≡ neg_ℤ (pos 1)
  -- "P5 at (100,500): +1."
  pub P5 : turning_number bow (at 100 500) ≡ pos 1
  -- "P6 at (500,100), P7 at (500,900): 0."
  pub P6 : turning_number bow (at 500 100) ≡ pos 0
  pub P7 : turning_number bow (at 500 900) ≡ pos 0
  -- "P8 the square at (500,500): +1."
  pub P8 : turning_number square (at 500 500) ≡ pos 1
  -- "P9 at (0,500): +1, border."
  pub P9 : (turning_number square (at 0 500) ≡ pos 1) × (border (edges square) (at 0 500) ≡ true)
  -- "P10 at (1000,500): 0, border."
  pub P10 : (turning_number square (at 1000 500) ≡ pos 0) × (border (edges square) (at 1000 500) ≡ true)
  -- "P11 the square cut from corner 0 to 2: 1,000,000 each."
  pub P11 : (area2 (inner 0 2 square) ≡ pos 1_000_000) × (area2 (outer 0 2 square) ≡ pos 1_000_000)
  -- "P12 bow tie: first pair 0 and 2.": by the rule, and by the test
  pub P12 : First bow (record { low = 0; high = 2 }) × (crossed bow ≡ some (record { low = 0; high = 2 }))
