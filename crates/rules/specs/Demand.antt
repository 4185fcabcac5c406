-- Demand 3 on the rules of rings, as one statement: the cut, the reversal, and the line that meets no edge. 01 names its sums ("What each answer owes the
-- growers") and its line ("Rings", sharing a point). That it holds is `demand` of Laws.Demand. Definitions only.
use Rattle.std.specs.Prelude.{◌≡◌, ℕ, ◌<◌, ◌+ℤ◌, neg_ℤ, length}
use mathlib.Core.List.{List, reverse, Memᴰ}
use Rattle.rules.specs.Rings.{Corner, Edge, edges, area2, turning_number, inner, outer, Share}

pub record Demand : Type 0 where
  -- cut from corner i to corner j (neighbours or not): the whole is the sum of the parts, for every point
  pub cut_turning : (r : List Corner) (i j : ℕ) → i < j → j < length r → (p : Corner) → turning_number r p ≡ turning_number (inner i j r) p +ℤ turning_number (outer i j r) p
  pub cut_area : (r : List Corner) (i j : ℕ) → i < j → j < length r → area2 r ≡ area2 (inner i j r) +ℤ area2 (outer i j r)
  -- reversed: both change sign
  pub reverse_turning : (r : List Corner) (p : Corner) → turning_number (reverse r) p ≡ neg_ℤ (turning_number r p)
  pub reverse_area : (r : List Corner) → area2 (reverse r) ≡ neg_ℤ (area2 r)
  -- two points joined by a line that meets no edge have one turning number
  pub line_turning : (r : List Corner) (p q : Corner) → ((e : Edge) → Memᴰ e (edges r) → ¬ Share e.tail e.head p q) → turning_number r p ≡ turning_number r q
