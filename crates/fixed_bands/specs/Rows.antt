-- What is asked of a row of a table, six coefficients, for its worked polynomial to be near a number of the definition along a whole band: a test that computes, and
-- what it shows. Assumes nothing.
use Rattle.std.specs.Prelude.{◌≡◌, Bool, false, cond, List, [], ◌∷◌, ℕ, zero, suc, ◌+◌, ◌*◌, ◌-◌, ◌/◌, ◌%◌, ◌^◌, ◌<◌, ◌≤◌, leb, get_or, ℤ, pos, ◌+ℤ◌, ◌-ℤ◌, ◌*ℤ◌}
use Rattle.std.proofs.Common.{◌∙◌, arith}
use Rattle.rules.specs.Scaled.{unit}
use Rattle.fixed.specs.Worked.{S60, P30}
use Rattle.fixed_bands.specs.declared.Row.{Row}
use Rattle.fixed_bands.specs.Worked.{width}
use Rattle.fixed_bands.specs.Polynomials.{reach, multiple, negated, minus}
use Rattle.fixed_bands.specs.Models.{Model, fine}
use Rattle.fixed_bands.specs.Traces.{Traces}

-- ---- the numbers of the code's rows, one after another; and a row of the code is the table's of band i
abbrev pub numbers : List Row → List ℕ
numbers [] = []
numbers (r ∷ rs) = r.c0 ∷ r.c1 ∷ r.c2 ∷ r.c3 ∷ r.c4 ∷ r.c5 ∷ numbers rs

pub record RowAt (tab : List ℕ) (i : ℕ) (r : Row) : Type 0 where
  pub is0 : r.c0 ≡ get_or tab (6 * i) 0
  pub is1 : r.c1 ≡ get_or tab (6 * i + 1) 0
  pub is2 : r.c2 ≡ get_or tab (6 * i + 2) 0
  pub is3 : r.c3 ≡ get_or tab (6 * i + 3) 0
  pub is4 : r.c4 ≡ get_or tab (6 * i + 4) 0
  pub is5 : r.c5 ≡ get_or tab (6 * i + 5) 0

-- a number that is at least k and below k + 1 is k
pub last : (k n : ℕ) → k ≤ n → n < suc k → n ≡ k
last k n l h = omega arith

-- ---- the worked polynomials, with 2^30·x = h, as polynomials in h at scale 2^150
abbrev pub scale : ℕ → ℕ
scale zero = 1
scale (suc k) = P30 * scale k

unfoldable pub rise_line : (c0 c1 c2 c3 c4 c5 : ℕ) → List ℤ
rise_line c0 c1 c2 c3 c4 c5 =
    pos (c0 * scale 5) ∷ (pos (c1 * scale 4) ∷ negated (pos (c2 * scale 3) ∷ (pos (c3 * scale 2) ∷ negated (pos (c4 * scale 1) ∷ (pos c5 ∷ [])))))

unfoldable pub sink_line : (c0 c1 c2 c3 c4 c5 : ℕ) → List ℤ
sink_line c0 c1 c2 c3 c4 c5 =
    pos (c0 * scale 5) ∷ negated (pos (c1 * scale 4) ∷ (pos (c2 * scale 3) ∷ negated (pos (c3 * scale 2) ∷ (pos (c4 * scale 1) ∷ negated (pos c5 ∷ [])))))

-- ---- what keeps each step from going below 0
pub record Rises (c0 c1 c2 c3 c4 c5 : ℕ) : Type 0 where
  pub inner : c4 + c5 ≤ c3
  pub middle : c2 + c3 ≤ c1
  pub outer : c0 + c1 ≤ S60

pub record Sinks (c0 c1 c2 c3 c4 c5 : ℕ) : Type 0 where
  pub last : c5 ≤ c4
  pub inner : c3 + c4 ≤ c2
  pub middle : c1 + c2 ≤ c0
  pub outer : c0 ≤ S60

pub record Line (v lo hi h : ℕ) (p : List ℤ) : Type 0 where
  pub traces : Traces (scale 5) h v p 5
  pub low : lo ≤ v
  pub high : v ≤ hi

-- the error, in units of 2^-60 times 10^24, of a worked polynomial beside a model
unfoldable pub apart : List ℤ → Model → ℕ
apart p m = (unit * fine * (5 * scale 5) + reach width (minus (multiple (pos (unit * fine)) p) (multiple (pos (S60 * scale 5)) m.line)) + S60 * scale 5 * m.error) / (scale 5 * fine)

-- ---- the test of a row, and what it shows
unfoldable pub also : Bool → Bool → Bool
also a b = cond a b false

unfoldable pub rise_test : (c0 c1 c2 c3 c4 c5 : ℕ) → Model → (e lo hi : ℕ) → Bool
rise_test c0 c1 c2 c3 c4 c5 m e lo hi =
    also (leb (c4 + c5) c3) (also (leb (c2 + c3) c1) (also (leb (c0 + c1) S60) (also (leb lo c0) (also (leb (c0 + c1 * width / P30) hi) (leb (apart (rise_line c0 c1 c2 c3 c4 c5) m) e)))))

unfoldable pub sink_test : (c0 c1 c2 c3 c4 c5 : ℕ) → Model → (e lo hi : ℕ) → Bool
sink_test c0 c1 c2 c3 c4 c5 m e lo hi =
    also (leb c5 c4) (also (leb (c3 + c4) c2) (also (leb (c1 + c2) c0) (also (leb c0 S60) (also (leb lo (c0 - (c1 + c2) * width / P30)) (also (leb c0 hi) (leb (apart (sink_line c0 c1 c2 c3 c4 c5) m) e))))))
