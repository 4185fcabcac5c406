-- From a polynomial's part in metres to whole millimetres after m0: how near the answer is to the definition's unrounded value. Assumes nothing.
use Rattle.std.specs.Prelude.{◌≡◌, refl, List, [], ◌∷◌, ℕ, ◌+◌, ◌-◌, ◌*◌, ◌^◌, ◌≤◌, ◌<◌, ℤ, pos, nat_abs, ◌+ℤ◌, ◌-ℤ◌, ◌*ℤ◌}
use Rattle.std.proofs.Common.{sym, ◌∙◌, ap, le_trans, le_of_eq, mul-pos, mul-le-mul_right, mul-le-mul_left, le_of_mul-le-mul_right, arith, lit<}
use Rattle.arith.specs.Laws.Diff.{◌⊖◌, Z·ℕ, lin}
use Rattle.arith.specs.Laws.Order.{abs_mul}
use Rattle.arith.specs.Laws.Ring.{ring, Z·ring, by_ring, ev_num}
use Rattle.arith.specs.Laws.Close.{Close, close_trans, close_sym, close_times, close_over, close_same, close_floor, close_le, close_more}
use Rattle.rules.specs.Units.{millimetres_in_metre}
use Rattle.rules.specs.Scaled.{unit, product}
use Rattle.rules.specs.Polynomial.{double_unit}
use Rattle.rules.specs.Rounding.{Within}
use Rattle.double.proofs.Laws.Operations.{double_unit_pos}
use Rattle.metres.specs.Millimetres.{Scale, in_millimetres}
use Rattle.metres.specs.Laws.Answer.{millimetres_near}

-- a whole number within k hundredths of w over 10^24, as the rules say it
pub within_of : {r w : ℤ} {k : ℕ} → Close r 1 w unit k 100 → Within k r w
within_of {r} {w} {k} c = record { bound = le_trans (le_of_eq (ap (λ z. 100 * nat_abs (r *ℤ pos unit -ℤ z)) (sym (law w)))) (le_trans c.gap (le_of_eq (ap (λ n. k * n) (one_unit unit)))) }
  where
    law : (w : ℤ) → w *ℤ pos 1 ≡ w
    law w = lin (w ∷ []) λ u v ew. simp (Z·ℕ, ew) (omega arith)

    one_unit : (n : ℕ) → 1 * n ≡ n
    one_unit n = omega arith

-- the answer and m0·v, in millimetres: half of one, and what the 20 bits below a metre leave
answer_close : (m0 short per : ℕ) (v : ℤ) → Scale m0 short per → Close (in_millimetres v short per) 1 (pos (1000 * m0) *ℤ v) (unit * double_unit) (2 ^ 20 + 2000) (2 ^ 21)
answer_close m0 short per v f = record { gap = le_trans (le_of_eq (ap (λ z. 2 ^ 21 * nat_abs (in_millimetres v short per *ℤ pos (unit * double_unit) -ℤ z)) (law (pos (1000 * m0)) v))) (le_trans (millimetres_near v m0 short per f) (le_of_eq (go (unit * double_unit)))) }
  where
    law : (k v : ℤ) → k *ℤ v *ℤ pos 1 ≡ v *ℤ k
    law k v = ring (k ∷ v ∷ []) λ ρ ek ev. simp (Z·ring, ek, ev, ev_num ρ) (by_ring _ _ _ refl)

    go : (n : ℕ) → (2 ^ 20 + 2000) * n ≡ (2 ^ 20 + 2000) * (1 * n)
    go n = omega arith

-- the definition's value in millimetres, 1000·floor(m0·g / 10^24)
abbrev pub defined_millimetres : ℤ → ℤ → ℤ
defined_millimetres m0 g = pos millimetres_in_metre *ℤ product m0 g

defined_close : (m0 : ℕ) (g : ℤ) → Close (pos (1000 * m0) *ℤ g) (unit * unit) (defined_millimetres (pos m0) g) unit 1000 unit
unfolding product
defined_close m0 g = close_sym (close_trans (lit< tt) (close_times 1000 (close_floor (pos m0 *ℤ g) unit unit (lit< tt))) (close_same unit (law (pos m0) g)))
  where
    law : (m0 g : ℤ) → pos 1000 *ℤ (m0 *ℤ g) *ℤ pos (unit * unit) ≡ pos 1000 *ℤ m0 *ℤ g *ℤ pos (unit * unit)
    law m0 g = ring (m0 ∷ g ∷ []) λ ρ em eg. simp (Z·ring, em, eg, ev_num ρ) (by_ring _ _ _ refl)

-- a part v of a polynomial's answer within half a micrometre of the definition's g: the millimetres answered lie within 0.51 of the definition's
pub band : (m0 short per : ℕ) (v g : ℤ) → Scale m0 short per → m0 ≤ unit → Close v double_unit g unit 5 (10 ^ 7) → Within 51 (in_millimetres v short per) (defined_millimetres (pos m0) g)
band m0 short per v g f m b =
    within_of
    (close_le 51 100
    (close_trans (lit< tt)
    (close_trans (mul-pos (lit< tt) double_unit_pos)
    (close_le 501000 (10 ^ 6) (answer_close m0 short per v f) tt tt)
    (close_le 500 (10 ^ 6) (close_over unit (close_more (1000 * unit * 5) (mul-le-mul_right 5 (mul-le-mul_left 1000 m)) (close_times (1000 * m0) b))) tt tt))
    (close_le 1 (10 ^ 6) (defined_close m0 g) tt tt))
    tt tt)

-- ---- m0 of so many millionths, and how large an answer is
pub scale_of : (M : ℕ) → M ≤ 1000000 → Scale (M * 10 ^ 18) (1000000 - M) 1000
scale_of M h = record { positive = lit< tt; at_most = omega arith; is = go M (1000000 - (1000000 - M)) (omega arith) }
  where
    go : (M N : ℕ) → N ≡ M → M * 10 ^ 18 * (1000 * 1000) ≡ N * unit
    go M N e = omega arith

pub millimetres_size : (m0 short per : ℕ) (v : ℤ) → Scale m0 short per → m0 ≤ unit → nat_abs v ≤ 8000001 * double_unit → nat_abs (in_millimetres v short per) ≤ 8000001001
millimetres_size m0 short per v f m h =
    le_of_mul-le-mul_right {k = unit * double_unit}
    (go (nat_abs (in_millimetres v short per) * (unit * double_unit)) _ (nat_abs v * (1000 * m0)) (unit * double_unit)
    (le_trans (le_of_eq (sym (abs_mul (in_millimetres v short per) (pos (unit * double_unit))))) (le_trans (near_abs (in_millimetres v short per *ℤ pos (unit * double_unit)) (v *ℤ pos (1000 * m0))) (le_of_eq (ap (λ x. nat_abs (in_millimetres v short per *ℤ pos (unit * double_unit) -ℤ v *ℤ pos (1000 * m0)) + x) (abs_mul v (pos (1000 * m0)))))))
    (millimetres_near v m0 short per f) (size (nat_abs v) m0 unit double_unit h m))
    (mul-pos (lit< tt) double_unit_pos)
  where
    near_abs : (a b : ℤ) → nat_abs a ≤ nat_abs (a -ℤ b) + nat_abs b
    near_abs a b = lin (a ∷ b ∷ []) λ u v ea eb. simp (Z·ℕ, ea, eb) (omega arith)

    size : (v m t u : ℕ) → v ≤ 8000001 * u → m ≤ t → v * (1000 * m) ≤ 8000001000 * (t * u)
    size v m t u h g = let a = mul-le-mul_right (1000 * m) h in let b = mul-le-mul_left (8000001 * 1000 * u) g in omega arith

    go : (A d b k : ℕ) → A ≤ d + b → 2 ^ 21 * d ≤ (2 ^ 20 + 2000) * k → b ≤ 8000001000 * k → A ≤ 8000001001 * k
    go A d b k h i g = omega arith
