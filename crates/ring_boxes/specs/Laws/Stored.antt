-- A corner that is stored in a flat list, as two numbers. Assumes nothing.
use Rattle.std.specs.Prelude.{◌≡◌, refl, List, [], ◌∷◌, ℕ, zero, suc, ◌+◌, ◌*◌, ◌<◌, ℤ, length, set}
use Rattle.std.proofs.Common.{◌∙◌, ap, arith}
use Rattle.rules.specs.Rings.{Corner}
use Rattle.ring_corners.specs.Corners.{corner, pairs}

pub pairs_set : (l : List ℤ) (m : ℕ) (x y : ℤ) → m < length (pairs l) → pairs (set (set l (2 * m) x) (2 * m + 1) y) ≡ set (pairs l) m (corner x y)
unfolding pairs
pairs_set [] m x y h = absurd (omega arith)
pairs_set (a ∷ []) m x y h = absurd (omega arith)
pairs_set (a ∷ b ∷ l) zero x y h = refl
pairs_set (a ∷ b ∷ l) (suc m) x y h =
    ap (λ (k : ℕ). pairs (set (set (a ∷ b ∷ l) k x) (2 * suc m + 1) y)) (twice m)
    ∙ ap (λ (k : ℕ). pairs (set (set (a ∷ b ∷ l) (suc (suc (2 * m))) x) k y)) (twice_one m)
    ∙ ap (λ (t : List Corner). corner a b ∷ t) (pairs_set l m x y (omega arith))
  where
    twice : (i : ℕ) → 2 * suc i ≡ suc (suc (2 * i))
    twice i = omega arith

    twice_one : (i : ℕ) → 2 * suc i + 1 ≡ suc (suc (2 * i + 1))
    twice_one i = omega arith
