-- Laws for the proofs of `projection_inverse`: unsigned numbers as signed ones, and a number turned. Assumes nothing.
use Rattle.std.specs.Prelude.{Bool, ◌≡◌, ℕ, ◌*◌, ◌/◌, ◌%◌, ◌^◌, ◌≤◌, ◌<◌, T, ltb, ℤ, pos}
use Rattle.std.proofs.Common.{sym, ap, le_trans, div-mul-le_self, mod-lt, div-le_self, mul-le-mul_left, arith, ltb→lt, to_z}
use Rattle.std.specs.Int.{w64}
use Rattle.std.proofs.lemmas.Int.{to_z_pos}
use Rattle.arith.specs.Machine.{Is}
use Rattle.arith.specs.Laws.Machine.{v_is}
use Rattle.fixed.specs.Nearness.{turned}

-- an unsigned number of at most k, as a signed one
pub word : (n k : ℕ) → n ≤ k → T (ltb k (2 ^ 63)) → Is (to_z w64 n) (pos n) k
word n k h t = v_is (to_z_pos w64 n (below h (ltb→lt k (2 ^ 63) t))) h
  where
    below : {n k : ℕ} → n ≤ k → k < 2 ^ 63 → n < 2 ^ 63
    below h l = omega arith

-- a flag that is known
pub turned_by : {a b : Bool} (z : ℤ) → a ≡ b → turned b z ≡ turned a z
turned_by z e = ap (λ t. turned t z) (sym e)

-- how large the parts are of the two divisions that undo m0
pub whole_small : (a M : ℕ) → a ≤ 10000000000000 → 999000 ≤ M → a / M ≤ 10010011
whole_small a M h l = go (a / M) (mul-le-mul_left (a / M) l) (le_trans (div-mul-le_self a M) h)
  where
    go : (q : ℕ) {b : ℕ} → q * 999000 ≤ b → b ≤ 10000000000000 → q ≤ 10010011
    go q x y = omega arith

pub rest_small : (a M : ℕ) → 999000 ≤ M → M ≤ 1000000 → a % M < 1000000
rest_small a M l h = go (a % M) (mod-lt a (positive l))
  where
    positive : {M : ℕ} → 999000 ≤ M → 0 < M
    positive h = omega arith

    go : (r : ℕ) → r < M → r < 1000000
    go r x = omega arith

pub part_small : (n M : ℕ) → n < 1000000 * 2 ^ 30 → n / M < 1000000 * 2 ^ 30
part_small n M h = let l = div-le_self n M in omega arith
