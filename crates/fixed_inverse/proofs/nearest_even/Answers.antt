-- `fixed_inverse::nearest_even` meets its contract: its one test tells both neighbours apart. Assumes nothing.
use mathlib.Core.Bool.{Bool, true, false}
use mathlib.Core.Path.{◌≡◌, refl, ◌∙◌, subst₂}
use Prim.Native.Nat.{ℕ, suc, ◌+◌, ◌-◌, ◌*◌, ◌/◌, ◌%◌, ◌<◌, ◌≤◌}
use native.Mathlib.Nat.{mod-lt}
use native.Mathlib.Omega.{arith}
use native.Mathlib.Decide.{dec_le}
use lib.Dec.{ltb}
use borrow.Author.Tests.{lt-ltb, le-ltb}
use Rattle.fixed_inverse.specs.Worked.{nearest_even}
use Rattle.fixed_inverse.proofs.nearest_even.Goals as goal

module _ (n d : ℕ) where
  to : (a b : Bool) → ltb (2 * (n % d)) d ≡ a → ltb d (2 * (n % d)) ≡ b → elim a [ true ↦ n / d | false ↦ elim b [ true ↦ n / d + 1 | false ↦ n / d + n / d % 2 ] ] ≡ nearest_even n d
  unfolding nearest_even
  to a b e k = subst₂ (λ x y. elim x [ true ↦ n / d | false ↦ elim y [ true ↦ n / d + 1 | false ↦ n / d + n / d % 2 ] ] ≡ nearest_even n d) e k refl

  down : 2 * (n % d) < d → n / d ≡ nearest_even n d
  down h = to true (ltb d (2 * (n % d))) (lt-ltb (2 * (n % d)) d h) refl

  up : d ≤ 2 * (n % d) → d < 2 * (n % d) → n / d + 1 ≡ nearest_even n d
  up h k = to false true (le-ltb (2 * (n % d)) d h) (lt-ltb d (2 * (n % d)) k)

  halfway : d ≤ 2 * (n % d) → 2 * (n % d) ≤ d → n / d + n / d % 2 ≡ nearest_even n d
  halfway h k = to false false (le-ltb (2 * (n % d)) d h) (le-ltb d (2 * (n % d)) k)

  -- one test for both: more than half, or half and the quotient is odd
  one_more : n % d < d → d - n % d < n % d + n / d % 2 → n / d + 1 ≡ nearest_even n d
  one_more l h = go (dec_le (suc d) (2 * (n % d)))
    where
      odd : (q r : ℕ) → r < d → d - r < r + q % 2 → ¬ (suc d ≤ 2 * r) → (d ≤ 2 * r) × (2 * r ≤ d) × (q + 1 ≡ q + q % 2)
      odd q r l h k = (omega arith, omega arith, omega arith)

      go : Dec (suc d ≤ 2 * (n % d)) → n / d + 1 ≡ nearest_even n d
      go (yes k) = up (omega arith) k
      go (no k) = let o = odd (n / d) (n % d) l h k in o.2 ∙ halfway o.0 o.1

  no_more : n % d < d → n % d + n / d % 2 ≤ d - n % d → n / d ≡ nearest_even n d
  no_more l h = go (dec_le (suc (2 * (n % d))) d)
    where
      even : (q r : ℕ) → r < d → r + q % 2 ≤ d - r → ¬ (suc (2 * r) ≤ d) → (d ≤ 2 * r) × (2 * r ≤ d) × (q ≡ q + q % 2)
      even q r l h k = (omega arith, omega arith, omega arith)

      go : Dec (suc (2 * (n % d)) ≤ d) → n / d ≡ nearest_even n d
      go (yes k) = down k
      go (no k) = let o = even (n / d) (n % d) l h k in o.2 ∙ halfway o.0 o.1

pub returns-then-d-r-clause-value : goal.returns-then-d-r-clause-value
returns-then-d-r-clause-value c = one_more c.args.n c.args.d (mod-lt c.args.n c.requires.0) c.if-d-r.true

pub returns-clause-value : goal.returns-clause-value
returns-clause-value c = no_more c.args.n c.args.d (mod-lt c.args.n c.requires.0) c.if-d-r.false
