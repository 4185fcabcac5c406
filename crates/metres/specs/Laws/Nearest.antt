-- `closest`, the nearest whole number and at a tie the even one, by what is missing to the number above. Assumes nothing.
use Rattle.std.specs.Prelude.{◌≡◌, ℕ, zero, suc, ◌+◌, ◌-◌, ◌*◌, ◌%◌, ◌≤◌, ◌<◌}
use Rattle.std.proofs.Common.{sym, ap, ◌∙◌, subst, arith}
use native.Mathlib.Nat.{le_trans, suc-mul, mul-sub, mul_comm, le_of_mul-le-mul_right, le-add_right}
use Rattle.std.proofs.Math.Decide.{dec_le}
use Rattle.std.proofs.Math.Arith.{digits_div, digits_mod}
use Rattle.std.specs.Float.Ieee.Nearest.{closest}
use Rattle.double.proofs.Laws.Rounding.{closest_up, closest_tie, closest_down}

-- a quotient and a rest that are known
module _ (n r d : ℕ) (l : r < d) where
  up_from : d < r * 2 → closest (n * d + r) d ≡ suc n
  up_from h = closest_up (n * d + r) d (subst (λ (x : ℕ). d < x * 2) (sym (digits_mod n l)) h) ∙ ap suc (digits_div n l)

  tie_from : r * 2 ≡ d → closest (n * d + r) d ≡ n + n % 2
  tie_from h = closest_tie (n * d + r) d (ap (λ (x : ℕ). x * 2) (digits_mod n l) ∙ h) ∙ ap (λ (x : ℕ). x + x % 2) (digits_div n l)

  down_from : r * 2 < d → closest (n * d + r) d ≡ n
  down_from h = closest_down (n * d + r) d (subst (λ (x : ℕ). x * 2 < d) (sym (digits_mod n l)) h) ∙ digits_div n l

-- ---- N is n · d less r
split : (N n r d : ℕ) → N + r ≡ suc n * d → 0 < r → r < d → N ≡ n * d + (d - r)
split N n r d e p l = let s = suc-mul n d in omega arith

under_half : (N n r d : ℕ) → N + r ≡ n * d → r < d - r → closest N d ≡ n
under_half N n zero d e l = ap (λ (x : ℕ). closest x d) (whole N (n * d) e) ∙ down_from n 0 d (omega arith) (omega arith)
  where
    whole : (N x : ℕ) → N + 0 ≡ x → N ≡ x + 0
    whole N x e = omega arith
under_half N zero (suc r) d e l = absurd (let z = native.Mathlib.Nat.zero-mul d in omega arith)
under_half N (suc n) (suc r) d e l = ap (λ (x : ℕ). closest x d) (split N n (suc r) d e (omega arith) (omega arith)) ∙ up_from n (d - suc r) d (omega arith) (omega arith)

over_half : (N n r d : ℕ) → N + r ≡ n * d → r < d → d - r < r → closest N d ≡ n - 1
over_half N zero r d e l h = absurd (let z = native.Mathlib.Nat.zero-mul d in omega arith)
over_half N (suc n) r d e l h = ap (λ (x : ℕ). closest x d) (split N n r d e (omega arith) l) ∙ down_from n (d - r) d (omega arith) (omega arith) ∙ less n
  where
    less : (n : ℕ) → n ≡ suc n - 1
    less n = omega arith

half : (N n r d : ℕ) → N + r ≡ n * d → r < d → d - r ≡ r → closest N d ≡ n - n % 2
half N zero r d e l h = absurd (let z = native.Mathlib.Nat.zero-mul d in omega arith)
half N (suc n) r d e l h = ap (λ (x : ℕ). closest x d) (split N n r d e (omega arith) l) ∙ tie_from n (d - r) d (omega arith) (omega arith) ∙ even n
  where
    even : (n : ℕ) → n + n % 2 ≡ suc n - suc n % 2
    even n = omega arith

-- there is a number above as long as something is missing
pub some_above : (N n r d : ℕ) → N + r ≡ n * d → 0 < r → 1 ≤ n
some_above N zero r d e h = absurd (let z = native.Mathlib.Nat.zero-mul d in omega arith)
some_above N (suc n) r d e h = omega arith

-- ---- one test for both: more than half of d is missing, or half and n is odd
pub one_less : (N n r d : ℕ) → N + r ≡ n * d → r < d → d - r < r + n % 2 → closest N d ≡ n - 1
one_less N n r d e l h = go (dec_le (suc (d - r)) r)
  where
    odd : (n : ℕ) → d - r < r + n % 2 → ¬ (suc (d - r) ≤ r) → (d - r ≡ r) × (n - n % 2 ≡ n - 1)
    odd n h k = (omega arith, omega arith)

    go : Dec (suc (d - r) ≤ r) → closest N d ≡ n - 1
    go (yes k) = over_half N n r d e l k
    go (no k) = half N n r d e l (odd n h k).0 ∙ (odd n h k).1

pub not_less : (N n r d : ℕ) → N + r ≡ n * d → r < d → r + n % 2 ≤ d - r → closest N d ≡ n
not_less N n r d e l h = go (dec_le (suc r) (d - r))
  where
    even : (n : ℕ) → r + n % 2 ≤ d - r → ¬ (suc r ≤ d - r) → (d - r ≡ r) × (n - n % 2 ≡ n)
    even n h k = (omega arith, omega arith)

    go : Dec (suc r ≤ d - r) → closest N d ≡ n
    go (yes k) = under_half N n r d e k
    go (no k) = half N n r d e l (even n h k).0 ∙ (even n h k).1

-- ---- above · d less q · d + r
pub quotient_le : (a q r d : ℕ) → 0 < d → q * d + r ≤ a * d → q ≤ a
quotient_le a q r d D h = le_of_mul-le-mul_right (le_trans (le-add_right (q * d) r) h) D

pub missing : (a q r d : ℕ) → 0 < d → q * d + r ≤ a * d → a * d - (q * d + r) + r ≡ (a - q) * d
missing a q r d D h = go (a * d) (q * d) r ((a - q) * d) h (mul_comm (a - q) d ∙ mul-sub d a q ∙ ap (λ (x : ℕ). x - d * q) (mul_comm d a) ∙ ap (λ (x : ℕ). a * d - x) (mul_comm d q))
  where
    go : (x y r z : ℕ) → y + r ≤ x → z ≡ x - y → x - (y + r) + r ≡ z
    go x y r z h e = omega arith
