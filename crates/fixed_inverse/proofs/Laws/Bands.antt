-- A range cut into n bands of one width: a test that is true of each band holds at the band of any number of the range. Assumes nothing.
use Rattle.std.specs.Prelude.{Bool, true, false, ◌&&◌, ◌≡◌, ℕ, zero, suc, ◌+◌, ◌*◌, ◌-◌, ◌/◌, ◌%◌, ◌<◌, ◌≤◌, T}
use Rattle.std.proofs.Common.{subst, div-add-mod', mod-lt, lt_of_mul-lt-mul_right, arith}
use Rattle.std.proofs.Math.Decide.{dec_le}

unfoldable pub every : (ℕ → Bool) → ℕ → Bool
every test zero = true
every test (suc n) = test n && every test n

both : (a b : Bool) → T (a && b) → T a × T b
both true b t = (tt, t)
both false b t = absurd t

pub every_at : (test : ℕ → Bool) (n i : ℕ) → T (every test n) → i < n → T (test i)
unfolding every
every_at test zero i t h = absurd (omega arith)
every_at test (suc n) i t h = go (dec_le n i) (every_at test n i (both (test n) (every test n) t).1)
  where
    go : Dec (n ≤ i) → (i < n → T (test i)) → T (test i)
    go (yes k) below = let e : n ≡ i = omega arith in subst (λ j. T (test j)) e (both (test n) (every test n) t).0
    go (no k) below = below (omega arith)

-- the band of x: from lo + i·w up to the next
pub record Band (lo w n x : ℕ) : Type 0 where
  pub place : ℕ
  pub among : place < n
  pub low : lo + place * w ≤ x
  pub high : x ≤ lo + place * w + w

pub band_of : (lo w n x : ℕ) → 0 < w → lo ≤ x → x < lo + n * w → Band lo w n x
band_of lo w n x hw h k = go ((x - lo) / w) ((x - lo) % w) (div-add-mod' (x - lo) w) (mod-lt (x - lo) hw)
  where
    go : (i r : ℕ) → i * w + r ≡ x - lo → r < w → Band lo w n x
    go i r e l = record { place = i; among = lt_of_mul-lt-mul_right w (omega arith); low = omega arith; high = omega arith }
