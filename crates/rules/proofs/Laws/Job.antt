-- The bounds on recursion in JobFile are never felt: `from` is the job from a record on, with no bound, and goes record by record; `decimal` goes digit by
-- digit, and its digits stand for the number. What a loop over the records or the digits needs. Assumes nothing.
use Rattle.std.specs.Prelude.{◌≡◌, Bool, true, false, T, ltb, ℤ, pos, negsuc, ◌-ℤ◌, length, drop}
use Rattle.std.proofs.Math.Path.{refl}
use Rattle.std.proofs.Common.{sym, ◌∙◌, ap, div-add-mod', mod-lt, arith, ltb→lt, nltb→le}
use mathlib.Core.List.{List, [], ◌∷◌, ◌++◌}
use Prim.Native.Nat.{ℕ, zero, suc, ◌+◌, ◌*◌, ◌-◌, ◌/◌, ◌%◌, ◌^◌, ◌<◌, ◌≤◌}
use Rattle.std.proofs.Math.ListN.{length-drop}
use Rattle.rules.specs.Refusals.{Answer, answered, refused, crossed_at, ring_crossed}
use Rattle.rules.specs.Points.{Point}
use Rattle.rules.proofs.Laws.Checks.{ltb_true, ltb_false}
use Rattle.arith.specs.Laws.Diff.{◌⊖◌, Z·ℕ}
use Rattle.rules.specs.JobFile.{State, Read, text, digits_by, decimal, signed, read, refusal_line, ending, run, job_by, no_field}

-- ---- the records
module _ (f : ℕ → ℤ → ℤ → Answer Point) where
  -- what is printed from a record on, by what has been read of it and by what is printed after it
  abbrev pub after : (State → ℕ → ℕ → List ℕ → List ℕ) → ℕ → ℕ → List ℕ → Answer Read → List ℕ
  after rest_of offset count rest a =
      elim a [
        | answered d ↦ d.done.printed ++ rest_of d.done.state (offset + 1 + d.taken) (count + 1) (drop d.taken rest)
        | refused n ↦ refusal_line n offset ++ text "\n"
        | crossed_at pair ↦ refusal_line ring_crossed offset ++ text " edges " ++ decimal pair.low ++ text " " ++ decimal pair.high ++ text "\n"
      ]

  same_after : (g h : State → ℕ → ℕ → List ℕ → List ℕ) (offset count : ℕ) (rest : List ℕ)
      → ((s : State) (o n t : ℕ) → g s o n (drop t rest) ≡ h s o n (drop t rest))
      → (a : Answer Read) → after g offset count rest a ≡ after h offset count rest a
  same_after g h offset count rest e (answered d) = ap (λ (l : List ℕ). d.done.printed ++ l) (e d.done.state (offset + 1 + d.taken) (count + 1) d.taken)
  same_after g h offset count rest e (refused n) = refl
  same_after g h offset count rest e (crossed_at pair) = refl

  -- two bounds above the length give the same
  enough : (k l : ℕ) (s : State) (offset count : ℕ) (file : List ℕ) → length file < k → length file < l → run f k s offset count file ≡ run f l s offset count file
  unfolding run
  enough zero l s offset count file h g = absurd (omega arith)
  enough (suc k) zero s offset count file h g = absurd (omega arith)
  enough (suc k) (suc l) s offset count [] h g = refl
  enough (suc k) (suc l) s offset count (byte ∷ rest) h g =
      same_after (run f k) (run f l) offset count rest
      (λ s o n t. let e = length-drop t rest in enough k l s o n (drop t rest) (omega arith) (omega arith))
      (read f s byte rest)

  unfoldable pub from : State → ℕ → ℕ → List ℕ → List ℕ
  from s offset count file = run f (suc (length file)) s offset count file

  pub job_from : (file : List ℕ) → job_by f file ≡ from no_field 0 0 file
  unfolding job_by from
  job_from file = refl

  pub from_end : (s : State) (offset count : ℕ) → from s offset count [] ≡ ending s offset count
  unfolding from run
  from_end s offset count = refl

  pub from_record : (s : State) (offset count byte : ℕ) (rest : List ℕ)
      → from s offset count (byte ∷ rest) ≡ after from offset count rest (read f s byte rest)
  unfolding from run
  from_record s offset count byte rest =
      same_after (run f (suc (length rest))) from offset count rest
      (λ s o n t. let e = length-drop t rest in enough (suc (length rest)) (suc (length (drop t rest))) s o n (drop t rest) (omega arith) (omega arith))
      (read f s byte rest)

-- ---- the digits
enough_digits : (k l n : ℕ) → n ≤ k → n ≤ l → digits_by k n ≡ digits_by l n
unfolding digits_by
enough_digits zero zero n h g = refl
enough_digits zero (suc l) n h g = let e : n ≡ 0 = omega arith in rw e refl
enough_digits (suc k) zero n h g = let e : n ≡ 0 = omega arith in rw e refl
enough_digits (suc k) (suc l) n h g = go (ltb n 10) refl (λ x. enough_digits k l (n / 10) (small (n / 10) (n % 10) (div-add-mod' n 10) k h x) (small (n / 10) (n % 10) (div-add-mod' n 10) l g x))
  where
    small : (q r : ℕ) → q * 10 + r ≡ n → (k : ℕ) → n ≤ suc k → 10 ≤ n → q ≤ k
    small q r e k h x = omega arith

    go : (b : Bool) → ltb n 10 ≡ b → (10 ≤ n → digits_by k (n / 10) ≡ digits_by l (n / 10))
        → ◌≡◌ {A = List ℕ} (elim b [ true ↦ (48 + n) ∷ [] | false ↦ digits_by k (n / 10) ++ ((48 + n % 10) ∷ []) ]) (elim b [ true ↦ (48 + n) ∷ [] | false ↦ digits_by l (n / 10) ++ ((48 + n % 10) ∷ []) ])
    go true x e = refl
    go false x e = ap (λ (t : List ℕ). t ++ ((48 + n % 10) ∷ [])) (e (nltb→le n 10 (rw x tt)))

pub decimal_one : (n : ℕ) → n < 10 → decimal n ≡ (48 + n) ∷ []
unfolding decimal digits_by
decimal_one zero h = refl
decimal_one (suc n) h = go (ltb (suc n) 10) refl
  where
    go : (b : Bool) → ltb (suc n) 10 ≡ b
        → ◌≡◌ {A = List ℕ} (elim b [ true ↦ (48 + suc n) ∷ [] | false ↦ digits_by n (suc n / 10) ++ ((48 + suc n % 10) ∷ []) ]) ((48 + suc n) ∷ [])
    go true x = refl
    go false x = let l = nltb→le (suc n) 10 (rw x tt) in absurd (omega (arith, h))

pub decimal_more : (n : ℕ) → 10 ≤ n → decimal n ≡ decimal (n / 10) ++ ((48 + n % 10) ∷ [])
unfolding decimal digits_by
decimal_more zero h = absurd (omega arith)
decimal_more (suc n) h = go (ltb (suc n) 10) refl
  where
    small : (q r : ℕ) → q * 10 + r ≡ suc n → q ≤ n
    small q r e = omega arith

    go : (b : Bool) → ltb (suc n) 10 ≡ b
        → ◌≡◌ {A = List ℕ} (elim b [ true ↦ (48 + suc n) ∷ [] | false ↦ digits_by n (suc n / 10) ++ ((48 + suc n % 10) ∷ []) ])
        (digits_by (suc n / 10) (suc n / 10) ++ ((48 + suc n % 10) ∷ []))
    go true x = let l = ltb→lt (suc n) 10 (rw x tt) in absurd (omega (arith, h))
    go false x =
        ap (λ (t : List ℕ). t ++ ((48 + suc n % 10) ∷ []))
        (enough_digits n (suc n / 10) (suc n / 10) (small (suc n / 10) (suc n % 10) (div-add-mod' (suc n) 10)) (omega arith))

-- the number that a list of digits stands for, after those that stand for `front`
unfoldable pub stands_for : ℕ → List ℕ → ℕ
stands_for front [] = front
stands_for front (d ∷ l) = stands_for (front * 10 + (d - 48)) l

one_digit_more : (front d : ℕ) (l : List ℕ) → stands_for front (l ++ (d ∷ [])) ≡ stands_for front l * 10 + (d - 48)
unfolding stands_for
one_digit_more front d [] = refl
one_digit_more front d (c ∷ l) = one_digit_more (front * 10 + (c - 48)) d l

digits_stand : (k n : ℕ) → n ≤ k → stands_for 0 (digits_by k n) ≡ n
unfolding digits_by stands_for
digits_stand zero n h = omega arith
digits_stand (suc k) n h = go (ltb n 10) refl (λ x. digits_stand k (n / 10) (small (n / 10) (n % 10) (div-add-mod' n 10) x))
  where
    small : (q r : ℕ) → q * 10 + r ≡ n → 10 ≤ n → q ≤ k
    small q r e x = omega arith

    last : (q r v : ℕ) → q * 10 + r ≡ n → v ≡ q → v * 10 + (48 + r - 48) ≡ n
    last q r v e g = omega arith

    go : (b : Bool) → ltb n 10 ≡ b → (10 ≤ n → stands_for 0 (digits_by k (n / 10)) ≡ n / 10)
        → stands_for 0 (elim b [ true ↦ (48 + n) ∷ [] | false ↦ digits_by k (n / 10) ++ ((48 + n % 10) ∷ []) ]) ≡ n
    go true x e = omega arith
    go false x e =
        one_digit_more 0 (48 + n % 10) (digits_by k (n / 10))
        ∙ last (n / 10) (n % 10) (stands_for 0 (digits_by k (n / 10))) (div-add-mod' n 10) (e (nltb→le n 10 (rw x tt)))

pub decimal_stands : (n : ℕ) → stands_for 0 (decimal n) ≡ n
unfolding decimal
decimal_stands n = digits_stand n n (omega arith)

-- ---- "signed": two's complement
pub signed_low : (n : ℕ) → n < 2 ^ 63 → signed n ≡ pos n
unfolding signed
signed_low n h = rw ((ltb_true n (2 ^ 63)).1 h, signed) refl

pub signed_high : (n : ℕ) → 2 ^ 63 ≤ n → n < 2 ^ 64 → signed n ≡ pos n -ℤ pos (2 ^ 64)
unfolding signed
signed_high n h g = rw ((ltb_false n (2 ^ 63)).1 h, signed) (below n (2 ^ 64 - 1 - n) (2 ^ 64) (omega arith))
  where
    below : (n m k : ℕ) → n + m + 1 ≡ k → negsuc m ≡ pos n -ℤ pos k
    below n m k e = simp Z·ℕ (omega arith)
