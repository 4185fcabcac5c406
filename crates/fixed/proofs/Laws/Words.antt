-- mul60 and quot60 meet their relations, and their steps fit a machine word. Assumes nothing.
use Rattle.std.specs.Prelude.{◌≡◌, ℕ, suc, ◌+◌, ◌*◌, ◌-◌, ◌/◌, ◌%◌, ◌^◌, ◌<◌, ◌≤◌}
use Rattle.std.proofs.Common.{sym, subst₂, mul-le-mul, le_refl, le_trans, le_of_mul-le-mul_right, div-add-mod', mod-lt, arith}
use Rattle.std.proofs.Math.Path.{subst}
use Rattle.std.proofs.Math.Decide.{dec_le}
use Rattle.fixed.specs.Worked.{S60, P30, mul60, quot_first, quot_rest, quot60}
use Rattle.fixed.specs.Relations.{Mul60, Quot60}

-- a product of two bounded numbers
pub prod : (x m y n : ℕ) → x ≤ m → y ≤ n → x * y ≤ m * n
prod x m y n h k = mul-le-mul h k

cancel : (m n k : ℕ) → m * suc k ≤ n * suc k → m ≤ n
cancel m n k h = le_of_mul-le-mul_right h (omega arith)

cancel60 : (m n : ℕ) → m * S60 ≤ n * S60 → m ≤ n
cancel60 m n h = omega arith

-- ---- mul60: the three products
pub record MulFits (a b : ℕ) : Type 0 where
  pub hh : a / P30 * (b / P30) ≤ 2 ^ 62
  pub hl : a / P30 * (b % P30) ≤ 2 ^ 61
  pub lh : a % P30 * (b / P30) ≤ 2 ^ 61

pub mul_fits : (a b : ℕ) → (a ≤ 2 ^ 61) × (b ≤ 2 ^ 61) → MulFits a b
mul_fits a b h = record {
  hh = prod (a / P30) (2 ^ 31) (b / P30) (2 ^ 31) (omega arith) (omega arith);
  hl = prod (a / P30) (2 ^ 31) (b % P30) (2 ^ 30) (omega arith) (omega arith);
  lh = prod (a % P30) (2 ^ 30) (b / P30) (2 ^ 31) (omega arith) (omega arith);
}

-- a·b ≤ (b + 2·(a − 1))·1, for a and b up to 2
tighter : (a b : ℕ) → b ≤ 2 * S60 → a * b ≤ (b + 2 * (a - S60)) * S60
tighter a b h = go (dec_le a S60)
  where
    go : Dec (a ≤ S60) → a * b ≤ (b + 2 * (a - S60)) * S60
    go (yes k) = le_trans (prod a S60 b b k (le_refl b)) (omega arith)
    go (no k) = more (a - S60) (omega arith) (prod (a - S60) (a - S60) b (2 * S60) (le_refl _) h)
      where
        more : (d : ℕ) → a ≡ d + S60 → d * b ≤ d * (2 * S60) → a * b ≤ (b + 2 * d) * S60
        more d e g = subst (λ x. x * b ≤ (b + 2 * d) * S60) (sym e) (omega arith)

sizes : (a b r : ℕ) → a ≤ 2 * S60 → b ≤ 2 * S60 → r * S60 ≤ a * b → a * b < (r + 2) * S60 → Mul60 a b r
sizes a b r ka kb l u = record {
  lo = l;
  hi = u;
  left = cancel60 _ _ (le_trans l (le_trans (prod a a b (2 * S60) (le_refl _) kb) (omega arith)));
  right = cancel60 _ _ (le_trans l (le_trans (prod a (2 * S60) b b ka (le_refl _)) (omega arith)));
  tight = cancel60 _ _ (le_trans l (tighter a b kb));
}

halves : (ah al bh bl mq mr : ℕ)
    → ah * P30 + al ≤ 2 * S60
    → bh * P30 + bl ≤ 2 * S60
    → mq * P30 + mr ≡ ah * bl + al * bh
    → mr < P30
    → al < P30
    → bl < P30
    → Mul60 (ah * P30 + al) (bh * P30 + bl) (ah * bh + mq)
halves ah al bh bl mq mr ka kb e hm ha hb =
    let g : al * bl ≤ 1073741823 * 1073741823 = prod al 1073741823 bl 1073741823 (omega arith) (omega arith) in
    sizes (ah * P30 + al) (bh * P30 + bl) (ah * bh + mq) ka kb (omega arith) (omega arith)

pub mul60_is : (a b : ℕ) → a ≤ 2 ^ 61 → b ≤ 2 ^ 61 → Mul60 a b (mul60 a b)
unfolding mul60
mul60_is a b h k =
    subst₂ (λ x y. Mul60 x y (a / P30 * (b / P30) + (a / P30 * (b % P30) + a % P30 * (b / P30)) / P30)) (div-add-mod' a P30) (div-add-mod' b P30)
    (halves (a / P30) (a % P30) (b / P30) (b % P30) ((a / P30 * (b % P30) + a % P30 * (b / P30)) / P30) ((a / P30 * (b % P30) + a % P30 * (b / P30)) % P30)
    (omega arith) (omega arith) (div-add-mod' (a / P30 * (b % P30) + a % P30 * (b / P30)) P30) (omega arith) (omega arith) (omega arith))

-- ---- quot60. a = q1·c + s, b = bh·2^30 + bl with c = bh + 1, r1 = (q1 + s)·2^30 − q1·bl = q2·c + s2
pub record QuotFits (a bh bl q1 : ℕ) : Type 0 where
  pub q1_small : 4 * q1 ≤ 5 * P30
  pub q1_bh : q1 * bh ≤ a
  pub left : a - q1 * bh ≤ q1 + bh
  pub q1_bl : q1 * bl ≤ q1 * P30
  pub r1_pos : q1 * bl ≤ (a - q1 * bh) * P30

quot_fits' : (a bh bl q1 s : ℕ) → bl < P30 → q1 * (bh + 1) + s ≡ a → s < bh + 1 → 4 * a ≤ 5 * (bh * P30 + bl) → QuotFits a bh bl q1
quot_fits' a bh bl q1 s hb e hs h45 =
    let g : q1 * bl ≤ q1 * P30 = prod q1 q1 bl P30 (le_refl q1) (omega arith) in
    record { q1_small = cancel (4 * q1) (5 * P30) bh (omega arith); q1_bh = omega arith; left = omega arith; q1_bl = g; r1_pos = omega arith }

-- what quot60 asks: b from 1/2 to 2, a at most 5/4 of b
abbrev pub QuotPre : ℕ → ℕ → Type 0
QuotPre a b = (2 ^ 59 ≤ b) × (b ≤ 2 ^ 61) × (4 * a ≤ 5 * b)

pub quot_fits : (a b : ℕ) → QuotPre a b → QuotFits a (b / P30) (b % P30) (quot_first a b)
quot_fits a b h =
    quot_fits' a (b / P30) (b % P30) (quot_first a b) (a % (b / P30 + 1)) (omega arith) (div-add-mod' a (b / P30 + 1)) (mod-lt a (omega arith)) (omega arith)

-- what the second step knows
record Steps (bh bl q1 s a r1 q2 s2 : ℕ) : Type 0 where
  fits : QuotFits a bh bl q1
  bl_small : bl < P30
  first : q1 * (bh + 1) + s ≡ a
  s_small : s < bh + 1
  s2_small : s2 < bh + 1
  bh_large : 536870912 ≤ bh
  rest : r1 + q1 * bl ≡ (a - q1 * bh) * P30
  second : q2 * (bh + 1) + s2 ≡ r1

quot2' : (bh bl q1 s a r1 q2 s2 : ℕ) → Steps bh bl q1 s a r1 q2 s2 → 2 * q2 ≤ 7 * P30
quot2' bh bl q1 s a r1 q2 s2 f = cancel (2 * q2) (7 * P30) bh (omega arith)

quot_halves : (bh bl q1 s a r1 q2 s2 : ℕ) → Steps bh bl q1 s a r1 q2 s2 → 2 * q2 ≤ 7 * P30 → Quot60 a (bh * P30 + bl) (q1 * P30 + q2)
quot_halves bh bl q1 s a r1 q2 s2 f h2 =
    let hb = f.bl_small in
    let g : q2 * bl ≤ q2 * 1073741823 = prod q2 q2 bl 1073741823 (le_refl q2) (omega arith) in
    record { lo = omega arith; hi = omega arith }

module _ (a b : ℕ) (h : QuotPre a b) where
  steps : Steps (b / P30) (b % P30) (quot_first a b) (a % (b / P30 + 1)) a (quot_rest a b) (quot_rest a b / (b / P30 + 1)) (quot_rest a b % (b / P30 + 1))
  steps = record {
    fits = quot_fits a b h;
    bl_small = omega arith;
    first = div-add-mod' a (b / P30 + 1);
    s_small = mod-lt a (omega arith);
    s2_small = mod-lt (quot_rest a b) (omega arith);
    bh_large = omega arith;
    rest = omega (arith, quot_fits a b h);
    second = div-add-mod' (quot_rest a b) (b / P30 + 1);
  }

  pub quot2_fits : 2 * (quot_rest a b / (b / P30 + 1)) ≤ 7 * P30
  quot2_fits =
      quot2' (b / P30) (b % P30) (quot_first a b) (a % (b / P30 + 1)) a (quot_rest a b) (quot_rest a b / (b / P30 + 1)) (quot_rest a b % (b / P30 + 1)) steps

  pub quot60_is : Quot60 a b (quot60 a b)
  unfolding quot60
  quot60_is = subst (λ x. Quot60 a x (quot_first a b * P30 + quot_rest a b / (b / P30 + 1))) (div-add-mod' b P30)
      (quot_halves (b / P30) (b % P30) (quot_first a b) (a % (b / P30 + 1)) a (quot_rest a b) (quot_rest a b / (b / P30 + 1)) (quot_rest a b % (b / P30 + 1))
      steps quot2_fits)
