-- 02, (v) Two terminals, one fence: "Neighbours with different terminals see shared corners a millimetre apart." How far apart two terminals may be that both keep the
-- rules. Assumes nothing.
use Rattle.std.specs.Prelude.{◌≡◌, ℕ, ◌*◌, ◌≤◌, ◌<◌, ℤ, pos, ◌+ℤ◌, ◌-ℤ◌, ◌*ℤ◌, nat_abs}
use Rattle.rules.specs.Refusals.{Answer, answered, refused, crossed_at}
use Rattle.rules.specs.Systems.{System}
use Rattle.rules.specs.Scaled.{unit}
use Rattle.rules.specs.Projection as Unrounded
use Rattle.rules.specs.Points.{Point, forward_checks, RightForward}

-- the value lies farther than 0.01 unit from the half above n, n + 1/2, the denominators 10^24, 2 and 100 multiplied out; and so from every half
abbrev pub Farther : ℤ → ℤ → Type 0
Farther value n = 2 * unit < 100 * nat_abs (pos 2 *ℤ value -ℤ (pos 2 *ℤ n +ℤ pos 1) *ℤ pos unit)

pub record Clear (value : ℤ) : Type 0 where
  pub farther : (n : ℤ) → Farther value n

-- two answers for one value: at most one unit apart, and one number where the value is clear of a half
pub record Beside (value a b : ℤ) : Type 0 where
  pub apart : nat_abs (a -ℤ b) ≤ 1
  pub one : Clear value → a ≡ b

pub record OneFence (v : Unrounded.Forward) (p q : Point) : Type 0 where
  pub X : Beside v.north p.X q.X
  pub Y : Beside v.east p.Y q.Y
  pub scale : Beside v.scale p.scale q.scale
  pub convergence : Beside v.convergence p.convergence q.convergence

-- two answers by the checks: one refusal, or two points on one fence
abbrev pub AlikeBy : ℤ → ℤ → Answer System → Answer Point → Answer Point → Type 0
AlikeBy B L (answered s) a b = (p : Point) × (q : Point) × (a ≡ answered p) × (b ≡ answered q) × OneFence (Unrounded.forward s B L) p q
AlikeBy B L (refused n) a b = (a ≡ refused n) × (b ≡ refused n)
AlikeBy B L (crossed_at pair) a b = (a ≡ crossed_at pair) × (b ≡ crossed_at pair)

-- of any two answers that the rules allow for one input
abbrev pub TwoTerminals : Type 0
TwoTerminals = (code : ℕ) (B L : ℤ) (a b : Answer Point) → RightForward code B L a → RightForward code B L b → AlikeBy B L (forward_checks code B L) a b
