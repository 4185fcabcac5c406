-- 02 (xi) on the numbers of C: what two calls of `misgwalor_forward`, or of `misgwalor_inverse`, return and leave in what they were lent, as their clauses `number` and `holds`
-- say it. That it holds is in Laws.EastWest. Definitions only.
use Rattle.std.specs.Prelude.{◌≡◌, List, [], ◌∷◌, ℕ, ℤ, neg_ℤ}
use Rattle.rules.specs.Refusals.{answered}
use Rattle.rules.specs.Systems.{System, system}
use Rattle.rules.specs.Points.{offset_Y}
use Rattle.rules.specs.EastWest.{EitherSide}
use Rattle.rings.specs.Answers.{refusal_of}
use Rattle.projection.specs.Inverse.{worked_inverse}
use Rattle.projection.specs.Worked.{worked_forward}
use Rattle.terminal.specs.Lent.{lent, point_numbers, tick_numbers}

-- X, Y, scale and convergence, on one side of the meridian and on the other
pub record FourAlike (y0 : ℤ) (here there : List ℤ) : Type 0 where
  pub X : ℤ
  pub Y : ℤ
  pub other_Y : ℤ
  pub scale : ℤ
  pub convergence : ℤ
  pub here_is : here ≡ X ∷ Y ∷ scale ∷ convergence ∷ []
  pub there_is : there ≡ X ∷ other_Y ∷ scale ∷ neg_ℤ convergence ∷ []
  pub sides : EitherSide y0 Y other_Y

-- two calls for points of one latitude that lie equally far from the meridian return the same, and where that is 0 the four numbers are alike
abbrev pub ForwardCallsAlike : Type 0
ForwardCallsAlike = (code : ℕ) (s : System) (B L M : ℤ) (before other_before : List ℤ) → system code ≡ answered s → EitherSide s.L0 L M →
    (refusal_of (worked_forward code B L) ≡ refusal_of (worked_forward code B M))
    × (refusal_of (worked_forward code B L) ≡ 0 → FourAlike (offset_Y s) (lent point_numbers (worked_forward code B L) before) (lent point_numbers (worked_forward code B M) other_before))

-- B and L
pub record TwoAlike (L0 : ℤ) (here there : List ℤ) : Type 0 where
  pub B : ℤ
  pub L : ℤ
  pub other_L : ℤ
  pub here_is : here ≡ B ∷ L ∷ []
  pub there_is : there ≡ B ∷ other_L ∷ []
  pub sides : EitherSide L0 L other_L

abbrev pub InverseCallsAlike : Type 0
InverseCallsAlike = (code : ℕ) (s : System) (X Y Z : ℤ) (before other_before : List ℤ) → system code ≡ answered s → EitherSide (offset_Y s) Y Z →
    (refusal_of (worked_inverse code X Y) ≡ refusal_of (worked_inverse code X Z))
    × (refusal_of (worked_inverse code X Y) ≡ 0 → TwoAlike s.L0 (lent tick_numbers (worked_inverse code X Y) before) (lent tick_numbers (worked_inverse code X Z) other_before))
