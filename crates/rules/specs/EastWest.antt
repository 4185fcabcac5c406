-- 02, (xi) East and west alike: "Growers east of the line distrust half-zone handouts." What is owed for two points that lie equally far from the central meridian, by a
-- forward and an inverse that are given (the code's own). Assumes nothing.
use Rattle.std.specs.Prelude.{◌≡◌, ℕ, ℤ, pos, neg_ℤ, ◌-ℤ◌}
use Rattle.rules.specs.Refusals.{Answer, answered, refused, crossed_at}
use Rattle.rules.specs.Systems.{System, system}
use Rattle.rules.specs.Points.{Point, Ticks, offset_Y}

-- a and b "lie equally far" from the middle "on either side"
abbrev pub EitherSide : ℤ → ℤ → ℤ → Type 0
EitherSide middle a b = a -ℤ middle ≡ middle -ℤ b

-- "Show that X and scale are equal, that the two Y lie equally far from y0 on either side, and that the convergences are negatives, to the last unit."
pub record Alike (s : System) (p q : Point) : Type 0 where
  pub X : p.X ≡ q.X
  pub Y : EitherSide (offset_Y s) p.Y q.Y
  pub scale : p.scale ≡ q.scale
  pub convergence : q.convergence ≡ neg_ℤ p.convergence

-- of two answers one is given exactly when the other is, and then they are alike; the refusals are equal
abbrev pub Both : {A : Type 0} → (A → A → Type 0) → Answer A → Answer A → Type 0
Both {A} alike (answered a) other = (b : A) × (other ≡ answered b) × alike a b
Both alike (refused n) other = other ≡ refused n
Both alike (crossed_at pair) other = other ≡ crossed_at pair

-- "Take any code of 1-14 and two points of the same latitude that lie equally far east and west of the central meridian, both accepted.": where one is, so is the other.
-- The codes that have a system are those of 1 to 14 (`known` and `unknown` of Laws.Codes)
abbrev pub EastAndWestAlike : (ℕ → ℤ → ℤ → Answer Point) → Type 0
EastAndWestAlike forward_at =
    (code : ℕ) (s : System) (B L M : ℤ) → system code ≡ answered s → EitherSide s.L0 L M → Both (Alike s) (forward_at code B L) (forward_at code B M)

-- ---- beyond the request: the way back. One X, and two Y equally far from y0 on either side
pub record AlikeBack (s : System) (t u : Ticks) : Type 0 where
  pub B : t.B ≡ u.B
  pub L : EitherSide s.L0 t.L u.L

abbrev pub BackAlike : (ℕ → ℤ → ℤ → Answer Ticks) → Type 0
BackAlike inverse_at =
    (code : ℕ) (s : System) (X Y Z : ℤ) → system code ≡ answered s → EitherSide (offset_Y s) Y Z → Both (AlikeBack s) (inverse_at code X Y) (inverse_at code X Z)

-- ---- and the central meridian itself, there and back: Y is y0 and the convergence 0, and y0 gives L0, exactly
abbrev pub OnTheMeridian : (ℕ → ℤ → ℤ → Answer Point) → Type 0
OnTheMeridian forward_at =
    (code : ℕ) (s : System) (B : ℤ) (p : Point) → system code ≡ answered s → forward_at code B s.L0 ≡ answered p → (p.Y ≡ offset_Y s) × (p.convergence ≡ pos 0)

abbrev pub BackOnTheMeridian : (ℕ → ℤ → ℤ → Answer Ticks) → Type 0
BackOnTheMeridian inverse_at =
    (code : ℕ) (s : System) (X : ℤ) (t : Ticks) → system code ≡ answered s → inverse_at code X (offset_Y s) ≡ answered t → t.L ≡ s.L0
