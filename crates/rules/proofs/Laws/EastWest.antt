-- 02 (xi): the tests of refusals 3 and 4 work on sizes, so they say the same on either side of the meridian; and on the meridian itself the band leaves one answer. Assumes nothing.
use Rattle.std.specs.Prelude.{◌≡◌, refl, Bool, true, false, ◌||◌, [], ◌∷◌, ℕ, ◌+◌, ◌*◌, T, ltb, ℤ, pos, neg_ℤ, ◌-ℤ◌, ◌*ℤ◌, nat_abs}
use Rattle.std.proofs.Common.{sym, ◌∙◌, ap, ap₂, subst, arith, lit≤}
use Rattle.std.proofs.Math.IntN.{neg_ℤ-neg_ℤ}
use Rattle.std.specs.Int.Signed.{lt_z}
use Rattle.arith.specs.Laws.Diff.{Z·ℕ, lin}
use Rattle.arith.specs.Laws.Order.{abs_mul}
use Rattle.rules.specs.Refusals.{Answer, answered, refused, crossed_at, ◌>>◌, ◌if◌, latitude_outside, longitude_outside}
use Rattle.rules.specs.Systems.{System}
use Rattle.rules.specs.Scaled.{one}
use Rattle.rules.specs.Projection as Unrounded
use Rattle.rules.specs.Rounding.{Within}
use Rattle.rules.specs.Points.{Point, Ticks, offset_X, offset_Y, above, latitude_bad, longitude_bad, metres_times_m0, plane_bad, forward_checks, inverse_checks, judged, NearForward, NearInverse, RightForwardBy, RightInverseBy, Right}
use Rattle.rules.specs.EastWest.{EitherSide, Alike, AlikeBack, Both, OnTheMeridian, BackOnTheMeridian}
use Rattle.rules.proofs.Laws.Checks.{forward_passed, inverse_passed}
use Rattle.rules.proofs.Laws.Meridian.{east_0, convergence_0, difference_0}
use Rattle.rules.proofs.Laws.OwnAnswers.{alone}

-- ---- two numbers on either side of a middle
pub turned_about : (m a b : ℤ) → EitherSide m a b → b -ℤ m ≡ neg_ℤ (a -ℤ m)
turned_about m a b = lin (m ∷ a ∷ b ∷ []) λ x y em ea eb. simp (Z·ℕ, em, ea, eb) (omega arith)

pub same_size : (m a b : ℤ) → EitherSide m a b → nat_abs (a -ℤ m) ≡ nat_abs (b -ℤ m)
same_size m a b = lin (m ∷ a ∷ b ∷ []) λ x y em ea eb. simp (Z·ℕ, em, ea, eb) (omega arith)

pub either_way : (m a b : ℤ) → EitherSide m a b → EitherSide m b a
either_way m a b = lin (m ∷ a ∷ b ∷ []) λ x y em ea eb. simp (Z·ℕ, em, ea, eb) (omega arith)

-- what lies in the middle is its own mirror
pub its_own : (m z : ℤ) → z ≡ m → EitherSide m z z
its_own m z e = ap (λ z. z -ℤ m) e ∙ sym (ap (λ z. m -ℤ z) e)

pub alike_turned : (s : System) (p q : Point) → Alike s p q → Alike s q p
alike_turned s p q h = record { X = sym h.X; Y = either_way (offset_Y s) p.Y q.Y h.Y; scale = sym h.scale; convergence = sym (ap neg_ℤ h.convergence ∙ neg_ℤ-neg_ℤ p.convergence) }

pub alike_back_turned : (s : System) (t u : Ticks) → AlikeBack s t u → AlikeBack s u t
alike_back_turned s t u h = record { B = sym h.B; L = either_way s.L0 t.L u.L h.L }

-- ---- refusals 3 and 4
pub longitude_alike : (s : System) (L M : ℤ) → EitherSide s.L0 L M → longitude_bad s L ≡ longitude_bad s M
unfolding longitude_bad above
longitude_alike s L M h = ap (λ n. lt_z (pos s.half_width) (pos n)) (same_size s.L0 L M h)

pub plane_alike : (s : System) (X Y Z : ℤ) → EitherSide (offset_Y s) Y Z → plane_bad s X Y ≡ plane_bad s X Z
unfolding plane_bad above
plane_alike s X Y Z h =
    ap (λ n. lt_z ((X -ℤ offset_X s) *ℤ one) (metres_times_m0 s 5_300_000) || lt_z (metres_times_m0 s 6_250_000) ((X -ℤ offset_X s) *ℤ one) || lt_z (metres_times_m0 s 420_000) (pos n))
    (abs_mul (Y -ℤ offset_Y s) one ∙ ap (λ n. n * nat_abs one) (same_size (offset_Y s) Y Z h) ∙ sym (abs_mul (Z -ℤ offset_Y s) one))

-- ---- refusals 2 and 3 of ticks that would be answered
pub judged_alike : (s : System) (t u : Ticks) → AlikeBack s t u → Both (AlikeBack s) (judged s t) (judged s u)
unfolding judged
judged_alike s t u h = subst (Both (AlikeBack s) (judged s t)) (ap₂ judgement (ap latitude_bad h.B) (longitude_alike s t.L u.L h.L)) (go (latitude_bad t.B) (longitude_bad s t.L))
  where
    judgement : Bool → Bool → Answer Ticks
    judgement b c = latitude_outside if b >> (longitude_outside if c >> answered u)

    go : (b c : Bool) → Both (AlikeBack s) (latitude_outside if b >> (longitude_outside if c >> answered t)) (judgement b c)
    go true c = refl
    go false true = refl
    go false false = (u, refl, h)

-- ---- the meridian itself, of any forward and any inverse that are right: a whole number within 0.51 or 0.6 unit of nothing is 0
nothing : {k : ℕ} {v : ℤ} (z : ℤ) → v ≡ pos 0 → Within k z v → T (ltb (k + 0) 100) → z ≡ pos 0
nothing {k} z e w = alone {j = k} {k = 0} z (pos 0) (pos 0) (subst (Within k z) e w) (record { bound = lit≤ tt })

pub at_middle : (o z : ℤ) → z -ℤ o ≡ pos 0 → z ≡ o
at_middle o z = lin (o ∷ z ∷ []) λ x y eo ez. simp (Z·ℕ, eo, ez) (omega arith)

pub no_side : (s : System) (B : ℤ) (p : Point) → NearForward s (Unrounded.forward s B s.L0) p → (p.Y ≡ offset_Y s) × (p.convergence ≡ pos 0)
no_side s B p n = (at_middle (offset_Y s) p.Y (nothing (p.Y -ℤ offset_Y s) (east_0 s B) n.Y tt), nothing p.convergence (convergence_0 s B) n.convergence tt)

pub no_side_back : (s : System) (X : ℤ) (t : Ticks) → NearInverse s (Unrounded.inverse s X (offset_Y s)) t → t.L ≡ s.L0
no_side_back s X t n = at_middle s.L0 t.L (nothing (t.L -ℤ s.L0) (difference_0 s X) n.L tt)

-- the ticks that are taken are those that were judged
as_judged : (s : System) (t u : Ticks) → judged s t ≡ answered u → t ≡ u
unfolding judged
as_judged s t u = go (latitude_bad t.B) (longitude_bad s t.L)
  where
    go : (b c : Bool) → (latitude_outside if b >> (longitude_outside if c >> answered t)) ≡ answered u → t ≡ u
    go true c e = absurd (let z : ◌≡◌ {A = ℕ} 0 1 = cc in omega arith)
    go false true e = absurd (let z : ◌≡◌ {A = ℕ} 0 1 = cc in omega arith)
    go false false e = cc

module _ {forward_at : ℕ → ℤ → ℤ → Answer Point} {inverse_at : ℕ → ℤ → ℤ → Answer Ticks} (right : Right forward_at inverse_at) where
  pub on_the_meridian : OnTheMeridian forward_at
  on_the_meridian code s B p e f = go (forward_checks code B s.L0) refl (right.forward_right code B s.L0)
    where
      go : (a : Answer System) → forward_checks code B s.L0 ≡ a → RightForwardBy B s.L0 a (forward_at code B s.L0) → (p.Y ≡ offset_Y s) × (p.convergence ≡ pos 0)
      go (answered t) c r =
          let known = (forward_passed code t B s.L0 c).0 in
          let system_same : t ≡ s = cc in
          let answer_is = r.1 in
          let point_same : r.0 ≡ p = cc in
          no_side s B p (subst (λ q. NearForward s (Unrounded.forward s B s.L0) q) point_same (subst (λ t. NearForward t (Unrounded.forward t B s.L0) r.0) system_same r.2))
      go (refused n) c r = absurd (let z : ◌≡◌ {A = ℕ} 0 1 = cc in omega arith)
      go (crossed_at pair) c r = absurd (let z : ◌≡◌ {A = ℕ} 0 1 = cc in omega arith)

  pub back_on_the_meridian : BackOnTheMeridian inverse_at
  back_on_the_meridian code s X u e f = go (inverse_checks code X (offset_Y s)) refl (right.inverse_right code X (offset_Y s))
    where
      go : (a : Answer System) → inverse_checks code X (offset_Y s) ≡ a → RightInverseBy X (offset_Y s) a (inverse_at code X (offset_Y s)) → u.L ≡ s.L0
      go (answered t) c r =
          let known = (inverse_passed code t X (offset_Y s) c).0 in
          let system_same : t ≡ s = cc in
          let ticks_same = as_judged t r.0 u (sym r.1 ∙ f) in
          no_side_back s X u (subst (λ v. NearInverse s (Unrounded.inverse s X (offset_Y s)) v) ticks_same (subst (λ t. NearInverse t (Unrounded.inverse t X (offset_Y s)) r.0) system_same r.2))
      go (refused n) c r = absurd (let z : ◌≡◌ {A = ℕ} 0 1 = cc in omega arith)
      go (crossed_at pair) c r = absurd (let z : ◌≡◌ {A = ℕ} 0 1 = cc in omega arith)
