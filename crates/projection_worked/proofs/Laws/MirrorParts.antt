-- 02 (xi): the worked values are those of sizes, with the side put on last, so a point to the east and its mirror to the west are alike to the last unit. Assumes nothing.
use Rattle.std.specs.Prelude.{Bool, true, false, not, ◌≡◌, refl, [], ◌∷◌, ℕ, zero, suc, ℤ, pos, negsuc, neg_ℤ, nat_abs, ◌+ℤ◌, ◌-ℤ◌}
use Rattle.std.proofs.Common.{sym, ◌∙◌, ap, arith}
use Rattle.std.proofs.Math.IntN.{neg_ℤ-neg_ℤ}
use Rattle.arith.specs.Laws.Diff.{Z·ℕ, lin}
use Rattle.rules.specs.Systems.{System}
use Rattle.rules.specs.Points.{Ticks, offset_X, offset_Y}
use Rattle.rules.specs.EastWest.{EitherSide, Alike, AlikeBack}
use Rattle.rules.proofs.Laws.EastWest.{either_way}
use Rattle.fixed.specs.Nearness.{turned}
use Rattle.fixed.specs.Laws.Turned.{below_zero}
use Rattle.fixed_units.specs.Worked.{convergence_units}
use Rattle.fixed_units.proofs.Laws.Convergence.{convergence_units_turned}
use Rattle.projection_worked.specs.Worked.{millionths_of, convergence_from, worked_X, worked_Y, worked_scale, worked_convergence, worked_point}
use Rattle.projection_worked.specs.Inverse.{mercator_pair, difference_from, ticks_from}

-- a size put on one side of an offset, and on the other
beside : (west : Bool) (o v : ℤ) → EitherSide o (o +ℤ turned west v) (o +ℤ turned (not west) v)
unfolding turned
beside west o v = go west (sides o v)
  where
    sides : (o v : ℤ) → EitherSide o (o +ℤ v) (o +ℤ neg_ℤ v)
    sides o v = lin (o ∷ v ∷ []) λ x y eo ev. simp (Z·ℕ, eo, ev) (omega arith)

    go : (west : Bool) → EitherSide o (o +ℤ v) (o +ℤ neg_ℤ v) → EitherSide o (o +ℤ turned west v) (o +ℤ turned (not west) v)
    go false h = h
    go true h = either_way o (o +ℤ v) (o +ℤ neg_ℤ v) h

-- an angle to one side, and to the other, after the rounding
other_side : (west : Bool) (z : ℤ) → turned (not west) z ≡ neg_ℤ (turned west z)
unfolding turned
other_side false z = refl
other_side true z = sym (neg_ℤ-neg_ℤ z)

rounded_alike : (west : Bool) (g : ℤ) → convergence_units (turned (not west) g) ≡ neg_ℤ (convergence_units (turned west g))
rounded_alike west g = convergence_units_turned (not west) g ∙ other_side west (convergence_units g) ∙ ap neg_ℤ (sym (convergence_units_turned west g))

-- ---- n + 1 ticks east of the meridian and west of it
pub point_mirrored : (s : System) (B : ℤ) (n : ℕ) → Alike s (worked_point s B (pos (suc n))) (worked_point s B (negsuc n))
unfolding worked_point worked_X worked_Y worked_scale worked_convergence convergence_from
point_mirrored s B n = record { X = refl; Y = beside _ (offset_Y s) _; scale = refl; convergence = rounded_alike _ _ }

-- ---- n + 1 millimetres east of the meridian and west of it
abbrev pub ticks_at : System → ℤ → ℤ → Ticks
ticks_at s X b = ticks_from s (below_zero b) (mercator_pair s.ellipsoid (millionths_of s) (nat_abs (X -ℤ offset_X s)) (nat_abs b))

pub ticks_mirrored : (s : System) (X : ℤ) (n : ℕ) → AlikeBack s (ticks_at s X (pos (suc n))) (ticks_at s X (negsuc n))
unfolding difference_from
ticks_mirrored s X n = record { B = refl; L = beside _ s.L0 _ }

-- ---- on both sides, where on the meridian itself a thing is like itself
pub both_sides : {A : Type 0} (R : A → A → Type 0) (f : ℤ → A)
    → ((n : ℕ) → R (f (pos (suc n))) (f (negsuc n)))
    → ((a b : A) → R a b → R b a)
    → (d : ℤ)
    → (d ≡ pos 0 → R (f (pos 0)) (f (pos 0)))
    → R (f d) (f (neg_ℤ d))
both_sides R f east turn (pos zero) none = none refl
both_sides R f east turn (pos (suc n)) none = east n
both_sides R f east turn (negsuc n) none = turn (f (pos (suc n))) (f (negsuc n)) (east n)
