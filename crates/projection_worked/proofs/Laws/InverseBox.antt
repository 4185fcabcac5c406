-- What the table and refusal 4 say of a point: m0 is a whole number of millionths, and the point lies in the box, in whole millimetres. Assumes nothing.
use Rattle.std.specs.Prelude.{Bool, true, false, ◌&&◌, ◌≡◌, List, [], ◌∷◌, ℕ, ◌*◌, ◌/◌, ◌^◌, ◌≤◌, ◌<◌, T, leb, eqb, ℤ, negsuc, nat_abs, ◌-ℤ◌, ◌*ℤ◌, ◌≤ℤ◌}
use Rattle.std.proofs.Common.{sym, ◌∙◌, subst, subst₂, le_trans, le_of_eq, le_of_mul-le-mul_right, leb→le, lit<}
use Rattle.std.proofs.Math.Path.{ap}
use native.Mathlib.Omega.{arith}
use Rattle.std.proofs.Math.IntN.{pos}
use Rattle.std.specs.Int.Signed.{le_z}
use Rattle.arith.specs.Laws.Diff.{Z·ℕ, lin}
use Rattle.arith.specs.Laws.Order.{abs_mul, abs_nonneg, ≤ℤ_trans, ≤ℤ_antisym, nn_num}
use Rattle.rules.specs.Refusals.{answered}
use Rattle.rules.specs.Units.{◌°◌'◌''}
use Rattle.rules.specs.Systems.{System, table, find, system}
use Rattle.rules.specs.Scaled.{one, unit}
use Rattle.rules.specs.Points.{offset_X, offset_Y, plane_bad, metres_times_m0}
use Rattle.rules.proofs.Laws.Checks.{plane_exact}
use Rattle.rules.proofs.Laws.Meeting.{T_and}
use Rattle.systems.specs.Zones.{Stands, Sized}
use Rattle.systems.specs.declared.Zone.{Zone}
use Rattle.projection_worked.specs.Worked.{millionths_of}
use Rattle.projection_worked.specs.Inverse.{side_km, Boxed}

-- m0 is M millionths, between 0.999 and 1
pub record Millionths (s : System) (M : ℕ) : Type 0 where
  pub is : s.m0 ≡ pos (M * 10 ^ 18)
  pub low : 999_000 ≤ M
  pub high : M ≤ 1_000_000

-- ---- of every row of the table
abbrev whole : System → Bool
whole s =
    le_z s.m0 (pos (millionths_of s * 10 ^ 18))
    && (le_z (pos (millionths_of s * 10 ^ 18)) s.m0
    && (leb 999_000 (millionths_of s) && leb (millionths_of s) 1_000_000))

whole_is : (s : System) → T (whole s) → Millionths s (millionths_of s)
whole_is s t =
    let a = T_and (le_z s.m0 (pos (millionths_of s * 10 ^ 18))) _ t in
    let b = T_and (le_z (pos (millionths_of s * 10 ^ 18)) s.m0) _ a.1 in
    let c = T_and (leb 999_000 (millionths_of s)) (leb (millionths_of s) 1_000_000) b.1 in
    record { is = ≤ℤ_antisym (record { le = a.0 }) (record { le = b.0 }); low = leb→le _ _ c.0; high = leb→le _ _ c.1 }

-- what holds of every row holds of the one that is found
abbrev every : (System → Bool) → List System → Bool
every P [] = true
every P (s ∷ ss) = P s && every P ss

pub found_of : (P : System → Bool) (code : ℕ) (ss : List System) (s : System) → T (every P ss) → find code ss ≡ answered s → T (P s)
unfolding find
found_of P code [] s t e = absurd (let z : ◌≡◌ {A = ℕ} 0 1 = cc in omega arith)
found_of P code (r ∷ ss) s t e = let u = T_and (P r) (every P ss) t in go (eqb code r.code) u.0 (found_of P code ss s u.1) e
  where
    go : (b : Bool) → T (P r) → (find code ss ≡ answered s → T (P s)) → elim b [ true ↦ answered r | false ↦ find code ss ] ≡ answered s → T (P s)
    go true u k e = let i : r ≡ s = cc in subst (λ x. T (P x)) i u
    go false u k e = k e

pub system_millionths : (code : ℕ) (s : System) → system code ≡ answered s → Millionths s (millionths_of s)
unfolding system table millionths_of
system_millionths code s e = whole_is s (found_of whole code table s tt e)

-- every half-width is at most 5°30'
pub system_narrow : (code : ℕ) (s : System) → system code ≡ answered s → s.half_width ≤ 5 ° 30 ' 0 ''
unfolding system table
system_narrow code s e = leb→le _ _ (found_of (λ s. leb s.half_width (5 ° 30 ' 0 '')) code table s tt e)

-- ---- of the code's row
pub zone_millionths : (z : Zone) (s : System) → Stands z s → Sized z → Millionths s (nat_abs z.millionths)
zone_millionths z s h k = go z.millionths h.scale k.millionths_positive k.millionths
  where
    go : (m : ℤ) → s.m0 ≡ m *ℤ pos (10 ^ 18) → pos 999_000 ≤ℤ m → nat_abs m ≤ 1_000_000 → Millionths s (nat_abs m)
    go (pos m) e l u = record { is = e; low = leb→le _ _ l.le; high = u }
    go (negsuc m) e l u = absurd l.le

pub same_millionths : (s : System) (M : ℕ) → Millionths s M → millionths_of s ≡ M
unfolding millionths_of
same_millionths s M h = ap (λ m. nat_abs m / 10 ^ 18) h.is ∙ go M
  where
    go : (M : ℕ) → M * 10 ^ 18 / 10 ^ 18 ≡ M
    go M = omega arith

-- ---- a point that passes refusal 4
module _ (s : System) (M : ℕ) (m : Millionths s M) (X Y : ℤ) (p : plane_bad s X Y ≡ false) where
  limit : (k : ℕ) → metres_times_m0 s (k * 1000) ≡ pos (k * M) *ℤ one
  unfolding metres_times_m0
  limit k = ap (λ z. pos (1000 * (k * 1000)) *ℤ z) m.is ∙ ap pos (go k M)
    where
      go : (k M : ℕ) → 1000 * (k * 1000) * (M * 10 ^ 18) ≡ k * M * 10 ^ 24
      go k M = omega arith

  north_low : pos (5300 * M) ≤ℤ (X -ℤ offset_X s)
  north_low = less (pos (5300 * M)) (X -ℤ offset_X s) (subst (λ z. z ≤ℤ ((X -ℤ offset_X s) *ℤ one)) (limit 5300) ((plane_exact s X Y).0 p).0)
    where
      less : (a b : ℤ) → (a *ℤ one) ≤ℤ (b *ℤ one) → a ≤ℤ b
      less a b = lin (a ∷ b ∷ []) λ u v ea eb. simp (Z·ℕ, ea, eb) (omega arith)

  -- the point is so far north of the offset
  pub north_is : pos (nat_abs (X -ℤ offset_X s)) ≡ X -ℤ offset_X s
  north_is = abs_nonneg (X -ℤ offset_X s) (≤ℤ_trans (nn_num (5300 * M)) north_low)

  pub boxed : Boxed M (nat_abs (X -ℤ offset_X s)) (nat_abs (Y -ℤ offset_Y s))
  boxed = record {
    scale_low = m.low;
    scale_high = m.high;
    low = leb→le _ _ (subst (λ z. pos (5300 * M) ≤ℤ z) (sym north_is) north_low).le;
    high = at_most (nat_abs (X -ℤ offset_X s)) (6250 * M) (leb→le _ _ (subst₂ (λ a b. (a *ℤ one) ≤ℤ b) (sym north_is) (limit 6250) ((plane_exact s X Y).0 p).1).le);
    side = at_most (nat_abs (Y -ℤ offset_Y s)) (side_km * M) (le_trans (le_of_eq (sym (abs_mul (Y -ℤ offset_Y s) one))) (leb→le _ _ (subst (λ b. pos (nat_abs ((Y -ℤ offset_Y s) *ℤ one)) ≤ℤ b) (limit side_km) ((plane_exact s X Y).0 p).2).le));
  }
    where
      at_most : (a b : ℕ) → a * unit ≤ b * unit → a ≤ b
      at_most a b h = le_of_mul-le-mul_right {k = unit} h (lit< tt)
