-- The scale in whole units of 10^-9: how near it is to the definition's. Assumes nothing: the derivative's first part and slope come from f64, and how near they
-- are is for the caller to show.
use Rattle.std.specs.Prelude.{◌≡◌, refl, [], ◌∷◌, ℕ, ◌+◌, ◌*◌, ◌/◌, ◌%◌, ◌^◌, ◌<◌, ◌≤◌, ℤ, pos, ◌+ℤ◌, ◌-ℤ◌, ◌*ℤ◌}
use Rattle.std.proofs.Common.{mod-lt, div-add-mod', arith, lit<}
use Rattle.arith.specs.Laws.Ring.{ring, Z·ring, by_ring}
use Rattle.arith.specs.Within as A
use Rattle.arith.specs.Laws.Within.{w_num, w_add, w_sub, w_mul}
use Rattle.rules.specs.Units.{◌°◌'◌'', units_in_scale}
use Rattle.rules.specs.Scaled.{unit, product}
use Rattle.rules.specs.Rounding.{Within}
use Rattle.fixed.specs.Worked.{P30}
use Rattle.fixed.specs.Nearness.{NearAt, Near60}
use Rattle.fixed.proofs.Laws.Bounds.{w_div, w_same, w_pos, w_rest}
use Rattle.fixed.proofs.Laws.Products.{product_rest}
use Rattle.fixed_inverse.proofs.Laws.Ticks.{nearest_even_is}
use Rattle.fixed_units.specs.Worked.{scale_units, m0_units}
use Rattle.fixed_units.proofs.Laws.Rounded.{rounded_within}
use Rattle.fixed_units.specs.Scale.{times_e}

pub times_near : {sc e : ℕ} {w : ℤ} (M : ℕ) → M ≤ 1000000 → Near60 sc w e → NearAt P30 (pos (sc * m0_units M / P30)) (pos units_in_scale *ℤ product w (pos (M * 10 ^ 18))) (times_e e)
unfolding times_e
times_near {sc} {e} {w} M l h = record {
  gap = w_div (pos n *ℤ pos unit -ℤ pos units_in_scale *ℤ product w (pos (M * 10 ^ 18)) *ℤ pos P30) (P30 * unit) _ (lit< tt)
      (w_same _ (law (pos sc) (pos n) w (product w (pos (M * 10 ^ 18))) (pos M) (pos 1000) (pos 1000000) (pos (10 ^ 18)) (pos P30))
      (w_add
      (w_sub (w_mul (w_mul (w_num unit) (w_pos (units l))) h.gap) (w_mul (w_mul rest (w_num unit)) (w_num unit)))
      (w_mul (w_mul (w_num units_in_scale) (product_rest w (pos (M * 10 ^ 18)))) (w_num (P30 * P30)))));
}
  where
    n : ℕ
    n = sc * m0_units M / P30

    units : {M : ℕ} → M ≤ 1000000 → m0_units M ≤ units_in_scale
    units l = omega arith

    low : {x : ℕ} (y r : ℕ) → y + r ≡ x → y ≤ x
    low y r e = omega arith

    high : {x d : ℕ} (y r : ℕ) → y + r ≡ x → r < d → x ≤ y + d
    high y r e l = omega arith

    rest : A.Within (pos (sc * m0_units M) -ℤ pos (n * P30)) P30
    rest = w_rest (sc * m0_units M) (n * P30) P30 (low (n * P30) (sc * m0_units M % P30) (div-add-mod' (sc * m0_units M) P30)) (high (n * P30) (sc * m0_units M % P30) (div-add-mod' (sc * m0_units M) P30) (mod-lt (sc * m0_units M) (lit< tt)))

    -- the unit is b·v, 10^9 are a·v, m0 is M·b, and in units of 10^-9 it is a·M
    law : (s n w p M a v b P : ℤ)
        → (b *ℤ v) *ℤ (a *ℤ M) *ℤ (s *ℤ (b *ℤ v) -ℤ w *ℤ (P *ℤ P)) -ℤ (s *ℤ (a *ℤ M) -ℤ n *ℤ P) *ℤ (b *ℤ v) *ℤ (b *ℤ v) +ℤ (a *ℤ v) *ℤ (w *ℤ (M *ℤ b) -ℤ p *ℤ (b *ℤ v)) *ℤ (P *ℤ P)
        ≡ (n *ℤ (b *ℤ v) -ℤ (a *ℤ v) *ℤ p *ℤ P) *ℤ (P *ℤ (b *ℤ v))
    law s n w p M a v b P = ring (s ∷ n ∷ w ∷ p ∷ M ∷ a ∷ v ∷ b ∷ P ∷ []) λ ρ e1 e2 e3 e4 e5 e6 e7 e8 e9. simp (Z·ring, e1, e2, e3, e4, e5, e6, e7, e8, e9) (by_ring _ _ _ refl)

-- a scale within 1,500,000 units of 2^-60 is answered within 0.51 of a unit
pub scale_units_near : {sc : ℕ} {w : ℤ} (M : ℕ) → M ≤ 1000000 → Near60 sc w (1500000 * unit) → Within 51 (pos (scale_units (m0_units M) sc)) (pos units_in_scale *ℤ product w (pos (M * 10 ^ 18)))
unfolding scale_units times_e
scale_units_near {sc} M l h = rounded_within 51 P30 (lit< tt) (times_near M l h) (nearest_even_is (sc * m0_units M / P30) P30 (lit< tt)) tt
