-- Models of the definition's functions along a band: an angle, its sine and cosine, and K. Assumes nothing.
use Rattle.std.specs.Prelude.{◌≡◌, refl, Bool, true, false, [], ◌∷◌, ℕ, ◌+◌, ◌*◌, ◌<◌, ◌≤◌, ℤ, pos, neg_ℤ, ◌+ℤ◌, ◌-ℤ◌, ◌*ℤ◌}
use Rattle.std.proofs.Common.{◌∙◌, lit<}
use Rattle.arith.specs.Laws.Ring.{ring, Z·ring, by_ring, ev_num}
use Rattle.arith.specs.Laws.Within.{w_num}
use Rattle.rules.specs.Units.{half_turn_in_ticks}
use Rattle.rules.specs.Scaled.{Pi, radians, sine, cosine, artanh, exponential, sine_divisors, cosine_divisors, odd_fractions, exponential_coefficients}
use Rattle.rules.specs.Systems.{Constants}
use Rattle.rules.specs.Projection.{K_of}
use Rattle.fixed.specs.Nearness.{turned}
use Rattle.fixed.proofs.Laws.Bounds.{w_same}
use Rattle.fixed.specs.Laws.Numbers.{numbers}
use Rattle.fixed_bands.specs.Worked.{width}
use Rattle.fixed_bands.specs.Polynomials.{at}
use Rattle.fixed_bands.specs.Models.{Model, fine, still, opposite, product_model, nested_model, summed_model, Follows}
use Rattle.fixed_bands.proofs.Laws.Models.{follows_still, follows_opposite, follows_product, follows_part, follows_nested, follows_summed}
use Rattle.fixed_bands.specs.Functions.{K_model, angle_model, artanh_model, cosine_model, sine_model}

pub follows_angle : (s : Bool) (from h : ℕ) → h ≤ width → Follows h (radians (turned s (pos (from + h)))) (angle_model s from)
unfolding angle_model radians turned at
follows_angle s from h l = follows_part {a = turned s (pos (from + h)) *ℤ pos Pi} half_turn_in_ticks _ (lit< tt) l (record { gap = w_same _ (exact s) (w_num 0) })
  where
    east : (f p n h : ℤ) → pos 0 ≡ (n +ℤ h) *ℤ p *ℤ f -ℤ (f *ℤ (n *ℤ p) +ℤ h *ℤ (f *ℤ p +ℤ h *ℤ pos 0))
    east f p n h = ring (f ∷ p ∷ n ∷ h ∷ []) λ ρ e1 e2 e3 e4. simp (Z·ring, ev_num ρ, e1, e2, e3, e4) (by_ring _ _ _ refl)

    west : (f p n h : ℤ) → pos 0 ≡ neg_ℤ (n +ℤ h) *ℤ p *ℤ f -ℤ (f *ℤ neg_ℤ (n *ℤ p) +ℤ h *ℤ (f *ℤ neg_ℤ p +ℤ h *ℤ pos 0))
    west f p n h = ring (f ∷ p ∷ n ∷ h ∷ []) λ ρ e1 e2 e3 e4. simp (Z·ring, ev_num ρ, e1, e2, e3, e4) (by_ring _ _ _ refl)

    exact : (s : Bool) → pos 0 ≡ turned s (pos (from + h)) *ℤ pos Pi *ℤ pos fine -ℤ at ((pos fine *ℤ turned s (pos from *ℤ pos Pi)) ∷ (pos fine *ℤ turned s (pos Pi)) ∷ []) (pos h)
    exact false = east (pos fine) (pos Pi) (pos from) (pos h)
    exact true = west (pos fine) (pos Pi) (pos from) (pos h)

pub follows_sine : {h : ℕ} {x : ℤ} (m : Model) → h ≤ width → Follows h x m → Follows h (sine x) (sine_model m)
unfolding sine sine_model numbers
follows_sine m l f = follows_product m (nested_model (product_model m m) sine_divisors) l f (follows_nested (product_model m m) sine_divisors tt l (follows_product m m l f f))

pub follows_cosine : {h : ℕ} {x : ℤ} (m : Model) → h ≤ width → Follows h x m → Follows h (cosine x) (cosine_model m)
unfolding cosine cosine_model numbers
follows_cosine m l f = follows_nested (product_model m m) cosine_divisors tt l (follows_product m m l f f)

pub follows_artanh : {h : ℕ} {x : ℤ} (m : Model) → h ≤ width → Follows h x m → Follows h (artanh x) (artanh_model m)
unfolding artanh artanh_model
follows_artanh m l f = follows_product m (summed_model (product_model m m) odd_fractions) l f (follows_summed (product_model m m) odd_fractions l (follows_product m m l f f))

pub follows_K : {h : ℕ} {t : ℤ} (k : Constants) (m : Model) → h ≤ width → Follows h t m → Follows h (K_of k t) (K_model k m)
unfolding K_of K_model exponential
follows_K {h} k m l f =
    let e = still k.e in
    let y = product_model e m in
    let fe = follows_still h k.e in
    follows_summed (opposite (product_model e (artanh_model y))) exponential_coefficients l
    (follows_opposite (product_model e (artanh_model y)) (follows_product e (artanh_model y) l fe (follows_artanh y l (follows_product e m l fe f))))
