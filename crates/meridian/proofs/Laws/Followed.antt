-- A band that passes its test: step by step, the definition's scale before m0 lies within 10^-11 of 1 at every tick of it. Assumes nothing.
use Rattle.std.specs.Prelude.{◌≡◌, List, [], ◌∷◌, ℕ, ◌+◌, ◌*◌, ◌/◌, ◌<◌, ◌≤◌, T, ℤ, pos, ◌+ℤ◌, ◌-ℤ◌, ◌*ℤ◌}
use Rattle.std.proofs.Math.Path.{refl}
use Rattle.std.proofs.Common.{sym, ◌∙◌, ap, subst, leb→le, lit<, lit≤}
use Rattle.arith.specs.Laws.Ring.{ring, Z·ring, by_ring, ev_num}
use Rattle.arith.specs.Within.{Within}
use Rattle.arith.specs.Laws.Within.{w_add}
use Rattle.rules.specs.Systems.{◌/10^◌, Constants, a_coefficients}
use Rattle.rules.specs.Scaled.{unit, one, product, quotient, sqrt, tan_52, arctan_about_52, Pair, polynomial, derivative}
use Rattle.rules.specs.Projection.{K_of, Sphere, sphere, mercator, centred, two_millionths, N_of, sphere_scale}
use Rattle.rules.proofs.Laws.Meridian.{flat_mercator, straight_slope}
use Rattle.fixed.proofs.Laws.Bounds.{w_div, w_same, w_up}
use Rattle.fixed_bands.specs.Worked.{width}
use Rattle.fixed_bands.specs.Polynomials.{at, minus}
use Rattle.fixed_bands.proofs.Laws.Polynomials.{at_reach, at_minus}
use Rattle.fixed_bands.specs.Models.{Model, fine, still, sum, product_model, Follows}
use Rattle.fixed_bands.proofs.Laws.Models.{follows_still, follows_difference, follows_product}
use Rattle.fixed_bands.specs.Functions.{K_model}
use Rattle.fixed_bands.proofs.Laws.Functions.{follows_K}
use Rattle.fixed_bands.proofs.Laws.Rows.{first_of, second_of}
use Rattle.meridian.specs.Models.{gap, root_line, root_model, quotient_model, numerator_model, denominator_model, under_model, over_model, slant_model, z_model, slope_model, near_one, test_length, test_slant, test_tangent, test_scale, test_radius, test_root, test_sphere, test, test_from}
use Rattle.meridian.proofs.Laws.Divided.{follows_quotient, follows_root}
use Rattle.meridian.proofs.Laws.Steps.{follows_twice, follows_slope, follows_numerator, follows_denominator, follows_under, follows_over, follows_z}

-- ---- from a model near 1 to a number near 1
beside_one : {h : ℕ} {a : ℤ} (m : Model) → h ≤ width → T (near_one m) → Follows h a m → Within (a -ℤ one) gap
unfolding near_one at
beside_one {h} {a} m l t f =
    w_up gap (lit≤ tt) (w_div (a -ℤ one) fine (gap * fine) (lit< tt)
    (w_up (gap * fine) (leb→le _ _ t)
    (w_same _ (ap (λ x. x +ℤ (a *ℤ pos fine -ℤ at m.line (pos h))) (at_minus m.line (pos (unit * fine) ∷ []) (pos h)) ∙ law a (pos fine) (pos unit) (at m.line (pos h)) (pos h))
    (w_add (at_reach (minus m.line (pos (unit * fine) ∷ [])) h width l) f.gap))))
  where
    law : (a F U y h : ℤ) → (y -ℤ (U *ℤ F +ℤ h *ℤ pos 0)) +ℤ (a *ℤ F -ℤ y) ≡ (a -ℤ U) *ℤ F
    law a F U y h = ring (a ∷ F ∷ U ∷ y ∷ h ∷ []) λ ρ e1 e2 e3 e4 e5. simp (Z·ring, ev_num ρ, e1, e2, e3, e4, e5) (by_ring _ _ _ refl)

-- the scale before m0: S is R0·cos f / (N·cos B), and g the derivative's first part
abbrev NearOne : ℤ → ℤ → Type 0
NearOne S g = Within (product (product S one) (product (sqrt (product g g)) two_millionths) -ℤ one) gap

module _ {h : ℕ} (l : h ≤ width) where
  by_length : {S g : ℤ} (m_s mg : Model) → T (test_length m_s mg) → Follows h S m_s → Follows h g mg → NearOne S g
  unfolding test_length
  by_length m_s mg t f_s fg =
      let q = product_model mg mg in
      let r = root_model mg.line q in
      let S1 = product_model m_s (still one) in
      let r2 = product_model r (still two_millionths) in
      beside_one (product_model S1 r2) l (second_of _ _ t)
      (follows_product S1 r2 l (follows_product m_s (still one) l f_s (follows_still h one))
      (follows_product r (still two_millionths) l (follows_root mg.line q l (first_of _ _ t) (follows_product mg mg l fg fg)) (follows_still h two_millionths)))

  -- the derivative at the tangent v of the sphere's latitude
  by_slant : {S v : ℤ} (k : Constants) (m_s mv : Model) (z : Pair) → z.second ≡ pos 0 → z.first ≡ product (product k.R0 (arctan_about_52 v) -ℤ 5760000 /10^ 0) two_millionths
      → T (test_slant k m_s mv) → Follows h S m_s → Follows h v mv → NearOne S (polynomial (derivative (a_coefficients k)) z).first
  unfolding test_slant slant_model arctan_about_52
  by_slant k m_s mv z e g t f_s fv =
      let u = slant_model mv in
      by_length m_s (slope_model k (z_model k u)) (second_of _ _ t) f_s
      (follows_slope k z (z_model k u) l e
      (subst (λ x. Follows h x (z_model k u)) (sym g) (follows_z k u l (follows_quotient _ (over_model mv) l (first_of _ _ t) (follows_difference mv (still tan_52) fv (follows_still h tan_52)) (follows_over mv l fv)))))

  -- of the sphere's latitude f on the meridian
  by_tangent : {S : ℤ} (k : Constants) (f : Sphere) (m_s ms mw : Model) → T (test_tangent k m_s ms mw) → Follows h S m_s → Follows h f.sin_f ms → Follows h (product f.cos_f one) mw
      → NearOne S (straight_slope k f).first
  unfolding test_tangent centred mercator
  by_tangent k f m_s ms mw t f_s fs fw =
      by_slant k m_s (quotient_model ms mw) (centred (5760000 /10^ 0) (mercator k f (pos 0) one)) (flat_mercator k f one (5760000 /10^ 0)) refl (second_of _ _ t) f_s
      (follows_quotient ms mw l (first_of _ _ t) fs fw)

  by_scale : {Nc : ℤ} (k : Constants) (f : Sphere) (ms mc mw m_n : Model) → T (test_scale k ms mc mw m_n) → Follows h f.sin_f ms → Follows h f.cos_f mc → Follows h (product f.cos_f one) mw → Follows h Nc m_n
      → NearOne (quotient (product k.R0 f.cos_f) Nc) (straight_slope k f).first
  unfolding test_scale
  by_scale k f ms mc mw m_n t fs fc fw f_n =
      let R = still k.R0 in
      let p = product_model R mc in
      by_tangent k f (quotient_model p m_n) ms mw (second_of _ _ t) (follows_quotient p m_n l (first_of _ _ t) (follows_product R mc l (follows_still h k.R0) fc) f_n) fs fw

  -- of √(1 - e²t²)
  by_radius : {r c : ℤ} (k : Constants) (f : Sphere) (m_b ms mc mr : Model) → T (test_radius k m_b ms mc mr) → Follows h c m_b → Follows h f.sin_f ms → Follows h f.cos_f mc → Follows h r mr
      → NearOne (quotient (product k.R0 f.cos_f) (product (quotient k.a r) c)) (straight_slope k f).first
  unfolding test_radius
  by_radius k f m_b ms mc mr t f_b fs fc fr =
      let a = still k.a in
      let N = quotient_model a mr in
      by_scale k f ms mc (product_model mc (still one)) (product_model N m_b) (second_of _ _ t) fs fc (follows_product mc (still one) l fc (follows_still h one))
      (follows_product N m_b l (follows_quotient a mr l (first_of _ _ t) (follows_still h k.a) fr) f_b)

  by_root : {y c : ℤ} (k : Constants) (f : Sphere) (m_b ms mc my : Model) (r : List ℤ) → T (test_root k m_b ms mc my r) → Follows h c m_b → Follows h f.sin_f ms → Follows h f.cos_f mc → Follows h y my
      → NearOne (quotient (product k.R0 f.cos_f) (product (quotient k.a (sqrt y)) c)) (straight_slope k f).first
  unfolding test_root
  by_root k f m_b ms mc my r t f_b fs fc fy = by_radius k f m_b ms mc (root_model r my) (second_of _ _ t) f_b fs fc (follows_root r my l (first_of _ _ t) fy)

  -- of the latitude's sine and cosine
  pub followed : {t c : ℤ} (k : Constants) (mt m_b : Model) → T (test_from k mt m_b) → Follows h t mt → Follows h c m_b
      → let f = sphere (K_of k t) t c in NearOne (sphere_scale k f t c) (straight_slope k f).first
  unfolding test_from test test_sphere sphere sphere_scale N_of
  followed {t} {c} k mt m_b u ft f_b =
      let m_k = K_model k mt in
      let f_k = follows_K k mt l ft in
      let d = denominator_model m_k mt in
      let fd = follows_denominator m_k mt l f_k ft in
      let n = numerator_model m_k mt in
      let p = product_model (sum m_k m_k) m_b in
      by_root k (sphere (K_of k t) t c) m_b (quotient_model n d) (quotient_model p d) (under_model k mt) (root_line (under_model k mt)) (second_of _ _ u) f_b
      (follows_quotient n d l (first_of _ _ u) (follows_numerator m_k mt l f_k ft) fd)
      (follows_quotient p d l (first_of _ _ u) (follows_product (sum m_k m_k) m_b l (follows_twice m_k f_k) f_b) fd)
      (follows_under k mt l ft)
