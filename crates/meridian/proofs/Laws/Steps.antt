-- The models of the definition's other steps: the alternating series, the polynomial at a real number, and what goes before the roots and quotients. Assumes nothing.
use Rattle.std.specs.Prelude.{◌≡◌, refl, List, [], ◌∷◌, ℕ, ◌≤◌, ℤ, pos, ◌+ℤ◌, ◌-ℤ◌, ◌*ℤ◌}
use Rattle.std.proofs.Common.{sym, ◌∙◌, ap, subst}
use Rattle.arith.specs.Laws.Ring.{ring, Z·ring, by_ring, ev_num}
use Rattle.rules.specs.Systems.{◌/10^◌, Constants, a_coefficients}
use Rattle.rules.specs.Scaled.{one, product, alternating, arctan, odd_fractions, at_52, tan_52, Pair, plus, times, polynomial_from, polynomial, derivative}
use Rattle.rules.specs.Projection.{lifted, two_millionths}
use Rattle.rules.proofs.Laws.Meridian.{zero_product, flat_times}
use Rattle.fixed_bands.specs.Worked.{width}
use Rattle.fixed_bands.specs.Models.{Model, still, sum, difference, product_model, Follows}
use Rattle.fixed_bands.proofs.Laws.Models.{follows_still, follows_sum, follows_difference, follows_product}
use Rattle.meridian.specs.Models.{alternating_model, arctan_model, polynomial_model, lifted_model, numerator_model, denominator_model, under_model, over_model, z_model, slope_model}

pub follows_twice : {h : ℕ} {a : ℤ} (m : Model) → Follows h a m → Follows h (pos 2 *ℤ a) (sum m m)
follows_twice {h} {a} m f = subst (λ x. Follows h x (sum m m)) (twice a) (follows_sum m m f f)
  where
    twice : (a : ℤ) → a +ℤ a ≡ pos 2 *ℤ a
    twice a = ring (a ∷ []) λ ρ e. simp (Z·ring, ev_num ρ, e) (by_ring _ _ _ refl)

follows_alternating : {h : ℕ} {y : ℤ} (m : Model) (cs : List ℤ) → h ≤ width → Follows h y m → Follows h (alternating y cs) (alternating_model m cs)
unfolding alternating alternating_model
follows_alternating {h} m [] l f = follows_still h (pos 0)
follows_alternating {h} {y} m (c ∷ cs) l f =
    follows_difference (still c) (product_model m (alternating_model m cs)) (follows_still h c) (follows_product m (alternating_model m cs) l f (follows_alternating m cs l f))

follows_arctan : {h : ℕ} {x : ℤ} (m : Model) → h ≤ width → Follows h x m → Follows h (arctan x) (arctan_model m)
unfolding arctan arctan_model
follows_arctan m l f = follows_product m (alternating_model (product_model m m) odd_fractions) l f (follows_alternating (product_model m m) odd_fractions l (follows_product m m l f f))

-- ---- complex products of real numbers are real
real_times : (u v : Pair) → u.second ≡ pos 0 → (times u v).first ≡ product u.first v.first
unfolding times
real_times u v e = ap (λ x. product u.first v.first -ℤ x) (ap (λ t. product t v.second) e ∙ zero_product v.second) ∙ less_0 (product u.first v.first)
  where
    less_0 : (x : ℤ) → x -ℤ pos 0 ≡ x
    less_0 x = ring (x ∷ []) λ ρ e. simp (Z·ring, ev_num ρ, e) (by_ring _ _ _ refl)

follows_from : {h : ℕ} (p z : Pair) (mp mz : Model) (cs : List ℤ) → h ≤ width → p.second ≡ pos 0 → z.second ≡ pos 0 → Follows h p.first mp → Follows h z.first mz
    → Follows h (polynomial_from p z cs).first (polynomial_model mp mz cs)
unfolding polynomial_from plus polynomial_model
follows_from {h} p z mp mz [] l e g fp fz = follows_still h (pos 0)
follows_from {h} p z mp mz (c ∷ cs) l e g fp fz =
    follows_sum (product_model (still c) mp) (polynomial_model (product_model mp mz) mz cs) (follows_product (still c) mp l (follows_still h c) fp)
    (follows_from (times p z) z (product_model mp mz) mz cs l (flat_times p z e g) g (subst (λ x. Follows h x (product_model mp mz)) (sym (real_times p z e)) (follows_product mp mz l fp fz)) fz)

pub follows_slope : {h : ℕ} (k : Constants) (z : Pair) (m : Model) → h ≤ width → z.second ≡ pos 0 → Follows h z.first m → Follows h (polynomial (derivative (a_coefficients k)) z).first (slope_model k m)
unfolding polynomial slope_model
follows_slope {h} k z m l e f = follows_from (record { first = one; second = pos 0 }) z (still one) m (derivative (a_coefficients k)) l refl e (follows_still h one) f

-- ---- the sphere's sum and difference
module _ {h : ℕ} {K t : ℤ} (m_k mt : Model) (l : h ≤ width) (f_k : Follows h K m_k) (ft : Follows h t mt) where
  follows_lifted : Follows h (lifted K t) (lifted_model m_k mt)
  unfolding lifted lifted_model
  follows_lifted = follows_product (product_model m_k m_k) (sum (still one) mt) l (follows_product m_k m_k l f_k f_k) (follows_sum (still one) mt (follows_still h one) ft)

  pub follows_numerator : Follows h (lifted K t -ℤ (one -ℤ t)) (numerator_model m_k mt)
  unfolding numerator_model
  follows_numerator = follows_difference (lifted_model m_k mt) (difference (still one) mt) follows_lifted (follows_difference (still one) mt (follows_still h one) ft)

  pub follows_denominator : Follows h (lifted K t +ℤ (one -ℤ t)) (denominator_model m_k mt)
  unfolding denominator_model
  follows_denominator = follows_sum (lifted_model m_k mt) (difference (still one) mt) follows_lifted (follows_difference (still one) mt (follows_still h one) ft)

pub follows_under : {h : ℕ} {t : ℤ} (k : Constants) (m : Model) → h ≤ width → Follows h t m → Follows h (one -ℤ product (product k.e k.e) (product t t)) (under_model k m)
unfolding under_model
follows_under {h} k m l f =
    let e = still k.e in
    let fe = follows_still h k.e in
    follows_difference (still one) (product_model (product_model e e) (product_model m m)) (follows_still h one)
    (follows_product (product_model e e) (product_model m m) l (follows_product e e l fe fe) (follows_product m m l f f))

-- ---- the tangent's difference from 52°, Mercator's x and z
pub follows_over : {h : ℕ} {v : ℤ} (m : Model) → h ≤ width → Follows h v m → Follows h (one +ℤ product v tan_52) (over_model m)
unfolding over_model
follows_over {h} m l f = follows_sum (still one) (product_model m (still tan_52)) (follows_still h one) (follows_product m (still tan_52) l f (follows_still h tan_52))

-- of u, the tangent of the difference
pub follows_z : {h : ℕ} {u : ℤ} (k : Constants) (m : Model) → h ≤ width → Follows h u m → Follows h (product (product k.R0 (at_52 +ℤ arctan u) -ℤ 5760000 /10^ 0) two_millionths) (z_model k m)
unfolding z_model
follows_z {h} k m l f =
    let x = sum (still at_52) (arctan_model m) in
    let p = product_model (still k.R0) x in
    let c = still (5760000 /10^ 0) in
    follows_product (difference p c) (still two_millionths) l
    (follows_difference p c (follows_product (still k.R0) x l (follows_still h k.R0) (follows_sum (still at_52) (arctan_model m) (follows_still h at_52) (follows_arctan m l f))) (follows_still h (5760000 /10^ 0)))
    (follows_still h two_millionths)
