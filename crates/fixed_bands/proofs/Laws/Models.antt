-- A number of the definition that turns on the ticks h from the start of a band, followed as a polynomial in h and an error: for each operation of the definition, the
-- model of its result. All of it computes, and what it says of a whole band is checked by computing. Assumes nothing.
use Rattle.std.specs.Prelude.{◌≡◌, refl, List, [], ◌∷◌, ℕ, ◌+◌, ◌*◌, ◌-◌, ◌/◌, ◌^◌, ◌<◌, ◌≤◌, T, ℤ, pos, neg_ℤ, ◌+ℤ◌, ◌-ℤ◌, ◌*ℤ◌}
use Rattle.std.proofs.Common.{sym, ◌∙◌, ap, lit<}
use Rattle.arith.specs.Laws.Ring.{ring, Z·ring, by_ring, ev_num}
use Rattle.arith.specs.Floor.{floor}
use Rattle.arith.specs.Within.{Within}
use Rattle.arith.specs.Laws.Within.{w_num, w_add, w_sub, w_neg, w_mul}
use Rattle.rules.specs.Scaled.{unit, one, product, nested, summed}
use Rattle.fixed.proofs.Laws.Bounds.{w_div, w_same, w_floor_rest}
use Rattle.fixed.specs.Laws.Nested.{all_positive}
use Rattle.fixed.proofs.Laws.Nested.{first_positive, rest_positive}
use Rattle.fixed_bands.specs.Worked.{width}
use Rattle.fixed_bands.specs.Polynomials.{at, reach, multiple, times, minus, cut}
use Rattle.fixed_bands.proofs.Laws.Polynomials.{at_reach, at_plus, at_multiple, at_times, at_negated, at_minus}
use Rattle.fixed_bands.specs.Models.{Follows, Model, difference, fine, nested_model, opposite, part, product_line, product_model, still, sum, summed_model}

pub follows_still : (h : ℕ) (c : ℤ) → Follows h c (still c)
unfolding still at
follows_still h c = record { gap = w_same _ (law c (pos fine) (pos h)) (w_num 0) }
  where
    law : (c f h : ℤ) → pos 0 ≡ c *ℤ f -ℤ (f *ℤ c +ℤ h *ℤ pos 0)
    law c f h = ring (c ∷ f ∷ h ∷ []) λ ρ e1 e2 e3. simp (Z·ring, ev_num ρ, e1, e2, e3) (by_ring _ _ _ refl)

pub follows_opposite : {h : ℕ} {a : ℤ} (m : Model) → Follows h a m → Follows h (neg_ℤ a) (opposite m)
unfolding opposite
follows_opposite {h} {a} m f = record { gap = w_same _ (law a (pos fine) (at m.line (pos h)) ∙ ap (λ x. neg_ℤ a *ℤ pos fine -ℤ x) (sym (at_negated m.line (pos h)))) (w_neg f.gap) }
  where
    law : (a f x : ℤ) → neg_ℤ (a *ℤ f -ℤ x) ≡ neg_ℤ a *ℤ f -ℤ neg_ℤ x
    law a f x = ring (a ∷ f ∷ x ∷ []) λ ρ e1 e2 e3. simp (Z·ring, e1, e2, e3) (by_ring _ _ _ refl)

pub follows_sum : {h : ℕ} {a b : ℤ} (m n : Model) → Follows h a m → Follows h b n → Follows h (a +ℤ b) (sum m n)
unfolding sum
follows_sum {h} {a} {b} m n f g =
    record { gap = w_same _ (law a b (pos fine) (at m.line (pos h)) (at n.line (pos h)) ∙ ap (λ x. (a +ℤ b) *ℤ pos fine -ℤ x) (sym (at_plus m.line n.line (pos h)))) (w_add f.gap g.gap) }
  where
    law : (a b f x y : ℤ) → (a *ℤ f -ℤ x) +ℤ (b *ℤ f -ℤ y) ≡ (a +ℤ b) *ℤ f -ℤ (x +ℤ y)
    law a b f x y = ring (a ∷ b ∷ f ∷ x ∷ y ∷ []) λ ρ e1 e2 e3 e4 e5. simp (Z·ring, e1, e2, e3, e4, e5) (by_ring _ _ _ refl)

pub follows_difference : {h : ℕ} {a b : ℤ} (m n : Model) → Follows h a m → Follows h b n → Follows h (a -ℤ b) (difference m n)
unfolding difference
follows_difference {h} {a} {b} m n f g =
    record { gap = w_same _ (law a b (pos fine) (at m.line (pos h)) (at n.line (pos h)) ∙ ap (λ x. (a -ℤ b) *ℤ pos fine -ℤ x) (sym (at_minus m.line n.line (pos h)))) (w_sub f.gap g.gap) }
  where
    law : (a b f x y : ℤ) → (a *ℤ f -ℤ x) -ℤ (b *ℤ f -ℤ y) ≡ (a -ℤ b) *ℤ f -ℤ (x -ℤ y)
    law a b f x y = ring (a ∷ b ∷ f ∷ x ∷ y ∷ []) λ ρ e1 e2 e3 e4 e5. simp (Z·ring, e1, e2, e3, e4, e5) (by_ring _ _ _ refl)

-- what the polynomial r·s leaves of p, at h
leaves : (p r : List ℤ) (s h : ℕ) → h ≤ width → Within (at p (pos h) -ℤ pos s *ℤ at r (pos h)) (reach width (minus p (multiple (pos s) r)))
leaves p r s h l =
    w_same _ (at_minus p (multiple (pos s) r) (pos h) ∙ ap (λ x. at p (pos h) -ℤ x) (at_multiple (pos s) r (pos h))) (at_reach (minus p (multiple (pos s) r)) h width l)

-- for any fineness F and unit U
product_gap : (F U : ℕ) (a b f x y z : ℤ) {e g X Y E : ℕ}
    → 0 < U * F
    → Within (a *ℤ pos F -ℤ x) e
    → Within (b *ℤ pos F -ℤ y) g
    → Within x X
    → Within y Y
    → Within (a *ℤ b -ℤ f *ℤ pos U) U
    → Within (x *ℤ y -ℤ pos (U * F) *ℤ z) E
    → Within (f *ℤ pos F -ℤ z) ((F * F * U + e * (Y + g) + X * g + E) / (U * F))
product_gap F U a b f x y z p wa wb wx wy wf wz =
    w_div (f *ℤ pos F -ℤ z) (U * F) _ p
    (w_same _ (law (pos F) (pos U) a b f x y z)
    (w_add (w_add (w_add (w_neg (w_mul (w_num (F * F)) wf)) (w_mul wa (w_from' wy wb))) (w_mul wx wb)) wz))
  where
    -- b·F is as large as y, and the gap more
    w_from' : {Y g : ℕ} → Within y Y → Within (b *ℤ pos F -ℤ y) g → Within (b *ℤ pos F) (Y + g)
    w_from' h k = w_same _ (back (b *ℤ pos F) y) (w_add h k)
      where
        back : (u v : ℤ) → v +ℤ (u -ℤ v) ≡ u
        back u v = ring (u ∷ v ∷ []) λ ρ e1 e2. simp (Z·ring, e1, e2) (by_ring _ _ _ refl)

    law : (F U a b f x y z : ℤ) → neg_ℤ (F *ℤ F *ℤ (a *ℤ b -ℤ f *ℤ U)) +ℤ (a *ℤ F -ℤ x) *ℤ (b *ℤ F) +ℤ x *ℤ (b *ℤ F -ℤ y) +ℤ (x *ℤ y -ℤ U *ℤ F *ℤ z) ≡ (f *ℤ F -ℤ z) *ℤ (U *ℤ F)
    law F U a b f x y z = ring (F ∷ U ∷ a ∷ b ∷ f ∷ x ∷ y ∷ z ∷ []) λ ρ e1 e2 e3 e4 e5 e6 e7 e8. simp (Z·ring, e1, e2, e3, e4, e5, e6, e7, e8) (by_ring _ _ _ refl)

pub follows_product : {h : ℕ} {a b : ℤ} (m n : Model) → h ≤ width → Follows h a m → Follows h b n → Follows h (product a b) (product_model m n)
unfolding product_model product_line product
follows_product {h} {a} {b} m n l f g =
    let p = m.line in
    let q = n.line in
    record {
      gap =
          product_gap fine unit a b (floor (a *ℤ b) unit) (at p (pos h)) (at q (pos h)) (at (cut 8 (unit * fine) (times p q)) (pos h)) (lit< tt) f.gap g.gap (at_reach p h width l) (at_reach q h width l)
          (w_floor_rest (a *ℤ b) unit (lit< tt))
          (w_same _ (ap (λ x. x -ℤ pos (unit * fine) *ℤ at (cut 8 (unit * fine) (times p q)) (pos h)) (at_times p q (pos h))) (leaves (times p q) (cut 8 (unit * fine) (times p q)) (unit * fine) h l));
    }

-- for any fineness F
part_gap : (F d : ℕ) (a f x z : ℤ) {e E : ℕ} → 0 < d → Within (a *ℤ pos F -ℤ x) e → Within (a -ℤ f *ℤ pos d) d → Within (x -ℤ pos d *ℤ z) E → Within (f *ℤ pos F -ℤ z) ((F * d + e + E) / d)
part_gap F d a f x z p wa wf wz = w_div (f *ℤ pos F -ℤ z) d _ p (w_same _ (law (pos F) (pos d) a f x z) (w_add (w_add (w_neg (w_mul (w_num F) wf)) wa) wz))
  where
    law : (F d a f x z : ℤ) → neg_ℤ (F *ℤ (a -ℤ f *ℤ d)) +ℤ (a *ℤ F -ℤ x) +ℤ (x -ℤ d *ℤ z) ≡ (f *ℤ F -ℤ z) *ℤ d
    law F d a f x z = ring (F ∷ d ∷ a ∷ f ∷ x ∷ z ∷ []) λ ρ e1 e2 e3 e4 e5 e6. simp (Z·ring, e1, e2, e3, e4, e5, e6) (by_ring _ _ _ refl)

pub follows_part : {h : ℕ} {a : ℤ} (d : ℕ) (m : Model) → 0 < d → h ≤ width → Follows h a m → Follows h (floor a d) (part d m)
unfolding part
follows_part {h} {a} d m p l f =
    record {
      gap =
          part_gap fine d a (floor a d) (at m.line (pos h)) (at (cut 8 d m.line) (pos h)) p f.gap (w_floor_rest a d p) (leaves m.line (cut 8 d m.line) d h l);
    }

pub follows_nested : {h : ℕ} {y : ℤ} (m : Model) (ds : List ℕ) → T (all_positive ds) → h ≤ width → Follows h y m → Follows h (nested y ds) (nested_model m ds)
unfolding nested nested_model
follows_nested {h} m [] t l f = follows_still h one
follows_nested {h} {y} m (d ∷ ds) t l f =
    follows_difference (still one) (part d (product_model m (nested_model m ds))) (follows_still h one)
    (follows_part d (product_model m (nested_model m ds)) (first_positive d ds t) l (follows_product m (nested_model m ds) l f (follows_nested m ds (rest_positive d ds t) l f)))

pub follows_summed : {h : ℕ} {y : ℤ} (m : Model) (cs : List ℤ) → h ≤ width → Follows h y m → Follows h (summed y cs) (summed_model m cs)
unfolding summed summed_model
follows_summed {h} m [] l f = follows_still h (pos 0)
follows_summed {h} {y} m (c ∷ cs) l f = follows_sum (still c) (product_model m (summed_model m cs)) (follows_still h c) (follows_product m (summed_model m cs) l f (follows_summed m cs l f))
