-- What is asked of a row of a table, six coefficients, for its worked polynomial to be near a number of the definition along a whole band: a test that computes, and
-- what it shows. Assumes nothing.
use Rattle.std.specs.Prelude.{◌≡◌, refl, Bool, true, false, List, [], ◌∷◌, ℕ, zero, suc, ◌+◌, ◌*◌, ◌-◌, ◌/◌, ◌%◌, ◌^◌, ◌<◌, ◌≤◌, T, length, get_or, ℤ, pos, ◌+ℤ◌, ◌-ℤ◌, ◌*ℤ◌}
use Rattle.std.proofs.Common.{◌∙◌, ap, subst, le_trans, le_refl, add-le-add, mul-le-mul, le-div_iff_mul-le, arith, leb→le, lit<, lit≤}
use Rattle.arith.specs.Laws.Ring.{ring, Z·ring, by_ring}
use Rattle.arith.specs.Within.{Within}
use Rattle.arith.specs.Laws.Within.{w_num, w_add, w_sub, w_mul}
use Rattle.rules.specs.Scaled.{unit}
use Rattle.fixed.specs.Worked.{S60, P30}
use Rattle.fixed.specs.Nearness.{Near60, Fixed}
use Rattle.fixed.proofs.Laws.Bounds.{w_div, w_same}
use Rattle.fixed.proofs.Laws.Products.{near_le}
use Rattle.fixed_bands.specs.declared.Row.{Row}
use Rattle.fixed_bands.specs.Worked.{width, part30, rise, sink}
use Rattle.fixed_bands.specs.Polynomials.{at, multiple, minus}
use Rattle.fixed_bands.proofs.Laws.Polynomials.{at_reach, at_multiple, at_minus}
use Rattle.fixed_bands.specs.Models.{Model, fine, Follows}
use Rattle.fixed_bands.specs.Traces.{Part30}
use Rattle.fixed_bands.proofs.Laws.Traces.{part30_is, traces_last, traces_up, traces_down}
use Rattle.fixed_bands.specs.Rows.{Line, Rises, RowAt, numbers, Sinks, also, apart, rise_line, rise_test, scale, sink_line, sink_test}

-- ---- the rows of the code, one by one
later : (r : Row) (rs : List Row) (i k : ℕ) → get_or (numbers rs) (6 * i + k) 0 ≡ get_or (numbers (r ∷ rs)) (6 * suc i + k) 0
later r rs i k = ap (λ n. get_or (numbers (r ∷ rs)) n 0) (six i k)
  where
    six : (i k : ℕ) → suc (suc (suc (suc (suc (suc (6 * i + k)))))) ≡ 6 * suc i + k
    six i k = omega arith

pub rows_at : (rs : List Row) (d : Row) (i : ℕ) → i < length rs → RowAt (numbers rs) i (get_or rs i d)
rows_at [] d i h = absurd (omega arith)
rows_at (r ∷ rs) d zero h = record { is0 = refl; is1 = refl; is2 = refl; is3 = refl; is4 = refl; is5 = refl }
rows_at (r ∷ rs) d (suc i) h =
    let a = rows_at rs d i (omega arith) in
    record {
      is0 = a.is0 ∙ ap (λ n. get_or (numbers (r ∷ rs)) n 0) (first i);
      is1 = a.is1 ∙ later r rs i 1;
      is2 = a.is2 ∙ later r rs i 2;
      is3 = a.is3 ∙ later r rs i 3;
      is4 = a.is4 ∙ later r rs i 4;
      is5 = a.is5 ∙ later r rs i 5;
    }
  where
    first : (i : ℕ) → suc (suc (suc (suc (suc (suc (6 * i)))))) ≡ 6 * suc i
    first i = omega arith

-- ---- a row by its number, where that is below 32
pub band_row : (tab : List ℕ) (k : ℕ) {i : ℕ} {r : Row} → i < 32 → i % 32 ≡ k → RowAt tab k r → RowAt tab i r
band_row tab k {i} {r} l e f = subst (λ n. RowAt tab n r) (same i l e) f
  where
    same : (i : ℕ) → i < 32 → i % 32 ≡ k → k ≡ i
    same i l e = omega arith

-- a number that is at least k and is not k is more
pub next : (k n : ℕ) → k ≤ n → (n ≡ k → ⊥) → suc k ≤ n
next k n l h = omega arith

back : (c m : ℕ) → m ≤ c → c - m + m ≡ c
back c m h = omega arith

-- how large the last step can be
part_most : {s h m c : ℕ} → Part30 s h m → s ≤ c → h ≤ width → m ≤ c * width / P30
part_most p k l = (le-div_iff_mul-le (lit< tt)).1 (le_trans p.lo (mul-le-mul k l))

less : (c : ℕ) {m n : ℕ} → m ≤ n → c - n ≤ c - m
less c h = omega arith

pub rise_is : {c0 c1 c2 c3 c4 c5 : ℕ} (h : ℕ) → Rises c0 c1 c2 c3 c4 c5 → h ≤ width → Line (rise c0 c1 c2 c3 c4 c5 h) c0 (c0 + c1 * width / P30) h (rise_line c0 c1 c2 c3 c4 c5)
unfolding rise_line
rise_is {c0} {c1} {c2} {c3} {c4} {c5} h r b =
    let l = le_trans b (lit≤ tt) in
    let m5 = part30 c5 h in
    let p5 = part30_is c5 h l in
    let m4 = part30 (c4 + m5) h in
    let p4 = part30_is (c4 + m5) h l in
    let m3 = part30 (c3 - m4) h in
    let p3 = part30_is (c3 - m4) h l in
    let m2 = part30 (c2 + m3) h in
    let p2 = part30_is (c2 + m3) h l in
    let m1 = part30 (c1 - m2) h in
    let p1 = part30_is (c1 - m2) h l in
    let s = sizes m5 m4 m3 m2 m1 p5.small p4.small p3.small p2.small p1.small in
    let t4 = traces_up (scale 0) c4 m5 l p5 (traces_last h c5) in
    let t3 = traces_down (scale 1) c3 m4 (c3 - m4) (back c3 m4 s.0) l p4 t4 in
    let t2 = traces_up (scale 2) c2 m3 l p3 t3 in
    let t1 = traces_down (scale 3) c1 m2 (c1 - m2) (back c1 m2 s.1) l p2 t2 in
    record { traces = traces_up (scale 4) c0 m1 l p1 t1; low = s.2; high = add-le-add (le_refl c0) (part_most p1 s.3 b) }
  where
    sizes : (m5 m4 m3 m2 m1 : ℕ) → m5 ≤ c5 → m4 ≤ c4 + m5 → m3 ≤ c3 - m4 → m2 ≤ c2 + m3 → m1 ≤ c1 - m2 → (m4 ≤ c3) × (m2 ≤ c1) × (c0 ≤ c0 + m1) × (c1 - m2 ≤ c1)
    sizes m5 m4 m3 m2 m1 k5 k4 k3 k2 k1 = (omega (arith, r.inner), omega (arith, r.inner, r.middle), omega arith, omega arith)

pub sink_is : {c0 c1 c2 c3 c4 c5 : ℕ} (h : ℕ) → Sinks c0 c1 c2 c3 c4 c5 → h ≤ width → Line (sink c0 c1 c2 c3 c4 c5 h) (c0 - (c1 + c2) * width / P30) c0 h (sink_line c0 c1 c2 c3 c4 c5)
unfolding sink_line
sink_is {c0} {c1} {c2} {c3} {c4} {c5} h r b =
    let l = le_trans b (lit≤ tt) in
    let m5 = part30 c5 h in
    let p5 = part30_is c5 h l in
    let m4 = part30 (c4 - m5) h in
    let p4 = part30_is (c4 - m5) h l in
    let m3 = part30 (c3 + m4) h in
    let p3 = part30_is (c3 + m4) h l in
    let m2 = part30 (c2 - m3) h in
    let p2 = part30_is (c2 - m3) h l in
    let m1 = part30 (c1 + m2) h in
    let p1 = part30_is (c1 + m2) h l in
    let s = sizes m5 m4 m3 m2 m1 p5.small p4.small p3.small p2.small p1.small in
    let t4 = traces_down (scale 0) c4 m5 (c4 - m5) (back c4 m5 s.0) l p5 (traces_last h c5) in
    let t3 = traces_up (scale 1) c3 m4 l p4 t4 in
    let t2 = traces_down (scale 2) c2 m3 (c2 - m3) (back c2 m3 s.1) l p3 t3 in
    let t1 = traces_up (scale 3) c1 m2 l p2 t2 in
    record { traces = traces_down (scale 4) c0 m1 (c0 - m1) (back c0 m1 s.2) l p1 t1; low = less c0 (part_most p1 s.3 b); high = s.4 }
  where
    sizes : (m5 m4 m3 m2 m1 : ℕ) → m5 ≤ c5 → m4 ≤ c4 - m5 → m3 ≤ c3 + m4 → m2 ≤ c2 - m3 → m1 ≤ c1 + m2 → (m5 ≤ c4) × (m3 ≤ c2) × (m1 ≤ c0) × (c1 + m2 ≤ c1 + c2) × (c0 - m1 ≤ c0)
    sizes m5 m4 m3 m2 m1 k5 k4 k3 k2 k1 = (omega (arith, r.last), omega (arith, r.inner), omega (arith, r.middle), omega arith, omega arith)

-- ---- the worked polynomial beside the model of a number of the definition
near_gap : (U S A F k v : ℕ) (w x y : ℤ) {e E : ℕ}
    → 0 < A * F
    → Within (pos v *ℤ pos A -ℤ x) (k * A)
    → Within (w *ℤ pos F -ℤ y) e
    → Within (pos (U * F) *ℤ x -ℤ pos (S * A) *ℤ y) E
    → Within (pos v *ℤ pos U -ℤ w *ℤ pos S) ((U * F * (k * A) + E + S * A * e) / (A * F))
near_gap U S A F k v w x y p wv ww wp =
    w_div (pos v *ℤ pos U -ℤ w *ℤ pos S) (A * F) _ p
    (w_same _ (law (pos U) (pos S) (pos A) (pos F) (pos v) w x y) (w_sub (w_add (w_mul (w_num (U * F)) wv) wp) (w_mul (w_num (S * A)) ww)))
  where
    law : (U S A F v w x y : ℤ) → U *ℤ F *ℤ (v *ℤ A -ℤ x) +ℤ (U *ℤ F *ℤ x -ℤ S *ℤ A *ℤ y) -ℤ S *ℤ A *ℤ (w *ℤ F -ℤ y) ≡ (v *ℤ U -ℤ w *ℤ S) *ℤ (A *ℤ F)
    law U S A F v w x y = ring (U ∷ S ∷ A ∷ F ∷ v ∷ w ∷ x ∷ y ∷ []) λ ρ e1 e2 e3 e4 e5 e6 e7 e8. simp (Z·ring, e1, e2, e3, e4, e5, e6, e7, e8) (by_ring _ _ _ refl)

pub line_near : {v lo hi h : ℕ} {w : ℤ} {p : List ℤ} (m : Model) → h ≤ width → Line v lo hi h p → Follows h w m → Near60 v w (apart p m)
unfolding apart
line_near {v} {h = h} {w = w} {p = p} m l t f =
    record {
      gap =
          near_gap unit S60 (scale 5) fine 5 v w (at p (pos h)) (at m.line (pos h)) (lit< tt) t.traces.gap f.gap
          (w_same _ (at_minus (multiple (pos (unit * fine)) p) (multiple (pos (S60 * scale 5)) m.line) (pos h) ∙ both) (at_reach (minus (multiple (pos (unit * fine)) p) (multiple (pos (S60 * scale 5)) m.line)) h width l));
    }
  where
    both : at (multiple (pos (unit * fine)) p) (pos h) -ℤ at (multiple (pos (S60 * scale 5)) m.line) (pos h) ≡ pos (unit * fine) *ℤ at p (pos h) -ℤ pos (S60 * scale 5) *ℤ at m.line (pos h)
    both = ap (λ x. x -ℤ at (multiple (pos (S60 * scale 5)) m.line) (pos h)) (at_multiple (pos (unit * fine)) p (pos h)) ∙ ap (λ y. pos (unit * fine) *ℤ at p (pos h) -ℤ y) (at_multiple (pos (S60 * scale 5)) m.line (pos h))

pub first_of : (a b : Bool) → T (also a b) → T a
unfolding also
first_of true b t = tt
first_of false b t = elim t [ ]

pub second_of : (a b : Bool) → T (also a b) → T b
unfolding also
second_of true b t = t
second_of false b t = elim t [ ]

pub rise_rises : (c0 c1 c2 c3 c4 c5 : ℕ) (m : Model) (e lo hi : ℕ) → T (rise_test c0 c1 c2 c3 c4 c5 m e lo hi) → Rises c0 c1 c2 c3 c4 c5
unfolding rise_test
rise_rises c0 c1 c2 c3 c4 c5 m e lo hi t =
    let t2 = second_of _ _ t in
    let t3 = second_of _ _ t2 in
    record { inner = leb→le _ _ (first_of _ _ t); middle = leb→le _ _ (first_of _ _ t2); outer = leb→le _ _ (first_of _ _ t3) }

pub sink_sinks : (c0 c1 c2 c3 c4 c5 : ℕ) (m : Model) (e lo hi : ℕ) → T (sink_test c0 c1 c2 c3 c4 c5 m e lo hi) → Sinks c0 c1 c2 c3 c4 c5
unfolding sink_test
sink_sinks c0 c1 c2 c3 c4 c5 m e lo hi t =
    let t2 = second_of _ _ t in
    let t3 = second_of _ _ t2 in
    let t4 = second_of _ _ t3 in
    record { last = leb→le _ _ (first_of _ _ t); inner = leb→le _ _ (first_of _ _ t2); middle = leb→le _ _ (first_of _ _ t3); outer = leb→le _ _ (first_of _ _ t4) }

pub rise_fixed : (c0 c1 c2 c3 c4 c5 : ℕ) (m : Model) (e lo hi : ℕ) {h : ℕ} {w : ℤ} → T (rise_test c0 c1 c2 c3 c4 c5 m e lo hi) → h ≤ width → Follows h w m → Fixed (rise c0 c1 c2 c3 c4 c5 h) w e lo hi
unfolding rise_test
rise_fixed c0 c1 c2 c3 c4 c5 m e lo hi {h} t l f =
    let t4 = second_of _ _ (second_of _ _ (second_of _ _ t)) in
    let t5 = second_of _ _ t4 in
    let r = rise_is h (rise_rises c0 c1 c2 c3 c4 c5 m e lo hi t) l in
    record {
      near = near_le e (line_near m l r f) (second_of _ _ t5);
      low = le_trans (leb→le _ _ (first_of _ _ t4)) r.low;
      high = le_trans r.high (leb→le _ _ (first_of _ _ t5));
    }

pub sink_fixed : (c0 c1 c2 c3 c4 c5 : ℕ) (m : Model) (e lo hi : ℕ) {h : ℕ} {w : ℤ} → T (sink_test c0 c1 c2 c3 c4 c5 m e lo hi) → h ≤ width → Follows h w m → Fixed (sink c0 c1 c2 c3 c4 c5 h) w e lo hi
unfolding sink_test
sink_fixed c0 c1 c2 c3 c4 c5 m e lo hi {h} t l f =
    let t5 = second_of _ _ (second_of _ _ (second_of _ _ (second_of _ _ t))) in
    let t6 = second_of _ _ t5 in
    let r = sink_is h (sink_sinks c0 c1 c2 c3 c4 c5 m e lo hi t) l in
    record {
      near = near_le e (line_near m l r f) (second_of _ _ t6);
      low = le_trans (leb→le _ _ (first_of _ _ t5)) r.low;
      high = le_trans r.high (leb→le _ _ (first_of _ _ t6));
    }
