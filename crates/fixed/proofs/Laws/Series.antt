-- A series: the worked nest over the code's table, against the definition's nest over its own, which may go on where the code's ends. What is cut off is
-- near nothing, with its size as the error; signs and monotony are not needed. One law serves each kind of series, whatever the table. Assumes nothing.
use Rattle.std.specs.Prelude.{◌≡◌, true, false, List, [], ◌∷◌, ℕ, ◌+◌, ◌*◌, ◌-◌, ◌/◌, ◌^◌, ◌<◌, ◌≤◌, T, leb, ℤ, pos, ◌+ℤ◌, ◌-ℤ◌, ◌*ℤ◌}
use Rattle.std.proofs.Common.{subst, le_refl, arith, leb→le, lit<, lit≤}
use Rattle.arith.specs.Within.{Within}
use Rattle.arith.specs.Laws.Within.{by_abs, w_num, w_add, w_sub, w_mul}
use Rattle.rules.specs.Scaled.{unit, product, alternating, summed}
use Rattle.fixed.specs.Worked.{S60, alt60, ser60}
use Rattle.fixed.specs.Nearness.{Near60, Fixed}
use Rattle.fixed.specs.Relations.{Alternating60, Summed60, none, step, falls}
use Rattle.fixed.proofs.Laws.Loops.{alt60_is, ser60_is}
use Rattle.fixed.proofs.Laws.Bounds.{w_floor}
use Rattle.fixed.specs.Laws.Products.{off_at, mul_e}
use Rattle.fixed.proofs.Laws.Products.{near_add, near_sub, near_const, near_zero, near_none, near_most, near_mul, mul_high, mul_low, up_to}
use Rattle.fixed.specs.Laws.Series.{alt_b, alt_e, rest_b, ser_e, ser_h, top}

pub alt_rest : {x : ℤ} {h : ℕ} (cs : List ℤ) → Within x h → Within (alternating x cs) (rest_b h cs)
unfolding alternating rest_b product
alt_rest [] k = w_num 0
alt_rest (c ∷ cs) k = w_sub (by_abs c (le_refl _)) (w_floor unit (lit< tt) (w_mul k (alt_rest cs k)))

ser_rest : {x : ℤ} {h : ℕ} (cs : List ℤ) → Within x h → Within (summed x cs) (rest_b h cs)
unfolding summed rest_b product
ser_rest [] k = w_num 0
ser_rest (c ∷ cs) k = w_add (by_abs c (le_refl _)) (w_floor unit (lit< tt) (w_mul k (ser_rest cs k)))

pub alt_top : {q v : ℕ} {cs : List ℕ} → Alternating60 q cs v → v ≤ top cs
unfolding top
alt_top none = omega arith
alt_top (step a m e) = omega arith

pub near_alt : {q v : ℕ} {x : ℤ} {h e : ℕ} {cs : List ℕ} (ds : List ℤ) → Near60 q x e → q ≤ h → Alternating60 q cs v → Near60 v (alternating x ds) (alt_e h e cs ds)
unfolding alt_e alternating top
near_alt ds n k none = near_zero (alt_rest ds (near_most n k))
near_alt [] n k (step a m e) = near_none (alt_top (step a m e))
near_alt (d ∷ ds) n k (step {c = c} a m e) = near_sub e (near_const S60 (pos c) d) (near_mul m k (alt_top a) n (near_alt ds n k a))

pub alt_least : {q v l h : ℕ} {cs : List ℕ} → l ≤ q → q ≤ h → Alternating60 q cs v → (alt_b false l h cs ≤ v) × (v ≤ alt_b true l h cs)
unfolding alt_b
alt_least g k none = (le_refl 0, le_refl 0)
alt_least g k (step a m e) = let r = alt_least g k a in (omega (arith, mul_high m k r.1), omega (arith, mul_low m g r.0))

pub fixed_alt : {q : ℕ} {x : ℤ} {e lo hi : ℕ} (cs : List ℕ) → T (falls S60 cs) → Fixed q x e lo hi → T (leb hi S60) → Alternating60 q cs (alt60 q cs)
fixed_alt {q} cs t f u = (alt60_is q S60 cs (lit≤ tt) t (up_to S60 f.high u)).is

-- the nest of a table `cs` that falls, at a number whose bound is at most 1, against the definition's coefficients `ds`
pub fix_alt : {q : ℕ} {x : ℤ} {e lo hi : ℕ} (cs : List ℕ) (ds : List ℤ)
    → T (falls S60 cs)
    → Fixed q x e lo hi
    → T (leb hi S60)
    → Fixed (alt60 q cs) (alternating x ds) (alt_e hi e cs ds) (alt_b false lo hi cs) (alt_b true lo hi cs)
fix_alt cs ds t f u =
    let a = fixed_alt cs t f u in
    let r = alt_least f.low f.high a in
    record { near = near_alt ds f.near f.high a; low = r.0; high = r.1 }

ser_high : {q v h : ℕ} {cs : List ℕ} → q ≤ h → Summed60 q cs v → v ≤ ser_h h cs
unfolding ser_h
ser_high k none = omega arith
ser_high k (step a m e) = omega (arith, mul_high m k (ser_high k a))

pub near_ser : {q v : ℕ} {x : ℤ} {h e : ℕ} {cs : List ℕ} (ds : List ℤ) → Near60 q x e → q ≤ h → Summed60 q cs v → Near60 v (summed x ds) (ser_e h e cs ds)
unfolding ser_e summed
near_ser ds n k none = near_zero (ser_rest ds (near_most n k))
near_ser [] n k (step a m e) = near_none (ser_high k (step a m e))
near_ser {x = x} {h = h} {e = ε} (d ∷ ds) n k (step {c = c} {cs = cs} a m e) =
    subst (λ t. Near60 t (summed x (d ∷ ds)) (off_at S60 (pos c) d + mul_e h ε (ser_h h cs) (ser_e h ε cs ds))) e
    (near_add (near_const S60 (pos c) d) (near_mul m k (ser_high k a) n (near_ser ds n k a)))

ser_low : {q v : ℕ} {cs : List ℕ} → Summed60 q cs v → top cs ≤ v
unfolding top
ser_low none = omega arith
ser_low (step a m e) = omega arith

-- the sum of a table that falls, at a number whose bound is at most 1/2
pub fix_ser : {q : ℕ} {x : ℤ} {e lo hi : ℕ} (cs : List ℕ) (ds : List ℤ)
    → T (falls S60 cs)
    → Fixed q x e lo hi
    → T (leb hi (2 ^ 59))
    → Fixed (ser60 q cs) (summed x ds) (ser_e hi e cs ds) (top cs) (ser_h hi cs)
fix_ser {q} {hi = hi} cs ds t f u =
    let a = (ser60_is q S60 cs (lit≤ tt) t (half f.high (leb→le hi (2 ^ 59) u))).is in
    record { near = near_ser ds f.near f.high a; low = ser_low a; high = ser_high f.high a }
  where
    half : {q h : ℕ} → q ≤ h → h ≤ 2 ^ 59 → 2 * q ≤ S60
    half k l = omega arith
