-- The sphere's latitude f as it is worked, about 52°: from sin p and cosh q, and no sin f or cos f. Assumes nothing.
use Rattle.std.specs.Prelude.{Bool, true, false, ◌≡◌, refl, [], ◌∷◌, ℕ, suc, ◌+◌, ◌*◌, ◌-◌, ◌/◌, ◌^◌, ◌<◌, ◌≤◌, T, ltb, ℤ, negsuc, neg_ℤ, ◌+ℤ◌, ◌-ℤ◌, ◌*ℤ◌, nat_abs}
use Rattle.std.proofs.Common.{sym, le_refl, mul-le-mul_right, arith, ltb→lt, lit<, lit≤}
use Rattle.std.proofs.Math.Path.{subst}
use Rattle.std.proofs.Math.Nat.{le_trans}
use Rattle.std.proofs.Math.IntN.{pos}
use Rattle.arith.specs.Laws.Diff.{◌⊖◌, Z·ℕ, lin}
use Rattle.arith.specs.Laws.Ring.{ring, Z·ring, by_ring}
use Rattle.arith.specs.Within.{Within}
use Rattle.arith.specs.Laws.Within.{w_le}
use Rattle.rules.specs.Scaled.{unit, quotient, radians, at_52, arctan, arctan_about_52}
use Rattle.fixed.specs.Worked.{S60, mul60, odd_alt60, Tan52, apart, tilt60, tilt_south}
use Rattle.fixed.specs.Nearness.{Near60, Fixed, turned}
use Rattle.fixed.proofs.Laws.Words.{mul60_is, quot60_is}
use Rattle.fixed.specs.Laws.Products.{off_at, most}
use Rattle.fixed.proofs.Laws.Products.{near_le, near_add, near_sub, near_const, near_most, mul_high, mul_low, fix_le}
use Rattle.fixed.specs.Laws.Quotients.{least}
use Rattle.fixed.proofs.Laws.Quotients.{near_least, quot_high, fix_twice}
use Rattle.fixed.specs.Laws.Tangents.{slant}
use Rattle.fixed.proofs.Laws.Tangents.{fix_tilt}
use Rattle.fixed.proofs.Laws.Functions.{fix_arctan}
use Rattle.fixed.specs.Laws.Numbers.{numbers}
use Rattle.fixed.specs.Tables.{arctan_table}
use Rattle.fixed_inverse.specs.Worked.{At52, beside_52, about_52, sphere60, root60}
use Rattle.fixed_inverse.specs.Laws.Turns.{sine_low, sine_high, cosh_high}
use Rattle.fixed_inverse.specs.Laws.Heron.{root_e, root_x}
use Rattle.fixed_inverse.proofs.Laws.Heron.{near_root}
use Rattle.fixed_inverse.specs.Laws.Roots.{RootOf60, root_least, root_most}
use Rattle.fixed_inverse.proofs.Laws.Roots.{root60_is, near_number}
use Rattle.fixed_inverse.proofs.Laws.Sphere.{CosF, cos_f, tan_high, tan_gap}
use Rattle.fixed_inverse.specs.Laws.About52.{f_high, f_low, tangent}

-- ---- 52° and a turn to either side
near_at : Near60 At52 at_52 unit
unfolding off_at at_52 radians
near_at = near_le unit (near_const S60 (pos At52) at_52) tt

near_beside : {a e : ℕ} (s : Bool) (x : ℤ) → a ≤ 88 * S60 / 1000 → Near60 a (turned s x) e → Near60 (beside_52 s a) (at_52 +ℤ x) (unit + e)
unfolding beside_52 turned
near_beside false x h n = near_add near_at n
near_beside {a} {e} true x h n = subst (λ z. Near60 (At52 - a) z (unit + e)) (law at_52 x) (near_sub (omega arith) near_at n)
  where
    law : (y x : ℤ) → y -ℤ neg_ℤ x ≡ y +ℤ x
    law y x = ring (y ∷ x ∷ []) λ ρ ey ex. simp (Z·ring, ey, ex) (by_ring _ _ _ refl)

pub beside_size : {a : ℕ} (s : Bool) → a ≤ 88 * S60 / 1000 → (f_low ≤ beside_52 s a) × (beside_52 s a ≤ f_high)
unfolding beside_52
beside_size true h = (omega arith, omega arith)
beside_size false h = (omega arith, omega arith)

-- ---- the tilt is small: the numerator is largest at one end of the range or at the other
pub tilt_size : {n m : ℕ} → sine_low ≤ n → n ≤ sine_high → root_least ≤ m → m ≤ root_most → tilt60 n m ≤ 88 * S60 / 1000
unfolding tilt60
tilt_size {n} {m} a b c d =
    let mt = mul60_is m Tan52 (omega arith) (lit≤ tt) in
    let mg = mul60_is n Tan52 (omega arith) (lit≤ tt) in
    let t_low = mul_low mt c (le_refl Tan52) in
    let t_high = mul_high mt d (le_refl Tan52) in
    let g_low = mul_low mg a (le_refl Tan52) in
    let g_high = mul_high mg b (le_refl Tan52) in
    quot_high 88 1000 (quot60_is (apart n (mul60 m Tan52)) (m + mul60 n Tan52) (fits (mul60 m Tan52) (mul60 n Tan52) t_low t_high g_low g_high)) (lit< tt) (large (mul60 n Tan52)) (slope (mul60 m Tan52) (mul60 n Tan52) t_low t_high g_low)
  where
    slope : (t g : ℕ) → root_least * Tan52 / S60 - 1 ≤ t → t ≤ root_most * Tan52 / S60 → sine_low * Tan52 / S60 - 1 ≤ g → 1000 * apart n t ≤ 88 * (m + g)
    slope t g p q r = omega arith

    fits : (t g : ℕ) → root_least * Tan52 / S60 - 1 ≤ t → t ≤ root_most * Tan52 / S60 → sine_low * Tan52 / S60 - 1 ≤ g → g ≤ sine_high * Tan52 / S60 → (2 ^ 59 ≤ m + g) × (m + g ≤ 2 ^ 61) × (4 * apart n t ≤ 5 * (m + g))
    fits t g p q r u = (omega arith, omega arith, omega arith)

    large : (g : ℕ) → 0 < m + g
    large g = omega arith

-- ---- the number that a positive worked number is near is positive
near_positive : {v e lo hi : ℕ} (w : ℤ) → Fixed v w e lo hi → T (ltb e (lo * unit)) → w ≡ pos (nat_abs w)
near_positive (pos n) f t = refl
near_positive {v} {e} {lo} (negsuc n) f t = absurd (clash (v * unit) f.near.gap.within (omega (arith, mul-le-mul_right unit f.low)) (ltb→lt e (lo * unit) t))
  where
    clash : (x : ℕ) → nat_abs (pos x -ℤ negsuc n *ℤ pos S60) ≤ e → lo * unit ≤ x → e < lo * unit → ⊥
    clash x = go (negsuc n *ℤ pos S60) (suc n * S60) refl
      where
        go : (z : ℤ) (y : ℕ) → z ≡ neg_ℤ (pos y) → nat_abs (pos x -ℤ z) ≤ e → lo * unit ≤ x → e < lo * unit → ⊥
        go z y = lin (z ∷ []) λ u v ez. simp (Z·ℕ, ez) (λ p q r s. omega arith)

module _ {s c : ℕ} {SP : ℤ} (CH : ℕ) (f : Fixed s SP (33200 * unit) sine_low sine_high) (g : Fixed c (pos CH) (1850 * unit) S60 cosh_high) where
  sp_most : Within SP (9 * unit / 10)
  unfolding most
  sp_most = w_le (9 * unit / 10) (near_most f.near f.high) tt

  ch_most : CH ≤ 11 * unit / 10
  unfolding most
  ch_most = le_trans (near_most g.near g.high).within (lit≤ tt)

  ch_least : 99 * unit / 100 ≤ CH
  unfolding least
  ch_least = le_trans (lit≤ tt) (near_least g.near g.low)

  abbrev number : ℕ
  number = mul60 (c - s) (c + s)

  number_root : RootOf60 number
  number_root = let w = near_number f g in root60_is w.low w.high

  -- c₀ is the definition's cos f, and R that times cosh q
  module _ {c₀ R : ℕ} (i : CosF SP CH sp_most ch_most ch_least c₀ R) where
    fix_root : Fixed (root60 number) (pos R) (68400 * unit) root_least root_most
    unfolding root_e root_x
    fix_root = record {
      near = near_le (68400 * unit) (near_root R (14 * unit) root_least number_root.squares (near_number f g).near i.gap number_root.low tt tt) tt;
      low = number_root.low;
      high = number_root.high;
    }

    R_low : unit / 2 ≤ R
    unfolding least
    R_low = le_trans (lit≤ tt) (near_least fix_root.near fix_root.low)

    near_tilt : Fixed (tilt60 s (root60 number)) (turned (tilt_south s (root60 number)) (slant (quotient (quotient SP (pos CH)) (pos c₀)))) (93600 * unit) 0 (88 * S60 / 1000)
    unfolding numbers
    near_tilt =
        let t = fix_tilt 16 s (root60 number) (pos 2 *ℤ SP) (pos 2 *ℤ pos R) (quotient (quotient SP (pos CH)) (pos c₀)) (fix_twice f) (fix_twice fix_root) (tan_gap SP CH sp_most ch_most ch_least i R_low) (tan_high SP CH sp_most ch_most ch_least i R_low) (tt, tt, tt, tt, (tt, tt, tt), tt) in
        record { near = near_le (93600 * unit) t.near tt; low = t.low; high = tilt_size f.low f.high number_root.low number_root.high }

    near_turn : Fixed (odd_alt60 (tilt60 s (root60 number)) arctan_table) (turned (tilt_south s (root60 number)) (arctan (slant (quotient (quotient SP (pos CH)) (pos c₀))))) (95900 * unit) 0 (88 * S60 / 1000)
    unfolding numbers
    near_turn = fix_le (95900 * unit) 0 (88 * S60 / 1000) (fix_arctan arctan_table (tilt_south s (root60 number)) (slant (quotient (quotient SP (pos CH)) (pos c₀))) tt near_tilt tt tt tt) tt tt tt

    near_f : Fixed (sphere60 s c) (arctan_about_52 (tangent SP (pos CH))) (95901 * unit) f_low f_high
    unfolding sphere60 about_52 arctan_about_52 slant
    near_f =
        let south = tilt_south s (root60 number) in
        let size = beside_size south near_turn.high in
        record {
          near = subst (λ z. Near60 (sphere60 s c) (arctan_about_52 (quotient (quotient SP (pos CH)) z)) (95901 * unit)) (sym i.value) (near_le (95901 * unit) (near_beside south (arctan (slant (quotient (quotient SP (pos CH)) (pos c₀)))) near_turn.high near_turn.near) tt);
          low = size.0;
          high = size.1;
        }

  near_positive_sphere : Fixed (sphere60 s c) (arctan_about_52 (tangent SP (pos CH))) (95901 * unit) f_low f_high
  near_positive_sphere = let (c₀, R, i) = cos_f SP CH sp_most ch_most ch_least in near_f i

pub near_sphere : {s c : ℕ} {SP : ℤ} (CH : ℤ) → Fixed s SP (33200 * unit) sine_low sine_high → Fixed c CH (1850 * unit) S60 cosh_high → Fixed (sphere60 s c) (arctan_about_52 (tangent SP CH)) (95901 * unit) f_low f_high
near_sphere {s} {c} {SP} CH f g =
    let e = near_positive CH g tt in
    subst (λ z. Fixed (sphere60 s c) (arctan_about_52 (tangent SP z)) (95901 * unit) f_low f_high) (sym e) (near_positive_sphere (nat_abs CH) f (subst (λ z. Fixed c z (1850 * unit) S60 cosh_high) e g))
