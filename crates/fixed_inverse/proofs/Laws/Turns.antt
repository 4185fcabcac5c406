-- sin p, cos p, sinh q and cosh q of Mercator's angles, and d from tan d = sinh q / cos p: how near each is, and between which numbers it lies. Assumes nothing.
use Rattle.std.specs.Prelude.{Bool, true, ◌&&◌, ℕ, ◌+◌, ◌*◌, ◌-◌, ◌/◌, ◌^◌, ◌<◌, ◌≤◌, T, leb, ℤ, nat_abs}
use Rattle.std.proofs.Math.Bool.{false}
use Rattle.std.proofs.Math.Nat.{le_trans}
use Rattle.std.proofs.Common.{arith, leb→le, lit<, lit≤}
use Rattle.rules.specs.Scaled.{unit, quotient, sine, cosine, hyperbolic_sine, hyperbolic_cosine, arctan, sine_divisors}
use Rattle.fixed.specs.Worked.{S60, quot60, odd_alt60, odd_ser60, even_alt60, even_ser60}
use Rattle.fixed.specs.Nearness.{Fixed, turned}
use Rattle.fixed.specs.Laws.Products.{self}
use Rattle.fixed.proofs.Laws.Products.{fix_le, fix_self, near_self}
use Rattle.fixed.specs.Laws.Series.{alt_b}
use Rattle.fixed.proofs.Laws.Quotients.{fix_quot, ratio_div, near_least}
use Rattle.fixed.proofs.Laws.Turned.{ratio_turned}
use Rattle.fixed.specs.Laws.Functions.{sq_h}
use Rattle.fixed.proofs.Laws.Functions.{fix_sine, fix_cosine, fix_sinh, fix_cosh, fix_arctan}
use Rattle.fixed.specs.Laws.Nested.{all_positive}
use Rattle.fixed.specs.Laws.Numbers.{numbers}
use Rattle.fixed.specs.Tables.{sine_table, cosine_table, small_sine_table, small_cosine_table}
use Rattle.fixed_inverse.specs.Worked.{wide_arctan_table, difference60}
use Rattle.fixed_inverse.specs.Laws.Radius.{p_low, p_high, q_high}
use Rattle.fixed_inverse.proofs.Laws.Bands.{every, every_at, band_of}
use Rattle.fixed_inverse.specs.Laws.Turns.{band_width, cosh_high, cosine_high, cosine_low, difference_high, nest_high, nest_low, sine_high, sine_low, sinh_high}

five : Bool → Bool → Bool → Bool → Bool → Bool
five a b c d e = a && (b && (c && (d && e)))

five_each : (a b c d e : Bool) → T (five a b c d e) → T a × T b × T c × T d × T e
unfolding five
five_each true true true true true t = (tt, tt, tt, tt, tt)
five_each true true true true false t = absurd t
five_each true true true false e t = absurd t
five_each true true false d e t = absurd t
five_each true false c d e t = absurd t
five_each false b c d e t = absurd t

sine_test : ℕ → ℕ → Bool
sine_test l h = five (leb h (2 ^ 61)) (leb (sq_h h) S60) (leb (nest_high l h) (2 ^ 61)) (leb (h * nest_high l h / S60) sine_high) (leb sine_low (l * nest_low l h / S60 - 1))

band_test : ℕ → Bool
band_test i = sine_test (p_low + i * band_width) (p_low + i * band_width + band_width)

sine_band : {p : ℕ} (l h : ℕ) → l ≤ p → p ≤ h → T (sine_test l h) → (sine_low ≤ odd_alt60 p sine_table) × (odd_alt60 p sine_table ≤ sine_high)
unfolding sine_test turned all_positive sine_divisors
sine_band {p} l h a b t =
    let (t1, t2, t3, t4, t5) = five_each (leb h (2 ^ 61)) (leb (sq_h h) S60) (leb (nest_high l h) (2 ^ 61)) (leb (h * nest_high l h / S60) sine_high) (leb sine_low (l * nest_low l h / S60 - 1)) t in
    let f = fix_sine sine_table false (self p) tt (fix_self p a b) t1 t2 tt t3 in
    (le_trans (leb→le sine_low (l * nest_low l h / S60 - 1) t5) f.low, le_trans f.high (leb→le (h * nest_high l h / S60) sine_high t4))

pub sine_size : {p : ℕ} → p_low ≤ p → p ≤ p_high → (sine_low ≤ odd_alt60 p sine_table) × (odd_alt60 p sine_table ≤ sine_high)
unfolding every band_test sine_test five alt_b
sine_size {p} a b =
    let i = band_of p_low band_width 32 p (lit< tt) a (omega arith) in
    sine_band (p_low + i.place * band_width) (p_low + i.place * band_width + band_width) i.low i.high (every_at band_test 32 i.place tt i.among)

-- ---- how near each is, for p and q that are within 27000 units of the definition's
module _ {p : ℕ} {P : ℤ} (f : Fixed p P (27000 * unit) p_low p_high) where
  pub near_sine : Fixed (odd_alt60 p sine_table) (sine P) (33200 * unit) sine_low sine_high
  unfolding numbers turned
  near_sine =
      let size = sine_size f.low f.high in
      let n = fix_le (33200 * unit) 0 S60 (fix_sine sine_table false P tt f tt tt tt tt) tt tt tt in
      record { near = n.near; low = size.0; high = size.1 }

  pub near_cosine : Fixed (even_alt60 p cosine_table) (cosine P) (28900 * unit) cosine_low cosine_high
  unfolding numbers turned
  near_cosine = fix_le (28900 * unit) cosine_low cosine_high (fix_cosine cosine_table false P tt f tt tt tt) tt tt tt

module _ {q : ℕ} (s : Bool) (Q : ℤ) (g : Fixed q (turned s Q) (27000 * unit) 0 q_high) where
  pub near_sinh : Fixed (odd_ser60 q small_sine_table) (turned s (hyperbolic_sine Q)) (27200 * unit) 0 sinh_high
  unfolding numbers
  near_sinh = fix_le (27200 * unit) 0 sinh_high (fix_sinh small_sine_table s Q tt g tt tt tt) tt tt tt

  pub near_cosh : Fixed (even_ser60 q small_cosine_table) (hyperbolic_cosine Q) (1850 * unit) S60 cosh_high
  unfolding numbers
  near_cosh = fix_le (1850 * unit) S60 cosh_high (fix_cosh small_cosine_table s Q tt g tt tt) tt tt tt

module _ {p q : ℕ} {P : ℤ} (f : Fixed p P (27000 * unit) p_low p_high) (s : Bool) (Q : ℤ) (g : Fixed q (turned s Q) (27000 * unit) 0 q_high) where
  cosine_positive : 0 < nat_abs (cosine P)
  unfolding numbers
  cosine_positive = le_trans (lit≤ tt) (near_least (near_cosine f).near (near_cosine f).low)

  near_tangent : Fixed (quot60 (odd_ser60 q small_sine_table) (even_alt60 p cosine_table)) (turned s (quotient (hyperbolic_sine Q) (cosine P))) (56300 * unit) 0 difference_high
  unfolding numbers
  near_tangent = fix_le (56300 * unit) 0 difference_high (fix_quot (ratio_turned s (ratio_div (hyperbolic_sine Q) (cosine P) cosine_positive)) (near_sinh s Q g) (near_cosine f) (tt, tt, tt) tt) tt tt tt

  pub near_difference : Fixed (difference60 p q) (turned s (arctan (quotient (hyperbolic_sine Q) (cosine P)))) (57000 * unit) 0 difference_high
  unfolding numbers difference60
  near_difference = fix_le (57000 * unit) 0 difference_high (fix_arctan wide_arctan_table s (quotient (hyperbolic_sine Q) (cosine P)) tt near_tangent tt tt tt) tt tt tt

-- ---- the sizes by themselves, from the same laws at a made-up value
module _ {v lo hi : ℕ} (a : lo ≤ v) (b : v ≤ hi) where
  made_up : Fixed v (self v) (27000 * unit) lo hi
  made_up = record { near = near_self v (27000 * unit) tt; low = a; high = b }

least_of : (n : ℕ) → 0 ≤ n
least_of n = omega arith

module _ {p : ℕ} (a : p_low ≤ p) (b : p ≤ p_high) where
  pub cosine_size : (cosine_low ≤ even_alt60 p cosine_table) × (even_alt60 p cosine_table ≤ cosine_high)
  cosine_size = let f = near_cosine (made_up a b) in (f.low, f.high)

module _ {q : ℕ} (b : q ≤ q_high) where
  pub sinh_size : odd_ser60 q small_sine_table ≤ sinh_high
  unfolding turned
  sinh_size = (near_sinh false (self q) (made_up (least_of q) b)).high

  pub cosh_size : (S60 ≤ even_ser60 q small_cosine_table) × (even_ser60 q small_cosine_table ≤ cosh_high)
  unfolding turned
  cosh_size = let f = near_cosh false (self q) (made_up (least_of q) b) in (f.low, f.high)

module _ {p q : ℕ} (a : p_low ≤ p) (b : p ≤ p_high) (c : q ≤ q_high) where
  pub tangent_size : quot60 (odd_ser60 q small_sine_table) (even_alt60 p cosine_table) ≤ difference_high
  unfolding turned
  tangent_size = (near_tangent (made_up a b) false (self q) (made_up (least_of q) c)).high
