-- The functions of the definition, worked by a table, on either side of 0: what each adds to the laws of a product and of a series. `cs` is the code's table,
-- which may be shorter than the definition's series. Assumes nothing.
use Rattle.std.specs.Prelude.{Bool, true, false, List, ℕ, ◌*◌, ◌-◌, ◌/◌, ◌^◌, T, leb, ℤ}
use Rattle.rules.specs.Scaled.{sine_divisors, cosine_divisors, sine, cosine, odd_fractions, arctan, artanh, hyperbolic_sine_coefficients, hyperbolic_cosine_coefficients, hyperbolic_sine, hyperbolic_cosine}
use Rattle.fixed.specs.Worked.{S60, odd_alt60, odd_ser60, even_alt60, even_ser60}
use Rattle.fixed.specs.Nearness.{Fixed, turned}
use Rattle.fixed.specs.Relations.{falls}
use Rattle.fixed.specs.Laws.Products.{mul_e}
use Rattle.fixed.specs.Laws.Series.{alt_e, alt_b, ser_e, ser_h, top}
use Rattle.fixed.proofs.Laws.Series.{fix_alt, fix_ser}
use Rattle.fixed.specs.Laws.Nested.{nest_e, all_positive}
use Rattle.fixed.proofs.Laws.Nested.{fix_nested}
use Rattle.fixed.proofs.Laws.Turned.{fix_mul_turned, fix_square_turned}
use Rattle.fixed.specs.Laws.Functions.{sq_e, sq_h, sq_l}

module _ {a e lo hi : ℕ} (cs : List ℕ) (s : Bool) (x : ℤ) (t : T (falls S60 cs)) (f : Fixed a (turned s x) e lo hi) where
  -- ---- by a nest, for a number up to 1
  module _ (u : T (leb hi (2 ^ 61))) (u2 : T (leb (sq_h hi) S60)) where
    -- the nest must not come to more than 2, which its table's first number says
    pub fix_sine : T (all_positive sine_divisors) → T (leb (alt_b true (sq_l lo) (sq_h hi) cs) (2 ^ 61)) → Fixed (odd_alt60 a cs) (turned s (sine x)) (mul_e hi e (alt_b true (sq_l lo) (sq_h hi) cs) (nest_e (sq_h hi) (sq_e hi e) 1 cs sine_divisors)) (lo * alt_b false (sq_l lo) (sq_h hi) cs / S60 - 1) (hi * alt_b true (sq_l lo) (sq_h hi) cs / S60)
    unfolding odd_alt60 sine
    fix_sine p v = fix_mul_turned s x f (fix_nested cs sine_divisors p t (fix_square_turned s x f u) u2) u v

    pub fix_cosine : T (all_positive cosine_divisors) → Fixed (even_alt60 a cs) (cosine x) (nest_e (sq_h hi) (sq_e hi e) 1 cs cosine_divisors) (alt_b false (sq_l lo) (sq_h hi) cs) (alt_b true (sq_l lo) (sq_h hi) cs)
    unfolding even_alt60 cosine
    fix_cosine p = fix_nested cs cosine_divisors p t (fix_square_turned s x f u) u2

    pub fix_arctan : T (leb (alt_b true (sq_l lo) (sq_h hi) cs) (2 ^ 61)) → Fixed (odd_alt60 a cs) (turned s (arctan x)) (mul_e hi e (alt_b true (sq_l lo) (sq_h hi) cs) (alt_e (sq_h hi) (sq_e hi e) cs odd_fractions)) (lo * alt_b false (sq_l lo) (sq_h hi) cs / S60 - 1) (hi * alt_b true (sq_l lo) (sq_h hi) cs / S60)
    unfolding odd_alt60 arctan
    fix_arctan v = fix_mul_turned s x f (fix_alt cs odd_fractions t (fix_square_turned s x f u) u2) u v

  -- ---- by a sum, for a number whose square is up to 1/2
  module _ (u : T (leb hi (2 ^ 61))) (u2 : T (leb (sq_h hi) (2 ^ 59))) where
    pub fix_artanh : T (leb (ser_h (sq_h hi) cs) (2 ^ 61)) → Fixed (odd_ser60 a cs) (turned s (artanh x)) (mul_e hi e (ser_h (sq_h hi) cs) (ser_e (sq_h hi) (sq_e hi e) cs odd_fractions)) (lo * top cs / S60 - 1) (hi * ser_h (sq_h hi) cs / S60)
    unfolding odd_ser60 artanh
    fix_artanh v = fix_mul_turned s x f (fix_ser cs odd_fractions t (fix_square_turned s x f u) u2) u v

    pub fix_sinh : T (leb (ser_h (sq_h hi) cs) (2 ^ 61)) → Fixed (odd_ser60 a cs) (turned s (hyperbolic_sine x)) (mul_e hi e (ser_h (sq_h hi) cs) (ser_e (sq_h hi) (sq_e hi e) cs hyperbolic_sine_coefficients)) (lo * top cs / S60 - 1) (hi * ser_h (sq_h hi) cs / S60)
    unfolding odd_ser60 hyperbolic_sine
    fix_sinh v = fix_mul_turned s x f (fix_ser cs hyperbolic_sine_coefficients t (fix_square_turned s x f u) u2) u v

    pub fix_cosh : Fixed (even_ser60 a cs) (hyperbolic_cosine x) (ser_e (sq_h hi) (sq_e hi e) cs hyperbolic_cosine_coefficients) (top cs) (ser_h (sq_h hi) cs)
    unfolding even_ser60 hyperbolic_cosine
    fix_cosh = fix_ser cs hyperbolic_cosine_coefficients t (fix_square_turned s x f u) u2
