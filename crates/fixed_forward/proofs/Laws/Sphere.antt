-- The sphere's latitude f: half of the numerator and of the denominator of sin f, and K·cos B, which halves that of cos f. Assumes nothing.
use Rattle.std.specs.Prelude.{ℕ, ◌+◌, ◌*◌, ◌-◌, ◌/◌, ◌≤◌, ℤ, pos, ◌+ℤ◌, ◌-ℤ◌, ◌*ℤ◌}
use Rattle.std.proofs.Common.{arith}
use Rattle.rules.specs.Scaled.{unit, one, product}
use Rattle.rules.specs.Projection.{lifted}
use Rattle.fixed.specs.Worked.{S60, mul60}
use Rattle.fixed.specs.Nearness.{Fixed}
use Rattle.fixed.specs.Laws.Products.{self}
use Rattle.fixed.proofs.Laws.Products.{fix_const, fix_add, fix_minus, fix_mul, fix_le, product_rest, near_self}
use Rattle.fixed.proofs.Laws.Quotients.{fix_twice, fix_halved, fix_mul_double}
use Rattle.fixed.specs.Laws.Numbers.{numbers}
use Rattle.fixed_forward.specs.Sphere.{HalvesSizes, denominator, denominator60, lifted60, numerator, numerator60}

module _ {k t : ℕ} {K y : ℤ} (fk : Fixed k K (9 * unit) (994 * S60 / 1000) S60) (ft : Fixed t y (16 * unit) (70 * S60 / 100) (87 * S60 / 100)) where
  lifted_near : Fixed (lifted60 k t) (lifted K y) (80 * unit) (166 * S60 / 100) (188 * S60 / 100)
  unfolding lifted60 lifted numbers
  lifted_near = fix_le (80 * unit) (166 * S60 / 100) (188 * S60 / 100) (fix_mul (fix_mul fk fk tt tt) (fix_add (fix_const S60 one) ft) tt tt) tt tt tt

  rest_near : Fixed (S60 - t) (one -ℤ y) (16 * unit) (13 * S60 / 100) (31 * S60 / 100)
  unfolding numbers
  rest_near = fix_le (16 * unit) (13 * S60 / 100) (31 * S60 / 100) (fix_minus (fix_const S60 one) ft tt) tt tt tt

  pub numerator_near : Fixed (2 * numerator60 k t) (numerator K y) (110 * unit) (130 * S60 / 100) (176 * S60 / 100)
  unfolding numerator60 numerator
  numerator_near = fix_le (110 * unit) (130 * S60 / 100) (176 * S60 / 100) (fix_halved (fix_minus lifted_near rest_near tt)) tt tt tt

  pub denominator_near : Fixed (2 * denominator60 k t) (denominator K y) (110 * unit) (178 * S60 / 100) (220 * S60 / 100)
  unfolding denominator60 denominator
  denominator_near = fix_le (110 * unit) (178 * S60 / 100) (220 * S60 / 100) (fix_halved (fix_add lifted_near rest_near)) tt tt tt

-- ---- K·cos B, and the definition's 2K·cos B
pub doubled_near : {k c : ℕ} {K y : ℤ}
    → Fixed k K (9 * unit) (994 * S60 / 1000) S60
    → Fixed c y (14 * unit) (54 * S60 / 100) (68 * S60 / 100)
    → Fixed (2 * mul60 k c) (product (pos 2 *ℤ K) y) (60 * unit) (107 * S60 / 100) (136 * S60 / 100)
unfolding numbers
doubled_near {k} {K = K} {y = y} fk fc =
    fix_le (60 * unit) (107 * S60 / 100) (136 * S60 / 100) (fix_mul_double k (product (pos 2 *ℤ K) y) (product_rest (pos 2 *ℤ K) y) (fix_twice fk) fc tt tt) tt tt tt

pub halves_sizes : (k t : ℕ) → (994 * S60 / 1000 ≤ k) × (k ≤ S60) × (70 * S60 / 100 ≤ t) × (t ≤ 87 * S60 / 100) → HalvesSizes (numerator60 k t) (denominator60 k t)
halves_sizes k t h = go (numerator60 k t) (denominator60 k t) fn.low fn.high fd.low fd.high
  where
    fk : Fixed k (self k) (9 * unit) (994 * S60 / 1000) S60
    fk = record { near = near_self k (9 * unit) tt; low = h.0; high = h.1 }

    ft : Fixed t (self t) (16 * unit) (70 * S60 / 100) (87 * S60 / 100)
    ft = record { near = near_self t (16 * unit) tt; low = h.2; high = h.3 }

    fn : Fixed (2 * numerator60 k t) (numerator (self k) (self t)) (110 * unit) (130 * S60 / 100) (176 * S60 / 100)
    fn = numerator_near fk ft

    fd : Fixed (2 * denominator60 k t) (denominator (self k) (self t)) (110 * unit) (178 * S60 / 100) (220 * S60 / 100)
    fd = denominator_near fk ft

    go : (n d : ℕ) → 130 * S60 / 100 ≤ 2 * n → 2 * n ≤ 176 * S60 / 100 → 178 * S60 / 100 ≤ 2 * d → 2 * d ≤ 220 * S60 / 100 → HalvesSizes n d
    go n d a b x y = record { numerator_low = omega arith; numerator_high = omega arith; denominator_low = omega arith; denominator_high = omega arith }

-- what the code's subtractions ask
pub lifted_low : (k t : ℕ) → (994 * S60 / 1000 ≤ k) × (k ≤ S60) × (70 * S60 / 100 ≤ t) × (t ≤ 87 * S60 / 100) → (166 * S60 / 100 ≤ lifted60 k t) × (lifted60 k t ≤ 188 * S60 / 100)
lifted_low k t h = (f.low, f.high)
  where
    f : Fixed (lifted60 k t) (lifted (self k) (self t)) (80 * unit) (166 * S60 / 100) (188 * S60 / 100)
    f = lifted_near (record { near = near_self k (9 * unit) tt; low = h.0; high = h.1 }) (record { near = near_self t (16 * unit) tt; low = h.2; high = h.3 })
