-- The root of cosh² q - sin² p as it is worked: the seed and two steps of Heron, over the whole range of the number. Assumes nothing.
use Rattle.std.specs.Prelude.{◌≡◌, refl, ℕ, ◌+◌, ◌*◌, ◌-◌, ◌/◌, ◌^◌, ◌<◌, ◌≤◌, T, leb, ℤ, ◌+ℤ◌, ◌-ℤ◌}
use Rattle.std.proofs.Common.{sym, subst, le_trans, mul-le-mul, arith, leb→le, lit<, lit≤}
use Rattle.arith.specs.Within.{Within}
use Rattle.arith.specs.Laws.Within.{w_le}
use Rattle.rules.specs.Scaled.{unit, product}
use Rattle.fixed.specs.Worked.{S60, mul60}
use Rattle.fixed.specs.Nearness.{Fixed}
use Rattle.fixed.specs.Relations.{Mul60}
use Rattle.fixed.proofs.Laws.Words.{mul60_is, quot60_is}
use Rattle.fixed.proofs.Laws.Products.{mul_high, fix_mul, fix_sub, fix_add, near_le}
use Rattle.fixed.specs.Laws.Numbers.{numbers}
use Rattle.fixed_inverse.specs.Worked.{seed_from, seed_0, seed_1, seed_2, seed60, closer60, root60}
use Rattle.fixed_inverse.proofs.Laws.Bands.{every}
use Rattle.fixed_inverse.specs.Laws.Turns.{sine_low, sine_high, cosh_high}
use Rattle.fixed_inverse.specs.Laws.Heron.{Squares, heron_e, gap_h}
use Rattle.fixed_inverse.proofs.Laws.Heron.{heron, root_low, root_high}
use Rattle.fixed_inverse.proofs.Laws.Seed.{quadratic, slope, excess, excess_b, band_test, excess_all, seed_e, seed_law}
use Rattle.fixed_inverse.specs.Laws.Roots.{RootOf60, Seed, gap_0, gap_1, gap_2, half_band, root_least, root_most, seed_bound, seed_most, w_high, w_low}

seed_excess : (v : ℕ) → v ≤ 6225 * S60 / 10000 → Within (excess seed_0 seed_1 seed_2 seed_from v) seed_bound
unfolding every band_test excess_b excess quadratic slope
seed_excess v h = excess_all seed_0 seed_1 seed_2 seed_from half_band seed_bound 16 v (lit< tt) (omega arith) tt

seed_is : {w : ℕ} → w_low ≤ w → w ≤ w_high → Seed w
unfolding seed60 seed_e
seed_is {w} a b =
    let v = 4 * (w - seed_from) in
    let hv : v ≤ 6225 * S60 / 10000 = omega arith in
    let hs : v ≤ S60 = omega arith in
    let ma = mul60_is v seed_2 (omega arith) (lit≤ tt) in
    let ha : mul60 v seed_2 ≤ seed_1 = omega (arith, ma.right) in
    let mb = mul60_is v (seed_1 - mul60 v seed_2) (omega arith) (omega arith) in
    let hb : mul60 v (seed_1 - mul60 v seed_2) ≤ 6225 * S60 / 10000 * seed_1 / S60 = mul_high {ha = 6225 * S60 / 10000} {hb = seed_1} mb hv (omega arith) in
    let top : seed_0 + mul60 v (seed_1 - mul60 v seed_2) ≤ seed_most = omega arith in
    let sq = seed_law seed_0 seed_1 seed_2 seed_from ma ha mb hs {w = w} seed_most (omega arith) top (seed_excess v hv) in
    record { squares = record { gap = w_le gap_0 sq.gap tt }; low = omega arith; high = top }

-- ---- the steps. s is from lo to hi, and its square within d
step : {w s d : ℕ} (lo hi : ℕ) → Squares s w d → lo ≤ s → s ≤ hi → w ≤ w_high → T (leb S60 (2 * lo)) → T (leb hi S60) → Squares (closer60 w s) w (heron_e d lo hi)
unfolding closer60
step {w} {s} lo hi q a b h t u =
    let l : S60 ≤ 2 * lo = leb→le S60 (2 * lo) t in
    let k : hi ≤ S60 = leb→le hi S60 u in
    heron lo hi q (quot60_is w s (omega arith, omega arith, omega arith)) refl (omega arith) a b

up : {s w d : ℕ} (e : ℕ) → Squares s w d → T (leb d e) → Squares s w e
up e q t = record { gap = w_le e q.gap t }

pub root60_is : {w : ℕ} → w_low ≤ w → w ≤ w_high → RootOf60 w
unfolding root60 heron_e gap_h
root60_is {w} a b =
    let z = seed_is a b in
    let one = up gap_1 (step seed_0 seed_most z.squares z.low z.high b tt tt) tt in
    let one_low = root_low root_least w_low one a tt in
    let one_high = root_high root_most w_high one b tt in
    let two = up gap_2 (step root_least root_most one one_low one_high b tt tt) tt in
    record { squares = two; low = root_low root_least w_low two a tt; high = root_high root_most w_high two b tt; first_low = one_low; first_high = one_high; seed_low = z.low; seed_high = z.high }

-- ---- the number: (c - s)·(c + s), which rises with c and falls with s
square_sum : (c s : ℕ) → s ≤ c → (c - s) * (c + s) + s * s ≡ c * c
square_sum c s h = subst (λ x. (c - s) * (x + s) + s * s ≡ x * x) (sym e) (go (c - s))
  where
    e : c ≡ (c - s) + s
    e = omega arith

    go : (d : ℕ) → d * (d + s + s) + s * s ≡ (d + s) * (d + s)
    go d = omega arith

module _ {c s w : ℕ} (m : Mul60 (c - s) (c + s) w) (h : s ≤ c) where
  pub square_low : S60 ≤ c → s ≤ sine_high → w_low ≤ w
  square_low a b = go ((c - s) * (c + s)) (s * s) (c * c) (square_sum c s h) (mul-le-mul a a) (mul-le-mul b b) m.hi
    where
      go : (x y z : ℕ) → x + y ≡ z → S60 * S60 ≤ z → y ≤ sine_high * sine_high → x < (w + 2) * S60 → w_low ≤ w
      go x y z e p q r = omega arith

  pub square_high : c ≤ cosh_high → sine_low ≤ s → w ≤ w_high
  square_high a b = go ((c - s) * (c + s)) (s * s) (c * c) (square_sum c s h) (mul-le-mul a a) (mul-le-mul b b) m.lo
    where
      go : (x y z : ℕ) → x + y ≡ z → z ≤ cosh_high * cosh_high → sine_low * sine_low ≤ y → w * S60 ≤ x → w ≤ w_high
      go x y z e p q r = omega arith

-- of a sine s and a hyperbolic cosine c within their bounds
pub near_number : {s c : ℕ} {SP CH : ℤ} → Fixed s SP (33200 * unit) sine_low sine_high → Fixed c CH (1850 * unit) S60 cosh_high → Fixed (mul60 (c - s) (c + s)) (product (CH -ℤ SP) (CH +ℤ SP)) (73700 * unit) w_low w_high
unfolding numbers
near_number {s} {c} f g =
    let h : s ≤ c = le_trans f.high (le_trans (lit≤ tt) g.low) in
    let d = fix_sub g f h in
    let t = fix_add g f in
    let m = mul60_is (c - s) (c + s) (le_trans d.high (lit≤ tt)) (le_trans t.high (lit≤ tt)) in
    record { near = near_le (73700 * unit) (fix_mul d t tt tt).near tt; low = square_low m h g.low f.high; high = square_high m h g.high f.low }
