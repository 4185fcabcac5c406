-- That the tangent of the difference from 52° is below 0.089: n2 and m2 are taken together here, and as intervals over all latitudes they would be too wide,
-- so the latitudes are split into four spans of 2°. Assumes nothing.
use Rattle.std.specs.Prelude.{ℕ, ◌+◌, ◌*◌, ◌-◌, ◌/◌, ◌^◌, ◌≤◌, T, leb, ℤ, pos, ◌-ℤ◌, ◌*ℤ◌}
use Rattle.arith.specs.Within.{Within}
use Rattle.rules.specs.Scaled.{unit, one, product}
use Rattle.fixed.specs.Worked.{S60, mul60, tilt60, tilt_south}
use Rattle.fixed.specs.Nearness.{Fixed, turned}
use Rattle.fixed.proofs.Laws.Products.{fix_const, fix_add, fix_minus, fix_mul, fix_le, product_rest}
use Rattle.fixed.proofs.Laws.Quotients.{fix_twice, fix_halved, fix_mul_double}
use Rattle.fixed.specs.Laws.Tangents.{slant}
use Rattle.fixed.proofs.Laws.Tangents.{fix_tilt}
use Rattle.fixed.specs.Laws.Numbers.{numbers}
use Rattle.fixed_bands.specs.Worked.{latitude_sine, latitude_cosine}
use Rattle.fixed_bands.specs.Bands.{Spans, Latitude}
use Rattle.fixed_bands.proofs.Laws.Bands.{by_spans}
use Rattle.fixed_forward.specs.Sphere.{lifted60, numerator60}
use Rattle.fixed_forward.specs.Tilt.{BandTest, Between, KL, NumTest, mid_h, mid_l, num_h, num_l}

between : {v e lo hi : ℕ} {w : ℤ} → Fixed v w e lo hi → Between v lo hi
between f = record { low = f.low; high = f.high }

-- the near fact of all latitudes with the bounds of a band
narrow : {v e lo hi lo' hi' : ℕ} {w : ℤ} → Fixed v w e lo hi → Between v lo' hi' → Fixed v w e lo' hi'
narrow f b = record { near = f.near; low = b.low; high = b.high }

num_band : {k t : ℕ} {K y : ℤ} {ek et lt ht sl sh : ℕ} → Fixed k K ek KL S60 → Fixed t y et lt ht → Between t sl sh → NumTest sl sh → Between (2 * numerator60 k t) (num_l sl) (num_h sh)
unfolding numerator60 lifted60
num_band fk ft b tests =
    let f = narrow ft b in
    between (fix_halved (fix_minus (fix_mul (fix_mul fk fk tt tt) (fix_add (fix_const S60 one) f) tt tests.1) (fix_minus (fix_const S60 one) f tests.0) tests.2))

mid_band : {k c cd : ℕ} {K y z : ℤ} {ek ec lc hc ed cl ch : ℕ}
    → Fixed k K ek KL S60
    → Fixed c y ec lc hc
    → Fixed cd z ed (99 * S60 / 100) S60
    → Between c cl ch
    → T (leb ch (2 ^ 61))
    → T (leb (2 * S60 * ch / S60) (2 ^ 62))
    → Between (2 * mul60 (mul60 k c) cd) (mid_l cl) (mid_h ch)
mid_band {k} {c} {K = K} {y = y} {z = z} fk fc fd b t u =
    let fm = fix_mul_double k (product (pos 2 *ℤ K) y) (product_rest (pos 2 *ℤ K) y) (fix_twice fk) (narrow fc b) tt t in
    between (fix_mul_double (mul60 k c) (product (product (pos 2 *ℤ K) y) z) (product_rest (product (pos 2 *ℤ K) y) z) fm fd u tt)

module _ {k cd : ℕ} {K z : ℤ} {ek ec es lt ut lc hc ed ln hn lm hm : ℕ} {y x : ℤ} (n : ℕ) (N M t : ℤ)
    (fk : Fixed k K ek KL S60)
    (ft : Fixed (latitude_sine n) y es lt ut)
    (fc : Fixed (latitude_cosine n) x ec lc hc)
    (fd : Fixed cd z ed (99 * S60 / 100) S60)
    (f_n : Fixed (2 * numerator60 k (latitude_sine n)) N (110 * unit) ln hn)
    (f_m : Fixed (2 * mul60 (mul60 k (latitude_cosine n)) cd) M (100 * unit) lm hm)
    (ht : Within (t *ℤ M -ℤ N *ℤ pos unit) (57 * unit))
    (wt : Within t (4 * unit)) where
  abbrev n2 : ℕ
  n2 = numerator60 k (latitude_sine n)

  abbrev m2 : ℕ
  m2 = mul60 (mul60 k (latitude_cosine n)) cd

  abbrev Tilted : Type 0
  Tilted = Fixed (tilt60 n2 m2) (turned (tilt_south n2 m2) (slant t)) (250 * unit) 0 (89 * S60 / 1000)

  band : (sl sh cl ch : ℕ)
      → Spans n sl sh cl ch
      → BandTest (sl * S60 / 10000) (sh * S60 / 10000) (cl * S60 / 10000) (ch * S60 / 10000)
      → Tilted
  band sl sh cl ch b tests =
      let bn = num_band fk ft (record { low = b.sine_low; high = b.sine_high }) tests.0 in
      let bm = mid_band fk fc fd (record { low = b.cosine_low; high = b.cosine_high }) tests.1 tests.2 in
      fix_le (250 * unit) 0 (89 * S60 / 1000) (fix_tilt 57 n2 m2 N M t (narrow f_n bn) (narrow f_m bm) ht wt tests.3) tests.4 tt tests.5

  pub tilt_near : Latitude n → Tilted
  unfolding numbers
  tilt_near h =
      by_spans n h
      (λ b. band 7431 7661 6427 6692 b ((tt, tt, tt), tt, tt, (tt, tt, tt, tt, (tt, tt, tt), tt), tt, tt))
      (λ b. band 7660 7881 6156 6428 b ((tt, tt, tt), tt, tt, (tt, tt, tt, tt, (tt, tt, tt), tt), tt, tt))
      (λ b. band 7880 8091 5877 6157 b ((tt, tt, tt), tt, tt, (tt, tt, tt, tt, (tt, tt, tt), tt), tt, tt))
      (λ b. band 8090 8291 5591 5878 b ((tt, tt, tt), tt, tt, (tt, tt, tt, tt, (tt, tt, tt), tt), tt, tt))
