-- How near the worked sine, cosine and K are to the definition's, over all the bands of their tables. Assumes nothing.
use Rattle.std.specs.Prelude.{◌≡◌, refl, Bool, true, false, [], ◌∷◌, ℕ, ◌+◌, ◌*◌, ◌-◌, ◌/◌, ◌<◌, ◌≤◌, ltb, ℤ, pos, ◌-ℤ◌}
use Rattle.std.proofs.Math.Path.{subst}
use Rattle.std.proofs.Common.{le_trans, arith, lit≤}
use Rattle.arith.specs.Laws.Ring.{ring, Z·ring, by_ring}
use Rattle.rules.specs.Units.{◌°◌'◌''}
use Rattle.rules.specs.Scaled.{unit, one, radians, sine, cosine}
use Rattle.rules.specs.Systems.{Ellipsoid, constants}
use Rattle.rules.specs.Projection.{K_of}
use Rattle.fixed.specs.Worked.{S60}
use Rattle.fixed.specs.Nearness.{Fixed, turned}
use Rattle.fixed.specs.Laws.Products.{off_at}
use Rattle.fixed.proofs.Laws.Products.{fix_const, fix_minus, fix_le}
use Rattle.fixed_bands.specs.declared.Row.{Row}
use Rattle.fixed_bands.specs.Rows.{RowAt, Rises, Sinks}
use Rattle.fixed_bands.specs.Worked.{width, rising, latitude_sine, latitude_cosine, longitude_sine, longitude_cosine, shortfall_table, K60}
use Rattle.fixed_bands.specs.Tables.{latitude_sine_table, latitude_cosine_table, longitude_sine_table, longitude_cosine_table}
use Rattle.fixed_bands.specs.Tests.{rise_row, sink_row}
use Rattle.fixed_bands.proofs.Laws.Tests.{every_at, rising_near, sinking_near, row_rises, row_sinks}
use Rattle.fixed_bands.specs.Along.{north, latitude_sine_model, latitude_cosine_model, longitude_sine_model, longitude_cosine_model, shortfall_model}
use Rattle.fixed_bands.proofs.Laws.Along.{latitude_sine_follows, latitude_cosine_follows, longitude_sine_follows, longitude_cosine_follows, shortfall_follows}
use Rattle.fixed_bands.specs.Checks.{one_of, sine_low, sine_high, cosine_low, cosine_high}
use Rattle.fixed_bands.proofs.Laws.Checks.{latitude_sine_check, latitude_cosine_check, longitude_sine_check, longitude_cosine_check, shortfall_check}
use Rattle.fixed_bands.specs.Bands.{Latitude, LatitudeSizes, LongitudeSizes, Spans}

module _ (n : ℕ) (at : Latitude n) where
  abbrev band : ℕ
  band = (n - north) / width

  again : north + (n - north) ≡ n
  again = omega (arith, at.low)

  inside : band < 32
  inside = omega (arith, at.low, at.high)

  sine_fixed : Fixed (latitude_sine n) (sine (radians (pos n))) (16 * unit) (sine_low band) (sine_high band)
  unfolding latitude_sine
  sine_fixed =
      subst (λ m. Fixed (latitude_sine n) (sine (radians (pos m))) (16 * unit) (sine_low band) (sine_high band)) again
      (rising_near (λ m. sine (radians (pos (north + m)))) latitude_sine_model latitude_sine_follows latitude_sine_table 32 (16 * unit) sine_low sine_high (n - north) inside latitude_sine_check)

  cosine_fixed : Fixed (latitude_cosine n) (cosine (radians (pos n))) (14 * unit) (cosine_low band) (cosine_high band)
  unfolding latitude_cosine
  cosine_fixed =
      subst (λ m. Fixed (latitude_cosine n) (cosine (radians (pos m))) (14 * unit) (cosine_low band) (cosine_high band)) again
      (sinking_near (λ m. cosine (radians (pos (north + m)))) latitude_cosine_model latitude_cosine_follows latitude_cosine_table 32 (14 * unit) cosine_low cosine_high (n - north) inside latitude_cosine_check)

  -- what holds in each two degrees, with their bounds, holds
  pub by_spans : {P : Type 0} → (Spans n 7431 7661 6427 6692 → P) → (Spans n 7660 7881 6156 6428 → P) → (Spans n 7880 8091 5877 6157 → P) → (Spans n 8090 8291 5591 5878 → P) → P
  by_spans {P} f0 f1 f2 f3 = go (ltb band 8) (ltb band 16) (ltb band 24) sine_fixed.low sine_fixed.high cosine_fixed.low cosine_fixed.high
    where
      go : (x y z : Bool)
          → one_of x y z 7431 7660 7880 8090 ≤ latitude_sine n
          → latitude_sine n ≤ one_of x y z 7661 7881 8091 8291
          → one_of x y z 6427 6156 5877 5591 ≤ latitude_cosine n
          → latitude_cosine n ≤ one_of x y z 6692 6428 6157 5878
          → P
      go true y z a b c d = f0 (record { sine_low = a; sine_high = b; cosine_low = c; cosine_high = d })
      go false true z a b c d = f1 (record { sine_low = a; sine_high = b; cosine_low = c; cosine_high = d })
      go false false true a b c d = f2 (record { sine_low = a; sine_high = b; cosine_low = c; cosine_high = d })
      go false false false a b c d = f3 (record { sine_low = a; sine_high = b; cosine_low = c; cosine_high = d })

  whole : Spans n 7431 8291 5591 6692
  whole =
      by_spans
      (λ s. record { sine_low = s.sine_low; sine_high = le_trans s.sine_high (lit≤ tt); cosine_low = le_trans (lit≤ tt) s.cosine_low; cosine_high = s.cosine_high })
      (λ s. record { sine_low = le_trans (lit≤ tt) s.sine_low; sine_high = le_trans s.sine_high (lit≤ tt); cosine_low = le_trans (lit≤ tt) s.cosine_low; cosine_high = le_trans s.cosine_high (lit≤ tt) })
      (λ s. record { sine_low = le_trans (lit≤ tt) s.sine_low; sine_high = le_trans s.sine_high (lit≤ tt); cosine_low = le_trans (lit≤ tt) s.cosine_low; cosine_high = le_trans s.cosine_high (lit≤ tt) })
      (λ s. record { sine_low = le_trans (lit≤ tt) s.sine_low; sine_high = s.sine_high; cosine_low = s.cosine_low; cosine_high = le_trans s.cosine_high (lit≤ tt) })

  pub latitude_sine_near : Fixed (latitude_sine n) (sine (radians (pos n))) (16 * unit) (70 * S60 / 100) (87 * S60 / 100)
  latitude_sine_near = record { near = sine_fixed.near; low = le_trans (lit≤ tt) whole.sine_low; high = le_trans whole.sine_high (lit≤ tt) }

  pub latitude_cosine_near : Fixed (latitude_cosine n) (cosine (radians (pos n))) (14 * unit) (54 * S60 / 100) (68 * S60 / 100)
  latitude_cosine_near = record { near = cosine_fixed.near; low = le_trans (lit≤ tt) whole.cosine_low; high = le_trans whole.cosine_high (lit≤ tt) }

  -- what K is short of 1
  shortfall_near : (E : Ellipsoid) → Fixed (rising (shortfall_table E) (n - north)) (one -ℤ K_of (constants E) (sine (radians (pos n)))) (8 * unit) 0 (6 * S60 / 1000)
  shortfall_near E =
      subst (λ m. Fixed (rising (shortfall_table E) (n - north)) (one -ℤ K_of (constants E) (sine (radians (pos m)))) (8 * unit) 0 (6 * S60 / 1000)) again
      (rising_near (λ m. one -ℤ K_of (constants E) (sine (radians (pos (north + m))))) (shortfall_model E) (shortfall_follows E)
      (shortfall_table E) 32 (8 * unit) (λ i. 0) (λ i. 6 * S60 / 1000) (n - north) inside (shortfall_check E))

  pub K_near : (E : Ellipsoid) → Fixed (K60 E n) (K_of (constants E) (sine (radians (pos n)))) (9 * unit) (994 * S60 / 1000) S60
  unfolding K60 off_at
  K_near E =
      subst (λ k. Fixed (K60 E n) k (9 * unit) (994 * S60 / 1000) S60) (law one (K_of (constants E) (sine (radians (pos n)))))
      (fix_le (9 * unit) (994 * S60 / 1000) S60 (fix_minus (fix_const S60 one) (shortfall_near E) tt) tt tt tt)
    where
      law : (a k : ℤ) → a -ℤ (a -ℤ k) ≡ k
      law a k = ring (a ∷ k ∷ []) λ ρ e1 e2. simp (Z·ring, e1, e2) (by_ring _ _ _ refl)

-- a difference of longitude, east (false) or west (true)
longitude_band : (n : ℕ) → n ≤ 5 ° 30 ' 0 '' → n / width < 22
longitude_band n h = omega arith

pub longitude_sine_near : (s : Bool) (n : ℕ) → n ≤ 5 ° 30 ' 0 '' → Fixed (longitude_sine n) (turned s (sine (radians (turned s (pos n))))) (8 * unit) 0 (961 * S60 / 10000)
unfolding longitude_sine
longitude_sine_near s n h =
    rising_near (λ m. turned s (sine (radians (turned s (pos m))))) (longitude_sine_model s) (longitude_sine_follows s)
    longitude_sine_table 22 (8 * unit) (λ i. 0) (λ i. 961 * S60 / 10000) n (longitude_band n h) (longitude_sine_check s)

pub longitude_cosine_near : (s : Bool) (n : ℕ) → n ≤ 5 ° 30 ' 0 '' → Fixed (longitude_cosine n) (cosine (radians (turned s (pos n)))) (18 * unit) (99 * S60 / 100) S60
unfolding longitude_cosine
longitude_cosine_near s n h =
    sinking_near (λ m. cosine (radians (turned s (pos m)))) (longitude_cosine_model s) (longitude_cosine_follows s)
    longitude_cosine_table 22 (18 * unit) (λ i. 99 * S60 / 100) (λ i. S60) n (longitude_band n h) (longitude_cosine_check s)

pub latitude_sizes : (n : ℕ) → Latitude n → LatitudeSizes (latitude_sine n) (latitude_cosine n)
latitude_sizes n h = record {
  sine_low = (latitude_sine_near n h).low;
  sine_high = (latitude_sine_near n h).high;
  cosine_low = (latitude_cosine_near n h).low;
  cosine_high = (latitude_cosine_near n h).high;
}

pub longitude_sizes : (d : ℕ) → d ≤ 5 ° 30 ' 0 '' → LongitudeSizes (longitude_sine d) (longitude_cosine d)
longitude_sizes d h = record {
  sine_high = (longitude_sine_near false d h).high;
  cosine_low = (longitude_cosine_near false d h).low;
  cosine_high = (longitude_cosine_near false d h).high;
}

-- ---- what the code's steps ask of the rows
pub latitude_sine_asks : (i : ℕ) → i < 32 → (r : Row) → RowAt latitude_sine_table i r → Rises r.c0 r.c1 r.c2 r.c3 r.c4 r.c5
latitude_sine_asks i l r a = row_rises latitude_sine_table i (latitude_sine_model i) (16 * unit) (sine_low i) (sine_high i) r (every_at 32 (λ i. rise_row latitude_sine_table i (latitude_sine_model i) (16 * unit) (sine_low i) (sine_high i)) latitude_sine_check i l) a

pub latitude_cosine_asks : (i : ℕ) → i < 32 → (r : Row) → RowAt latitude_cosine_table i r → Sinks r.c0 r.c1 r.c2 r.c3 r.c4 r.c5
latitude_cosine_asks i l r a = row_sinks latitude_cosine_table i (latitude_cosine_model i) (14 * unit) (cosine_low i) (cosine_high i) r (every_at 32 (λ i. sink_row latitude_cosine_table i (latitude_cosine_model i) (14 * unit) (cosine_low i) (cosine_high i)) latitude_cosine_check i l) a

pub longitude_sine_asks : (i : ℕ) → i < 22 → (r : Row) → RowAt longitude_sine_table i r → Rises r.c0 r.c1 r.c2 r.c3 r.c4 r.c5
longitude_sine_asks i l r a = row_rises longitude_sine_table i (longitude_sine_model false i) (8 * unit) 0 (961 * S60 / 10000) r (every_at 22 (λ i. rise_row longitude_sine_table i (longitude_sine_model false i) (8 * unit) 0 (961 * S60 / 10000)) (longitude_sine_check false) i l) a

pub longitude_cosine_asks : (i : ℕ) → i < 22 → (r : Row) → RowAt longitude_cosine_table i r → Sinks r.c0 r.c1 r.c2 r.c3 r.c4 r.c5
longitude_cosine_asks i l r a = row_sinks longitude_cosine_table i (longitude_cosine_model false i) (18 * unit) (99 * S60 / 100) S60 r (every_at 22 (λ i. sink_row longitude_cosine_table i (longitude_cosine_model false i) (18 * unit) (99 * S60 / 100) S60) (longitude_cosine_check false) i l) a

pub shortfall_asks : (E : Ellipsoid) (i : ℕ) → i < 32 → (r : Row) → RowAt (shortfall_table E) i r → Rises r.c0 r.c1 r.c2 r.c3 r.c4 r.c5
shortfall_asks E i l r a = row_rises (shortfall_table E) i (shortfall_model E i) (8 * unit) 0 (6 * S60 / 1000) r (every_at 32 (λ i. rise_row (shortfall_table E) i (shortfall_model E i) (8 * unit) 0 (6 * S60 / 1000)) (shortfall_check E) i l) a

pub shortfall_below : (E : Ellipsoid) (n : ℕ) → Latitude n → rising (shortfall_table E) (n - north) ≤ S60
shortfall_below E n h = le_trans (shortfall_near n h E).high (lit≤ tt)
