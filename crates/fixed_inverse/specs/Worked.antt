-- The inverse from Mercator's x and y as it is worked, on natural numbers at scale 2^60: Mercator lengths are whole numbers of 2^-30 m, answers whole ticks.
-- y is a size; the sign is put on last. Each definition is what the function of src/ of the same name answers. Assumes nothing: outside the box of Laws these
-- are numbers without a meaning.
use Rattle.std.specs.Prelude.{Bool, true, false, List, [], ◌∷◌, ℕ, ◌+◌, ◌*◌, ◌-◌, ◌/◌, ◌%◌, ◌^◌, ltb}
use Rattle.rules.specs.Systems.{Ellipsoid, GRS_80, Krasovsky}
use Rattle.fixed.specs.Worked.{mul60, quot60, odd_alt60, odd_ser60, even_alt60, even_ser60, tilt60, tilt_south}
use Rattle.fixed.specs.Tables.{sine_table, cosine_table, small_sine_table, small_cosine_table, arctan_table}

-- ---- a length over R0: 2^82 / R0, to the nearest unit, times the length and 2^8
unfoldable pub over_radius : Ellipsoid → ℕ
over_radius GRS_80 = 759441209148909116
over_radius Krasovsky = 759428167143141240

unfoldable pub angle60 : Ellipsoid → ℕ → ℕ
angle60 E x = mul60 (over_radius E) (x * 2 ^ 8)

-- ---- the longitude difference: tan d = sinh q / cos p. 1, 1/3, .. 1/15, to the nearest unit, for an arc tangent up to 0.122
abbrev pub wide_arctan_table : List ℕ
wide_arctan_table =
    1152921504606846976
    ∷ 384307168202282325
    ∷ 230584300921369395
    ∷ 164703072086692425
    ∷ 128102389400760775
    ∷ 104811045873349725
    ∷ 88686269585142075
    ∷ 76861433640456465
    ∷ []

unfoldable pub difference60 : ℕ → ℕ → ℕ
difference60 p q = odd_alt60 (quot60 (odd_ser60 q small_sine_table) (even_alt60 p cosine_table)) wide_arctan_table

-- ---- a root: a quadratic in 4·(w - 0.305), and two steps of Heron
abbrev pub seed_from : ℕ
seed_from = 351641058905088327

abbrev pub seed_0 : ℕ
seed_0 = 636829586550925950

abbrev pub seed_1 : ℕ
seed_1 = 257767101720653886

abbrev pub seed_2 : ℕ
seed_2 = 38447625945040674

unfoldable pub seed60 : ℕ → ℕ
seed60 w = seed_0 + mul60 (4 * (w - seed_from)) (seed_1 - mul60 (4 * (w - seed_from)) seed_2)

unfoldable pub closer60 : ℕ → ℕ → ℕ
closer60 w s = (s + quot60 w s) / 2

unfoldable pub root60 : ℕ → ℕ
root60 w = closer60 w (closer60 w (seed60 w))

-- ---- the sphere's latitude f: its tangent is sin p over the root of cosh² q - sin² p, which is worked as a product; about 52°
abbrev pub At52 : ℕ
At52 = 1046358366166695522

unfoldable pub beside_52 : Bool → ℕ → ℕ
beside_52 true a = At52 - a
beside_52 false a = At52 + a

unfoldable pub about_52 : ℕ → ℕ → ℕ
about_52 n m = beside_52 (tilt_south n m) (odd_alt60 (tilt60 n m) arctan_table)

unfoldable pub sphere60 : ℕ → ℕ → ℕ
sphere60 s c = about_52 s (root60 (mul60 (c - s) (c + s)))

-- ---- B = f + f·(g₀ - f²·(g₁ - ..)), g k = (2·c2·4^k + 4·c4·16^k + 6·c6·36^k) / (2k+1)!, to the nearest unit
unfoldable pub latitude_table : Ellipsoid → List ℕ
latitude_table GRS_80 =
    7770110264294487
    ∷ 5241339384737898
    ∷ 1097931621742114
    ∷ 124042476435403
    ∷ 11498614501341
    ∷ 1179609086532
    ∷ 129419431813
    ∷ 13633648958
    ∷ 1335588166
    ∷ 119053300
    ∷ 9388003
    ∷ 642131
    ∷ 37840
    ∷ []
latitude_table Krasovsky =
    7768990362000604
    ∷ 5240575100159774
    ∷ 1097764337996884
    ∷ 124020808380333
    ∷ 11496015826518
    ∷ 1179272368095
    ∷ 129376879233
    ∷ 13628698332
    ∷ 1335065910
    ∷ 119004490
    ∷ 9384053
    ∷ 641857
    ∷ 37824
    ∷ []

unfoldable pub latitude60 : Ellipsoid → ℕ → ℕ
latitude60 E f = f + odd_alt60 f (latitude_table E)

-- ---- ticks: 648,000,000,000 / π · 2^22, to the nearest unit; and n / d to the nearest whole number, ties to even
abbrev pub TickC : ℕ
TickC = 865137301901421231

unfoldable pub nearest_even : ℕ → ℕ → ℕ
nearest_even n d =
    elim (ltb (2 * (n % d)) d) [
      | true ↦ n / d
      | false ↦ elim (ltb d (2 * (n % d))) [ true ↦ n / d + 1 | false ↦ n / d + n / d % 2 ]
    ]

unfoldable pub ticks60 : ℕ → ℕ
ticks60 b = nearest_even (mul60 b TickC) (2 ^ 22)

-- ---- the whole: B and the size of d in ticks, of Mercator's x and the size of y
unfoldable pub latitude_ticks : Ellipsoid → ℕ → ℕ → ℕ
latitude_ticks E x y =
    ticks60 (latitude60 E (sphere60 (odd_alt60 (angle60 E x) sine_table) (even_ser60 (angle60 E y) small_cosine_table)))

unfoldable pub difference_ticks : Ellipsoid → ℕ → ℕ → ℕ
difference_ticks E x y = ticks60 (difference60 (angle60 E x) (angle60 E y))
