-- The code's tables at scale 2^60, each number to the nearest: 1/k! and 1/k. Assumes nothing.
use Rattle.std.specs.Prelude.{List, [], ◌∷◌, ℕ}

-- 1, 1/3!, 1/5!, .. 1/17! and 1, 1/2!, 1/4!, .. 1/16!, for an angle up to 1
abbrev pub sine_table : List ℕ
sine_table = 1152921504606846976 ∷ 192153584101141163 ∷ 9607679205057058 ∷ 228754266787073 ∷ 3177142594265 ∷ 28883114493 ∷ 185148170 ∷ 881658 ∷ 3241 ∷ []

abbrev pub cosine_table : List ℕ
cosine_table = 1152921504606846976 ∷ 576460752303423488 ∷ 48038396025285291 ∷ 1601279867509510 ∷ 28594283348384 ∷ 317714259426 ∷ 2406926208 ∷ 13224869 ∷ 55104 ∷ []

-- as far as 1/7! and 1/8!, for an angle up to 5°30'
abbrev pub small_sine_table : List ℕ
small_sine_table = 1152921504606846976 ∷ 192153584101141163 ∷ 9607679205057058 ∷ 228754266787073 ∷ []

abbrev pub small_cosine_table : List ℕ
small_cosine_table = 1152921504606846976 ∷ 576460752303423488 ∷ 48038396025285291 ∷ 1601279867509510 ∷ 28594283348384 ∷ []

-- 1, 1/3, .. 1/9, for an inverse hyperbolic tangent up to 0.075, and to 1/11 for an arc tangent up to 0.1
abbrev pub artanh_table : List ℕ
artanh_table = 1152921504606846976 ∷ 384307168202282325 ∷ 230584300921369395 ∷ 164703072086692425 ∷ 128102389400760775 ∷ []

abbrev pub arctan_table : List ℕ
arctan_table = 1152921504606846976 ∷ 384307168202282325 ∷ 230584300921369395 ∷ 164703072086692425 ∷ 128102389400760775 ∷ 104811045873349725 ∷ []
