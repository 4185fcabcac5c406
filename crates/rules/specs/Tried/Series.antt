-- 01, "Power series are cut": each series at 3, where its last term shows, with all digits. Made by reference/tried.py. Assumes nothing.
use Rattle.std.specs.Prelude.{◌≡◌, ◌*◌, ℤ, pos, neg_ℤ}
use Rattle.rules.specs.Scaled.{unit, sine, cosine, exponential, hyperbolic_sine, hyperbolic_cosine, arctan, artanh}

pub record Series : Type 0 where
  pub sine_3 : sine (pos (3 * unit)) ≡ pos 0_141120008059867914724380
  pub cosine_3 : cosine (pos (3 * unit)) ≡ neg_ℤ (pos 0_989992496600439228734687)
  pub exponential_3 : exponential (pos (3 * unit)) ≡ pos 20_079665178571428571388821
  pub hyperbolic_sine_3 : hyperbolic_sine (pos (3 * unit)) ≡ pos 10_017874554574889381856303
  pub hyperbolic_cosine_3 : hyperbolic_cosine (pos (3 * unit)) ≡ pos 10_067659876395925499091169
  pub arctan_3 : arctan (pos (3 * unit)) ≡ pos 30242051430_223325883969341195273955
  pub artanh_3 : artanh (pos (3 * unit)) ≡ pos 38552704157_802582325468278767491995
