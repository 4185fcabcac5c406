-- `double::series::inverse`: each literal is the double nearest to its coefficient of b0 .. b6, by computation. Assumes nothing.
use Rattle.std.proofs.Common.{◌≡◌, sym, subst}
use lib.Ieee.{neg, of_bits, round}
use Rattle.rules.specs.Scaled.{unit}
use Rattle.rules.specs.Systems.{constants, b_coefficients}
use Rattle.terms.specs.Papers.{ellipsoid_of}
use Rattle.double.specs.Complex.{horner}
use Rattle.double.specs.Exact.{doubles, nearest_double}
use Rattle.double.proofs.series.inverse.Goals as goal

pub returns-in-Grs80 : goal.returns-in-Grs80
unfolding of_bits neg doubles nearest_double round constants b_coefficients
returns-in-Grs80 c = subst (λ e. c.polynomial.result ≡ horner (doubles unit (b_coefficients (constants (ellipsoid_of e)))) c.args.z) (sym c.in-Grs80.is) c.polynomial.ensures

pub returns-in-Krasovsky : goal.returns-in-Krasovsky
unfolding of_bits neg doubles nearest_double round constants b_coefficients
returns-in-Krasovsky c = subst (λ e. c.polynomial-in-Krasovsky.result ≡ horner (doubles unit (b_coefficients (constants (ellipsoid_of e)))) c.args.z) (sym c.in-Krasovsky.is) c.polynomial-in-Krasovsky.ensures
