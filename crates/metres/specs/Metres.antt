-- From whole numbers to doubles: metres from whole multiples of 2 ^ -30 m, and z from metres. The worked values of the code. Definitions only.
use Rattle.std.specs.Prelude.{false, List, [], ◌∷◌, ℤ, pos, negsuc, Float}
use Rattle.std.specs.Float.{fin, binary64}
use Rattle.std.specs.Float.Ieee.{mul, of_int}
use Rattle.double.specs.declared.Pair.{Pair}
use Rattle.double.specs.Exact.{nearest_double}

-- 2 ^ -30
abbrev pub thirtieth : Float
thirtieth = fin false 1 (negsuc 29)

-- the double nearest to 0.000002
unfoldable pub two_millionths : Float
unfolding nearest_double
two_millionths = nearest_double 1000000 (pos 2)

abbrev pub metres_of : ℤ → Float
metres_of n = mul binary64 (of_int binary64 n) thirtieth

-- "((x - 5760000)·0.000002, y·0.000002)", n being one part in whole multiples of 2 ^ -30 m
abbrev pub argument_of : ℤ → Float
argument_of n = mul binary64 (metres_of n) two_millionths

-- every double on the way there, in the order of the code
abbrev pub argument_doubles : ℤ → List Float
argument_doubles n = of_int binary64 n ∷ metres_of n ∷ argument_of n ∷ []

abbrev pub arguments_of : ℤ → ℤ → Pair
arguments_of n m = record { re = argument_of n; im = argument_of m }
