-- The functions of the definition, worked by a table, on either side of 0: what each adds to the laws of a product and of a series. `cs` is the code's table,
-- which may be shorter than the definition's series. Assumes nothing.
use Rattle.std.specs.Prelude.{ℕ, ◌*◌, ◌-◌, ◌/◌, ◌^◌}
use Rattle.fixed.specs.Worked.{S60}
use Rattle.fixed.specs.Laws.Products.{mul_e}

-- the numbers of x², and of x times a number of error e, from lo to hi
abbrev pub sq_e : ℕ → ℕ → ℕ
sq_e hi e = mul_e hi e hi e

abbrev pub sq_l : ℕ → ℕ
sq_l lo = lo * lo / S60 - 1

abbrev pub sq_h : ℕ → ℕ
sq_h hi = hi * hi / S60
